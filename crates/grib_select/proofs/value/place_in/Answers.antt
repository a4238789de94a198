use Rattle.std.proofs.Common.{◌≡◌, ℕ, Option, Some, None, List, length, refl, sym, ap, ◌∙◌}
use Rattle.std.specs.Prelude.{IfSome}
use Rattle.grib_keys.specs.declared.key.Key.{Key}
use Rattle.grib_keys.specs.declared.table.Octets.{Octets}
use Rattle.grib_keys.specs.declared.table.Place.{Place}
use Rattle.grib_keys.specs.Keys.{row_of, key_place, octets_by}
use Rattle.grib_select.specs.Values.{layout_of, octet_count, HasKeys, IsWithin}
use Rattle.grib_select.specs.Changed.{key_octets}
use Rattle.grib_select.proofs.Places.{shape_tells}
use Rattle.grib_select.proofs.value.place_in.Goals as goal

within : (key : Key) (s : List ℕ) (o : Option Octets) → HasKeys (row_of key).section s → o ≡ key_place key (layout_of (row_of key).section s)
    → IfSome o (λ place. IsWithin (length s) place)
within key s None h is = tt
within key s (Some p) h is =
    let shape = shape_tells key (layout_of (row_of key).section s) p (sym is) in
    record { low = shape.low; high = h.keys key p refl (sym is); some = shape.some; few = shape.few }

sized : (key : Key) (s : List ℕ) (o : Option Octets) → o ≡ key_place key (layout_of (row_of key).section s) → IfSome o (λ place. octet_count place ≡ key_octets key)
sized key s None is = tt
sized key s (Some p) is = (shape_tells key (layout_of (row_of key).section s) p (sym is)).count

pub returns-clause-place : goal.returns-clause-place
returns-clause-place c =
    c.octets.ensures ∙ ap (λ (place : Place). octets_by place c.layout_of.result) c.row-row.ensures.place
    ∙ ap (key_place c.args.key) (c.layout_of.ensures ∙ ap (λ (n : ℕ). layout_of n c.args.section.now) c.row-row.ensures.section)

pub returns-clause-within : goal.returns-clause-within
returns-clause-within c = within c.args.key c.args.section.now c.octets.result c.requires (returns-clause-place c)

pub returns-clause-size : goal.returns-clause-size
returns-clause-size c = sized c.args.key c.args.section.now c.octets.result (returns-clause-place c)
