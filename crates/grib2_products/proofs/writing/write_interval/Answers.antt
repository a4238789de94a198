-- The octets of the numbers, one after another.
use Rattle.std.proofs.Common.{◌≡◌, ◌+◌, List, ◌++◌, ◌∙◌, length, refl, sym, ap, subst}
use Rattle.grib_bits.specs.Encoding.{AddsOctets}
use Rattle.grib2_products.specs.Spelled.{specs_at}
use Rattle.grib2_products.specs.Written.{header, instant_octets, ensemble_octets, end_octets, specs_octets}
use Rattle.grib2_products.specs.declared.templates.Spec.{Spec}
use Rattle.grib_bits.proofs.Encoding.{AddsOctets-append}
use Rattle.grib2_products.proofs.writing.write_interval.Goals as goal

pub returns-clause-octets : goal.returns-clause-octets
returns-clause-octets c =
    let v = c.args.value.now in
    let Adds : List Spec → Type 0 = λ specs. AddsOctets c.args.out.now c.write_specs.new.out (end_octets v ++ specs_octets specs) in
    subst Adds c.as_slice.ensures (search (AddsOctets-append, c) depth 12)

pub returns-clause-at_35 : goal.returns-clause-at_35
returns-clause-at_35 c = λ l count template v rest.
    let i = c.args.value.now in
    let front = header l count template ++ instant_octets v ++ end_octets i in
    let Again : List Spec → Type 0 = λ specs. specs ≡ specs_at (front ++ (specs_octets specs ++ rest)) (35 + 12) (length specs) in
    let again = subst Again c.as_slice.ensures (c.write_specs.ensures.again front rest (35 + 12) refl) in
    record {
      end = search (c, sym);
      specs = again ∙ ap (specs_at (front ++ (specs_octets i.specs ++ rest)) (35 + 12)) c.requires.counted;
    }

pub returns-clause-at_38 : goal.returns-clause-at_38
returns-clause-at_38 c = λ l count template v e rest.
    let i = c.args.value.now in
    let front = header l count template ++ instant_octets v ++ ensemble_octets e ++ end_octets i in
    let Again : List Spec → Type 0 = λ specs. specs ≡ specs_at (front ++ (specs_octets specs ++ rest)) (38 + 12) (length specs) in
    let again = subst Again c.as_slice.ensures (c.write_specs.ensures.again front rest (38 + 12) refl) in
    record {
      end = search (c, sym);
      specs = again ∙ ap (specs_at (front ++ (specs_octets i.specs ++ rest)) (38 + 12)) c.requires.counted;
    }
