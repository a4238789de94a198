use Rattle.std.proofs.Common.{◌≡◌, ℕ, Option, Some, List, subst, ap, ◌∙◌}
use Rattle.std.specs.Prelude.{MatchOption}
use Rattle.grib2_products.specs.Spelled.{coordinate_list}
use Rattle.grib2_message.specs.Fields.{part_octets}
use Rattle.grib_demote.proofs.demoting.coordinates_of.Goals as goal

-- what is said of an option that is there
told_some : {X : Type 0} (none : Type 0) (P : X → Type 0) (o : Option X) (x : X) → o ≡ Some x → MatchOption o none P → P x
told_some none P o x is told = subst (λ v. MatchOption v none P) is told

pub returns : goal.returns
returns c =
    (told_some _ _ _ _ c.in-Some.is c.in_ok-product.ensures.numbers).coordinates
    ∙ ap (λ (m : List ℕ). coordinate_list (part_octets m c.args.field 4)) c.message.ensures
