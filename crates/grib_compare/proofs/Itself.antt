-- A field beside itself.
use Rattle.std.proofs.Common.{◌≡◌, ℕ, zero, suc, ◌+◌, Bool, true, false, cond, Some, None, List, [], ◌∷◌, length, refl, ap, ◌∙◌}
use Rattle.std.proofs.lemmas.Bool.{eq-eqb}
use Rattle.grib_base.specs.Rules.{choose}
use Rattle.grib_dyadic.specs.Meaning.{Meant, valued, missing, missing2, SamePoint, SameMeaning}
use Rattle.grib_file.specs.Filed.{FieldOf}
use Rattle.grib_same.specs.Sameness.{first_difference}
use Rattle.grib_same.proofs.Differences.{means_none}
use Rattle.grib_compare.specs.declared.comparison.Comparison.{Comparison}
use Rattle.grib_compare.specs.declared.comparison.Comparison.TheVariants.{Same, Shape}
use Rattle.grib_compare.specs.Fields.{meanings, section_of, octet_from, on_octet, by_sections_from, by_sections, on_point, by_points, compared}

point_itself : (p : Meant) → SamePoint p p
point_itself (valued v) = refl
point_itself missing = tt
point_itself missing2 = tt

meaning_itself : (points : List Meant) → SameMeaning points points
meaning_itself [] = tt
meaning_itself (p ∷ points) = (point_itself p, meaning_itself points)

points_itself : (points : List Meant) (next : Comparison) → by_points points points next ≡ next
points_itself points next =
    ap (λ b. choose b (λ _. on_point (first_difference points points) next) (λ _. Shape (length points) (length points))) (eq-eqb (length points) (length points) refl)
    ∙ ap (λ point. on_point point next) (means_none 1 points points (meaning_itself points))

octets_itself : (n : ℕ) (octets : List ℕ) → octet_from n octets octets ≡ None
octets_itself n [] = refl
octets_itself n (octet ∷ octets) = ap (λ b. cond b (octet_from (n + 1) octets octets) (Some n)) (eq-eqb octet octet refl) ∙ octets_itself (n + 1) octets

sections_itself : (k n : ℕ) (field : FieldOf) → by_sections_from k n field field ≡ Same
sections_itself zero n field = refl
sections_itself (suc k) n field =
    ap (λ octet. on_octet n octet (by_sections_from k (n + 1) field field)) (octets_itself 1 (section_of n field)) ∙ sections_itself k (n + 1) field

unless_asked : (sections : Bool) (field : FieldOf) → cond sections (by_sections field field) Same ≡ Same
unless_asked true field = sections_itself 4 1 field
unless_asked false field = refl

pub compared_itself : (sections : Bool) (field : FieldOf) → compared sections field field ≡ Same
compared_itself sections field = points_itself (meanings field) (cond sections (by_sections field field) Same) ∙ unless_asked sections field
