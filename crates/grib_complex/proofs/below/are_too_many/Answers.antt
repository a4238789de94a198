use Rattle.std.proofs.Common.{ℕ, ◌+◌, ◌*◌, ◌≤◌, List, length, Option, IsSomeAnd, sym, subst}
use Rattle.grib_packing.specs.Groupings.{IsGrouping}
use Rattle.grib_packing.specs.Packed.{group_parts}
use Rattle.grib_codes.specs.FieldCodes.{codes_in}
use Rattle.grib_codes.specs.declared.field_codes.FieldCodes.{FieldCodes}
use Rattle.grib_complex.proofs.below.are_too_many.Goals as goal

pub returns-in-Each : goal.returns-in-Each
returns-in-Each c enough =
    let beside = c.args.beside in
    let k = c.args.management in
    subst (λ (b : Option ℕ). IsSomeAnd b (λ most. (lengths : List ℕ) → IsGrouping (length (codes_in c.args.codes.now)) lengths
    → 8 * most ≤ 8 * beside + length (group_parts k (codes_in c.args.codes.now) lengths))) (sym c.in-Some.is)
    (subst (λ (fc : FieldCodes). (lengths : List ℕ) → IsGrouping (length (codes_in fc)) lengths → 8 * c.in-Some.most ≤ 8 * beside + length (group_parts k (codes_in fc) lengths))
    (sym c.in-Each.is) (c.are_too_many_of.ensures enough))
