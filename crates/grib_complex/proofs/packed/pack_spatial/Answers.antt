use Rattle.std.proofs.Common.{◌≡◌, ℕ, ◌+◌, ◌*◌, ◌≤◌, ◌⊎◌, List, length, Option, Some, None, IsSomeAnd, ap, ap₂, ◌∙◌, arith, subst}
use Rattle.grib_base.specs.declared.code.Code.{Code}
use Rattle.grib_packing.specs.declared.column.Point.{Point}
use Rattle.grib_packing.specs.Differences.{Descriptors}
use Rattle.grib_packing.specs.Groupings.{IsGrouping}
use Rattle.grib_packing.specs.Misfits.{ToSpatial, first_misfit}
use Rattle.grib_packing.specs.Packed.{descriptor_size, group_parts}
use Rattle.grib_spatial.specs.Undoing.{read_with}
use Rattle.grib_complex.specs.Constant.{DifferencesOf}
use Rattle.grib_packing.specs.declared.column.Column.{Column}
use Rattle.grib_packing.specs.Below.{IsNoFewer}
use Rattle.grib_codes.specs.FieldCodes.{codes_in}
use Rattle.grib_complex.proofs.AtLeast.{spatial_at_least}
use Rattle.grib_complex.proofs.DifferencesTold.{codes_as_long, codes_told}
use Rattle.grib_complex.proofs.packed.pack_spatial.Goals as goal

-- what is told of the points of the column
told_of : (order k : ℕ) (others points : List Point) (d : Descriptors) (codes : List Code) → others ≡ points → DifferencesOf order others d codes k → DifferencesOf order points d codes k
told_of order k others points d codes same told = subst (λ (ps : List Point). DifferencesOf order ps d codes k) same told

pub are_too_many-requires-clause-some : goal.are_too_many-requires-clause-some
are_too_many-requires-clause-some c = omega (arith, codes_as_long _ _ _ _ _ (told_of _ _ _ _ _ _ c.as_slice.ensures c.in_ok-told.ensures.1), c.requires.column.some)

pub are_too_many-requires-clause-few : goal.are_too_many-requires-clause-few
are_too_many-requires-clause-few c = omega (arith, codes_as_long _ _ _ _ _ (told_of _ _ _ _ _ _ c.as_slice.ensures c.in_ok-told.ensures.1), c.requires.column.few)

pub are_too_many-requires-clause-codes : goal.are_too_many-requires-clause-codes
are_too_many-requires-clause-codes c = codes_told _ _ _ _ _ (told_of _ _ _ _ _ _ c.as_slice.ensures c.in_ok-told.ensures.1)

-- no packing has fewer octets than the bound
no_fewer : (order : ℕ) (column : Column) (kind k beside : ℕ) (codes : List Code) (d : Descriptors) (below : Option ℕ) → (order ≡ 1) ⊎ (order ≡ 2) → DifferencesOf order column.points d codes k
    → beside ≡ 60 + (order + 1) * descriptor_size d
    → IsSomeAnd below (λ most. (lengths : List ℕ) → IsGrouping (length codes) lengths → 8 * most ≤ 8 * beside + length (group_parts k codes lengths))
    → IsNoFewer (ToSpatial order) column kind below
no_fewer order column kind k beside codes d None either told is above = above
no_fewer order column kind k beside codes d (Some most) either told is above = λ s5 s6 s7 packed.
    let many = spatial_at_least order column kind k codes d s5 s6 s7 either told.codes_are told.management told.told packed in
    omega (arith, above many.lengths many.grouping, many.at_least, is)

pub returns-then-are_too_many : goal.returns-then-are_too_many
returns-then-are_too_many c =
    let order = c.args.order in
    let column = c.args.column.now in
    let told = c.in_ok-told.told in
    let d = read_with order told.differences in
    let product : (c.from.result + 1) * c.from-2.result ≡ (order + 1) * descriptor_size d =
    ap₂ (λ (m n : ℕ). (m + 1) * n) c.from.ensures (c.from-2.ensures ∙ c.descriptor_octets-size.ensures.is order) in
    let none : first_misfit (ToSpatial order) column.points ≡ None = subst (λ (ps : List Point). first_misfit (ToSpatial order) ps ≡ None) c.as_slice.ensures c.in_ok-told.ensures.0 in (
      none,
      no_fewer order column c.args.kind told.management (60 + (c.from.result + 1) * c.from-2.result) (codes_in told.codes) d c.args.below c.requires.order
          (told_of _ _ _ _ _ _ c.as_slice.ensures c.in_ok-told.ensures.1) (ap (λ (n : ℕ). 60 + n) product) (c.are_too_many.ensures c.if-are_too_many.true),
    )
