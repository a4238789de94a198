use Rattle.std.proofs.Common.{◌≡◌, ℕ, ◌+◌, ◌*◌, ◌≤◌, List, length, Option, Some, None, IsSomeAnd, arith}
use Rattle.grib_base.specs.declared.code.Code.{Code}
use Rattle.grib_packing.specs.Groupings.{IsGrouping}
use Rattle.grib_packing.specs.Misfits.{ToComplex, management_of}
use Rattle.grib_packing.specs.Packed.{group_parts, target_codes}
use Rattle.grib_packing.specs.declared.column.Column.{Column}
use Rattle.grib_packing.specs.Below.{IsNoFewer}
use Rattle.grib_codes.specs.FieldCodes.{codes_in}
use Rattle.grib_complex.proofs.AtLeast.{complex_at_least}
use Rattle.grib_complex.proofs.packed.pack_codes.Goals as goal

pub are_too_many-requires-clause-management : goal.are_too_many-requires-clause-management
are_too_many-requires-clause-management c = c.requires.points.1.few

pub are_too_many-requires-clause-codes : goal.are_too_many-requires-clause-codes
are_too_many-requires-clause-codes c = c.requires.points.1.each

-- no packing has fewer octets than the bound
no_fewer : (column : Column) (kind k : ℕ) (codes : List Code) (below : Option ℕ) → codes ≡ target_codes ToComplex column.points → k ≡ management_of column.points
    → IsSomeAnd below (λ most. (lengths : List ℕ) → IsGrouping (length codes) lengths → 8 * most ≤ 8 * 58 + length (group_parts k codes lengths))
    → IsNoFewer ToComplex column kind below
no_fewer column kind k codes None is_codes is_k above = above
no_fewer column kind k codes (Some most) is_codes is_k above = λ s5 s6 s7 packed.
    let many = complex_at_least column kind k codes s5 s6 s7 is_codes is_k packed in
    omega (arith, above many.lengths many.grouping, many.at_least)

pub returns-then-are_too_many : goal.returns-then-are_too_many
returns-then-are_too_many c = λ field reference e d told. (
  told.none,
  no_fewer field c.args.kind c.args.told.now.management (codes_in c.args.told.now.codes) c.args.below told.codes_are told.management (c.are_too_many.ensures c.if-are_too_many.true),
)

pub pack_plainly-requires-clause-few : goal.pack_plainly-requires-clause-few
pack_plainly-requires-clause-few c = c.requires.points.1.few

pub pack_plainly-requires-clause-told : goal.pack_plainly-requires-clause-told
pack_plainly-requires-clause-told c = c.requires.points.1.each

pub returns : goal.returns
returns c = λ field reference e d told. (told.none, c.in_ok-packed.ensures field reference e d (record { management = told.management; codes_are = told.codes_are }))
