-- Lemmas on the list of rows.
use Rattle.std.proofs.Common.{◌≡◌, ℕ, ◌+◌, ◌-◌, ◌*◌, ◌/◌, ◌<◌, ◌≤◌, min, List, [], length, eqb, cond, sym, ap, ap₂, ◌∙◌, arith}
use Rattle.std.proofs.Math.Nat.{le-div_iff_mul-le}
use Rattle.std.proofs.lemmas.Bool.Decides.{nat_tests}
use Rattle.grib_bits.specs.Listed.{numbers_at}
use Rattle.grib2_grids.specs.Grid.{list_octets, list_start, nj, row_list}
use Rattle.grib2_grids.specs.Whole.{HasList}

-- at least `count` numbers of `size` octets stand from octet f on
stand : (l f size count : ℕ) → 0 < size → 1 ≤ f → f - 1 + size * count ≤ l → count ≤ (l + 1 - f) / size
stand l f size count some counted within =
    let enough : count * size ≤ l + 1 - f = omega arith in
    (le-div_iff_mul-le some).1 enough

-- the number of entries, where the section has all of them
entries : (l f size count : ℕ) → 0 < size → count ≤ (l + 1 - f) / size → cond (eqb size 0) 0 (min count ((l + 1 - f) / size)) ≡ count
entries l f size count some enough = grind (arith, nat_tests)

pub list_start-some : (s : List ℕ) → 73 ≤ list_start s
list_start-some s = grind (arith, nat_tests)

-- a list that the section has as a whole has Nj entries
pub row_list-whole : (s : List ℕ) (f size count : ℕ) → HasList s → f ≡ list_start s → size ≡ list_octets s → count ≡ nj s → 0 < size
    → numbers_at s f size count ≡ row_list s
row_list-whole s f size count has is_start is_size is_count some =
    let listed : 0 < list_octets s = omega arith in
    let enough = stand (length s) (list_start s) (list_octets s) (nj s) listed (omega (arith, list_start-some s)) (has.long listed) in
    ap (numbers_at s f size) is_count ∙ ap₂ (λ (f size : ℕ). numbers_at s f size (nj s)) is_start is_size
    ∙ ap (numbers_at s (list_start s) (list_octets s)) (sym (entries (length s) (list_start s) (list_octets s) (nj s) listed enough))

-- where octet 11 is 0 there is no list
pub row_list-none : (s : List ℕ) → list_octets s ≡ 0 → row_list s ≡ []
row_list-none s none =
    ap (λ (size : ℕ). numbers_at s (list_start s) size (cond (eqb size 0) 0 (min (nj s) ((length s + 1 - list_start s) / size)))) none
