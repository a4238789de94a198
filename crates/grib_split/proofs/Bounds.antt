-- How large the costs of up to 33,554,432 codes get.
use Rattle.std.proofs.Common.{◌≡◌, ℕ, suc, ◌-◌, ◌*◌, ◌≤◌, max, List, [], ◌∷◌, length, refl, subst, arith, eq-eqb}
use Rattle.std.proofs.Math.Nat.{mul-le-mul_left, suc-mul}
use Rattle.grib_base.specs.declared.code.Code.{Code}
use Rattle.grib_base.specs.declared.code.Code.TheVariants.{Present, Primary, Secondary}
use Rattle.grib_packing.specs.Groupings.{width_of, cost_of, IsGrouping}
use Rattle.grib_split.specs.declared.choosing.Costs.{Costs}
use Rattle.grib_split.specs.Costs.{header_of}
use Rattle.grib_split.specs.Least.{IsLeast}
use Rattle.grib_split.proofs.Optimal.{joined}

-- ---- costs

-- a group of one code has no bits
pub single_width : (k : ℕ) (code : Code) → width_of k (code ∷ []) ≡ 0
single_width k (Present n) = rw (eq-eqb (max n 0) n (omega arith)) refl
single_width k Primary = refl
single_width k Secondary = refl

-- as many groups as codes
ones : List Code → List ℕ
ones [] = []
ones (code ∷ codes) = 1 ∷ ones codes

ones_grouping : (codes : List Code) → IsGrouping (length codes) (ones codes)
unfolding ones
ones_grouping [] = record { each = λ k d within. absurd (omega arith); total = refl }
ones_grouping (code ∷ codes) = joined (length (code ∷ codes)) 1 (ones codes) (omega arith) (omega arith) (omega arith)
    (let P : ℕ → Type 0 = λ n. IsGrouping n (ones codes) in let e : length codes ≡ suc (length codes) - 1 = omega arith in subst P e (ones_grouping codes))

ones_cost : (header k : ℕ) (codes : List Code) → cost_of header (width_of k) (ones codes) codes ≡ length codes * header
unfolding ones
ones_cost header k [] = omega arith
ones_cost header k (code ∷ codes) = omega (arith, single_width k code, ones_cost header k codes, suc-mul (length codes) header)

pub least_bound : (header k : ℕ) (codes : List Code) (cost : ℕ) → IsLeast header (width_of k) codes cost → cost ≤ length codes * header
least_bound header k codes cost l = omega (arith, l.least (ones codes) (ones_grouping codes), ones_cost header k codes)

pub cost_bound : (costs : Costs) (codes : List Code) (cost : ℕ) → costs.reference_bits ≤ 32 → costs.width_bits ≤ 6 → length codes ≤ 33554432
    → IsLeast (header_of costs) (width_of costs.reserved) codes cost → cost ≤ 1476395008
cost_bound costs codes cost references widths most l =
    let header = header_of costs in
    let small : header ≤ 44 = omega arith in
    let bound = least_bound header costs.reserved codes cost l in
    let more : length codes * header ≤ length codes * 44 = mul-le-mul_left (length codes) small in
    omega (arith, bound, more)
