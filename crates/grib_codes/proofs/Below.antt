-- What words stand for takes 32 bits with the reserved codes.
use Rattle.std.proofs.Common.{◌≡◌, ℕ, ◌+◌, ◌-◌, ◌^◌, ◌<◌, Bool, true, false, cond, All, List, [], ◌∷◌, nat_lt, ◌==◌, refl}
use Rattle.std.proofs.lemmas.Bool.{ltb-true}
use Rattle.std.proofs.lemmas.List.Elements.{All-nil, All-cons}
use Rattle.grib_base.specs.declared.code.Code.TheVariants.{Present, Primary, Secondary}
use Rattle.grib_codes.specs.Span.{IsBelow}
use Rattle.grib_codes.specs.Words.{code_of, codes_of}

below_by : (k w : ℕ) (b c : Bool) → (b ≡ true → w + k < 2 ^ 32) → IsBelow k (cond b (Present w) (cond c Primary Secondary))
below_by k w true c small = small refl
below_by k w false true small = tt
below_by k w false false small = tt

pub codes_below : (k : ℕ) (words : List ℕ) → All (IsBelow k) (codes_of k words)
codes_below k [] = All-nil (IsBelow k)
codes_below k (w ∷ words) =
    All-cons (IsBelow k) (code_of k w) (codes_of k words) (below_by k w (nat_lt (w + k) (2 ^ 32)) (w == 2 ^ 32 - 1) (ltb-true (w + k) (2 ^ 32))) (codes_below k words)
