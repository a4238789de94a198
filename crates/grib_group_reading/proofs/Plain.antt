-- Numbers of one width within some bits, whatever follows.
use Rattle.std.proofs.Common.{◌≡◌, ℕ, zero, suc, ◌+◌, ◌*◌, ◌≤◌, Bool, List, [], ◌∷◌, ◌++◌, length, take, drop, refl, sym, ap, ap₂, ◌∙◌, arith, add-mul, mul_comm}
use Rattle.std.proofs.lemmas.List.{take-append-le, drop-append-le, length-drop}
use Rattle.grib_bits.specs.Bits.{num}
use Rattle.grib_bits.specs.Plain.{plain, plain_at}
use Rattle.grib_packing.proofs.Fields.{plain_more}

pub plain-append : (xs more : List Bool) (width count : ℕ) → width * count ≤ length xs → plain (xs ++ more) width count ≡ plain xs width count
plain-append xs more width zero within = refl
plain-append xs more width (suc count) within =
    let last : suc count ≡ count + 1 = omega arith in
    let before : width * count ≤ length xs = omega (arith, mul_comm width count, mul_comm width (suc count), add-mul count 1 width) in
    let ended : count * width + width ≤ length xs = omega (arith, mul_comm width (suc count), add-mul count 1 width) in
    let rest = drop (count * width) xs in
    let here : plain_at (xs ++ more) width count ≡ plain_at xs width count =
    ap (λ (ys : List Bool). num (take width ys)) (drop-append-le (count * width) xs more (omega arith))
    ∙ ap num (take-append-le width rest more (omega (arith, length-drop (count * width) xs))) in
    ap (plain (xs ++ more) width) last
    ∙ plain_more (xs ++ more) width count
    ∙ ap₂ (λ ys y. ys ++ y ∷ []) (plain-append xs more width count before) here
    ∙ sym (plain_more xs width count)
    ∙ ap (plain xs width) (sym last)
