-- Whole numbers by their digits.
use Rattle.std.proofs.Common.{◌≡◌, ℕ, suc, ◌+◌, ◌-◌, ◌*◌, ◌/◌, ◌%◌, ◌^◌, ◌<◌, ◌≤◌, ◌↔◌, List, [], ◌∷◌, ◌++◌, length, get_or, take, drop, Bool, IsTrue, FitsSigned, nat_abs, ℤ, pos, negsuc, neg_ℤ, ◌+ℤ◌, ◌*ℤ◌, ◌≤ℤ◌, ◌<ℤ◌, refl, sym, ap, ◌∙◌, arith}
use Rattle.std.proofs.Math.Nat.{mul_comm, mul-le-mul}
use Rattle.std.proofs.lemmas.Int.{ints}
use Rattle.std.specs.Int.{int_div_euclid, int_rem_euclid, w64, w128}
use Rattle.std.proofs.lemmas.List.{drop_more, drop_all, take_rest}
use Rattle.std.proofs.lemmas.Nat.{pow-add}
use Rattle.grib_dyadic.proofs.Numbers.{times_twice, times_sum}
use Rattle.grib_same.specs.Wholes.{number_of}

-- digits above others
pub number_append : (xs ys : List ℕ) (t : ℤ) → number_of (xs ++ ys) t ≡ number_of xs (number_of ys t)
number_append [] ys t = refl
number_append (x ∷ xs) ys t = ap (λ n. pos x +ℤ (pos (2 ^ 32) *ℤ n)) (number_append xs ys t)

pub factors : (k f : ℕ) (z : ℤ) → (z *ℤ pos k) *ℤ pos f ≡ (z *ℤ pos f) *ℤ pos k
factors k f z = sym (times_twice z k f) ∙ ap (λ n. z *ℤ pos n) (mul_comm k f) ∙ times_twice z f k

base_first : (z : ℤ) → pos (2 ^ 32) *ℤ z ≡ z *ℤ pos (2 ^ 32)
base_first z = omega (arith, ints)

-- one digit more times a factor
pub factor_more : (digit f low : ℕ) (rest carry above : ℤ) → (pos low +ℤ (pos (2 ^ 32) *ℤ above)) ≡ ((pos digit *ℤ pos f) +ℤ carry) → (((pos digit +ℤ (pos (2 ^ 32) *ℤ rest)) *ℤ pos f) +ℤ carry) ≡ (pos low +ℤ (pos (2 ^ 32) *ℤ ((rest *ℤ pos f) +ℤ above)))
factor_more digit f low rest carry above e =
    let sum = times_sum (pos digit) (pos (2 ^ 32) *ℤ rest) f in
    let high = ap (λ n. n *ℤ pos f) (base_first rest) ∙ factors (2 ^ 32) f rest in
    omega (arith, ints, sum, high, e)

-- the least digit of a number, and the number above it
pub euclid_is : (z : ℤ) → (int_rem_euclid z (pos (2 ^ 32)) +ℤ (pos (2 ^ 32) *ℤ int_div_euclid z (pos (2 ^ 32)))) ≡ z
euclid_is (pos a) = omega (arith, ints)
euclid_is (negsuc a) = omega (arith, ints)

-- a product of 64 and 32 bits, and 64 bits more
product_low : (n : ℤ) (f : ℕ) → neg_ℤ (pos (2 ^ 63)) ≤ℤ n → f < 2 ^ 32 → neg_ℤ (pos (2 ^ 63 * (2 ^ 32 - 1))) ≤ℤ (n *ℤ pos f)
product_low (pos n) f low small = omega (arith, ints)
product_low (negsuc n) f low small =
    let within : suc n ≤ 2 ^ 63 = omega (arith, ints) in
    let few : f ≤ 2 ^ 32 - 1 = omega arith in
    let product : suc n * f ≤ 2 ^ 63 * (2 ^ 32 - 1) = mul-le-mul within few in
    omega (arith, ints, product)

product_high : (n : ℤ) (f : ℕ) → n ≤ℤ pos (2 ^ 63 - 1) → f < 2 ^ 32 → (n *ℤ pos f) ≤ℤ pos ((2 ^ 63 - 1) * (2 ^ 32 - 1))
product_high (pos n) f high small =
    let within : n ≤ 2 ^ 63 - 1 = omega (arith, ints) in
    let few : f ≤ 2 ^ 32 - 1 = omega arith in
    let product : n * f ≤ (2 ^ 63 - 1) * (2 ^ 32 - 1) = mul-le-mul within few in
    omega (arith, ints, product)
product_high (negsuc n) f high small = omega (arith, ints)

-- digits are given by their number
pub digits_once : (d d' : ℕ) (rest rest' : ℤ) → d < 2 ^ 32 → d' < 2 ^ 32 → (pos d +ℤ (pos (2 ^ 32) *ℤ rest)) ≡ (pos d' +ℤ (pos (2 ^ 32) *ℤ rest')) → (d ≡ d') × (rest ≡ rest')
digits_once d d' rest rest' small small' e = (omega (arith, ints), omega (arith, ints))

rem_small : (z : ℤ) → (pos 0 ≤ℤ int_rem_euclid z (pos (2 ^ 32))) × (int_rem_euclid z (pos (2 ^ 32)) <ℤ pos (2 ^ 32))
rem_small (pos a) = (omega (arith, ints), omega (arith, ints))
rem_small (negsuc a) = (omega (arith, ints), omega (arith, ints))

pub part_is : (z q r : ℤ) → q ≡ int_div_euclid z (pos (2 ^ 32)) → r ≡ int_rem_euclid z (pos (2 ^ 32)) → (pos (nat_abs r) +ℤ (pos (2 ^ 32) *ℤ q)) ≡ z
part_is z q r q_is r_is =
    let small : pos 0 ≤ℤ r = rw r_is (rem_small z).0 in
    let whole : pos (nat_abs r) ≡ r = omega (arith, ints, small) in
    ap (λ n. n +ℤ (pos (2 ^ 32) *ℤ q)) (whole ∙ r_is) ∙ ap (λ n. int_rem_euclid z (pos (2 ^ 32)) +ℤ (pos (2 ^ 32) *ℤ n)) q_is ∙ euclid_is z

pub part_fits : (z n carry q : ℤ) (f : ℕ) → z ≡ (n *ℤ pos f) +ℤ carry → q ≡ int_div_euclid z (pos (2 ^ 32)) → FitsSigned w64 n → FitsSigned w64 carry → f < 2 ^ 32 → FitsSigned w64 q
part_fits z n carry q f is q_is n_fits c_fits small =
    let r = int_rem_euclid z (pos (2 ^ 32)) in
    let parts = euclid_is z in
    let low = rem_small z in
    let p = product_low n f (omega (arith, ints)) small in
    let h = product_high n f (omega (arith, ints)) small in
    omega (arith, ints, p, h, low.0, low.1, parts)

pub sum_fits : (n carry : ℤ) (f : ℕ) → FitsSigned w64 n → FitsSigned w64 carry → f < 2 ^ 32 → FitsSigned w128 (n *ℤ pos f) × FitsSigned w128 ((n *ℤ pos f) +ℤ carry)
sum_fits n carry f n_fits c_fits small =
    let p = product_low n f (omega (arith, ints)) small in
    let h = product_high n f (omega (arith, ints)) small in
    (omega (arith, ints, p, h), omega (arith, ints, p, h))

-- a digit of a number, and the number above it
module _ (ds : List ℕ) (top left above : ℤ) (i digit : ℕ) (within : i < length ds) (small : get_or ds i 0 < 2 ^ 32) (small' : digit < 2 ^ 32) (part : (pos digit +ℤ (pos (2 ^ 32) *ℤ above)) ≡ ((left *ℤ pos 1) +ℤ pos 0)) where
  digit_first : number_of (drop i ds) top ≡ pos (get_or ds i 0) +ℤ (pos (2 ^ 32) *ℤ number_of (drop (i + 1) ds) top)
  digit_first = ap (λ (l : List ℕ). number_of l top) (drop_more ds i 0 within)

  left_is : left ≡ pos digit +ℤ (pos (2 ^ 32) *ℤ above)
  left_is = omega (arith, ints, part)

  pub digit_same : get_or ds i 0 ≡ digit → (number_of (drop i ds) top ≡ left) ↔ (number_of (drop (i + 1) ds) top ≡ above)
  digit_same same = (
    λ e. (digits_once (get_or ds i 0) digit (number_of (drop (i + 1) ds) top) above small small' (sym digit_first ∙ e ∙ left_is)).1,
    λ e. digit_first ∙ ap (λ n. pos n +ℤ (pos (2 ^ 32) *ℤ number_of (drop (i + 1) ds) top)) same ∙ ap (λ n. pos digit +ℤ (pos (2 ^ 32) *ℤ n)) e ∙ sym left_is,
  )

  pub digit_differs : (get_or ds i 0 ≡ digit → ⊥) → number_of (drop i ds) top ≡ left → ⊥
  digit_differs differs e = differs (digits_once (get_or ds i 0) digit (number_of (drop (i + 1) ds) top) above small small' (sym digit_first ∙ e ∙ left_is)).0

-- the product so far, and one digit more
pub multiplied_more : (p ds : List ℕ) (top carry above : ℤ) (i f low : ℕ) → i < length ds → (pos low +ℤ (pos (2 ^ 32) *ℤ above)) ≡ ((pos (get_or ds i 0) *ℤ pos f) +ℤ carry) → number_of p ((number_of (drop i ds) top *ℤ pos f) +ℤ carry) ≡ number_of (p ++ low ∷ []) ((number_of (drop (i + 1) ds) top *ℤ pos f) +ℤ above)
multiplied_more p ds top carry above i f low within part =
    let rest = number_of (drop (i + 1) ds) top in
    let here = ap (λ (l : List ℕ). number_of l top) (drop_more ds i 0 within) in
    ap (λ n. number_of p ((n *ℤ pos f) +ℤ carry)) here ∙ ap (number_of p) (factor_more (get_or ds i 0) f low rest carry above part) ∙ sym (number_append p (low ∷ []) ((rest *ℤ pos f) +ℤ above))

pub multiplied_last : (p ds : List ℕ) (top carry above : ℤ) (i f low : ℕ) → length ds ≤ i → (pos low +ℤ (pos (2 ^ 32) *ℤ above)) ≡ ((top *ℤ pos f) +ℤ carry) → number_of (p ++ low ∷ []) above ≡ number_of p ((number_of (drop i ds) top *ℤ pos f) +ℤ carry)
multiplied_last p ds top carry above i f low past part =
    number_append p (low ∷ []) above ∙ ap (number_of p) part ∙ ap (λ (l : List ℕ). number_of p ((number_of l top *ℤ pos f) +ℤ carry)) (sym (drop_all i ds past))

-- one digit of 0 more
pub zeros_more : (p : List ℕ) (i : ℕ) (top : ℤ) → ((t : ℤ) → number_of p t ≡ t *ℤ pos (2 ^ (32 * i))) → number_of (p ++ 0 ∷ []) top ≡ top *ℤ pos (2 ^ (32 * (i + 1)))
zeros_more p i top zeros =
    let digit : pos 0 +ℤ (pos (2 ^ 32) *ℤ top) ≡ top *ℤ pos (2 ^ 32) = omega (arith, ints) in
    let sum : 2 ^ 32 * 2 ^ (32 * i) ≡ 2 ^ (32 * (i + 1)) = sym (pow-add 2 32 (32 * i)) ∙ ap (λ n. 2 ^ n) {x = 32 + 32 * i} {y = 32 * (i + 1)} (omega arith) in
    number_append p (0 ∷ []) top ∙ zeros (pos 0 +ℤ (pos (2 ^ 32) *ℤ top)) ∙ ap (λ n. n *ℤ pos (2 ^ (32 * i))) digit ∙ sym (times_twice top (2 ^ 32) (2 ^ (32 * i))) ∙ ap (λ n. top *ℤ pos n) sum

-- the number of a shift, by whole digits and less
pub shift_is : (n : ℤ) (twos : ℕ) → (n *ℤ pos (2 ^ (32 * (twos / 32)))) *ℤ pos (2 ^ (twos % 32)) ≡ n *ℤ pos (2 ^ twos)
shift_is n twos =
    sym (times_twice n (2 ^ (32 * (twos / 32))) (2 ^ (twos % 32))) ∙ ap (λ k. n *ℤ pos k) (sym (pow-add 2 (32 * (twos / 32)) (twos % 32)) ∙ ap (λ k. 2 ^ k) {x = 32 * (twos / 32) + twos % 32} {y = twos} (omega arith))

-- so many tens, and these too
pub tens_more : (n : ℤ) (all left step : ℕ) → left ≤ all → step ≤ left → (n *ℤ pos (10 ^ (all - left))) *ℤ pos (10 ^ step) ≡ n *ℤ pos (10 ^ (all - (left - step)))
tens_more n all left step within part =
    sym (times_twice n (10 ^ (all - left)) (10 ^ step)) ∙ ap (λ k. n *ℤ pos k) (sym (pow-add 10 (all - left) step) ∙ ap (λ k. 10 ^ k) {x = all - left + step} {y = all - (left - step)} (omega arith))

-- a digit of two numbers
module _ (xs ys : List ℕ) (s t : ℤ) (i : ℕ) (within : i < length xs) (within' : i < length ys) (small : get_or xs i 0 < 2 ^ 32) (small' : get_or ys i 0 < 2 ^ 32) where
  left_first : number_of (drop i xs) s ≡ pos (get_or xs i 0) +ℤ (pos (2 ^ 32) *ℤ number_of (drop (i + 1) xs) s)
  left_first = ap (λ (l : List ℕ). number_of l s) (drop_more xs i 0 within)

  right_first : number_of (drop i ys) t ≡ pos (get_or ys i 0) +ℤ (pos (2 ^ 32) *ℤ number_of (drop (i + 1) ys) t)
  right_first = ap (λ (l : List ℕ). number_of l t) (drop_more ys i 0 within')

  both_given : number_of (drop i xs) s ≡ number_of (drop i ys) t → (get_or xs i 0 ≡ get_or ys i 0) × (number_of (drop (i + 1) xs) s ≡ number_of (drop (i + 1) ys) t)
  both_given e = digits_once (get_or xs i 0) (get_or ys i 0) (number_of (drop (i + 1) xs) s) (number_of (drop (i + 1) ys) t) small small' (sym left_first ∙ e ∙ right_first)

  pub both_same : get_or xs i 0 ≡ get_or ys i 0 → (number_of (drop i xs) s ≡ number_of (drop i ys) t) ↔ (number_of (drop (i + 1) xs) s ≡ number_of (drop (i + 1) ys) t)
  both_same same = (
    λ e. (both_given e).1,
    λ e. left_first ∙ ap (λ n. pos n +ℤ (pos (2 ^ 32) *ℤ number_of (drop (i + 1) xs) s)) same ∙ ap (λ n. pos (get_or ys i 0) +ℤ (pos (2 ^ 32) *ℤ n)) e ∙ sym right_first,
  )

  pub both_differ : (get_or xs i 0 ≡ get_or ys i 0 → ⊥) → number_of (drop i xs) s ≡ number_of (drop i ys) t → ⊥
  both_differ differs e = differs (both_given e).0

-- where the digits of the lesser number end
pub same_end : (xs ys : List ℕ) (s t : ℤ) (i : ℕ) (r : Bool) → i ≤ length xs → length xs ≤ i → IsTrue r ↔ (number_of (take (length ys - length xs) (drop (length xs) ys)) t ≡ s) → (number_of xs s ≡ number_of ys t) ↔ (number_of (drop i xs) s ≡ number_of (drop i ys) t) → IsTrue r ↔ (number_of xs s ≡ number_of ys t)
same_end xs ys s t i r within past rest both =
    let end : i ≡ length xs = omega arith in
    let left : number_of (drop i xs) s ≡ s = ap (λ (l : List ℕ). number_of l s) (drop_all i xs past) in
    let right : number_of (drop i ys) t ≡ number_of (take (length ys - length xs) (drop (length xs) ys)) t = ap (λ k. number_of (drop k ys) t) end ∙ ap (λ (l : List ℕ). number_of l t) (sym (take_rest ys (length xs))) in
    (λ e. both.1 (left ∙ sym (rest.0 e) ∙ sym right), λ e. rest.1 (sym right ∙ sym (both.0 e) ∙ left))

-- a sum of two shifts
pub sum_shifted : (high low : ℤ) (h l : ℕ) → l ≤ h → ((((high *ℤ pos (2 ^ (h - l))) +ℤ low) *ℤ pos (2 ^ l)) +ℤ pos 0) ≡ ((high *ℤ pos (2 ^ h)) +ℤ (low *ℤ pos (2 ^ l)))
sum_shifted high low h l le =
    let whole : 2 ^ (h - l) * 2 ^ l ≡ 2 ^ h = sym (pow-add 2 (h - l) l) ∙ ap (λ k. 2 ^ k) {x = h - l + l} {y = h} (omega arith) in
    let sum = times_sum (high *ℤ pos (2 ^ (h - l))) low (2 ^ l) in
    let first : (high *ℤ pos (2 ^ (h - l))) *ℤ pos (2 ^ l) ≡ high *ℤ pos (2 ^ h) = sym (times_twice high (2 ^ (h - l)) (2 ^ l)) ∙ ap (λ k. high *ℤ pos k) whole in
    no_more (((high *ℤ pos (2 ^ (h - l))) +ℤ low) *ℤ pos (2 ^ l)) ∙ sum ∙ ap (λ n. n +ℤ (low *ℤ pos (2 ^ l))) first
  where
    no_more : (z : ℤ) → z +ℤ pos 0 ≡ z
    no_more z = omega (arith, ints)

pub turned : (a b : ℤ) → a +ℤ b ≡ b +ℤ a
turned a b = omega (arith, ints)
