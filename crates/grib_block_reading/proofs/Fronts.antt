-- Numbers that are read one after another.
use Rattle.std.proofs.Common.{◌≡◌, ℕ, suc, ◌+◌, ◌-◌, ◌*◌, ◌%◌, ◌^◌, ◌<◌, ◌≤◌, Bool, List, [], ◌∷◌, ◌++◌, length, get_or, take, drop, set, refl, sym, ap, ap₂, subst, ◌∙◌, arith, append_assoc, add-one, drop-cons, pow_mono}
use Rattle.std.specs.List.{All}
use Rattle.std.proofs.Math.Seq.{take-suc, take-suc-set}
use Rattle.std.proofs.lemmas.List.{take_all, drop-set-lt, append-nil, length-append, length-take-le}
use Rattle.std.proofs.lemmas.Nat.{mul-add-lt, shl_whole}
use Rattle.std.proofs.Math.Nat.{mul-le-mul_right}
use Rattle.grib_coding.specs.Items.{joined}
use Rattle.grib_coding.specs.Reading.{Front, Ended, Found, and_then, front_list, front_number}
use Rattle.grib_block_reading.specs.Fronts.{LowFound}

-- numbers, and then those at the front
abbrev pub before_list : List ℕ → Front (List ℕ) → Front (List ℕ)
before_list xs front = and_then front (λ ys rest. Found (xs ++ ys) rest)

none_before : (front : Front (List ℕ)) → front ≡ before_list [] front
none_before Ended = refl
none_before (Found ys rest) = refl

one_before : (xs : List ℕ) (x : ℕ) (front : Front (List ℕ)) → before_list xs (and_then front (λ ys rest. Found (x ∷ ys) rest)) ≡ before_list (xs ++ x ∷ []) front
one_before xs x Ended = refl
one_before xs x (Found ys rest) = ap (λ zs. Found zs rest) (sym (append_assoc xs (x ∷ []) ys))

one_found : (front : List Bool → Front ℕ) (count : ℕ) (xs : List ℕ) (bits rest : List Bool) (x : ℕ) → front bits ≡ Found x rest
    → before_list xs (front_list front (suc count) bits) ≡ before_list (xs ++ x ∷ []) (front_list front count rest)
one_found front count xs bits rest x is =
    ap (λ f. before_list xs (and_then f (λ number rest'. and_then (front_list front count rest') (λ numbers rest''. Found (number ∷ numbers) rest'')))) is
    ∙ one_before xs x (front_list front count rest)

none_found : (front : List Bool → Front ℕ) (count : ℕ) (xs : List ℕ) (bits : List Bool) → front bits ≡ Ended → before_list xs (front_list front (suc count) bits) ≡ Ended
none_found front count xs bits is =
    ap (λ f. before_list xs (and_then f (λ number rest'. and_then (front_list front count rest') (λ numbers rest''. Found (number ∷ numbers) rest'')))) is

-- ---- numbers that are put into their places

-- Of `count` numbers those before a place are read, and these bits are left.
pub record SoFar (front : List Bool → Front ℕ) (count : ℕ) (start : List Bool) (numbers : List ℕ) (place : ℕ) (bits : List Bool) : Type 0 where
  pub agree : front_list front count start ≡ before_list (take place numbers) (front_list front (count - place) bits)

pub begin : (front : List Bool → Front ℕ) (count : ℕ) (start : List Bool) (numbers : List ℕ) → SoFar front count start numbers 0 start
begin front count start numbers =
    let all : count ≡ count - 0 = omega arith in
    record { agree = none_before (front_list front count start) ∙ ap (λ n. before_list [] (front_list front n start)) all }

pub next : (front : List Bool → Front ℕ) (count : ℕ) (start : List Bool) (numbers : List ℕ) (place : ℕ) (bits rest : List Bool) (x : ℕ)
    → SoFar front count start numbers place bits → place < count → length numbers ≡ count → front bits ≡ Found x rest
    → SoFar front count start (set numbers place x) (place + 1) rest
next front count start numbers place bits rest x so more long is =
    let left : count - place ≡ suc (count - (place + 1)) = omega arith in
    let within : place < length numbers = omega (arith, long) in
    let taken : take (place + 1) (set numbers place x) ≡ take place numbers ++ x ∷ [] = rw add-one (take-suc-set numbers place x within) in
    record {
      agree = so.agree
          ∙ (ap (λ n. before_list (take place numbers) (front_list front n bits)) left
          ∙ (one_found front (count - (place + 1)) (take place numbers) bits rest x is
          ∙ ap (λ xs. before_list xs (front_list front (count - (place + 1)) rest)) (sym taken)));
    }

pub ended : (front : List Bool → Front ℕ) (count : ℕ) (start : List Bool) (numbers : List ℕ) (place : ℕ) (bits : List Bool)
    → SoFar front count start numbers place bits → place < count → front bits ≡ Ended → front_list front count start ≡ Ended
ended front count start numbers place bits so more is =
    let left : count - place ≡ suc (count - (place + 1)) = omega arith in
    so.agree ∙ (ap (λ n. before_list (take place numbers) (front_list front n bits)) left
    ∙ none_found front (count - (place + 1)) (take place numbers) bits is)

pub done : (front : List Bool → Front ℕ) (count : ℕ) (start : List Bool) (numbers : List ℕ) (place : ℕ) (bits : List Bool)
    → SoFar front count start numbers place bits → count ≤ place → length numbers ≡ count → front_list front count start ≡ Found numbers bits
done front count start numbers place bits so all long =
    let left : count - place ≡ 0 = omega arith in
    so.agree ∙ (ap (λ n. before_list (take place numbers) (front_list front n bits)) left
    ∙ ap (λ xs. Found xs bits) (append-nil (take place numbers) ∙ take_all place numbers (omega (arith, long))))

-- ---- low bits that are put behind what codes were divided by

-- The codes before a place have their low bits.
pub record LowSoFar (k : ℕ) (start : List Bool) (high codes : List ℕ) (place : ℕ) (bits : List Bool) : Type 0 where
  pub low : List ℕ
  pub agree : front_list (front_number k) (length high) start ≡ before_list low (front_list (front_number k) (length high - place) bits)
  pub long : length low ≡ place
  pub joined_so_far : take place codes ≡ joined k (take place high) low
  pub left : drop place codes ≡ drop place high

pub begin_low : (k : ℕ) (start : List Bool) (high : List ℕ) → LowSoFar k start high high 0 start
begin_low k start high =
    let all : length high ≡ length high - 0 = omega arith in
    record {
      low = [];
      agree = none_before (front_list (front_number k) (length high) start) ∙ ap (λ n. before_list [] (front_list (front_number k) n start)) all;
      long = refl;
      joined_so_far = refl;
      left = refl;
    }

joined_more : (k : ℕ) (high low : List ℕ) (h l : ℕ) → length high ≡ length low → joined k (high ++ h ∷ []) (low ++ l ∷ []) ≡ joined k high low ++ (h * 2 ^ k + l) ∷ []
joined_more k [] [] h l same = refl
joined_more k [] (y ∷ low) h l same = absurd (omega (arith, same))
joined_more k (x ∷ high) [] h l same = absurd (omega (arith, same))
joined_more k (x ∷ high) (y ∷ low) h l same = ap (λ zs. (x * 2 ^ k + y) ∷ zs) (joined_more k high low h l (omega (arith, same)))

-- the bits behind 2 ^ k codes of few bits fit into a word
pub low_fits : (code k low : ℕ) → code < 2 ^ 35 → k ≤ 29 → low < 2 ^ k → (code * 2 ^ k % 2 ^ 64 ≡ code * 2 ^ k) × (code * 2 ^ k + low < 2 ^ 64)
low_fits code k low small few fits =
    let power : 2 ^ k ≤ 2 ^ 29 = pow_mono few in
    let below : code * 2 ^ k + low < 2 ^ k * 2 ^ 35 = mul-add-lt code (2 ^ k) low (2 ^ 35) small fits in
    let most : 2 ^ k * 2 ^ 35 ≤ 2 ^ 29 * 2 ^ 35 = mul-le-mul_right (2 ^ 35) power in
    (shl_whole code 35 k 64 small (omega arith), omega (arith, below, most))

pub code_here : (k : ℕ) (start : List Bool) (high codes : List ℕ) (place : ℕ) (bits : List Bool) → LowSoFar k start high codes place bits
    → place < length high → length codes ≡ length high → get_or codes place 0 ≡ get_or high place 0
code_here k start high codes place bits so within same =
    let within_now : place < length codes = omega (arith, same) in
    let one : drop place codes ≡ get_or codes place 0 ∷ drop (suc place) codes = drop-cons codes place 0 within_now in
    let two : drop place high ≡ get_or high place 0 ∷ drop (suc place) high = drop-cons high place 0 within in
    let left : drop place codes ≡ drop place high = so.left in
    cc

pub code_small : (k : ℕ) (start : List Bool) (high codes : List ℕ) (place : ℕ) (bits : List Bool) → LowSoFar k start high codes place bits
    → place < length high → length codes ≡ length high → All (λ n. n < 2 ^ 35) high → get_or codes place 0 < 2 ^ 35
code_small k start high codes place bits so within same small =
    let P : ℕ → Type 0 = λ n. n < 2 ^ 35 in
    subst P (sym (code_here k start high codes place bits so within same)) (small place 0 within)

pub next_low : (k : ℕ) (start : List Bool) (high codes : List ℕ) (place : ℕ) (bits rest : List Bool) (l code : ℕ)
    → LowSoFar k start high codes place bits → place < length high → length codes ≡ length high → front_number k bits ≡ Found l rest
    → code ≡ get_or codes place 0 * 2 ^ k + l
    → LowSoFar k start high (set codes place code) (place + 1) rest
next_low k start high codes place bits rest l code so more same is value =
    let within : place < length codes = omega (arith, same) in
    let one_less : length high - place ≡ suc (length high - (place + 1)) = omega arith in
    let taken : take (place + 1) (set codes place code) ≡ take place codes ++ code ∷ [] = rw add-one (take-suc-set codes place code within) in
    let high_taken : take (place + 1) high ≡ take place high ++ get_or high place 0 ∷ [] = rw add-one (take-suc high place 0 more) in
    let long_high : length (take place high) ≡ length so.low = length-take-le place high (omega arith) ∙ sym so.long in
    let is_code : code ≡ get_or high place 0 * 2 ^ k + l = value ∙ ap (λ h. h * 2 ^ k + l) (code_here k start high codes place bits so more same) in
    record {
      low = so.low ++ l ∷ [];
      agree = so.agree
          ∙ (ap (λ n. before_list so.low (front_list (front_number k) n bits)) one_less
          ∙ one_found (front_number k) (length high - (place + 1)) so.low bits rest l is);
      long = omega (arith, so.long, length-append so.low (l ∷ []));
      joined_so_far = taken
          ∙ (ap₂ (λ xs c. xs ++ c ∷ []) so.joined_so_far is_code
          ∙ (sym (joined_more k (take place high) so.low (get_or high place 0) l long_high)
          ∙ ap (λ hs. joined k hs (so.low ++ l ∷ [])) (sym high_taken)));
      left =
          let one : drop place codes ≡ get_or codes place 0 ∷ drop (suc place) codes = drop-cons codes place 0 within in
          let two : drop place high ≡ get_or high place 0 ∷ drop (suc place) high = drop-cons high place 0 more in
          let left : drop place codes ≡ drop place high = so.left in
          let rest : drop (suc place) codes ≡ drop (suc place) high = cc in
          let after : drop (suc place) (set codes place code) ≡ drop (suc place) codes = drop-set-lt (suc place) codes place code (omega arith) in
          rw add-one (after ∙ rest);
    }

pub ended_low : (k : ℕ) (start : List Bool) (high codes : List ℕ) (place : ℕ) (bits : List Bool) → LowSoFar k start high codes place bits
    → place < length high → front_number k bits ≡ Ended → front_list (front_number k) (length high) start ≡ Ended
ended_low k start high codes place bits so more is =
    let one_less : length high - place ≡ suc (length high - (place + 1)) = omega arith in
    so.agree ∙ (ap (λ n. before_list so.low (front_list (front_number k) n bits)) one_less
    ∙ none_found (front_number k) (length high - (place + 1)) so.low bits is)

pub done_low : (k : ℕ) (start : List Bool) (high codes : List ℕ) (place : ℕ) (bits : List Bool) → LowSoFar k start high codes place bits
    → length high ≤ place → length codes ≡ length high → LowFound k start high codes bits
done_low k start high codes place bits so all same =
    let none : length high - place ≡ 0 = omega arith in
    record {
      low = so.low;
      found = so.agree ∙ (ap (λ n. before_list so.low (front_list (front_number k) n bits)) none
          ∙ ap (λ xs. Found xs bits) (append-nil so.low));
      codes = sym (take_all place codes (omega (arith, same))) ∙ (so.joined_so_far ∙ ap (λ hs. joined k hs so.low) (take_all place high all));
    }
