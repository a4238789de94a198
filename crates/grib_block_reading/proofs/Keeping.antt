-- Numbers that are handed on one after another.
use Rattle.std.proofs.Common.{◌≡◌, ℕ, zero, suc, ◌+◌, ◌<◌, ◌≤◌, Bool, true, false, cond, List, [], ◌∷◌, ◌++◌, length, get_or, take, map, replicate, refl, sym, ap, subst, ◌∙◌, arith, append_assoc, add-one, Option, Some}
use Rattle.std.proofs.Math.Seq.{take-suc}
use Rattle.std.proofs.lemmas.Bool.Decides.{nat_tests}
use Rattle.std.proofs.lemmas.List.{length-append, map-append, length-map, length-take-le}
use Rattle.std.proofs.lemmas.List.Elements.{All-cons, All-nil, All-append}
use Rattle.grib_packing.specs.declared.column.Point.{Point}
use Rattle.grib_coding.specs.Mapped.{mapped}
use Rattle.grib_coding.specs.declared.coding.Coding.{Coding}
use Rattle.grib_coding.specs.Coding.{greatest, is_mapped}
use Rattle.grib_coding.specs.Numbers.{Told, Reference, Code, is_reference, told, told_after}
use Rattle.grib_block_reading.specs.Kept.{IsKept, StandsAt, point_of, reference_entries}

pub kept_none : {S : Type 0} (kept : S → List Point → S → Type 0) (none : (keeper : S) → kept keeper [] keeper) (c : Coding) (place last : ℕ) (keeper : S) → last ≤ greatest c
    → IsKept kept c place last [] keeper last keeper
kept_none kept none c place last keeper within =
    let here : place ≡ place + 0 = omega arith in
    record {
      numbers = [];
      within = All-nil (λ n. n ≤ greatest c);
      told = λ more. ap (λ p. told_after c p last more) here;
      last_within = within;
      passed = none keeper;
    }

pub kept_one : {S : Type 0} (kept : S → List Point → S → Type 0) (c : Coding) (place last number : ℕ) (entry : Told) (before after : S)
    → told c place last number ≡ entry → number ≤ greatest c → kept before (point_of number ∷ []) after
    → IsKept kept c place last (entry ∷ []) before number after
kept_one kept c place last number entry before after is within passed = record {
  numbers = number ∷ [];
  within = All-cons (λ n. n ≤ greatest c) number [] within (All-nil (λ n. n ≤ greatest c));
  told = λ more. ap (λ e. e ∷ told_after c (place + 1) number more) is;
  last_within = within;
  passed = passed;
}

pub kept_more : {S : Type 0} (kept : S → List Point → S → Type 0)
    (joined : (before between after : S) (points more_points : List Point) → kept before points between → kept between more_points after → kept before (points ++ more_points) after)
    (c : Coding) (place last middle end next : ℕ) (entries more : List Told) (before between after : S)
    → IsKept kept c place last entries before middle between → next ≡ place + length entries → IsKept kept c next middle more between end after
    → IsKept kept c place last (entries ++ more) before end after
kept_more kept joined c place last middle end next entries more before between after one is two =
    let place_then : next + length more ≡ place + length (entries ++ more) = omega (arith, is, length-append entries more) in
    record {
      numbers = one.numbers ++ two.numbers;
      within = All-append (λ n. n ≤ greatest c) one.numbers two.numbers one.within two.within;
      told = λ rest.
          ap (told_after c place last) (append_assoc one.numbers two.numbers rest)
          ∙ (one.told (two.numbers ++ rest)
          ∙ (ap (λ p. entries ++ told_after c p middle (two.numbers ++ rest)) (sym is)
          ∙ (ap (λ es. entries ++ es) (two.told rest)
          ∙ (sym (append_assoc entries more (told_after c (next + length more) end rest))
          ∙ ap (λ p. (entries ++ more) ++ told_after c p end rest) place_then))));
      last_within = two.last_within;
      passed = let P : List Point → Type 0 = λ points. kept before points after in
          subst P (sym (map-append point_of one.numbers two.numbers)) (joined before between after (map point_of one.numbers) (map point_of two.numbers) one.passed two.passed);
    }

-- what a code tells where no reference stands
pub told_code : (c : Coding) (place last number code : ℕ) → is_reference c place ≡ false → cond (is_mapped c) (mapped (greatest c) last number) number ≡ code
    → told c place last number ≡ Code code
told_code c place last number code none is =
    ap (λ b. cond b (Reference number) (Code (cond (is_mapped c) (mapped (greatest c) last number) number))) none ∙ ap Code is

pub told_reference : (c : Coding) (place last number : ℕ) → is_reference c place ≡ true → told c place last number ≡ Reference number
told_reference c place last number is =
    ap (λ b. cond b (Reference number) (Code (cond (is_mapped c) (mapped (greatest c) last number) number))) is

pub same_again : (most last : ℕ) → last ≤ most → mapped most last last ≡ 0
same_again most last within = grind (arith, nat_tests)

pub kept_reference : {S : Type 0} (kept : S → List Point → S → Type 0) (c : Coding) (place last number : ℕ) (reference : Option ℕ) (before after : S) → reference ≡ Some number
    → StandsAt c place reference → kept before (point_of number ∷ []) after → IsKept kept c place last (reference_entries reference) before number after
kept_reference {S} kept c place last number reference before after is stands passed =
    let P : Option ℕ → Type 0 = λ r. StandsAt c place r → IsKept kept c place last (reference_entries r) before number after in
    subst P (sym is) (λ st. kept_one kept c place last number (Reference number) before after (told_reference c place last number st.0) st.1 passed) stands

told_zero_by : (c : Coding) (place last number : ℕ) (b : Bool) → is_mapped c ≡ b → (b ≡ true → number ≡ last) → (b ≡ false → number ≡ 0) → last ≤ greatest c
    → cond (is_mapped c) (mapped (greatest c) last number) number ≡ 0
told_zero_by c place last number true is same zero_one within =
    ap (λ b. cond b (mapped (greatest c) last number) number) is ∙ (ap (mapped (greatest c) last) (same refl) ∙ same_again (greatest c) last within)
told_zero_by c place last number false is same zero_one within =
    ap (λ b. cond b (mapped (greatest c) last number) number) is ∙ zero_one refl

pub told_zero : (c : Coding) (place last number : ℕ) → is_reference c place ≡ false → (is_mapped c ≡ true → number ≡ last) → (is_mapped c ≡ false → number ≡ 0)
    → last ≤ greatest c → told c place last number ≡ Code 0
told_zero c place last number none same zero_one within =
    told_code c place last number 0 none (told_zero_by c place last number (is_mapped c) refl same zero_one within)

number_within_by : (c : Coding) (last number : ℕ) (b : Bool) → (b ≡ true → number ≡ last) → (b ≡ false → number ≡ 0) → last ≤ greatest c → number ≤ greatest c
number_within_by c last number true same zero_one within = omega (arith, same refl)
number_within_by c last number false same zero_one within = omega (arith, zero_one refl)

pub number_within : (c : Coding) (last number : ℕ) → (is_mapped c ≡ true → number ≡ last) → (is_mapped c ≡ false → number ≡ 0) → last ≤ greatest c → number ≤ greatest c
number_within c last number same zero_one within = number_within_by c last number (is_mapped c) same zero_one within

zeros_more : (n : ℕ) → replicate n (Code 0) ++ Code 0 ∷ [] ≡ replicate (suc n) (Code 0)
zeros_more zero = refl
zeros_more (suc n) = ap (λ es. Code 0 ∷ es) (zeros_more n)

length-zeros : (n : ℕ) → length (replicate n (Code 0)) ≡ n
length-zeros zero = refl
length-zeros (suc n) = ap suc (length-zeros n)

-- one zero more
pub zeros_next : {S : Type 0} (kept : S → List Point → S → Type 0)
    (joined : (before between after : S) (points more_points : List Point) → kept before points between → kept between more_points after → kept before (points ++ more_points) after)
    (c : Coding) (place first last number index : ℕ) (before between after : S)
    → IsKept kept c place first (replicate index (Code 0)) before last between → is_reference c (place + index) ≡ false
    → (is_mapped c ≡ true → number ≡ last) → (is_mapped c ≡ false → number ≡ 0) → kept between (point_of number ∷ []) after
    → IsKept kept c place first (replicate (index + 1) (Code 0)) before number after
zeros_next kept joined c place first last number index before between after so none same zero_one passed =
    let here : place + index ≡ place + length (replicate index (Code 0)) = omega (arith, length-zeros index) in
    let one : IsKept kept c (place + index) last (Code 0 ∷ []) between number after =
    kept_one kept c (place + index) last number (Code 0) between after (told_zero c (place + index) last number none same zero_one so.last_within)
    (number_within c last number same zero_one so.last_within) passed in
    let all : replicate index (Code 0) ++ Code 0 ∷ [] ≡ replicate (index + 1) (Code 0) = rw add-one (zeros_more index) in
    subst (λ (es : List Told). IsKept kept c place first es before number after) all
    (kept_more kept joined c place first last number (place + index) (replicate index (Code 0)) (Code 0 ∷ []) before between after so here one)

-- one code more
pub codes_next : {S : Type 0} (kept : S → List Point → S → Type 0)
    (joined : (before between after : S) (points more_points : List Point) → kept before points between → kept between more_points after → kept before (points ++ more_points) after)
    (c : Coding) (place first last number index : ℕ) (codes : List ℕ) (before between after : S)
    → IsKept kept c place first (map Code (take index codes)) before last between → index < length codes → is_reference c (place + index) ≡ false
    → cond (is_mapped c) (mapped (greatest c) last number) number ≡ get_or codes index 0 → number ≤ greatest c → kept between (point_of number ∷ []) after
    → IsKept kept c place first (map Code (take (index + 1) codes)) before number after
codes_next kept joined c place first last number index codes before between after so within none is small passed =
    let code = get_or codes index 0 in
    let long : length (map Code (take index codes)) ≡ index = length-map (take index codes) Code ∙ length-take-le index codes (omega arith) in
    let here : place + index ≡ place + length (map Code (take index codes)) = omega (arith, long) in
    let one : IsKept kept c (place + index) last (Code code ∷ []) between number after =
    kept_one kept c (place + index) last number (Code code) between after (told_code c (place + index) last number code none is) small passed in
    let taken : take (index + 1) codes ≡ take index codes ++ code ∷ [] = rw add-one (take-suc codes index 0 within) in
    let all : map Code (take index codes) ++ Code code ∷ [] ≡ map Code (take (index + 1) codes) =
    sym (map-append Code (take index codes) (code ∷ [])) ∙ ap (map Code) (sym taken) in
    subst (λ (es : List Told). IsKept kept c place first es before number after) all
    (kept_more kept joined c place first last number (place + index) (map Code (take index codes)) (Code code ∷ []) before between after so here one)
