-- Words of codes, once all points came.
use Rattle.std.proofs.Common.{◌≡◌, ℕ, ◌+◌, ◌-◌, ◌^◌, ◌<◌, ◌≤◌, ◌||◌, subst₂, Bool, true, false, cond, max, Some, None, nat_abs, nat_lt, ℤ, pos, negsuc, List, [], ◌∷◌, length, map, refl, sym, ap, ap₂, ◌∙◌, arith, lt-ltb, le-ltb, All}
use Rattle.std.specs.List.{list_any}
use Rattle.std.proofs.lemmas.List.Elements.{All-head, All-tail}
use Rattle.grib_base.specs.declared.code.Code.{Code}
use Rattle.grib_base.specs.declared.code.Code.TheVariants.{Present, Primary, Secondary}
use Rattle.grib_base.specs.Rules.{first_place}
use Rattle.grib_codes.specs.Words.{code_of, codes_of}
use Rattle.grib_bitmap.specs.Mask.{present_count}
use Rattle.grib_bitmap.proofs.Runs.{present_count-cons, all_present}
use Rattle.grib_codes.specs.Span.{IsTold}
use Rattle.grib_codes.specs.declared.point_words.PointWords.{PointWords}
use Rattle.grib_packing.specs.declared.column.Point.{Point}
use Rattle.grib_packing.specs.declared.column.Point.TheVariants.{Scaled, Missing, Missing2}
use Rattle.grib_packing.specs.Column.{points_with_mask}
use Rattle.grib_packing.specs.Misfits.{ToComplex, OutOfRange, first_misfit, is_missing, is_missing2, is_outside, is_scaled_outside, greatest_code, management_of}
use Rattle.grib_packing.specs.Packed.{target_codes}
use Rattle.grib_simple_reading.proofs.Masked.{with_mask_all}
use Rattle.std.proofs.lemmas.List.{length-map}
use Rattle.grib_codes.proofs.Worded.{either_way}
use Rattle.grib_codes.proofs.Reserved.{parts_false, management-few, number_small, plain_told, reserved_1, reserved_2}
use Rattle.grib_codes.specs.KeptWords.{AreWords, TellPoints, has_outside, word_for}
use Rattle.grib_simple_reading.proofs.Plain.{plain_point}

-- ---- what words stand for

number_stands : (k : ℕ) (x : ℤ) → k ≤ 2 → is_outside (greatest_code k) x ≡ false → code_of k (word_for (Scaled x)) ≡ Present (nat_abs x)
number_stands k (negsuc n) few inside = absurd (cc)
number_stands k (pos n) few inside =
    let small : n + k < 2 ^ 32 = number_small k (pos n) few inside in
    let fits : nat_lt (n + k) (2 ^ 32) ≡ true = lt-ltb (n + k) (2 ^ 32) small in
    let short : nat_lt (2 ^ 32 - 1) n ≡ false = le-ltb (2 ^ 32 - 1) n (omega arith) in
    let never : nat_lt n 0 ≡ false = le-ltb n 0 (omega arith) in
    rw (never, short) (rw fits refl)

primary_stands : (k : ℕ) → 1 ≤ k → code_of k (2 ^ 32 - 1) ≡ Primary
primary_stands k some =
    let above : nat_lt (2 ^ 32 - 1 + k) (2 ^ 32) ≡ false = le-ltb (2 ^ 32 - 1 + k) (2 ^ 32) (omega arith) in
    rw above refl

secondary_stands : (k : ℕ) → 2 ≤ k → code_of k (2 ^ 32 - 2) ≡ Secondary
secondary_stands k some =
    let above : nat_lt (2 ^ 32 - 2 + k) (2 ^ 32) ≡ false = le-ltb (2 ^ 32 - 2 + k) (2 ^ 32) (omega arith) in
    rw above refl

codes_stand : (k : ℕ) (points : List Point) → k ≤ 2 → (list_any is_missing points ≡ true → 1 ≤ k) → (list_any is_missing2 points ≡ true → 2 ≤ k)
    → list_any (is_scaled_outside (greatest_code k)) points ≡ false → codes_of k (map word_for points) ≡ target_codes ToComplex points
codes_stand k [] few one two inside = refl
codes_stand k (Scaled x ∷ points) few one two inside =
    let both = parts_false (is_outside (greatest_code k) x) (list_any (is_scaled_outside (greatest_code k)) points) inside in
    ap₂ (λ (c : Code) (cs : List Code). c ∷ cs) (number_stands k x few both.0) (codes_stand k points few one two both.1)
codes_stand k (Missing ∷ points) few one two inside =
    ap₂ (λ (c : Code) (cs : List Code). c ∷ cs) (primary_stands k (one refl)) (codes_stand k points few (λ e. one refl) two inside)
codes_stand k (Missing2 ∷ points) few one two inside =
    ap₂ (λ (c : Code) (cs : List Code). c ∷ cs) (secondary_stands k (two refl)) (codes_stand k points few one (λ e. two refl) inside)

-- words tell their points, unless a number has no code
pub outside_told : (points : List Point) (kept : PointWords) → AreWords points kept → nat_lt (greatest_code kept.management) kept.greatest ≡ has_outside points
outside_told points kept are =
    ap (λ (k : ℕ). nat_lt (greatest_code k) kept.greatest) are.management ∙ are.outside (management_of points) (management-few points)

pub told_points : (points : List Point) (kept : PointWords) (codes : List Code) → AreWords points kept → nat_lt (greatest_code kept.management) kept.greatest ≡ false
    → codes ≡ codes_of kept.management kept.words.items → TellPoints points kept.management codes
told_points points kept codes are fits is = record {
  few = omega (arith, are.management, management-few points);
  each = subst₂ (λ (j : ℕ) (cs : List Code). All (IsTold j) cs) (sym are.management) (sym stand) (plain_told points none);
  none = none;
  management = are.management;
  codes_are = stand;
} where
  inside : has_outside points ≡ false
  inside = sym (outside_told points kept are) ∙ fits

  none : first_misfit ToComplex points ≡ None
  none = ap (λ (b : Bool). cond b (Some (OutOfRange (first_place (is_scaled_outside (greatest_code (management_of points))) points))) None) inside

  stand : codes ≡ target_codes ToComplex points
  stand =
      is ∙ ap₂ codes_of are.management are.words
      ∙ codes_stand (management_of points) points (management-few points) (reserved_1 points) (reserved_2 points) inside

-- ---- points that a mask leaves out

any_masked : (test : Point → Bool) (mask : List Bool) (entries : List Point) → test Missing ≡ false → present_count mask ≡ length entries
    → list_any test (points_with_mask mask entries) ≡ list_any test entries
any_masked test [] [] none e = refl
any_masked test [] (x ∷ xs) none e = absurd (omega arith)
any_masked test (false ∷ mask) xs none e =
    ap (λ (b : Bool). b || list_any test (points_with_mask mask xs)) none ∙ any_masked test mask xs none (omega (arith, present_count-cons false mask))
any_masked test (true ∷ mask) [] none e = absurd (omega (arith, present_count-cons true mask))
any_masked test (true ∷ mask) (x ∷ xs) none e = ap (λ (b : Bool). test x || b) (any_masked test mask xs none (omega (arith, present_count-cons true mask)))

some_missing : (mask : List Bool) (entries : List Point) → present_count mask < length mask → list_any is_missing (points_with_mask mask entries) ≡ true
some_missing [] entries less = absurd (omega arith)
some_missing (false ∷ mask) entries less = refl
some_missing (true ∷ mask) [] less = refl
some_missing (true ∷ mask) (e ∷ entries) less =
    either_way (is_missing e) (list_any is_missing (points_with_mask mask entries)) (some_missing mask entries (omega (arith, present_count-cons true mask)))

-- the management, where a point is left out and where none is
masked_management : (mask : List Bool) (entries : List Point) → present_count mask ≡ length entries → present_count mask < length mask
    → max (management_of entries) 1 ≡ management_of (points_with_mask mask entries)
masked_management mask entries e less =
    go (list_any is_missing2 entries) (list_any is_missing entries)
    ∙ ap₂ (λ (a b : Bool). cond a 2 (cond b 1 0)) (sym (any_masked is_missing2 mask entries refl e)) (sym (some_missing mask entries less)) where
      go : (a b : Bool) → max (cond a 2 (cond b 1 0)) 1 ≡ cond a 2 (cond true 1 0)
      go true b = refl
      go false true = refl
      go false false = refl

pub present_few : (mask : List Bool) → present_count mask ≤ length mask
present_few [] = omega arith
present_few (false ∷ mask) = omega (arith, present_count-cons false mask, present_few mask)
present_few (true ∷ mask) = omega (arith, present_count-cons true mask, present_few mask)

pub whole_mask : (mask : List Bool) (entries : List Point) → present_count mask ≡ length entries → length mask ≤ present_count mask → points_with_mask mask entries ≡ entries
whole_mask mask entries e whole =
    let full : present_count mask ≡ length mask = omega (arith, present_few mask) in
    ap (λ (bs : List Bool). points_with_mask bs entries) (all_present mask full) ∙ with_mask_all (length mask) entries (omega arith)

-- the words of all points
pub masked_words : (mask : List Bool) (entries : List Point) (kept after : PointWords) → AreWords entries kept → present_count mask ≡ length kept.words.items → present_count mask < length mask
    → after.words.items ≡ map word_for (points_with_mask mask entries) → after.management ≡ max kept.management 1 → after.greatest ≡ kept.greatest
    → AreWords (points_with_mask mask entries) after
masked_words mask entries kept after are present less words management greatest =
    let taken : present_count mask ≡ length entries = present ∙ ap length are.words ∙ length-map entries word_for in
    record {
      words = words;
      management = management ∙ ap (λ (n : ℕ). max n 1) are.management ∙ masked_management mask entries taken less;
      outside = λ k few.
          let test = is_scaled_outside (greatest_code k) in
          ap (nat_lt (greatest_code k)) greatest ∙ are.outside k few ∙ sym (any_masked test mask entries refl taken);
    }

-- ---- numbers

small_inside : (k n : ℕ) → k ≤ 2 → n < 2 ^ 31 → is_outside (greatest_code k) (pos n) ≡ false
small_inside k n few small =
    let fits : nat_lt (greatest_code k) n ≡ false = le-ltb (greatest_code k) n (omega arith) in
    let never : nat_lt n 0 ≡ false = le-ltb n 0 (omega arith) in
    rw (never, fits) refl

-- the words of small numbers are these numbers, and no code is reserved
pub record NumbersAreWords (numbers : List ℕ) (points : List Point) : Type 0 where
  pub words : numbers ≡ map word_for points
  pub none : management_of points ≡ 0
  pub inside : (k : ℕ) → k ≤ 2 → list_any (is_scaled_outside (greatest_code k)) points ≡ false

pub numbers_are_words : (numbers : List ℕ) → All (λ n. n < 2 ^ 31) numbers → NumbersAreWords numbers (map plain_point numbers)
numbers_are_words numbers small = record { words = same numbers small; none = reserved numbers; inside = λ k few. within k few numbers small } where
  word : (n : ℕ) → n < 2 ^ 31 → n ≡ word_for (plain_point n)
  word n short =
      let fits : nat_lt (2 ^ 32 - 1) n ≡ false = le-ltb (2 ^ 32 - 1) n (omega arith) in
      let never : nat_lt n 0 ≡ false = le-ltb n 0 (omega arith) in
      rw (never, fits) refl

  same : (ns : List ℕ) → All (λ n. n < 2 ^ 31) ns → ns ≡ map word_for (map plain_point ns)
  same [] each = refl
  same (n ∷ ns) each =
      ap₂ (λ (w : ℕ) (ws : List ℕ). w ∷ ws) (word n (All-head (λ n. n < 2 ^ 31) n ns each)) (same ns (All-tail (λ n. n < 2 ^ 31) n ns each))

  none_2 : (ns : List ℕ) → list_any is_missing2 (map plain_point ns) ≡ false
  none_2 [] = refl
  none_2 (n ∷ ns) = none_2 ns

  none_1 : (ns : List ℕ) → list_any is_missing (map plain_point ns) ≡ false
  none_1 [] = refl
  none_1 (n ∷ ns) = none_1 ns

  reserved : (ns : List ℕ) → management_of (map plain_point ns) ≡ 0
  reserved ns = ap₂ (λ (a b : Bool). cond a 2 (cond b 1 0)) (none_2 ns) (none_1 ns)

  within : (k : ℕ) → k ≤ 2 → (ns : List ℕ) → All (λ n. n < 2 ^ 31) ns → list_any (is_scaled_outside (greatest_code k)) (map plain_point ns) ≡ false
  within k few [] each = refl
  within k few (n ∷ ns) each =
      ap₂ (λ (a b : Bool). a || b) (small_inside k n few (All-head (λ n. n < 2 ^ 31) n ns each)) (within k few ns (All-tail (λ n. n < 2 ^ 31) n ns each))
