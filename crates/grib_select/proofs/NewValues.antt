-- The keys that were set have their new values.
use Rattle.std.proofs.Common.{◌≡◌, ◌≢◌, ℕ, suc, ◌+◌, ◌-◌, ◌*◌, ◌^◌, ◌≤◌, ◌<◌, Bool, true, false, cond, ◌&&◌, nat_lt, Option, Some, None, unwrap_or, List, [], ◌∷◌, length, inl, inr, refl, sym, ap, ap₂, ◌∙◌, arith, ℤ, pos, negsuc, neg_ℤ, add-one, eq-eqb, ltb-true, pow-suc}
use Rattle.std.proofs.lemmas.Bool.{cases_eq}
use Rattle.grib_bits.specs.Bits.{bits, bits_of, signed}
use Rattle.grib_bits.specs.Octets.{octets, octet_list, num_on, signed_octets}
use Rattle.grib_bits.proofs.Signs.{signed-clear, signed-set}
use Rattle.grib_bits.specs.Encoding.{octets_of}
use Rattle.grib_bits.proofs.Encoding.{length-octets_of, num_on-octets_of, bits-octets_of, pow_256}
use Rattle.grib_keys.specs.declared.key.Key.{Key}
use Rattle.grib_keys.specs.declared.condition.Value.{Value}
use Rattle.grib_keys.specs.declared.condition.Value.TheVariants.{Number, Missing}
use Rattle.grib_keys.specs.declared.condition.Change.{Change}
use Rattle.grib_keys.specs.declared.table.Octets.{Octets}
use Rattle.grib_keys.specs.declared.table.Kind.{Kind}
use Rattle.grib_keys.specs.Keys.{row_of, key_place, can_set}
use Rattle.std.specs.Prelude.{option_map}
use Rattle.grib_select.specs.Values.{layout_of, octet_count, is_all_ones, value_at, value_in}
use Rattle.grib_select.specs.Changed.{signed_number, unsigned_number, number_of, unless_missing, number_for, new_number, put_number, with_key, with_changes}
use Rattle.grib_select.proofs.Changes.{CanBeSet, IsReady, ready_stays, key_alike, with_key_here, with_key_other}
use Rattle.grib_select.proofs.Places.{HasShape}
use Rattle.grib_select.proofs.Lanes.{places_apart}
use Rattle.grib_select.proofs.Numbers.{some_octets}
use Rattle.grib_select.proofs.Puts.{put-before, put-behind, put-here}

-- ---- the octets of a key

-- no change is one of the key
abbrev pub NoneOf : Key → List Change → Type 0
NoneOf key [] = Unit {0}
NoneOf key (change ∷ changes) = (key ≢ change.key) × NoneOf key changes

-- each key stands once
abbrev pub StandOnce : List Change → Type 0
StandOnce [] = Unit {0}
StandOnce (change ∷ changes) = NoneOf change.key changes × StandOnce changes

module _ (n : ℕ) (key : Key) (set : can_set key ≡ true) (section : (row_of key).section ≡ n) where
  -- a change at the place of another key
  other_place : (s : List ℕ) (p : Octets) (change : Change) (o : Option Octets) → IsReady n s → key_place key (layout_of n s) ≡ Some p → key ≢ change.key
      → can_set change.key ≡ true → (row_of change.key).section ≡ n → key_place change.key (layout_of n s) ≡ o
      → octet_list (put_number change s o) p.first p.last ≡ octet_list s p.first p.last
  other_place s p change None r here differ also sec there = refl
  other_place s p change (Some q) r here differ also sec there =
      let mine = r.within key p section here in
      let its = r.within change.key q sec there in
      let xs : List ℕ = octets_of (octet_count q) (unwrap_or (new_number change) 0) in
      let long : length xs ≡ octet_count q = length-octets_of (octet_count q) (unwrap_or (new_number change) 0) in
      elim (places_apart (layout_of n s) key change.key p q differ set also (section ∙ sym sec) here there) [
        | inl before ↦ put-before s q.first xs its.low (omega (arith, its.high, its.some, its.low)) p.first p.last mine.low mine.some before
        | inr behind ↦ put-behind s q.first xs its.low (omega (arith, its.high, its.some, its.low)) p.first p.last (omega (arith, its.some, its.low))
      ]

  one_keeps : (s : List ℕ) (p : Octets) (change : Change) → IsReady n s → key_place key (layout_of n s) ≡ Some p → key ≢ change.key → can_set change.key ≡ true
      → octet_list (with_key change n s) p.first p.last ≡ octet_list s p.first p.last
  one_keeps s p change r here differ also = elim (cases_eq (row_of change.key).section n) [
    | inl sec ↦
        ap (λ (t : List ℕ). octet_list t p.first p.last) (with_key_here change n s sec)
        ∙ other_place s p change (key_place change.key (layout_of n s)) r here differ also sec refl
    | inr other ↦ ap (λ (t : List ℕ). octet_list t p.first p.last) (with_key_other change n s other)
  ]

  -- changes of other keys leave them
  others_keep : (changes : List Change) (s : List ℕ) (p : Octets) → IsReady n s → key_place key (layout_of n s) ≡ Some p → NoneOf key changes → CanBeSet changes
      → octet_list (with_changes changes n s) p.first p.last ≡ octet_list s p.first p.last
  others_keep [] s p r here none also = refl
  others_keep (change ∷ changes) s p r here none also =
      let alike = key_alike n s change r also.0 in
      let t = with_key change n s in
      others_keep changes t p (ready_stays n s t alike r) (ap (key_place key) (alike.layout) ∙ here) none.1 also.1
      ∙ one_keeps s p change r here none.0 also.0

-- the change of the key itself
own_place : (n : ℕ) (s : List ℕ) (p : Octets) (change : Change) → IsReady n s → (row_of change.key).section ≡ n → key_place change.key (layout_of n s) ≡ Some p
    → octet_list (with_key change n s) p.first p.last ≡ octets_of (octet_count p) (unwrap_or (new_number change) 0)
own_place n s p change r section here =
    let its = r.within change.key p section here in
    let xs : List ℕ = octets_of (octet_count p) (unwrap_or (new_number change) 0) in
    let long : length xs ≡ octet_count p = length-octets_of (octet_count p) (unwrap_or (new_number change) 0) in
    ap (λ (t : List ℕ). octet_list t p.first p.last) (with_key_here change n s section ∙ ap (put_number change s) here)
    ∙ put-here s p.first xs its.low (omega (arith, its.high, its.some, its.low)) p.last (omega (arith, its.some, its.low))

-- what is so of each change
abbrev pub EachChange : (Change → Type 0) → List Change → Type 0
EachChange P [] = Unit {0}
EachChange P (change ∷ changes) = P change × EachChange P changes

-- the key of a change has its new octets in a section
abbrev pub HasOctets : ℕ → List ℕ → List ℕ → Change → Type 0
HasOctets n s t change =
    (p : Octets) → (row_of change.key).section ≡ n → key_place change.key (layout_of n s) ≡ Some p
    → octet_list t p.first p.last ≡ octets_of (octet_count p) (unwrap_or (new_number change) 0)

each_like : (n : ℕ) (s t u : List ℕ) (changes : List Change) → layout_of n t ≡ layout_of n s → EachChange (HasOctets n t u) changes → EachChange (HasOctets n s u) changes
each_like n s t u [] same h = tt
each_like n s t u (change ∷ changes) same h =
    (λ p section here. h.0 p section (ap (key_place change.key) same ∙ here), each_like n s t u changes same h.1)

pub all_have : (changes : List Change) (n : ℕ) (s : List ℕ) → IsReady n s → CanBeSet changes → StandOnce changes → EachChange (HasOctets n s (with_changes changes n s)) changes
all_have [] n s r set once = tt
all_have (change ∷ changes) n s r set once =
    let alike = key_alike n s change r set.0 in
    let t = with_key change n s in
    let ready = ready_stays n s t alike r in (
      λ p section here.
          others_keep n change.key set.0 section changes t p ready (ap (key_place change.key) (alike.layout) ∙ here) once.0 set.1
          ∙ own_place n s p change r section here,
      each_like n s t (with_changes changes n t) changes (alike.layout) (all_have changes n t ready set.1 once.1),
    )

-- ---- the value of such octets
signed_pos : (k raw m : ℕ) → raw ≡ m → m < 2 ^ k → signed (bits_of (suc k) raw) ≡ pos m
signed_pos k raw m is low = ap (λ (r : ℕ). signed (bits_of (suc k) r)) is ∙ signed-clear k m low

signed_neg : (k raw m : ℕ) → raw ≡ 2 ^ k + (m + 1) → m + 1 < 2 ^ k → signed (bits_of (suc k) raw) ≡ negsuc m
signed_neg k raw m is low =
    ap (λ (r : ℕ). signed (bits_of (suc k) r)) is ∙ signed-set k (m + 1) low ∙ ap (λ (j : ℕ). neg_ℤ (pos j)) (add-one m)

some_if : (b : Bool) (x y : ℕ) → cond b (Some x) None ≡ Some y → (b ≡ true) × (y ≡ x)
some_if true x y e = (refl, cc)
some_if false x y e = absurd (cc)

unsigned_back : (n : ℕ) (x : ℤ) (raw : ℕ) → unsigned_number n x ≡ Some raw → (raw < 256 ^ n) × (pos raw ≡ x)
unsigned_back n (pos m) raw e =
    let told = some_if (nat_lt m (256 ^ n)) m raw e in
    let low : m < 256 ^ n = ltb-true m (256 ^ n) told.0 in
    (omega (arith, told.1), ap pos told.1)
unsigned_back n (negsuc m) raw e = absurd (cc)

-- half of 256 to the n
half : (n : ℕ) → 1 ≤ n → 256 ^ n ≡ 2 ^ (8 * n - 1) * 2
half n some =
    let width : 8 * n ≡ suc (8 * n - 1) = omega arith in
    pow_256 n ∙ ap (λ (w : ℕ). 2 ^ w) width ∙ pow-suc 2 (8 * n - 1)

signed_back : (n : ℕ) (x : ℤ) (raw : ℕ) → 1 ≤ n → signed_number n x ≡ Some raw → (raw < 256 ^ n) × (signed (bits_of (8 * n) raw) ≡ x)
signed_back n (pos m) raw some e =
    let told = some_if (nat_lt m (2 ^ (8 * n - 1))) m raw e in
    let low : m < 2 ^ (8 * n - 1) = ltb-true m (2 ^ (8 * n - 1)) told.0 in
    let width : 8 * n ≡ suc (8 * n - 1) = omega arith in
    (omega (arith, half n some, told.1), ap (λ (w : ℕ). signed (bits_of w raw)) width ∙ signed_pos (8 * n - 1) raw m told.1 low)
signed_back n (negsuc m) raw some e =
    let told = some_if (nat_lt (m + 1) (2 ^ (8 * n - 1))) (2 ^ (8 * n - 1) + (m + 1)) raw e in
    let low : m + 1 < 2 ^ (8 * n - 1) = ltb-true (m + 1) (2 ^ (8 * n - 1)) told.0 in
    let width : 8 * n ≡ suc (8 * n - 1) = omega arith in
    (omega (arith, half n some, told.1), ap (λ (w : ℕ). signed (bits_of w raw)) width ∙ signed_neg (8 * n - 1) raw m told.1 low)

-- a number that is not all ones where it may be missing
present_back : (may : Bool) (n : ℕ) (o : Option ℕ) (raw : ℕ) → unless_missing may n o ≡ Some raw → (o ≡ Some raw) × ((may && is_all_ones n raw) ≡ false)
present_back may n None raw e = absurd (cc)
present_back may n (Some x) raw e = go (may && is_all_ones n x) refl e where
  go : (b : Bool) → (may && is_all_ones n x) ≡ b → cond b None (Some x) ≡ Some raw → (Some x ≡ Some raw) × ((may && is_all_ones n raw) ≡ false)
  go true is same = absurd (cc)
  go false is same = (same, (let e' : raw ≡ x = cc in ap (λ (r : ℕ). may && is_all_ones n r) e' ∙ is))

-- octets that make the number for a value have this value
module _ (kind : Kind) (t : List ℕ) (p : Octets) (raw : ℕ) (some : 1 ≤ octet_count p) (is : octet_list t p.first p.last ≡ octets_of (octet_count p) raw) where
  number_is : raw < 256 ^ octet_count p → octets t p.first p.last ≡ raw
  number_is low = ap (num_on 0) is ∙ num_on-octets_of (octet_count p) raw low

  signed_is : signed_octets t p.first p.last ≡ signed (bits_of (8 * octet_count p) raw)
  signed_is = ap (λ (xs : List ℕ). signed (bits xs)) is ∙ ap signed (bits-octets_of (octet_count p) raw)

  plain : (x : ℤ) (b : Bool) → kind.is_signed ≡ b → number_of kind.is_signed (octet_count p) x ≡ Some raw → (kind.may_be_missing && is_all_ones (octet_count p) raw) ≡ false
      → value_at kind t p ≡ Number x
  plain x true sign e present =
      let n = octet_count p in
      let told = signed_back n x raw some (sym (ap (λ (c : Bool). cond c (signed_number n x) (unsigned_number n x)) sign) ∙ e) in
      ap₂ (λ (b d : Bool). cond b Missing (Number (cond d (signed_octets t p.first p.last) (pos (octets t p.first p.last)))))
      (ap (λ (k : ℕ). kind.may_be_missing && is_all_ones n k) (number_is told.0) ∙ present) sign
      ∙ ap Number (signed_is ∙ told.1)
  plain x false sign e present =
      let n = octet_count p in
      let told = unsigned_back n x raw (sym (ap (λ (c : Bool). cond c (signed_number n x) (unsigned_number n x)) sign) ∙ e) in
      ap₂ (λ (b d : Bool). cond b Missing (Number (cond d (signed_octets t p.first p.last) (pos (octets t p.first p.last)))))
      (ap (λ (k : ℕ). kind.may_be_missing && is_all_ones n k) (number_is told.0) ∙ present) sign
      ∙ ap Number (ap pos (number_is told.0) ∙ told.1)

  pub value_back : (value : Value) → number_for kind (octet_count p) value ≡ Some raw → value_at kind t p ≡ value
  value_back (Number x) e =
      let n = octet_count p in
      let present = present_back kind.may_be_missing n (number_of kind.is_signed n x) raw e in
      plain x kind.is_signed refl present.0 present.1
  value_back Missing e =
      let n = octet_count p in
      let told = some_if kind.may_be_missing (256 ^ n - 1) raw e in
      let low : raw < 256 ^ n = omega (arith, told.1, some_octets n) in
      let ones : is_all_ones n raw ≡ true = eq-eqb (raw + 1) (256 ^ n) (omega (arith, told.1, some_octets n)) in
      let number = number_is low in
      ap₂ (λ (b c : Bool). cond (b && c) Missing (Number (cond kind.is_signed (signed_octets t p.first p.last) (pos (octets t p.first p.last)))))
      told.0 (ap (is_all_ones n) number ∙ ones)

-- a key that was set has its value in a section
pub value_told : (n : ℕ) (s t : List ℕ) (change : Change) (raw : ℕ) (p : Octets) → (row_of change.key).section ≡ n → layout_of n t ≡ layout_of n s
    → key_place change.key (layout_of n s) ≡ Some p → HasShape change.key (layout_of n s) p → HasOctets n s t change → new_number change ≡ Some raw
    → value_in change.key t ≡ Some change.value
value_told n s t change raw p section template here shape has new =
    let kind = (row_of change.key).kind in
    let number : unwrap_or (new_number change) 0 ≡ raw = ap (λ (o : Option ℕ). unwrap_or o 0) new in
    let octets_are = has p section here ∙ ap (octets_of (octet_count p)) number in
    let there : key_place change.key (layout_of (row_of change.key).section t) ≡ Some p =
    ap (λ (k : ℕ). key_place change.key (layout_of k t)) section ∙ ap (key_place change.key) template ∙ here in
    let new_here : number_for kind (octet_count p) change.value ≡ Some raw = ap (λ (k : ℕ). number_for kind k change.value) shape.count ∙ new in
    ap (option_map (value_at kind t)) there
    ∙ ap Some (value_back kind t p raw (omega (arith, shape.some)) octets_are change.value new_here)
