-- A message with changes in Section 1 beside the message.
use Rattle.std.proofs.Common.{◌≡◌, ◌≢◌, ◌⊎◌, inl, inr, ℕ, ◌+◌, ◌-◌, ◌≤◌, ◌<◌, Bool, true, false, cond, nat_lt, Option, Some, None, option_map, unwrap_or, List, [], ◌∷◌, ◌++◌, length, take, drop, ℤ, pos, negsuc, ◌^◌, slice_index_or, IsTrue, refl, sym, ap, ◌∙◌, subst, arith, length-take-le, length-drop, take-append-drop, drop-drop, drop_at, take_all, ltb-true}
use Rattle.std.specs.Prelude.{All, find, is_none}
use Rattle.std.proofs.lemmas.Bool.{cases_lt}
use Rattle.std.proofs.lemmas.List.Elements.{All-head, All-tail}
use Rattle.grib_bits.specs.Octets.{num_on, octets, octet_list}
use Rattle.grib_bits.proofs.Encoding.{num_on-octets_of}
use Rattle.grib1_sections.specs.Acceptance.{identification}
use Rattle.grib_keys.specs.declared.key1.Key1.{Key1}
use Rattle.grib_keys.specs.declared.key1.Key1.TheVariants.{Version, DecimalScale}
use Rattle.grib1_sections.specs.Keys.{key1_of, number1_of}
use Rattle.grib_keys.specs.Keys1.{place_of, can_set1}
use Rattle.grib1_sections.specs.Message.{IsMessage1}
use Rattle.grib1_sections.proofs.Fronts.{accepted_parts}
use Rattle.grib1_sections.proofs.Joined.{message_sections_pass}
use Rattle.grib1_select.specs.declared.condition.Change1.{Change1}
use Rattle.grib1_select.specs.Changed.{octet_count, number_below, new_number1, with_key1, with_changes1, with_keys1, set_fault1}
use Rattle.grib1_select.proofs.Puts.{length-put, put-before, put-behind, list_behind, list_before}
use Rattle.grib1_select.proofs.Places.{place_is, apart}
use Rattle.grib1_select.proofs.Changes.{new_octets, length-with_key1, with_key1-here, length-with_changes1, stays, with_changes1-append}

-- ---- where Section 1 stands

pub record Opens (m : List ℕ) : Type 0 where
  pub long : 28 ≤ length (identification m)
  pub there : 8 + length (identification m) ≤ length m
  pub states : octets (identification m) 1 3 ≡ length (identification m)
  pub begins : drop 8 m ≡ identification m ++ drop (8 + length (identification m)) m

pub opens : (m : List ℕ) → IsMessage1 m → Opens m
opens m h =
    let p = accepted_parts m (length m) h.edition_stands h.accepted in
    let s = (message_sections_pass m h).identification_stands in
    let k = 9 - 1 + octets m 9 (9 + 2) + 1 - 9 in
    let long : length (identification m) ≡ k = length-take-le k (drop 8 m) (omega (arith, length-drop 8 m, p.first.there)) in
    record {
      long = s.long;
      there = omega (arith, long, p.first.there);
      states = s.length_stands;
      begins =
          sym (take-append-drop k (drop 8 m))
          ∙ ap (λ (xs : List ℕ). identification m ++ xs)
          (drop-drop k 8 m ∙ ap (λ (j : ℕ). drop j m) (let e : 8 + k ≡ 8 + length (identification m) = omega (arith, long) in e));
    }

-- ---- a number as it is set

-- a number that is below the limit
number_stands : (limit : ℕ) (value : ℤ) → is_none (number_below limit value) ≡ false
    → (pos (unwrap_or (number_below limit value) 0) ≡ value) × (unwrap_or (number_below limit value) 0 < limit)
number_stands limit (negsuc x) e = absurd (cc)
number_stands limit (pos x) e = by (nat_lt x limit) refl e
  where
    by : (b : Bool) → nat_lt x limit ≡ b → is_none (cond b (Some x) None) ≡ false
        → (pos (unwrap_or (cond (nat_lt x limit) (Some x) None) 0) ≡ pos x) × (unwrap_or (cond (nat_lt x limit) (Some x) None) 0 < limit)
    by true is none =
        let same : unwrap_or (cond (nat_lt x limit) (Some x) None) 0 ≡ x = ap (λ (b : Bool). unwrap_or (cond b (Some x) None) 0) is in
        (ap pos same, subst (λ (n : ℕ). n < limit) (sym same) (ltb-true x limit is))
    by false is none = absurd (cc)

none_by : (b : Bool) (c : Change1) (o : Option Change1) → option_map (λ change. change.key) (cond b (Some c) o) ≡ None
    → (b ≡ false) × (option_map (λ change. change.key) o ≡ None)
none_by true c o e = absurd (cc)
none_by false c o e = (refl, e)

-- each value fits where none is at fault
fits : (before : List Change1) (change : Change1) (behind : List Change1) → set_fault1 (before ++ change ∷ behind) ≡ None → is_none (new_number1 change) ≡ false
fits [] change behind e = (none_by (is_none (new_number1 change)) change (find (λ c. is_none (new_number1 c)) behind) e).0
fits (c ∷ before) change behind e =
    fits before change behind (none_by (is_none (new_number1 c)) c (find (λ d. is_none (new_number1 d)) (before ++ change ∷ behind)) e).1

-- what can be set has no sign
plain : (m : List ℕ) (key : Key1) → IsTrue (can_set1 key) → number1_of m key ≡ pos (key1_of m key)
plain m Version can = refl
plain m DecimalScale can = absurd (cc)
plain m key can = refl

can_one : (before : List Change1) (change : Change1) (behind : List Change1) → All (λ c. IsTrue (can_set1 c.key)) (before ++ change ∷ behind) → IsTrue (can_set1 change.key)
can_one [] change behind h = All-head (λ c. IsTrue (can_set1 c.key)) change behind h
can_one (c ∷ before) change behind h = can_one before change behind (All-tail (λ d. IsTrue (can_set1 d.key)) c (before ++ change ∷ behind) h)

-- ---- the whole message

module _ (m : List ℕ) (changes : List Change1) (h : Opens m) where
  s : List ℕ
  s = identification m

  pub new_long : length (with_changes1 changes (identification m)) ≡ length (identification m)
  new_long = length-with_changes1 changes (identification m) h.long

  whole_count : length (with_changes1 changes (identification m)) + 9 ≡ (8 + length (identification m)) + 1
  whole_count = omega (arith, new_long)

  pub length-with_keys1 : length (with_keys1 m changes) ≡ length m
  length-with_keys1 =
      length-put m 9 (8 + length (identification m)) (with_changes1 changes (identification m)) (omega arith) (omega (arith, h.long)) h.there whole_count

  pub front_stays : (a b : ℕ) → 1 ≤ a → a ≤ b → b ≤ 8 → octet_list (with_keys1 m changes) a b ≡ octet_list m a b
  front_stays a b low order before =
      put-before m 9 (8 + length (identification m)) (with_changes1 changes (identification m)) (omega arith) (omega (arith, h.long)) h.there whole_count a b low order
      (omega arith)

  pub rest_stays : (a b : ℕ) → 8 + length (identification m) < a → octet_list (with_keys1 m changes) a b ≡ octet_list m a b
  rest_stays a b behind =
      put-behind m 9 (8 + length (identification m)) (with_changes1 changes (identification m)) (omega arith) (omega (arith, h.long)) h.there whole_count a b behind

  pub new_begins : drop 8 (with_keys1 m changes) ≡ with_changes1 changes (identification m) ++ drop (8 + length (identification m)) m
  new_begins =
      drop_at (take 8 m) (with_changes1 changes (identification m) ++ drop (8 + length (identification m)) m) 8 (length-take-le 8 m (omega (arith, h.there)))

  pub inside : (a b : ℕ) → 1 ≤ a → a ≤ b → b ≤ length (identification m)
      → octet_list (with_keys1 m changes) (8 + a) (8 + b) ≡ octet_list (with_changes1 changes (identification m)) a b
  inside a b low order within =
      list_behind (with_keys1 m changes) 8 a b low
      ∙ ap (λ (xs : List ℕ). octet_list xs a b) new_begins
      ∙ list_before (with_changes1 changes (identification m)) (drop (8 + length (identification m)) m) a b low order (omega (arith, new_long))

  inside_before : (a b : ℕ) → 1 ≤ a → a ≤ b → b ≤ length (identification m) → octet_list m (8 + a) (8 + b) ≡ octet_list (identification m) a b
  inside_before a b low order within =
      list_behind m 8 a b low
      ∙ ap (λ (xs : List ℕ). octet_list xs a b) h.begins
      ∙ list_before (identification m) (drop (8 + length (identification m)) m) a b low order within

  -- the length that Section 1 states
  pub states_same : octet_list (with_changes1 changes (identification m)) 1 3 ≡ octet_list (identification m) 1 3
  states_same =
      stays changes (identification m) 1 3 h.long (omega arith) (omega arith)
      (λ k d lt. inl (omega (arith, (place_is (slice_index_or changes k d).key).low)))

  pub new_identification : identification (with_keys1 m changes) ≡ with_changes1 changes (identification m)
  new_identification =
      let t = with_changes1 changes (identification m) in
      let l = length (identification m) in
      let stated : octets (with_keys1 m changes) 9 11 ≡ l =
      ap (num_on 0) (inside 1 3 (omega arith) (omega arith) (omega (arith, h.long)) ∙ states_same) ∙ h.states in
      ap (λ (k : ℕ). octet_list (with_keys1 m changes) 9 (8 + k)) stated
      ∙ inside 1 l (omega arith) (omega (arith, h.long)) (omega arith)
      ∙ take_all (l + 1 - 1) t (omega (arith, new_long))

  -- ---- what is said of the numbers

  pub other_stays : (key : Key1) → All (λ c. c.key ≢ key) changes → key1_of (with_keys1 m changes) key ≡ key1_of m key
  other_stays key others =
      let p = place_is key in
      ap (λ (t : List ℕ). octets t (place_of key).first (place_of key).last) new_identification
      ∙ ap (num_on 0)
      (stays changes (identification m) (place_of key).first (place_of key).last h.long (omega (arith, p.low)) p.some
      (λ k d lt. apart key (slice_index_or changes k d).key (λ e. others k d lt (sym e))))

  octets_by : (q : ℕ) → 1 ≤ q → All (λ c. (q < 8 + (place_of c.key).first) ⊎ (8 + (place_of c.key).last < q)) changes
      → (8 < q) ⊎ (q ≤ 8) → (8 + length (identification m) < q) ⊎ (q ≤ 8 + length (identification m))
      → octets (with_keys1 m changes) q q ≡ octets m q q
  octets_by q low out (inr front) y = ap (num_on 0) (front_stays q q low (omega arith) front)
  octets_by q low out (inl x) (inl behind) = ap (num_on 0) (rest_stays q q behind)
  octets_by q low out (inl x) (inr within) =
      let a = q - 8 in
      let is : q ≡ 8 + a = omega arith in
      let Same : ℕ → Type 0 = λ n. octets (with_keys1 m changes) n n ≡ octets m n n in
      subst Same (sym is)
      (ap (num_on 0)
      (inside a a (omega arith) (omega arith) (omega arith)
      ∙ stays changes (identification m) a a h.long (omega arith) (omega arith) (λ k d lt. nearer a is (out k d lt))
      ∙ sym (inside_before a a (omega arith) (omega arith) (omega arith))))
    where
      nearer : (a : ℕ) → q ≡ 8 + a → {first last : ℕ} → (q < 8 + first) ⊎ (8 + last < q) → (a < first) ⊎ (last < a)
      nearer a is (inl before) = inl (omega arith)
      nearer a is (inr behind) = inr (omega arith)

  pub octets_stay : (q : ℕ) → 1 ≤ q → All (λ c. (q < 8 + (place_of c.key).first) ⊎ (8 + (place_of c.key).last < q)) changes
      → octets (with_keys1 m changes) q q ≡ octets m q q
  octets_stay q low out = octets_by q low out (cases_lt 8 q) (cases_lt (8 + length (identification m)) q)

pub last_stands : (m : List ℕ) (before : List Change1) (change : Change1) (behind : List Change1) → Opens m
    → All (λ c. IsTrue (can_set1 c.key)) (before ++ change ∷ behind) → set_fault1 (before ++ change ∷ behind) ≡ None
    → All (λ c. c.key ≢ change.key) behind → number1_of (with_keys1 m (before ++ change ∷ behind)) change.key ≡ change.value
last_stands m before change behind h can none others =
    let changes = before ++ change ∷ behind in
    let key = change.key in
    let first = (place_of key).first in
    let last = (place_of key).last in
    let p = place_is key in
    let n = octet_count key in
    let raw = unwrap_or (new_number1 change) 0 in
    let u = with_changes1 before (identification m) in
    let long_u : 28 ≤ length u = omega (arith, length-with_changes1 before (identification m) h.long, h.long) in
    let long_v : 28 ≤ length (with_key1 change u) = omega (arith, length-with_key1 change u long_u) in
    let stands = number_stands (256 ^ n) change.value (fits before change behind none) in
    let list : octet_list (with_changes1 changes (identification m)) first last ≡ new_octets change =
    ap (λ (t : List ℕ). octet_list t first last) (with_changes1-append before (change ∷ behind) (identification m))
    ∙ stays behind (with_key1 change u) first last long_v (omega (arith, p.low)) p.some (λ k d lt. apart key (slice_index_or behind k d).key (λ e. others k d lt (sym e)))
    ∙ with_key1-here change u long_u in
    plain (with_keys1 m changes) key (can_one before change behind can)
    ∙ ap (λ (t : List ℕ). pos (octets t first last)) (new_identification m changes h)
    ∙ ap (λ (xs : List ℕ). pos (num_on 0 xs)) list
    ∙ ap pos (num_on-octets_of n raw stands.1)
    ∙ stands.0
