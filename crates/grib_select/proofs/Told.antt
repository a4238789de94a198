-- Each field of a message with changes has the keys with their new values.
use Rattle.std.proofs.Common.{◌≡◌, ◌≢◌, ℕ, zero, suc, ◌+◌, ◌≤◌, ◌<◌, Bool, true, false, not, cond, ◌&&◌, ◌==◌, ◌⊎◌, Option, Some, None, is_none, nat_lt, List, [], ◌∷◌, length, take, get_or, inl, inr, refl, sym, ap, ◌∙◌, arith, subst, ne_eqb, ltb-true, take_at, length-take-le}
use Rattle.std.specs.Prelude.{All, AllPairs, option_map}
use Rattle.std.specs.List.{range_with_len}
use Rattle.std.proofs.lemmas.Bool.{cases_eq, eqb-false}
use Rattle.grib_base.proofs.Firsts.{none_later}
use Rattle.grib_base.specs.Rules.{choose}
use Rattle.grib_base.specs.declared.profile.Profile.{Profile}
use Rattle.grib2_message.specs.Fields.{field_count, field_sections, part_octets}
use Rattle.grib2_message.specs.Message.{IsMessageUnder, FieldPassesUnder}
use Rattle.grib2_message.proofs.Along.{octets_along}
use Rattle.grib2_message.proofs.Opened.{field_opened}
use Rattle.grib2_message.proofs.Parted.{message_least}
use Rattle.grib_keys.specs.declared.key.Key.{Key}
use Rattle.grib_keys.specs.declared.key.Key.TheVariants.{Discipline}
use Rattle.grib_keys.specs.declared.condition.Change.{Change}
use Rattle.grib_keys.specs.declared.condition.Value.{Value}
use Rattle.grib_keys.specs.declared.table.Octets.{Octets}
use Rattle.grib_keys.specs.Keys.{row_of, key_place}
use Rattle.grib_select.specs.declared.changing.SetFault.{SetFault}
use Rattle.grib_select.specs.declared.changing.SetFault.TheVariants.{KeyRange, KeyAbsent}
use Rattle.grib_select.specs.Values.{key_section, layout_of, value_at, value_in, key_value_of}
use Rattle.grib_select.specs.Changed.{new_number, with_changes, with_keys, first_without, change_fault, set_fault}
use Rattle.grib_select.proofs.Accepted.{field_up_to, sound_of, part_itself}
use Rattle.grib_select.proofs.Changes.{CanBeSet, IsReady, ready, changes_alike}
use Rattle.grib_select.proofs.Places.{shape_tells}
use Rattle.grib_select.proofs.Kept.{IsChanged, changed_number, changed_along}
use Rattle.grib_select.proofs.NewValues.{NoneOf, StandOnce, EachChange, HasOctets, all_have, value_told}
use Rattle.grib_select.proofs.Within.{part_keys, has_keys, head_within, and_first, and_second}

-- ---- what it says that no change is at fault

pub each_at : (P : Change → Type 0) (changes : List Change) → EachChange P changes → (k : ℕ) (d : Change) → k < length changes → P (get_or changes k d)
each_at P [] h k d low = absurd (omega arith)
each_at P (change ∷ changes) h zero d low = h.0
each_at P (change ∷ changes) h (suc k) d low = each_at P changes h.1 k d (omega arith)

no_fault : (m : List ℕ) (changes : List Change) → set_fault m changes ≡ None → EachChange (λ c. change_fault m c ≡ None) changes
no_fault m [] e = tt
no_fault m (change ∷ changes) e =
    let both = none_later (change_fault m change) (λ _. set_fault m changes) e in
    (both.0, no_fault m changes both.1)

none_there : (b : Bool) (fault : SetFault) (rest : Option SetFault) → cond b (Some fault) rest ≡ None → (b ≡ false) × (rest ≡ None)
none_there true fault rest e = absurd (cc)
none_there false fault rest e = (refl, e)

all_there : (m : List ℕ) (key : Key) (n a : ℕ) → first_without m key (range_with_len a n) ≡ None → (i : ℕ) → a ≤ i → i < a + n → is_none (key_value_of m i key) ≡ false
all_there m key zero a e i low high = absurd (omega arith)
all_there m key (suc n) a e i low high =
    let told = none_there (is_none (key_value_of m a key)) (KeyAbsent a key) (first_without m key (range_with_len (a + 1) n)) e in
    elim (cases_eq i a) [
      | inl same ↦ ap (λ (k : ℕ). is_none (key_value_of m k key)) same ∙ told.0
      | inr other ↦ all_there m key n (a + 1) told.1 i (omega arith) (omega arith)
    ]

pub record CanBeMade (m : List ℕ) (change : Change) : Type 0 where
  pub raw : ℕ
  pub number : new_number change ≡ Some raw
  pub there : (i : ℕ) → 1 ≤ i → i ≤ field_count m → is_none (key_value_of m i change.key) ≡ false

can_be_made : (m : List ℕ) (change : Change) → change_fault m change ≡ None → CanBeMade m change
can_be_made m change e = go (new_number change) refl e where
  go : (o : Option ℕ) → new_number change ≡ o
      → choose (is_none o) (λ _. Some (KeyRange change.key)) (λ _. first_without m change.key (range_with_len 1 (field_count m))) ≡ None → CanBeMade m change
  go None is none = absurd (cc)
  go (Some raw) is none = record { raw = raw; number = is; there = λ i low high. all_there m change.key (field_count m) 1 none i low (omega arith) }

-- ---- the keys that can be set stand once

none_of : (key : Key) (changes : List Change) → ((k : ℕ) (d : Change) → k < length changes → key ≢ (get_or changes k d).key) → NoneOf key changes
none_of key [] h = tt
none_of key (change ∷ changes) h = (h 0 change (omega arith), none_of key changes (λ k d low. h (suc k) d (omega arith)))

pub stand_once : (changes : List Change) → AllPairs (λ a b. a.key ≢ b.key) changes → StandOnce changes
stand_once [] h = tt
stand_once (change ∷ changes) h =
    (none_of change.key changes (λ k d low. h 0 (suc k) d (omega arith) (omega arith)), stand_once changes (λ i j d less low. h (suc i) (suc j) d (omega arith) (omega arith)))

-- the sections of the keys
section_small : (key : Key) → (nat_lt (row_of key).section 6 && not ((row_of key).section == 2)) ≡ true
section_small Discipline = refl
section_small key = refl

not_there : (b : Bool) → not b ≡ true → b ≡ false
not_there true e = sym e
not_there false e = refl

-- ---- a section of a field with its changes

pub record Changed (m : List ℕ) (changes : List Change) (i n : ℕ) : Type 0 where
  pub is : key_section (with_keys m changes) i n ≡ with_changes changes n (key_section m i n)
  pub ready : IsReady n (key_section m i n)

module _ (profile : Profile) (m : List ℕ) (changes : List Change) (h : IsMessageUnder profile m) (set : CanBeSet changes) (i : ℕ) (low : 1 ≤ i) (high : i ≤ field_count m) where
  passes : FieldPassesUnder profile m i
  passes =
      let up = field_up_to profile m i h low high in
      let sound = sound_of profile (field_sections m i) up.accepted in
      record {
        identification = sound.identification (omega (arith, up.ends));
        grid = sound.grid (omega (arith, up.ends));
        product = sound.product (omega (arith, up.ends));
        packing = sound.packing (omega (arith, up.ends));
        values = sound.values (omega (arith, up.ends));
      }

  in_head : Changed m changes i 0
  in_head =
      let s = take 16 m in
      let least = message_least profile m h in
      let keys = ready 0 s (has_keys 0 s (head_within s (omega (arith, length-take-le 16 m (omega arith)))) (λ e. omega (arith, e))) in
      let alike = changes_alike changes 0 s keys set in
      record {
        is = take_at (with_changes changes 0 s) _ 16 (alike.long ∙ length-take-le 16 m (omega arith));
        ready = keys;
      }

  as_part : (n : ℕ) (w : List ℕ) → n ≢ 0 → key_section w i n ≡ part_octets w i n
  as_part n w other = ap (λ (b : Bool). choose b (λ _. take 16 w) (λ _. part_octets w i n)) (ne_eqb n 0 other)

  in_part : (n : ℕ) → n ≢ 0 → n ≢ 2 → n ≤ 5 → Changed m changes i n
  in_part n not_0 not_2 few =
      let up = field_up_to profile m i h low high in
      let s = part_octets m i n in
      let w = with_keys m changes in
      let itself = part_itself profile n (field_sections m i) up.accepted (omega arith) (omega (arith, up.ends)) not_2 in
      let like = octets_along (IsChanged changes) (changed_number changes) n (λ xs ys. (ys ≡ with_changes changes n xs) ⊎ (xs ≡ [])) (inr refl)
      (λ x y f e. inl (f.is ∙ ap (λ (k : ℕ). with_changes changes k x.octets) e)) (field_sections m i) (field_sections w i) (changed_along profile m changes h set i) in
      let is : part_octets w i n ≡ with_changes changes n s = elim like [
        | inl e ↦ e
        | inr none ↦ (let long = ap length none in absurd (omega (arith, itself.least)))
      ] in
      record {
        is = as_part n w not_0 ∙ is ∙ ap (with_changes changes n) (sym (as_part n m not_0));
        ready = subst (λ (x : List ℕ). IsReady n x) (sym (as_part n m not_0)) (ready n s (part_keys m i n (field_opened profile m i passes) few not_2 not_0));
      }

  in_section : (key : Key) → Changed m changes i (row_of key).section
  in_section key =
      let n = (row_of key).section in
      let small : n < 6 = ltb-true n 6 (and_first (nat_lt n 6) (not (n == 2)) (section_small key)) in
      let not_2 : n ≢ 2 = eqb-false n 2 (not_there (n == 2) (and_second (nat_lt n 6) (not (n == 2)) (section_small key))) in
      elim (cases_eq n 0) [
        | inl e ↦ subst (λ (k : ℕ). Changed m changes i k) (sym e) in_head
        | inr not_0 ↦ in_part n not_0 not_2 (omega arith)
      ]

  -- the key has a place, since the field has it
  placed : (key : Key) (f : Octets → Value) (o : Option Octets) → is_none (option_map f o) ≡ false → (p : Octets) × (o ≡ Some p)
  placed key f None e = absurd (cc)
  placed key f (Some p) e = (p, refl)

  -- a change that can be made, with its octets
  one_told : (change : Change) → CanBeMade m change
      → HasOctets (row_of change.key).section (key_section m i (row_of change.key).section) (with_changes changes (row_of change.key).section (key_section m i (row_of change.key).section)) change
      → key_value_of (with_keys m changes) i change.key ≡ Some change.value
  one_told change made has =
      let key = change.key in
      let n = (row_of key).section in
      let s = key_section m i n in
      let t = with_changes changes n s in
      let c = in_section key in
      let alike = changes_alike changes n s c.ready set in
      let at = placed key (value_at (row_of key).kind s) (key_place key (layout_of n s)) (made.there i low high) in
      ap (value_in key) c.is
      ∙ value_told n s t change made.raw at.0 refl (alike.layout) at.1 (shape_tells key (layout_of n s) at.0 at.1) has made.number

  pub all_told : set_fault m changes ≡ None → StandOnce changes → All (λ c. key_value_of (with_keys m changes) i c.key ≡ Some c.value) changes
  all_told none once k d within =
      let change = get_or changes k d in
      let n = (row_of change.key).section in
      let s = key_section m i n in
      let c = in_section change.key in
      one_told change (can_be_made m change (each_at (λ c. change_fault m c ≡ None) changes (no_fault m changes none) k d within))
      (each_at (HasOctets n s (with_changes changes n s)) changes (all_have changes n s c.ready set once) k d within)
