-- A message with changes is accepted, and each field keeps its column.
use Rattle.std.proofs.Common.{◌≡◌, ◌≢◌, ℕ, ◌+◌, ◌≤◌, Bool, true, false, cond, ◌==◌, ◌⊎◌, IsTrue, Some, None, List, [], ◌∷◌, ◌++◌, length, take, map, get_or, inl, inr, refl, sym, ap, ap₂, ◌∙◌, arith, subst, length-append, length-take-le, take-take}
use Rattle.std.specs.Prelude.{All}
use Rattle.std.specs.List.{concat}
use Rattle.std.proofs.lemmas.Bool.{cases_eq}
use Rattle.std.proofs.lemmas.List.Elements.{All-tail}
use Rattle.grib_base.specs.Rules.{first_fault, located}
use Rattle.grib_bitmap.specs.Mask.{bitmap_indicator, bitmap_rules, mask_of, own_mask}
use Rattle.grib_packing.specs.Packing.{value_count}
use Rattle.grib_packing.specs.Entries.{packing_fault_under, data_fault, column_from}
use Rattle.grib_base.specs.declared.profile.Profile.{Profile}
use Rattle.grib2_sections.specs.Frame.{Placed, placed_at, section_number, may_end}
use Rattle.grib2_sections.specs.Head.{end_mark}
use Rattle.grib2_grids.specs.Grid.{grid_points}
use Rattle.grib2_products.specs.Opaque.{product_rules_under}
use Rattle.grib2_message.specs.View.{last_number, octets_in_force, points_in_force, earlier_mask, mask_in_force, section_count}
use Rattle.grib2_message.specs.Acceptance.{section_fault_under, contents_faults, no_rules}
use Rattle.grib2_message.specs.Grammar.{IsSection, AreSections, GrammarUnder}
use Rattle.grib2_message.specs.Fields.{sections_of, field_count, field_sections, column_of}
use Rattle.grib2_message.specs.Message.{IsMessageUnder}
use Rattle.grib2_message.proofs.Along.{Along, MayReplace, replaces, last_along, count_along, octets_along, up_to_along}
use Rattle.grib2_message.proofs.Order.{follows_tells, in_range}
use Rattle.grib2_message.proofs.Parted.{Parted, message_parted, message_states, message_least, IsHead, joined_grammar}
use Rattle.grib2_message.proofs.Placing.{placed_from}
use Rattle.grib2_message.proofs.Sound.{fault_of, earlier_own, earlier_kept, earlier_not_own, mask_here, mask_kept}
use Rattle.grib2_message.proofs.Whole.{octets_of_front, sections_alone}
use Rattle.grib_keys.specs.declared.condition.Change.{Change}
use Rattle.grib_keys.specs.Keys.{can_set}
use Rattle.grib_select.specs.Changed.{with_changes, changed, with_keys}
use Rattle.grib_select.proofs.Composed.{message_in_grammar, message_most}
use Rattle.grib_select.proofs.Changes.{CanBeSet, changes_alike, unchanged, ready}
use Rattle.grib_select.proofs.Sections.{section_keys}
use Rattle.grib_select.proofs.Stand.{is_fixed, AreAlike, alike_octets, alike_identification, alike_grid_under, alike_product_under, points_3}
use Rattle.grib_select.proofs.Within.{has_keys, head_within}

-- the changes can be made
pub can_be_set : (changes : List Change) → All (λ c. IsTrue (can_set c.key)) changes → CanBeSet changes
can_be_set [] h = tt
can_be_set (change ∷ changes) h = (h 0 change (omega arith), can_be_set changes (All-tail (λ c. IsTrue (can_set c.key)) change changes h))

-- ---- a section with its changes beside the section

-- Sections 2, 5, 6 and 7
abbrev pub IsUntouched : ℕ → Type 0
IsUntouched n = (n ≡ 2) ⊎ ((n ≡ 5) ⊎ ((n ≡ 6) ⊎ (n ≡ 7)))

pub record Fits (s t : Placed) : Type 0 where
  pub numbered : section_number t.octets ≡ section_number s.octets
  pub alike : AreAlike (section_number s.octets) s.octets t.octets
  pub same : IsUntouched (section_number s.octets) → t.octets ≡ s.octets

pub fits_number : (s t : Placed) → Fits s t → section_number t.octets ≡ section_number s.octets
fits_number s t h = h.numbered

-- no key stands in the length and the number of a section
pub fixed_length : (n : ℕ) → is_fixed n 1 4 ≡ true
fixed_length n = go (n == 0) (n == 1) (n == 3) (n == 4) where
  go : (z f t q : Bool) → cond z true (cond f true (cond t true (cond q true true))) ≡ true
  go true f t q = refl
  go false true t q = refl
  go false false true q = refl
  go false false false true = refl
  go false false false false = refl

pub fixed_number : (n : ℕ) → is_fixed n 5 5 ≡ true
fixed_number n = go (n == 0) (n == 1) (n == 3) (n == 4) where
  go : (z f t q : Bool) → cond z true (cond f true (cond t true (cond q true true))) ≡ true
  go true f t q = refl
  go false true t q = refl
  go false false true q = refl
  go false false false true = refl
  go false false false false = refl

-- ---- what is in force

octets_same : (k : ℕ) → IsUntouched k → (before others : List Placed) → Along Fits before others → octets_in_force k others ≡ octets_in_force k before
octets_same k one before others h =
    octets_along Fits fits_number k (λ xs ys. ys ≡ xs) refl (λ s t f e. f.same (subst IsUntouched (sym e) one)) before others h

points_same : (before others : List Placed) → Along Fits before others → points_in_force others ≡ points_in_force before
points_same before others h =
    octets_along Fits fits_number 3 (λ xs ys. grid_points ys ≡ grid_points xs) refl
    (λ s t f e. points_3 s.octets t.octets (subst (λ (n : ℕ). AreAlike n s.octets t.octets) e f.alike)) before others h

record SameMasks (before others : List Placed) : Type 0 where
  pub earlier : earlier_mask others ≡ earlier_mask before
  pub mask : mask_in_force others ≡ mask_in_force before

masks_same : (before others : List Placed) → Along Fits before others → SameMasks before others
masks_same [] [] h = record { earlier = refl; mask = refl }
masks_same [] (t ∷ others) h = absurd h
masks_same (s ∷ before) [] h = absurd h
masks_same (s ∷ before) (t ∷ others) h =
    let rest = masks_same before others h.1 in
    let points = points_same before others h.1 in
    elim (cases_eq (section_number s.octets) 6) [
      | inl six ↦
          let same : t.octets ≡ s.octets = h.0.same (inr (inr (inl six))) in
          let also : section_number t.octets ≡ 6 = h.0.numbered ∙ six in
          record {
            earlier = elim (cases_eq (bitmap_indicator s.octets) 0) [
              | inl own ↦
                  earlier_own t others also (ap bitmap_indicator same ∙ own)
                  ∙ (λ i. Some (own_mask (same i) (points i)))
                  ∙ sym (earlier_own s before six own)
              | inr other ↦
                  earlier_not_own t others also (λ e. other (sym (ap bitmap_indicator same) ∙ e)) ∙ rest.earlier ∙ sym (earlier_not_own s before six other)
            ];
            mask = mask_here t others also ∙ (λ i. mask_of (same i) (points i) (rest.earlier i)) ∙ sym (mask_here s before six);
          }
      | inr other ↦
          let elsewhere : section_number t.octets ≢ 6 = λ e. other (sym h.0.numbered ∙ e) in
          record {
            earlier = earlier_kept t others elsewhere ∙ rest.earlier ∙ sym (earlier_kept s before other);
            mask = mask_kept t others elsewhere ∙ rest.mask ∙ sym (mask_kept s before other);
          }
    ]

-- ---- the rules of a section with its changes

module _ (profile : Profile) (before others : List Placed) (q : ℕ) (s t : List ℕ) (is : IsSection profile before q s) (along : Along Fits before others) (f : Fits (placed_at q s) (placed_at q t)) where
  as_number : (n : ℕ) → section_number s ≡ n → get_or (contents_faults profile) n no_rules before (placed_at q s) ≡ None
  as_number n e = sym (fault_of profile before (placed_at q s) n e) ∙ is.rules_hold

  like : (n : ℕ) → section_number s ≡ n → AreAlike n s t
  like n e = subst (λ (k : ℕ). AreAlike k s t) e f.alike

  rules_by : (n : ℕ) → section_number s ≡ n → get_or (contents_faults profile) n no_rules others (placed_at q t) ≡ get_or (contents_faults profile) n no_rules before (placed_at q s)
      → section_fault_under profile others (placed_at q t) ≡ None
  rules_by n e same = fault_of profile others (placed_at q t) n (f.numbered ∙ e) ∙ same ∙ as_number n e

  rows_of : (n : ℕ) → section_number s ≡ n → 1 ≤ n → n ≤ 7 → section_fault_under profile others (placed_at q t) ≡ None
  rows_of n e low high = elim (cases_eq n 1) [
    | inl one ↦ (let e' : section_number s ≡ 1 = e ∙ one in rules_by 1 e' (ap (λ rules. located q (first_fault rules)) (alike_identification s t (like 1 e'))))
    | inr not_1 ↦ elim (cases_eq n 2) [
      | inl two ↦ rules_by 2 (e ∙ two) refl
      | inr not_2 ↦ elim (cases_eq n 3) [
        | inl three ↦ (let e' : section_number s ≡ 3 = e ∙ three in rules_by 3 e' (ap (λ rules. located q (first_fault rules)) (alike_grid_under profile s t (like 3 e'))))
        | inr not_3 ↦ elim (cases_eq n 4) [
          | inl four ↦
              let e' : section_number s ≡ 4 = e ∙ four in
              rules_by 4 e' (ap (λ (k : ℕ). located q (first_fault (product_rules_under profile t (k + 1)))) (count_along Fits fits_number 4 before others along)
              ∙ ap (λ rules. located q (first_fault rules)) (alike_product_under profile s t (section_count 4 before + 1) (like 4 e')))
          | inr not_4 ↦ elim (cases_eq n 5) [
            | inl five ↦
                let e' : section_number s ≡ 5 = e ∙ five in
                let same : t ≡ s = f.same (inr (inl e')) in
                let points = points_same before others along in
                rules_by 5 e' (λ i. located q (packing_fault_under profile (same i) (points i)))
            | inr not_5 ↦ elim (cases_eq n 6) [
              | inl six ↦
                  let e' : section_number s ≡ 6 = e ∙ six in
                  let same : t ≡ s = f.same (inr (inr (inl e'))) in
                  let points = points_same before others along in
                  let five = octets_same 5 (inr (inl refl)) before others along in
                  let masks = masks_same before others along in
                  rules_by 6 e' (λ i. located q (first_fault (bitmap_rules (same i) (points i) (value_count (five i)) (masks.earlier i))))
              | inr not_6 ↦
                  let e' : section_number s ≡ 7 = e ∙ (let seven : n ≡ 7 = omega arith in seven) in
                  let same : t ≡ s = f.same (inr (inr (inr e'))) in
                  let five = octets_same 5 (inr (inl refl)) before others along in
                  rules_by 7 e' (λ i. located q (data_fault (five i) (same i)))
            ]
          ]
        ]
      ]
    ]
  ]

  may_replace : MayReplace profile others q s t
  may_replace =
      let n = section_number s in
      let range = in_range (last_number before) n (follows_tells (last_number before) n is.follows) in
      record {
        length_stands = alike_octets n 1 4 s t f.alike (omega arith) (omega arith) (fixed_length n) ∙ is.length_stands ∙ sym f.alike.long;
        least = omega (arith, is.least, f.alike.long);
        numbered = f.numbered;
        rules_hold = rows_of n refl range.0 range.1;
      }

-- a section with changes fits it
changed_fits : (profile : Profile) (changes : List Change) (before : List Placed) (q : ℕ) (s : List ℕ) → CanBeSet changes → IsSection profile before q s → Fits (placed_at q s) (placed_at q (changed changes s))
changed_fits profile changes before q s set is =
    let n = section_number s in
    let range = in_range (last_number before) n (follows_tells (last_number before) n is.follows) in
    let alike = changes_alike changes n s (ready n s (section_keys profile before (placed_at q s) n refl range.0 range.1 is.rules_hold)) set in
    record {
      numbered = alike_octets n 5 5 s (changed changes s) alike (omega arith) (omega arith) (fixed_number n);
      alike = alike;
      same = unchanged changes n s set;
    }

-- ---- all sections

pub record Rebuilt (profile : Profile) (changes : List Change) (others : List Placed) (q p : ℕ) (sections : List (List ℕ)) : Type 0 where
  pub follow : AreSections profile others p (map (changed changes) sections)
  pub along : Along Fits (placed_from q sections) (placed_from p (map (changed changes) sections))
  pub long : length (concat (map (changed changes) sections)) ≡ length (concat sections)

pub rebuilt : (profile : Profile) (changes : List Change) (sections : List (List ℕ)) (before others : List Placed) (q : ℕ) → CanBeSet changes → AreSections profile before q sections → Along Fits before others
    → Rebuilt profile changes others q q sections
rebuilt profile changes [] before others q set follow along = record { follow = ap may_end (last_along Fits fits_number before others along) ∙ follow; along = tt; long = refl }
rebuilt profile changes (s ∷ sections) before others q set follow along =
    let t = changed changes s in
    let f = changed_fits profile changes before q s set follow.0 in
    let rest = rebuilt profile changes sections (placed_at q s ∷ before) (placed_at q t ∷ others) (q + length s) set follow.1 (f, along) in
    let place : q + length s ≡ q + length t = ap (λ (n : ℕ). q + n) (sym f.alike.long) in
    let there = subst (λ (p : ℕ). Rebuilt profile changes (placed_at q t ∷ others) (q + length s) p sections) place rest in
    record {
      follow = (replaces profile before others q q s t (last_along Fits fits_number before others along) follow.0 (may_replace profile before others q s t follow.0 along f), there.follow);
      along = (f, there.along);
      long = length-append t (concat (map (changed changes) sections)) ∙ ap₂ (λ (m n : ℕ). m + n) f.alike.long rest.long ∙ sym (length-append s (concat sections));
    }

-- the places of the sections count nothing
changed_placed : (changes : List Change) (q : ℕ) (sections : List (List ℕ)) → map (λ p. changed changes p.octets) (placed_from q sections) ≡ map (changed changes) sections
changed_placed changes q [] = refl
changed_placed changes q (s ∷ sections) = ap (λ xs. changed changes s ∷ xs) (changed_placed changes (q + length s) sections)

-- a section with its changes
pub record IsChanged (changes : List Change) (s t : Placed) : Type 0 where
  pub numbered : section_number t.octets ≡ section_number s.octets
  pub is : t.octets ≡ changed changes s.octets

pub changed_number : (changes : List Change) (s t : Placed) → IsChanged changes s t → section_number t.octets ≡ section_number s.octets
changed_number changes s t h = h.numbered

changed_each : (changes : List Change) (q p : ℕ) (sections : List (List ℕ)) → Along Fits (placed_from q sections) (placed_from p (map (changed changes) sections))
    → Along (IsChanged changes) (placed_from q sections) (placed_from p (map (changed changes) sections))
changed_each changes q p [] h = tt
changed_each changes q p (s ∷ sections) h =
    (record { numbered = h.0.numbered; is = refl }, changed_each changes (q + length s) (p + length (changed changes s)) sections h.1)

-- ---- the message

module _ (profile : Profile) (m : List ℕ) (changes : List Change) (h : IsMessageUnder profile m) (set : CanBeSet changes) where
  old : Parted profile m [] 17 (length m)
  old = message_parted profile m h

  again : (p : Parted profile m [] 17 (length m)) → Rebuilt profile changes [] 17 17 p.sections
  again p = rebuilt profile changes p.sections [] [] 17 set p.follow tt

  head : IsHead (with_changes changes 0 (take 16 m)) (length m)
  head =
      let least = message_least profile m h in
      let s = take 16 m in
      let sixteen : length s ≡ 16 = length-take-le 16 m (omega arith) in
      let alike = changes_alike changes 0 s (ready 0 s (has_keys 0 s (head_within s (omega arith)) (λ e. omega (arith, e)))) set in
      let t = with_changes changes 0 s in
      record {
        as_long = alike.long ∙ sixteen;
        indicated = alike.fixed 1 4 (omega arith) (omega arith) refl ∙ take-take 4 16 m (omega arith) ∙ h.indicated;
        edition_stands = alike_octets 0 8 8 s t alike (omega arith) (omega arith) refl
            ∙ octets_of_front m 16 8 8 (omega arith) (omega arith) (omega arith) ∙ h.edition_stands;
        total_stands = alike_octets 0 9 16 s t alike (omega arith) (omega arith) refl
            ∙ octets_of_front m 16 9 16 (omega arith) (omega arith) (omega arith) ∙ message_states profile m h;
      }

  grammar : (p : Parted profile m [] 17 (length m)) → GrammarUnder profile (with_keys m changes) (map (changed changes) p.sections)
  grammar p =
      let r = again p in
      let first = with_changes changes 0 (take 16 m) in
      let total : 16 + length (concat (map (changed changes) p.sections)) + 4 ≡ length m = omega (arith, r.long, p.ends, message_states profile m h) in
      let is : with_keys m changes ≡ first ++ (concat (map (changed changes) p.sections) ++ end_mark) =
      ap (λ (xs : List (List ℕ)). first ++ (concat xs ++ end_mark))
      (ap (map (λ s. changed changes s.octets)) p.found ∙ changed_placed changes 17 p.sections) in
      subst (λ (x : List ℕ). GrammarUnder profile x (map (changed changes) p.sections)) (sym is)
      (joined_grammar profile first (map (changed changes) p.sections) (subst (λ (n : ℕ). IsHead first n) (sym total) head) (omega (arith, total, message_most profile m h)) r.follow)

  pub changed_accepted : IsMessageUnder profile (with_keys m changes)
  changed_accepted = message_in_grammar profile (with_keys m changes) (map (changed changes) old.sections) (grammar old)

  -- the sections of both go along one another
  pub sections_along : Along Fits (sections_of m) (sections_of (with_keys m changes))
  sections_along =
      let p = old in
      subst (λ (xs : List Placed). Along Fits xs (sections_of (with_keys m changes))) (sym p.found)
      (subst (λ (xs : List Placed). Along Fits (placed_from 17 p.sections) xs)
      (sym (sections_alone profile (with_keys m changes) (map (changed changes) p.sections) (grammar p))) (again p).along)

  pub changed_fields : field_count (with_keys m changes) ≡ field_count m
  changed_fields = count_along Fits fits_number 7 (sections_of m) (sections_of (with_keys m changes)) sections_along

  pub fields_along : (i : ℕ) → Along Fits (field_sections m i) (field_sections (with_keys m changes) i)
  fields_along i = up_to_along Fits fits_number i [] [] (sections_of m) (sections_of (with_keys m changes)) tt sections_along

  pub changed_column : (i : ℕ) → column_of (with_keys m changes) i ≡ column_of m i
  changed_column i =
      let along = fields_along i in
      let five = octets_same 5 (inr (inl refl)) (field_sections m i) (field_sections (with_keys m changes) i) along in
      let seven = octets_same 7 (inr (inr (inr refl))) (field_sections m i) (field_sections (with_keys m changes) i) along in
      let masks = masks_same (field_sections m i) (field_sections (with_keys m changes) i) along in
      λ j. column_from (five j) (masks.mask j) (seven j)

  -- each section is the one with its changes
  pub changed_along : (i : ℕ) → Along (IsChanged changes) (field_sections m i) (field_sections (with_keys m changes) i)
  changed_along i =
      let p = old in
      let both = changed_each changes 17 17 p.sections (again p).along in
      up_to_along (IsChanged changes) (changed_number changes) i [] [] (sections_of m) (sections_of (with_keys m changes)) tt
      (subst (λ (xs : List Placed). Along (IsChanged changes) xs (sections_of (with_keys m changes))) (sym p.found)
      (subst (λ (xs : List Placed). Along (IsChanged changes) (placed_from 17 p.sections) xs)
      (sym (sections_alone profile (with_keys m changes) (map (changed changes) p.sections) (grammar p))) both))
