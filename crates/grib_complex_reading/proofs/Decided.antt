-- Lemmas on the refusal of a Section 7 with groups, part by part, and on its entries.
use Rattle.std.proofs.Common.{◌≡◌, ℕ, true, false, cond, eqb, Option, Some, None, List, [], ◌∷◌, ◌++◌, length, map, ◌⊎◌, refl, sym, ap, ap₂, ◌∙◌, arith, ℤ, pos, inl, inr}
use Rattle.std.specs.List.{filter_map}
use Rattle.std.proofs.lemmas.Bool.{cond-true, cond-false, eq-eqb, ne_eqb}
use Rattle.grib_base.specs.declared.code.Code.{Code}
use Rattle.grib_base.specs.declared.code.Code.TheVariants.{Present, Primary, Secondary}
use Rattle.grib_base.specs.declared.fault.Fault.{Fault}
use Rattle.grib_base.specs.Rules.{Rule, first_fault, fault_at, located, or_then}
use Rattle.grib_packing.specs.declared.column.Point.TheVariants.{Scaled, Missing, Missing2}
use Rattle.grib_packing.specs.Complex.{layout_of, difference_order, extra_octets, descriptor_octets}
use Rattle.grib_packing.specs.Differences.{Descriptors, Last, NoNumber, One, Two, next_number, last_after, undone_from}
use Rattle.grib_packing.specs.Entries.{present_code, refilled, codes_of, descriptors, group_entries, first_value_rules, group_data_rules, range_rules, group_data_fault}
use Rattle.grib_packing.specs.Groups.{list_rules, group_rules}
use Rattle.grib_packing.specs.Packing.{packing_template, value_count}
use Rattle.grib_complex_reading.specs.Told.{Telling, Plainly, After, told}
use Rattle.grib_complex_reading.specs.Descriptors.{descriptors_by, telling_by, descriptor_at}

-- ---- rules after rules

first_fault-append : (xs ys : List Rule) → first_fault xs ≡ None → first_fault (xs ++ ys) ≡ first_fault ys
first_fault-append [] ys none = refl
first_fault-append (r ∷ xs) ys none =
    let rest = first_fault-append xs ys in
    elim r.fails as (λ b. cond b (Some r.fault) (first_fault xs) ≡ None → cond b (Some r.fault) (first_fault (xs ++ ys)) ≡ first_fault ys) [
      | true ↦ λ h. absurd (cc)
      | false ↦ λ h. rest h
    ] none

first_fault-front : (xs ys : List Rule) (f : Fault) → first_fault xs ≡ Some f → first_fault (xs ++ ys) ≡ Some f
first_fault-front [] ys f some = absurd (cc)
first_fault-front (r ∷ xs) ys f some =
    let rest = first_fault-front xs ys f in
    elim r.fails as (λ b. cond b (Some r.fault) (first_fault xs) ≡ Some f → cond b (Some r.fault) (first_fault (xs ++ ys)) ≡ Some f) [
      | true ↦ λ h. h
      | false ↦ λ h. rest h
    ] some

none_located : (start : ℕ) (o : Option Fault) → located start o ≡ None → o ≡ None
none_located start None none = refl
none_located start (Some f) none = absurd (cc)

module _ (s5 s7 : List ℕ) (start : ℕ) where
  -- rule S7.2 fails
  pub fault_of_lists : (f : Fault) → first_fault (list_rules (layout_of s5) (length s7) (descriptor_octets s5)) ≡ Some f → located start (group_data_fault s5 s7) ≡ Some (fault_at start f)
  fault_of_lists f fails =
      ap (λ (l : Option Fault). located start (or_then (or_then l (λ _. group_data_rules s5 s7)) (λ _. range_rules s5 s7))) fails

module _ (s5 s7 : List ℕ) (start : ℕ) (lists : first_fault (list_rules (layout_of s5) (length s7) (descriptor_octets s5)) ≡ None) where
  -- what is left where rule S7.2 holds
  pub after_lists : group_data_fault s5 s7 ≡ or_then (first_fault (group_data_rules s5 s7)) (λ _. range_rules s5 s7)
  after_lists = ap (λ (l : Option Fault). or_then (or_then l (λ _. group_data_rules s5 s7)) (λ _. range_rules s5 s7)) lists

module _ (s5 s7 : List ℕ) (start : ℕ) (lists : first_fault (list_rules (layout_of s5) (length s7) (descriptor_octets s5)) ≡ None) where
  -- rule S7.3 fails
  pub fault_of_signs : (f : Fault) → first_fault (first_value_rules s5 s7) ≡ Some f → located start (group_data_fault s5 s7) ≡ Some (fault_at start f)
  fault_of_signs f fails =
      ap (located start) (after_lists s5 s7 start lists)
      ∙ ap (λ (o : Option Fault). located start (or_then o (λ _. range_rules s5 s7))) (first_fault-front (first_value_rules s5 s7) (group_rules (layout_of s5) s7 (descriptor_octets s5) (value_count s5)) f fails)

module _ (s5 s7 : List ℕ) (start : ℕ) (lists : first_fault (list_rules (layout_of s5) (length s7) (descriptor_octets s5)) ≡ None) (signs : first_fault (first_value_rules s5 s7) ≡ None) where
  after_signs : group_data_fault s5 s7 ≡ or_then (first_fault (group_rules (layout_of s5) s7 (descriptor_octets s5) (value_count s5))) (λ _. range_rules s5 s7)
  after_signs =
      after_lists s5 s7 start lists
      ∙ ap (λ (o : Option Fault). or_then o (λ _. range_rules s5 s7)) (first_fault-append (first_value_rules s5 s7) (group_rules (layout_of s5) s7 (descriptor_octets s5) (value_count s5)) signs)

module _ (s5 s7 : List ℕ) (start : ℕ) (lists : first_fault (list_rules (layout_of s5) (length s7) (descriptor_octets s5)) ≡ None) (signs : first_fault (first_value_rules s5 s7) ≡ None) where
  -- one of rules S7.4 to S7.6 fails
  pub fault_of_groups : (f : Fault) → located start (first_fault (group_rules (layout_of s5) s7 (descriptor_octets s5) (value_count s5))) ≡ Some f
      → located start (group_data_fault s5 s7) ≡ Some f
  fault_of_groups f fails =
      ap (located start) (after_signs s5 s7 start lists signs) ∙ go (first_fault (group_rules (layout_of s5) s7 (descriptor_octets s5) (value_count s5))) fails where
        go : (o : Option Fault) → located start o ≡ Some f → located start (or_then o (λ _. range_rules s5 s7)) ≡ Some f
        go None h = absurd (cc)
        go (Some g) h = h

  -- only rule S7.7 is left
  pub after_groups : located start (first_fault (group_rules (layout_of s5) s7 (descriptor_octets s5) (value_count s5))) ≡ None → group_data_fault s5 s7 ≡ first_fault (range_rules s5 s7)
  after_groups none =
      after_signs s5 s7 start lists signs
      ∙ ap (λ (o : Option Fault). or_then o (λ _. range_rules s5 s7)) (none_located start (first_fault (group_rules (layout_of s5) s7 (descriptor_octets s5) (value_count s5))) none)

-- ---- the points that codes tell are the entries

told-plainly : (codes : List Code) → told Plainly codes ≡ refilled codes (map pos (filter_map present_code codes))
told-plainly [] = refl
told-plainly (Present n ∷ codes) = ap (λ ps. Scaled (pos n) ∷ ps) (told-plainly codes)
told-plainly (Primary ∷ codes) = ap (λ ps. Missing ∷ ps) (told-plainly codes)
told-plainly (Secondary ∷ codes) = ap (λ ps. Missing2 ∷ ps) (told-plainly codes)

told-after : (d : Descriptors) (last : Last) (codes : List Code) → told (After d last) codes ≡ refilled codes (undone_from d last (filter_map present_code codes))
told-after d last [] = refl
told-after d last (Present n ∷ codes) =
    let number = next_number d last n in
    ap (λ ps. Scaled number ∷ ps) (told-after d (last_after d last number) codes)
told-after d last (Primary ∷ codes) = ap (λ ps. Missing ∷ ps) (told-after d last codes)
told-after d last (Secondary ∷ codes) = ap (λ ps. Missing2 ∷ ps) (told-after d last codes)

-- order 1 has no second first value
module _ (d : Descriptors) (second : ℤ) (one : d.order ≡ 1) where
  same_next : (last : Last) (n : ℕ) → next_number d last n ≡ next_number (record d { second = second }) last n
  same_next NoNumber n = refl
  same_next (One x) n =
      let first = eq-eqb d.order 1 one in
      cond-true (eqb d.order 1) _ d.second first ∙ sym (cond-true (eqb d.order 1) _ second first)
  same_next (Two x y) n = refl

  same_last : (last : Last) (x : ℤ) → last_after d last x ≡ last_after (record d { second = second }) last x
  same_last NoNumber x = refl
  same_last (One y) x = refl
  same_last (Two y z) x = refl

module _ (d : Descriptors) (second : ℤ) (one : d.order ≡ 1) where
  told-second : (last : Last) (codes : List Code) → told (After d last) codes ≡ told (After (record d { second = second }) last) codes
  told-second last [] = refl
  told-second last (Present n ∷ codes) =
      let other = record d { second = second } in
      let number = same_next d second one last n in
      ap₂ (λ (x : ℤ) ps. Scaled x ∷ ps) number
      (told-second (last_after d last (next_number d last n)) codes
      ∙ ap (λ (l : Last). told (After other l) codes) (same_last d second one last (next_number d last n) ∙ ap (last_after other last) number))
  told-second last (Primary ∷ codes) = ap (λ ps. Missing ∷ ps) (told-second last codes)
  told-second last (Secondary ∷ codes) = ap (λ ps. Missing2 ∷ ps) (told-second last codes)

module _ (s5 s7 : List ℕ) (order extra : ℕ) (is_order : order ≡ difference_order s5) (is_extra : extra ≡ extra_octets s5) where
  -- template 5.2
  pub entries-plain : packing_template s5 ≡ 2 → order ≡ 0 → told (telling_by order extra s7) (codes_of s5 s7) ≡ group_entries s5 s7
  entries-plain two none =
      let codes = codes_of s5 s7 in
      let present = filter_map present_code codes in
      ap (λ (t : Telling). told t codes) (cond-true (eqb order 0) Plainly (After (descriptors_by order extra s7) NoNumber) (eq-eqb order 0 none))
      ∙ told-plainly codes
      ∙ ap (refilled codes) (sym (ap (λ (t : ℕ). cond (eqb t 3) (undone_from (descriptors s5 s7) NoNumber present) (map pos present)) two))

  -- what the codes of template 5.3 are read with
  descriptors-full : record (descriptors_by order extra s7) { second = pos (descriptor_at extra s7 1) } ≡ descriptors s5 s7
  descriptors-full =
      ap₂ (λ (o e : ℕ). record (descriptors_by o e s7) { second = pos (descriptor_at e s7 1) }) is_order is_extra

module _ (s5 s7 : List ℕ) (order extra : ℕ) (is_order : order ≡ difference_order s5) (is_extra : extra ≡ extra_octets s5) where
  -- template 5.3
  pub entries-differences : packing_template s5 ≡ 3 → (order ≡ 1) ⊎ (order ≡ 2) → told (telling_by order extra s7) (codes_of s5 s7) ≡ group_entries s5 s7
  entries-differences three orders =
      let codes = codes_of s5 s7 in
      let present = filter_map present_code codes in
      let by = descriptors_by order extra s7 in
      let second = pos (descriptor_at extra s7 1) in
      let some : order ≡ 0 → ⊥ = λ none. elim orders [ inl one ↦ absurd (omega arith) | inr two ↦ absurd (omega arith) ] in
      let full : told (After by NoNumber) codes ≡ told (After (record by { second = second }) NoNumber) codes = elim orders [
        | inl one ↦ told-second by second one NoNumber codes
        | inr two ↦
            ap (λ (x : ℤ). told (After (record by { second = x }) NoNumber) codes) (cond-true (eqb order 2) second (pos 0) (eq-eqb order 2 two))
      ] in
      ap (λ (t : Telling). told t codes) (cond-false (eqb order 0) Plainly (After by NoNumber) (ne_eqb order 0 some))
      ∙ full
      ∙ ap (λ (d : Descriptors). told (After d NoNumber) codes) (descriptors-full s5 s7 order extra is_order is_extra)
      ∙ told-after (descriptors s5 s7) NoNumber codes
      ∙ ap (refilled codes) (sym (ap (λ (t : ℕ). cond (eqb t 3) (undone_from (descriptors s5 s7) NoNumber present) (map pos present)) three))
