-- The first field with an opaque packing.
use Rattle.std.proofs.Common.{◌≡◌, ℕ, zero, suc, ◌+◌, ◌<◌, ◌≤◌, Bool, true, false, cond, Some, None, List, find, refl, sym, ap, ◌∙◌, arith, inl, inr}
use Rattle.std.specs.List.{range_with_len}
use Rattle.std.proofs.lemmas.Bool.{cases_Bool, cases_lt}
use Rattle.grib_packing.specs.Entries.{is_opaque_packing}
use Rattle.grib2_message.specs.Fields.{field_count, part_octets}
use Rattle.grib2_message.specs.Message.{IsReadable, first_opaque}

module _ (test : ℕ → Bool) where
  -- none of n numbers from i on passes the test
  find_none : (n i : ℕ) → ((k : ℕ) → i ≤ k → k < i + n → test k ≡ false) → find test (range_with_len i n) ≡ None
  find_none zero i none = refl
  find_none (suc n) i none =
      ap (λ (b : Bool). cond b (Some i) (find test (range_with_len (i + 1) n))) (none i (omega arith) (omega arith))
      ∙ find_none n (i + 1) (λ k low high. none k (omega arith) (omega arith))

  -- the first that does
  find_first : (d n i : ℕ) → d < n → ((k : ℕ) → i ≤ k → k < i + d → test k ≡ false) → test (i + d) ≡ true → find test (range_with_len i n) ≡ Some (i + d)
  find_first d zero i within none is = absurd (omega (arith, within))
  find_first zero (suc n) i within none is =
      let at : i + 0 ≡ i = omega arith in
      ap (λ (b : Bool). cond b (Some i) (find test (range_with_len (i + 1) n))) (ap test (sym at) ∙ is) ∙ ap Some (sym at)
  find_first (suc d) (suc n) i within none is =
      let same : i + 1 + d ≡ i + suc d = omega arith in
      ap (λ (b : Bool). cond b (Some i) (find test (range_with_len (i + 1) n))) (none i (omega arith) (omega arith))
      ∙ (find_first d n (i + 1) (omega (arith, within)) (λ k low high. none k (omega arith) (omega arith)) (ap test same ∙ is) ∙ ap Some same)

  -- where none is found none passes
  none_found : (n i : ℕ) → find test (range_with_len i n) ≡ None → (k : ℕ) → i ≤ k → k < i + n → test k ≡ false
  none_found zero i e k low high = absurd (omega (arith, low, high))
  none_found (suc n) i e k low high =
      elim (cases_Bool (test i)) [
        | inl passed ↦
            let found : Some i ≡ None = sym (ap (λ (b : Bool). cond b (Some i) (find test (range_with_len (i + 1) n))) passed) ∙ e in
            absurd (cc)
        | inr failed ↦
            let later : find test (range_with_len (i + 1) n) ≡ None = sym (ap (λ (b : Bool). cond b (Some i) (find test (range_with_len (i + 1) n))) failed) ∙ e in
            elim (cases_lt i k) [
              | inl less ↦ none_found n (i + 1) later k (omega (arith, less)) (omega (arith, high))
              | inr more ↦ (let same : i ≡ k = omega (arith, low, more) in ap test (sym same) ∙ failed)
            ]
      ]

pub opaque_none : (message : List ℕ) → IsReadable message → first_opaque message ≡ None
opaque_none message readable =
    find_none (λ i. is_opaque_packing (part_octets message i 5)) (field_count message) 1 (λ k low high. readable k low (omega (arith, high)))

pub none_opaque : (message : List ℕ) → first_opaque message ≡ None → IsReadable message
none_opaque message none i low high =
    none_found (λ i. is_opaque_packing (part_octets message i 5)) (field_count message) 1 none i low (omega (arith, high))

pub opaque_first : (message : List ℕ) (d : ℕ) → d < field_count message → ((i : ℕ) → 1 ≤ i → i ≤ d → is_opaque_packing (part_octets message i 5) ≡ false)
    → is_opaque_packing (part_octets message (d + 1) 5) ≡ true → first_opaque message ≡ Some (d + 1)
opaque_first message d within none is =
    let same : 1 + d ≡ d + 1 = omega arith in
    find_first (λ i. is_opaque_packing (part_octets message i 5)) d (field_count message) 1 within
    (λ k low high. none k low (omega (arith, high))) (ap (λ (i : ℕ). is_opaque_packing (part_octets message i 5)) same ∙ is)
    ∙ ap Some same
