-- Lemmas on a run that is followed from word to word.
use Rattle.std.proofs.Common.{◌≡◌, ◌≢◌, ◌⊎◌, ℕ, ◌+◌, ◌-◌, ◌*◌, ◌/◌, ◌%◌, ◌<◌, ◌≤◌, min, Bool, false, List, ◌++◌, length, take, drop, get_or, replicate, Some, slice_get, sym, ap, ◌∙◌, inl, inr, arith, append_assoc}
use Rattle.std.proofs.Math.Seq.{take-append-add}
use Rattle.std.proofs.lemmas.List.{length-drop, length-replicate, drop-append-le, drop-drop, drop_at, drop-take, get_or_append_left, get_or-drop, get_or-take, replicate-append-replicate}
use Rattle.std.proofs.lemmas.Option.{slice_get-get_or, get_or_from_slice_get, slice_get_within}
use Rattle.grib_bitmap.specs.Words.{word_bits, bits_of_words, HoldBits}
use Rattle.grib_bitmap.proofs.WordBits.{length-word_bits, length-bits_of_words, length-mask, drop_word}

module _ (words : List ℕ) (end word same : ℕ) (bit : Bool) (within : end / 64 < length words) (is_word : word ≡ get_or words (end / 64) 0) (short : end % 64 + same ≤ 64) where
  -- from the end of the run so far, as the word there has it
  from_word : (j : ℕ) → j ≤ 64 → drop (64 * (end / 64) + j) (bits_of_words words) ≡ drop j (word_bits word) ++ bits_of_words (drop (end / 64 + 1) words)
  from_word j le =
      sym (drop-drop j (64 * (end / 64)) (bits_of_words words))
      ∙ ap (drop j) (drop_word (end / 64) words within ∙ ap (λ (w : ℕ). word_bits w ++ bits_of_words (drop (end / 64 + 1) words)) (sym is_word))
      ∙ drop-append-le j (word_bits word) (bits_of_words (drop (end / 64 + 1) words)) (omega (arith, length-word_bits word))

  pub run_step : drop (end % 64) (word_bits word) ≡ replicate same bit ++ drop (end % 64 + same) (word_bits word)
      → drop end (bits_of_words words) ≡ replicate same bit ++ drop (end + same) (bits_of_words words)
  run_step here =
      let rest = bits_of_words (drop (end / 64 + 1) words) in
      let place : end ≡ 64 * (end / 64) + end % 64 = omega arith in
      let after : 64 * (end / 64) + (end % 64 + same) ≡ end + same = omega arith in
      ap (λ (n : ℕ). drop n (bits_of_words words)) place ∙ from_word (end % 64) (omega arith)
      ∙ ap (λ (xs : List Bool). xs ++ rest) here
      ∙ append_assoc (replicate same bit) (drop (end % 64 + same) (word_bits word)) rest
      ∙ ap (λ (xs : List Bool). replicate same bit ++ xs) (sym (from_word (end % 64 + same) short) ∙ ap (λ (n : ℕ). drop n (bits_of_words words)) after)

  pub run_stops : end % 64 + same < 64 → slice_get (word_bits word) (end % 64 + same) ≢ Some bit → slice_get (bits_of_words words) (end + same) ≢ Some bit
  run_stops inside other is =
      let bits = bits_of_words words in
      let rest = bits_of_words (drop (end / 64 + 1) words) in
      let j = end % 64 + same in
      let place : end + same ≡ 64 * (end / 64) + end % 64 + same = omega arith in
      let place' : 64 * (end / 64) + j + 0 ≡ end + same = omega arith in
      let here : get_or (word_bits word) j false ≡ bit =
      ap (λ (n : ℕ). get_or (word_bits word) n false) (let e : j ≡ j + 0 = omega arith in e)
      ∙ sym (get_or-drop j (word_bits word) 0 false)
      ∙ sym (get_or_append_left (drop j (word_bits word)) rest false 0 (omega (arith, length-drop j (word_bits word), length-word_bits word)))
      ∙ ap (λ (xs : List Bool). get_or xs 0 false) (sym (from_word j (omega arith)))
      ∙ get_or-drop (64 * (end / 64) + j) bits 0 false
      ∙ ap (λ (n : ℕ). get_or bits n false) place'
      ∙ get_or_from_slice_get bits (end + same) bit false is in
      other (slice_get-get_or (word_bits word) j false (omega (arith, length-word_bits word)) ∙ ap Some here)

-- a run that goes on
pub run_more : (bits : List Bool) (from end same : ℕ) (bit : Bool) → from ≤ end → drop from bits ≡ replicate (end - from) bit ++ drop end bits
    → drop end bits ≡ replicate same bit ++ drop (end + same) bits → drop from bits ≡ replicate (end + same - from) bit ++ drop (end + same) bits
run_more bits from end same bit begun before here =
    let long : (end - from) + same ≡ end + same - from = omega arith in
    before ∙ ap (λ (xs : List Bool). replicate (end - from) bit ++ xs) here
    ∙ sym (append_assoc (replicate (end - from) bit) (replicate same bit) (drop (end + same) bits))
    ∙ ap (λ (xs : List Bool). xs ++ drop (end + same) bits) (replicate-append-replicate (end - from) same bit ∙ ap (λ (n : ℕ). replicate n bit) long)

-- where a run ends: behind the last point, or before another bit
pub record Ended (bits : List Bool) (points from end : ℕ) (bit : Bool) : Type 0 where
  pub begun : from ≤ end
  pub same : drop from bits ≡ replicate (end - from) bit ++ drop end bits
  pub stop : (points ≤ end) ⊎ (slice_get bits end ≢ Some bit)

module _ (words : List ℕ) (points from end last : ℕ) (bit : Bool) (held : HoldBits words points) (within : from < points) (ended : Ended (bits_of_words words) points from end bit) (is_last : last ≡ min end points) where
  -- what the mask holds from a place on
  rest_of_mask : (n : ℕ) → n ≤ points → drop n (take points (bits_of_words words)) ≡ take (points - n) (drop n (bits_of_words words))
  rest_of_mask n le =
      let whole : n + (points - n) ≡ points = omega arith in
      ap (λ (k : ℕ). drop n (take k (bits_of_words words))) (sym whole) ∙ drop-take n (points - n) (bits_of_words words)

  pub mask_run : drop from (take points (bits_of_words words)) ≡ replicate (last - from) bit ++ drop (from + (last - from)) (take points (bits_of_words words))
  mask_run =
      let bits = bits_of_words words in
      let k = last - from in
      let begun = ended.begun in
      let rest = replicate (end - last) bit ++ drop end bits in
      let long : k + (end - last) ≡ end - from = omega arith in
      let whole : drop from bits ≡ replicate k bit ++ rest =
      ended.same ∙ ap (λ (xs : List Bool). xs ++ drop end bits) (ap (λ (n : ℕ). replicate n bit) (sym long) ∙ sym (replicate-append-replicate k (end - last) bit))
      ∙ append_assoc (replicate k bit) (replicate (end - last) bit) (drop end bits) in
      let place : from + k ≡ last = omega arith in
      let behind : rest ≡ drop last bits =
      sym (drop_at (replicate k bit) rest k (length-replicate k bit)) ∙ ap (drop k) (sym whole) ∙ drop-drop k from bits ∙ ap (λ (n : ℕ). drop n bits) place in
      let count : points - from ≡ length (replicate k bit) + (points - last) = omega (arith, length-replicate {A = Bool} k bit) in
      rest_of_mask from (omega arith)
      ∙ ap (take (points - from)) whole
      ∙ ap (λ (n : ℕ). take n (replicate k bit ++ rest)) count
      ∙ take-append-add (replicate k bit) rest (points - last)
      ∙ ap (λ (xs : List Bool). replicate k bit ++ xs)
      (ap (take (points - last)) behind ∙ sym (rest_of_mask last (omega arith)) ∙ ap (λ (n : ℕ). drop n (take points bits)) (sym place))

  pub mask_stops : slice_get (take points (bits_of_words words)) (from + (last - from)) ≢ Some bit
  mask_stops is =
      let bits = bits_of_words words in
      let begun = ended.begun in
      let inside : from + (last - from) < points = omega (arith, slice_get_within (take points bits) (from + (last - from)) bit is, length-mask words points held) in
      let at_end : from + (last - from) ≡ end = omega arith in
      let here : get_or bits end false ≡ bit =
      ap (λ (n : ℕ). get_or bits n false) (sym at_end)
      ∙ sym (get_or-take points bits (from + (last - from)) false inside)
      ∙ get_or_from_slice_get (take points bits) (from + (last - from)) bit false is in
      elim ended.stop [
        | inl past ↦ absurd (omega arith)
        | inr other ↦ other (slice_get-get_or bits end false (omega (arith, length-bits_of_words words, held.long)) ∙ ap Some here)
      ]

  pub last-le : from + (last - from) ≤ points
  last-le = let begun = ended.begun in omega arith
