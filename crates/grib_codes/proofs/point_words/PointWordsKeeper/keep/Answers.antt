use Rattle.std.proofs.Common.{◌≡◌, ℕ, ◌^◌, ◌-◌, ◌<◌, ◌≤◌, ◌||◌, inl, inr, Bool, true, false, cond, max, nat_lt, pos, negsuc, lt-ltb, le-ltb, List, [], ◌∷◌, ◌++◌, length, vec_len, vec_capacity, refl, sym, ap, ap₂, ◌∙◌, arith}
use Rattle.std.specs.List.{list_any}
use Rattle.std.proofs.Math.Nat.{le-max_left, le-max_right}
use Rattle.std.proofs.lemmas.Bool.{cases_lt}
use Rattle.std.proofs.lemmas.List.{map-append, length_push}
use Rattle.std.proofs.lemmas.List.Folds.{list_any-append}
use Rattle.grib_packing.specs.declared.column.Point.{Point}
use Rattle.grib_packing.specs.declared.column.Point.TheVariants.{Scaled, Missing, Missing2}
use Rattle.grib_packing.specs.Misfits.{greatest_code, is_missing, is_missing2, is_scaled_outside, management_of}
use Rattle.grib_codes.specs.declared.point_words.PointWords.{PointWords}
use Rattle.grib_codes.specs.KeptWords.{WordsKept, reach_of, word_for}
use Rattle.grib_codes.proofs.point_words.PointWordsKeeper.keep.Goals as goal

management_more : (seen : List Point) (point : Point) → max (management_of (point ∷ [])) (management_of seen) ≡ management_of (seen ++ point ∷ [])
management_more seen point =
    go (list_any is_missing2 seen) (list_any is_missing seen) (list_any is_missing2 (point ∷ [])) (list_any is_missing (point ∷ []))
    ∙ ap₂ (λ (a b : Bool). cond a 2 (cond b 1 0)) (sym (list_any-append is_missing2 seen (point ∷ []))) (sym (list_any-append is_missing seen (point ∷ []))) where
      go : (a b c d : Bool) → max (cond c 2 (cond d 1 0)) (cond a 2 (cond b 1 0)) ≡ cond (a || c) 2 (cond (b || d) 1 0)
      go true b true d = refl
      go true b false true = refl
      go true b false false = refl
      go false true true d = refl
      go false true false true = refl
      go false true false false = refl
      go false false true d = refl
      go false false false true = refl
      go false false false false = refl

or_none : (b : Bool) → b ≡ (b || false)
or_none true = refl
or_none false = refl

-- a greater number is found in either
lt-max : (m a b : ℕ) → nat_lt m (max a b) ≡ (nat_lt m a || nat_lt m b)
lt-max m a b = elim (cases_lt m a) [
  | inl above ↦ rw (lt-ltb m a above, lt-ltb m (max a b) (omega (arith, above, le-max_left a b))) refl
  | inr low ↦ elim (cases_lt m b) [
    | inl above ↦ rw (le-ltb m a low, lt-ltb m b above, lt-ltb m (max a b) (omega (arith, above, le-max_right a b))) refl
    | inr lower ↦ rw (le-ltb m a low, le-ltb m b lower, le-ltb m (max a b) (omega (arith, low, lower))) refl
  ]
]

reach_outside : (k : ℕ) (point : Point) → k ≤ 2 → nat_lt (greatest_code k) (reach_of point) ≡ is_scaled_outside (greatest_code k) point
reach_outside k (Scaled (pos n)) few =
    let never : nat_lt n 0 ≡ false = le-ltb n 0 (omega arith) in
    rw never refl
reach_outside k (Scaled (negsuc n)) few = lt-ltb (greatest_code k) (2 ^ 64 - 1) (omega arith)
reach_outside k Missing few = le-ltb (greatest_code k) 0 (omega arith)
reach_outside k Missing2 few = le-ltb (greatest_code k) 0 (omega arith)

-- one point more
module _ (before after : PointWords) (point : Point) (items : vec_len before.words < vec_capacity before.words → after.words.items ≡ before.words.items ++ word_for point ∷ []) where
  point_kept : vec_capacity before.words ≤ vec_capacity after.words → after.management ≡ max (management_of (point ∷ [])) before.management
      → after.greatest ≡ max before.greatest (reach_of point) → WordsKept before (point ∷ []) after
  point_kept memory management greatest = record {
    keeps = λ seen room are. record {
      words =
          items (omega arith) ∙ ap (λ (ws : List ℕ). ws ++ word_for point ∷ []) are.words
          ∙ sym (map-append word_for seen (point ∷ []));
      management = management ∙ ap (max (management_of (point ∷ []))) are.management ∙ management_more seen point;
      outside = λ k few.
          let test = is_scaled_outside (greatest_code k) in
          ap (nat_lt (greatest_code k)) greatest ∙ lt-max (greatest_code k) before.greatest (reach_of point)
          ∙ ap₂ (λ (a b : Bool). a || b) (are.outside k few) (reach_outside k point few ∙ or_none (test point)) ∙ sym (list_any-append test seen (point ∷ []));
    };
    grows = λ room. omega (arith, ap length (items (omega arith)), length_push before.words.items (word_for point), before.words.ok.0, after.words.ok.0);
    capacity = memory;
  }

pub returns : goal.returns
returns c =
    let before = c.args.self in
    let after : PointWords = record { words = c.push_in_room.new.items; management = c.max.result; greatest = c.max-2.result } in
    point_kept before after c.args.point (λ room. c.push_in_room.ensures.items room ∙ ap (λ (w : ℕ). before.words.items ++ w ∷ []) c.told-told.ensures.word) c.push_in_room.ensures.capacity
    (c.max.ensures ∙ ap (λ (n : ℕ). max n before.management) c.told-told.ensures.management) (c.max-2.ensures ∙ ap (max before.greatest) c.told-told.ensures.greatest)
