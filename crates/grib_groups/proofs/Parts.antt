-- The parts of groups, written one after another.
use Rattle.std.proofs.Common.{◌≡◌, ℕ, suc, ◌+◌, ◌-◌, ◌<◌, ◌≤◌, Bool, List, [], ◌∷◌, ◌++◌, length, take, drop, get_or, map, sum, All, refl, sym, ap, ◌∙◌, subst, arith, append_assoc, drop-cons, ap₂}
use Rattle.std.proofs.lemmas.List.{length-append, length-drop, drop_all}
use Rattle.std.proofs.lemmas.List.Sums.{sum_by-cons}
use Rattle.std.proofs.lemmas.List.Elements.{All-head, All-tail, All-take, All-drop}
use Rattle.grib_bits.proofs.Numbers.{length-bits_of}
use Rattle.grib_bits.specs.Bits.{bits_of}
use Rattle.grib_bits.specs.Written.{Written}
use Rattle.grib_base.specs.declared.code.Code.{Code}
use Rattle.grib_packing.specs.Groupings.{IsGrouping, joined, runs, length_bits, width_of, reference_bits_of, width_bits_of}
use Rattle.grib_codes.specs.Span.{IsBelow, IsTold}
use Rattle.grib_packing.specs.Packed.{fields, padded, reference_of, group_fields, group_parts}
use Rattle.grib_packing.proofs.Left.{Left, left_more, left_room, padded-more}

pub four_parts : (o a b c d w x y z : List Bool) → a ≡ o ++ w → b ≡ a ++ x → c ≡ b ++ y → d ≡ c ++ z → d ≡ o ++ (((w ++ x) ++ y) ++ z)
four_parts o a b c d w x y z e1 e2 e3 e4 =
    e4 ∙ ap (λ xs. xs ++ z) (e3 ∙ ap (λ xs. xs ++ y) (e2 ∙ ap (λ xs. xs ++ x) e1)) ∙ simp append_assoc

pub length-four : (w x y z : List Bool) → length (((w ++ x) ++ y) ++ z) ≡ length w + length x + length y + length z
length-four w x y z = omega (arith, length-append ((w ++ x) ++ y) z, length-append (w ++ x) y, length-append w x)

-- the parts, by the numbers of the layout
pub parts-are : (k j b w : ℕ) (codes : List Code) (lengths : List ℕ) → j ≡ k → b ≡ reference_bits_of k codes → w ≡ width_bits_of k codes
    → group_parts k codes lengths
    ≡ ((padded (fields b (map (reference_of b) (runs lengths codes)))
    ++ padded (fields w (map (width_of j) (runs lengths codes))))
    ++ padded (fields length_bits (map (λ l. l - 1) lengths))) ++ padded (joined (map (group_fields j b) (runs lengths codes)))
parts-are k j b w codes lengths ej eb ew = rw (ej, eb, ew) refl

pub length-parts : (k j b w : ℕ) (codes : List Code) (lengths : List ℕ) → j ≡ k → b ≡ reference_bits_of k codes → w ≡ width_bits_of k codes
    → length (group_parts k codes lengths)
    ≡ length (padded (fields b (map (reference_of b) (runs lengths codes))))
    + length (padded (fields w (map (width_of j) (runs lengths codes))))
    + length (padded (fields length_bits (map (λ l. l - 1) lengths)))
    + length (padded (joined (map (group_fields j b) (runs lengths codes))))
length-parts k j b w codes lengths ej eb ew =
    ap length (parts-are k j b w codes lengths ej eb ew)
    ∙ length-four (padded (fields b (map (reference_of b) (runs lengths codes)))) (padded (fields w (map (width_of j) (runs lengths codes)))) (padded (fields length_bits (map (λ l. l - 1) lengths))) (padded (joined (map (group_fields j b) (runs lengths codes))))

-- ---- the next group

pub drop-next : (lengths : List ℕ) (i : ℕ) → i < length lengths → drop i lengths ≡ get_or lengths i 0 ∷ drop (i + 1) lengths
drop-next lengths i within = let next : suc i ≡ i + 1 = omega arith in drop-cons lengths i 0 within ∙ ap (λ (k : ℕ). get_or lengths i 0 ∷ drop k lengths) next

pub sum-more : (l : ℕ) (rest : List ℕ) → sum (l ∷ rest) ≡ l + sum rest
sum-more l rest = sum_by-cons (λ x. x) l rest

module _ (lengths : List ℕ) (i : ℕ) (within : i < length lengths) where
  grouping-split : (n : ℕ) → IsGrouping n (drop i lengths) → IsGrouping n (get_or lengths i 0 ∷ drop (i + 1) lengths)
  grouping-split n g = subst (IsGrouping n) (drop-next lengths i within) g

  pub grouping-within : (n : ℕ) → IsGrouping n (drop i lengths) → get_or lengths i 0 ≤ n
  grouping-within n g = omega (arith, (grouping-split n g).total, sum-more (get_or lengths i 0) (drop (i + 1) lengths))

  pub grouping-next : (rest after : List Code) → after ≡ drop (get_or lengths i 0) rest → IsGrouping (length rest) (drop i lengths)
      → IsGrouping (length after) (drop (i + 1) lengths)
  grouping-next rest after is g =
      let l = get_or lengths i 0 in
      let h = grouping-split (length rest) g in
      record {
        each = All-tail (λ l. (1 ≤ l) × (l ≤ 64)) l (drop (i + 1) lengths) h.each;
        total = omega (arith, h.total, sum-more l (drop (i + 1) lengths), ap length is, length-drop l rest);
      }

  pub runs-next : (rest : List Code) → runs (drop i lengths) rest ≡ take (get_or lengths i 0) rest ∷ runs (drop (i + 1) lengths) (drop (get_or lengths i 0) rest)
  runs-next rest = ap (λ ns. runs ns rest) (drop-next lengths i within)

  pub fits-next : (P : List Code → Type 0) (rest after : List Code) → after ≡ drop (get_or lengths i 0) rest → All P (runs (drop i lengths) rest)
      → All P (runs (drop (i + 1) lengths) after)
  fits-next P rest after is all =
      let run = take (get_or lengths i 0) rest in
      let more = runs (drop (i + 1) lengths) (drop (get_or lengths i 0) rest) in
      let tail = All-tail P run more (subst (All P) (runs-next rest) all) in
      subst (λ xs. All P (runs (drop (i + 1) lengths) xs)) (sym is) tail

  pub fits-here : (val : List Code → ℕ) (m number : ℕ) (rest run : List Code) → run ≡ take (get_or lengths i 0) rest → number ≡ val run
      → All (λ xs. val xs < m) (runs (drop i lengths) rest) → number < m
  fits-here val m number rest run is value all =
      let more = runs (drop (i + 1) lengths) (drop (get_or lengths i 0) rest) in
      let P : List Code → Type 0 = λ xs. val xs < m in
      let head : val (take (get_or lengths i 0) rest) < m = All-head P (take (get_or lengths i 0) rest) more (subst (All P) (runs-next rest) all) in
      omega (arith, head, value, ap val is)

  -- a number for each group
  module _ (val : List Code → ℕ) (w : ℕ) where
    pub fields-next : (number : ℕ) (rest run after : List Code) → run ≡ take (get_or lengths i 0) rest → after ≡ drop (get_or lengths i 0) rest → number ≡ val run
        → fields w (map val (runs (drop i lengths) rest)) ≡ bits_of w number ++ fields w (map val (runs (drop (i + 1) lengths) after))
    fields-next number rest run after is_run is_after value =
        ap (λ gs. fields w (map val gs)) (runs-next rest)
        ∙ ap₂ (λ (n : ℕ) (xs : List Code). bits_of w n ++ fields w (map val (runs (drop (i + 1) lengths) xs))) (sym (value ∙ ap val is_run)) (sym is_after)

    pub field_more : (start now next : Written) (whole : List Bool) (number : ℕ) (rest run after : List Code)
        → run ≡ take (get_or lengths i 0) rest → after ≡ drop (get_or lengths i 0) rest → number ≡ val run
        → Left start now whole (fields w (map val (runs (drop i lengths) rest)))
        → next.bits ≡ now.bits ++ bits_of w number → next.spare + w ≡ now.spare
        → Left start next whole (fields w (map val (runs (drop (i + 1) lengths) after)))
    field_more start now next whole number rest run after is_run is_after value so_far bits spare =
        left_more start now next whole (bits_of w number) _ _ (fields-next number rest run after is_run is_after value) so_far bits
        (omega (arith, spare, length-bits_of w number))

    pub field_room : (start now : Written) (whole : List Bool) (rest : List Code) → Left start now whole (fields w (map val (runs (drop i lengths) rest)))
        → length (padded whole) ≤ start.spare → w ≤ now.spare
    field_room start now whole rest so_far room =
        let run = take (get_or lengths i 0) rest in
        let enough : length whole ≤ start.spare = omega (arith, room, padded-more whole) in
        let next = left_room start now whole (bits_of w (val run)) _ _ (fields-next (val run) rest run _ refl refl refl) so_far enough in
        omega (arith, next, length-bits_of w (val run))

  -- some bits for each group
  module _ (part : List Code → List Bool) where
    part-next : (rest run after : List Code) → run ≡ take (get_or lengths i 0) rest → after ≡ drop (get_or lengths i 0) rest
        → joined (map part (runs (drop i lengths) rest)) ≡ part run ++ joined (map part (runs (drop (i + 1) lengths) after))
    part-next rest run after is_run is_after =
        ap (λ gs. joined (map part gs)) (runs-next rest)
        ∙ ap₂ (λ (xs ys : List Code). part xs ++ joined (map part (runs (drop (i + 1) lengths) ys))) (sym is_run) (sym is_after)

    pub part_more : (start now next : Written) (whole : List Bool) (rest run after : List Code)
        → run ≡ take (get_or lengths i 0) rest → after ≡ drop (get_or lengths i 0) rest
        → Left start now whole (joined (map part (runs (drop i lengths) rest)))
        → next.bits ≡ now.bits ++ part run → next.spare + length (part run) ≡ now.spare
        → Left start next whole (joined (map part (runs (drop (i + 1) lengths) after)))
    part_more start now next whole rest run after is_run is_after so_far bits spare =
        left_more start now next whole (part run) _ _ (part-next rest run after is_run is_after) so_far bits spare

    pub part_room : (start now : Written) (whole : List Bool) (rest run : List Code) → run ≡ take (get_or lengths i 0) rest
        → Left start now whole (joined (map part (runs (drop i lengths) rest)))
        → length (padded whole) ≤ start.spare → length (part run) ≤ now.spare
    part_room start now whole rest run is_run so_far room =
        let enough : length whole ≤ start.spare = omega (arith, room, padded-more whole) in
        left_room start now whole (part run) _ _ (part-next rest run _ is_run refl) so_far enough

-- the codes of a run, and those after it
pub below_run : (k : ℕ) (rest run : List Code) (l : ℕ) → run ≡ take l rest → All (IsBelow k) rest → All (IsBelow k) run
below_run k rest run l is below = subst (All (IsBelow k)) (sym is) (All-take (IsBelow k) l rest below)

pub below_after : (k : ℕ) (rest after : List Code) (l : ℕ) → after ≡ drop l rest → All (IsBelow k) rest → All (IsBelow k) after
below_after k rest after l is below = subst (All (IsBelow k)) (sym is) (All-drop (IsBelow k) l rest below)

pub told_run : (k : ℕ) (rest run : List Code) (l : ℕ) → run ≡ take l rest → All (IsTold k) rest → All (IsTold k) run
told_run k rest run l is told = subst (All (IsTold k)) (sym is) (All-take (IsTold k) l rest told)

pub told_after : (k : ℕ) (rest after : List Code) (l : ℕ) → after ≡ drop l rest → All (IsTold k) rest → All (IsTold k) after
told_after k rest after l is told = subst (All (IsTold k)) (sym is) (All-drop (IsTold k) l rest told)

-- the last group is done
pub no_fields : (val : List Code → ℕ) (w : ℕ) (lengths : List ℕ) (i : ℕ) (rest : List Code) → length lengths ≤ i → fields w (map val (runs (drop i lengths) rest)) ≡ []
no_fields val w lengths i rest past = ap (λ ns. fields w (map val (runs ns rest))) (drop_all i lengths past)

pub no_parts : (part : List Code → List Bool) (lengths : List ℕ) (i : ℕ) (rest : List Code) → length lengths ≤ i → joined (map part (runs (drop i lengths) rest)) ≡ []
no_parts part lengths i rest past = ap (λ ns. joined (map part (runs ns rest))) (drop_all i lengths past)

-- ---- the next code of a group

module _ (f : Code → ℕ) (w : ℕ) (run : List Code) (i : ℕ) (d : Code) (within : i < length run) where
  code-next : (number : ℕ) → number ≡ f (get_or run i d) → fields w (map f (drop i run)) ≡ bits_of w number ++ fields w (map f (drop (i + 1) run))
  code-next number value =
      let next : suc i ≡ i + 1 = omega arith in
      ap (λ cs. fields w (map f cs)) (drop-cons run i d within)
      ∙ ap₂ (λ (n k : ℕ). bits_of w n ++ fields w (map f (drop k run))) (sym value) next

  pub code_more : (start now after : Written) (whole : List Bool) (number : ℕ) → number ≡ f (get_or run i d) → Left start now whole (fields w (map f (drop i run)))
      → after.bits ≡ now.bits ++ bits_of w number → after.spare + w ≡ now.spare → Left start after whole (fields w (map f (drop (i + 1) run)))
  code_more start now after whole number value so_far bits spare =
      left_more start now after whole (bits_of w number) _ _ (code-next number value) so_far bits (omega (arith, spare, length-bits_of w number))

  pub code_room : (start now : Written) (whole : List Bool) → Left start now whole (fields w (map f (drop i run))) → length whole ≤ start.spare → w ≤ now.spare
  code_room start now whole so_far room =
      let next = left_room start now whole (bits_of w (f (get_or run i d))) _ _ (code-next (f (get_or run i d)) refl) so_far room in
      omega (arith, next, length-bits_of w (f (get_or run i d)))
