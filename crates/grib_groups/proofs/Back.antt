-- What is written as groups reads back.
use Rattle.std.proofs.Common.{◌≡◌, ℕ, suc, ◌+◌, ◌-◌, ◌*◌, ◌^◌, ◌<◌, ◌≤◌, inl, inr, Bool, false, List, [], ◌∷◌, ◌++◌, length, take, drop, map, get_or, All, refl, sym, ap, ap₂, ◌∙◌, arith, append_assoc, mul_comm, take-append-drop, cond, Some, None, nat_lt, le-ltb}
use Rattle.std.specs.List.{list_any}
use Rattle.std.proofs.lemmas.List.{length-append, length-map, drop_at, length-take-le, length-drop}
use Rattle.std.proofs.lemmas.List.Elements.{All-head, All-tail, All-take, All-drop, All-map, All-weaker}
use Rattle.std.proofs.lemmas.Bool.{cases_lt}
use Rattle.std.proofs.lemmas.Nat.{pow_pos}
use Rattle.grib_bits.specs.Bits.{num}
use Rattle.grib_bits.specs.Plain.{plain}
use Rattle.grib_base.specs.declared.fault.Fault.{Fault}
use Rattle.grib_base.specs.Rules.{first_place}
use Rattle.grib_base.proofs.Places.{NoneOf, first_place-none}
use Rattle.grib_packing.proofs.Fields.{length-fields, plain-add, plain-fields}
use Rattle.grib_group_reading.proofs.Taken.{packed_bits-cons}
use Rattle.grib_base.specs.declared.code.Code.{Code}
use Rattle.grib_base.specs.declared.code.Code.TheVariants.{Present, Primary, Secondary}
use Rattle.grib_packing.specs.declared.layout.Layout.{Layout}
use Rattle.grib_packing.specs.declared.group.Group.{Group}
use Rattle.grib_packing.specs.Groups.{code_of, codes_from, groups_from, packed_bits}
use Rattle.grib_packing.specs.Groupings.{width_of, greatest, smallest, present_codes, is_present, is_primary, is_secondary, runs, joined, IsGrouping}
use Rattle.grib_packing.specs.Packed.{reference_of, packed_number, fields, group_fields}
use Rattle.grib_codes.specs.Span.{IsTold}
use Rattle.grib_codes.proofs.Spans.{small_run}
use Rattle.grib_codes.proofs.Bounds.{IsWithin, within_all, all_below, greatest-within}
use Rattle.grib_groups.proofs.Parts.{sum-more}
use Rattle.grib_groups.proofs.Packable.{packable, group_fields-some, group_fields-none}
use Rattle.grib_groups.proofs.Marks.{wide_back, same_back}
use Rattle.grib_groups.specs.Encoding.{IsPackable}

-- ---- numbers of one width

plain_one : (xs : List Bool) (w : ℕ) → plain xs w 1 ≡ num (take w xs) ∷ []
plain_one xs w = let none : 0 * w ≡ 0 = omega arith in ap (λ (k : ℕ). num (take w (drop k xs)) ∷ []) none

-- numbers of no bits
same_codes : (f : ℕ → Code) (xs : List Bool) (run : List Code) → All (λ code. f 0 ≡ code) run → map f (plain xs 0 (length run)) ≡ run
same_codes f xs [] each = refl
same_codes f xs (code ∷ run) each =
    let more : suc (length run) ≡ 1 + length run = omega arith in
    let here : f 0 ≡ code = All-head (λ c. f 0 ≡ c) code run each in
    let same : drop (0 * 1) xs ≡ xs = refl in
    ap (λ (k : ℕ). map f (plain xs 0 k)) more
    ∙ ap (map f) (plain-add xs 0 1 (length run) ∙ ap₂ ◌++◌ (plain_one xs 0) (ap (λ (ys : List Bool). plain ys 0 (length run)) same))
    ∙ ap₂ (λ (c : Code) (cs : List Code). c ∷ cs) here (same_codes f xs run (All-tail (λ c. f 0 ≡ c) code run each))

-- ---- one group

mapped : (f : ℕ → Code) (g : Code → ℕ) (run : List Code) → All (λ code. f (g code) ≡ code) run → map f (map g run) ≡ run
mapped f g [] each = refl
mapped f g (code ∷ run) each = ap₂ (λ (c : Code) (cs : List Code). c ∷ cs) (All-head (λ c. f (g c) ≡ c) code run each) (mapped f g run (All-tail (λ c. f (g c) ≡ c) code run each))

packed_lt : (w r : ℕ) (code : Code) → IsPackable w r code → packed_number w r code < 2 ^ w
packed_lt w r (Present n) h = h.1
packed_lt w r Primary h = omega (arith, pow_pos w)
packed_lt w r Secondary h = omega (arith, pow_pos w)

all_packed : (w r : ℕ) (run : List Code) → All (IsPackable w r) run → All (λ n. n < 2 ^ w) (map (packed_number w r) run)
all_packed w r run each = All-map (λ n. n < 2 ^ w) (packed_number w r) run (All-weaker (IsPackable w r) (λ code. packed_number w r code < 2 ^ w) (packed_lt w r) run each)

module _ (layout : Layout) (few : layout.management ≤ 2) where
  both : (P Q R : Code → Type 0) → ((code : Code) → P code → Q code → R code) → (run : List Code) → All P run → All Q run → All R run
  both P Q R f run p q = λ i d within. f (get_or run i d) (p i d within) (q i d within)

  pub length-group : (run : List Code) → length (group_fields layout.management layout.reference_bits run) ≡ length run * width_of layout.management run
  length-group run =
      let k = layout.management in
      let b = layout.reference_bits in
      let w = width_of k run in
      elim (cases_lt 0 w) [
        | inl some ↦
            ap length (group_fields-some k b w (reference_of b run) run refl refl some)
            ∙ length-fields w (map (packed_number w (reference_of b run)) run)
            ∙ ap (λ (n : ℕ). n * w) (length-map run (packed_number w (reference_of b run)))
        | inr none ↦
            let is : w ≡ 0 = omega arith in
            let nothing : length run * w ≡ length run * 0 = ap (λ (n : ℕ). length run * n) is in
            omega (arith, ap length (group_fields-none k b w run refl (omega arith)), nothing)
      ]

  pub group_back : (run : List Code) (after : List Bool) (n : ℕ) → n ≡ length run → All (IsTold layout.management) run
      → greatest (present_codes run) + layout.management < 2 ^ layout.reference_bits
      → map (code_of layout (record { reference = reference_of layout.reference_bits run; width = width_of layout.management run; count = n }))
      (plain (group_fields layout.management layout.reference_bits run ++ after) (width_of layout.management run) n)
      ≡ run
  group_back run after n long told fits =
      let k = layout.management in
      let b = layout.reference_bits in
      let w = width_of k run in
      let r = reference_of b run in
      let group : Group = record { reference = r; width = w; count = n } in
      let small = small_run k run few (all_below k run told) in
      elim (cases_lt 0 w) [
        | inl some ↦
            let packed : List ℕ = map (packed_number w r) run in
            let each = packable k b w r run refl refl some few (all_below k run told) in
            let as_long : n ≡ length packed = long ∙ sym (length-map run (packed_number w r)) in
            let written : group_fields k b run ++ after ≡ fields w packed ++ after = ap (λ xs. xs ++ after) (group_fields-some k b w r run refl refl some) in
            let read : plain (group_fields k b run ++ after) w n ≡ packed =
            ap₂ (λ (xs : List Bool) (m : ℕ). plain xs w m) written as_long ∙ plain-fields w packed after (all_packed w r run each) in
            let known = within_all run in
            ap (map (code_of layout group)) read
            ∙ mapped (code_of layout group) (packed_number w r) run (both _ (IsTold k) _ (wide_back layout run few small w r n refl refl some) run known told)
        | inr none ↦
            let is : w ≡ 0 = omega arith in
            let alike = both _ (IsTold k) _ (same_back layout run few small r n is refl fits) run (within_all run) told in
            ap₂ (λ (v m : ℕ). map (code_of layout (record { reference = r; width = v; count = n })) (plain (group_fields k b run ++ after) v m)) is long
            ∙ same_codes (code_of layout (record { reference = r; width = 0; count = n })) (group_fields k b run ++ after) run alike
      ]

  -- ---- all groups

  nil_of : (codes : List Code) → length codes ≡ 0 → [] ≡ codes
  nil_of [] none = refl
  nil_of (code ∷ codes) none = absurd (omega arith)

  high_take : (n : ℕ) (codes : List Code) → greatest (present_codes (take n codes)) ≤ greatest (present_codes codes)
  high_take n codes = greatest-within (smallest (present_codes codes)) (greatest (present_codes codes)) (list_any is_present codes) (list_any is_primary codes) (list_any is_secondary codes) (take n codes) (All-take (IsWithin (smallest (present_codes codes)) (greatest (present_codes codes)) (list_any is_present codes) (list_any is_primary codes) (list_any is_secondary codes)) n codes (within_all codes))

  high_drop : (n : ℕ) (codes : List Code) → greatest (present_codes (drop n codes)) ≤ greatest (present_codes codes)
  high_drop n codes = greatest-within (smallest (present_codes codes)) (greatest (present_codes codes)) (list_any is_present codes) (list_any is_primary codes) (list_any is_secondary codes) (drop n codes) (All-drop (IsWithin (smallest (present_codes codes)) (greatest (present_codes codes)) (list_any is_present codes) (list_any is_primary codes) (list_any is_secondary codes)) n codes (within_all codes))

  abbrev pub written_groups : List ℕ → List Code → List Group
  written_groups lengths codes =
      groups_from (map (reference_of layout.reference_bits) (runs lengths codes)) (map (width_of layout.management) (runs lengths codes)) lengths

  module _ (n : ℕ) (ns : List ℕ) (codes : List Code) (g : IsGrouping (length codes) (n ∷ ns)) where
    within_codes : n ≤ length codes
    within_codes = omega (arith, g.total, sum-more n ns)

    long_run : n ≡ length (take n codes)
    long_run = sym (length-take-le n codes within_codes)

    rest_grouping : IsGrouping (length (drop n codes)) ns
    rest_grouping = record {
      each = All-tail (λ l. (1 ≤ l) × (l ≤ 64)) n ns g.each;
      total = omega (arith, g.total, sum-more n ns, length-drop n codes);
    }

    long_group : length (group_fields layout.management layout.reference_bits (take n codes)) ≡ n * width_of layout.management (take n codes)
    long_group = length-group (take n codes) ∙ ap (λ (m : ℕ). m * width_of layout.management (take n codes)) (sym long_run)

  pub codes_back : (lengths : List ℕ) (codes : List Code) (after : List Bool) → IsGrouping (length codes) lengths → All (IsTold layout.management) codes
      → greatest (present_codes codes) + layout.management < 2 ^ layout.reference_bits
      → codes_from layout (written_groups lengths codes) (joined (map (group_fields layout.management layout.reference_bits) (runs lengths codes)) ++ after) ≡ codes
  codes_back [] codes after g told fits = let none : length codes ≡ 0 = sym g.total in nil_of codes none
  codes_back (n ∷ ns) codes after g told fits =
      let run = take n codes in
      let rest = drop n codes in
      let w = width_of layout.management run in
      let here = group_fields layout.management layout.reference_bits run in
      let there = joined (map (group_fields layout.management layout.reference_bits) (runs ns rest)) in
      let long : length here ≡ w * n = long_group n ns codes g ∙ mul_comm n w in
      let first = group_back run (there ++ after) n (long_run n ns codes g) (All-take (IsTold layout.management) n codes told) (omega (arith, fits, high_take n codes)) in
      let others = codes_back ns rest after (rest_grouping n ns codes g) (All-drop (IsTold layout.management) n codes told) (omega (arith, fits, high_drop n codes)) in
      ap (codes_from layout (written_groups (n ∷ ns) codes)) (append_assoc here there after)
      ∙ ap₂ ◌++◌ first (ap (codes_from layout (written_groups ns rest)) (drop_at here (there ++ after) (w * n) long) ∙ others)
      ∙ take-append-drop n codes

  pub bits_back : (lengths : List ℕ) (codes : List Code) → IsGrouping (length codes) lengths
      → packed_bits (written_groups lengths codes) ≡ length (joined (map (group_fields layout.management layout.reference_bits) (runs lengths codes)))
  bits_back [] codes g = refl
  bits_back (n ∷ ns) codes g =
      let run = take n codes in
      let rest = drop n codes in
      let here = group_fields layout.management layout.reference_bits run in
      let there = joined (map (group_fields layout.management layout.reference_bits) (runs ns rest)) in
      omega (
        arith,
        packed_bits-cons (record { reference = reference_of layout.reference_bits run; width = width_of layout.management run; count = n }) (written_groups ns rest),
        bits_back ns rest (rest_grouping n ns codes g),
        length-append here there,
        long_group n ns codes g,
      )

-- ---- the parts, at their octets

pub first_part : (o a b c d r : List Bool) → o ≡ (((a ++ b) ++ c) ++ d) ++ r → o ≡ a ++ (b ++ (c ++ (d ++ r)))
first_part o a b c d r is = is ∙ simp append_assoc

pub second_part : (o a b c d r : List Bool) → o ≡ (((a ++ b) ++ c) ++ d) ++ r → o ≡ (a ++ b) ++ (c ++ (d ++ r))
second_part o a b c d r is = is ∙ simp append_assoc

pub third_part : (o a b c d r : List Bool) → o ≡ (((a ++ b) ++ c) ++ d) ++ r → o ≡ ((a ++ b) ++ c) ++ (d ++ r)
third_part o a b c d r is = is ∙ simp append_assoc

-- ---- the lists

pub plus_none : (reference : ℕ) (xs : List ℕ) → reference ≡ 0 → map (λ coded. reference + coded) xs ≡ xs
plus_none reference [] is = refl
plus_none reference (x ∷ xs) is = let same : reference + x ≡ x = omega arith in ap₂ (λ (y : ℕ) (ys : List ℕ). y ∷ ys) same (plus_none reference xs is)

pub coded_back : (reference increment : ℕ) (lengths : List ℕ) → reference ≡ 1 → increment ≡ 1 → All (λ l. (1 ≤ l) × (l ≤ 64)) lengths
    → map (λ n. reference + increment * n) (map (λ l. l - 1) lengths) ≡ lengths
coded_back reference increment [] one step each = refl
coded_back reference increment (l ∷ ls) one step each =
    let here : (1 ≤ l) × (l ≤ 64) = All-head (λ l. (1 ≤ l) × (l ≤ 64)) l ls each in
    let product : increment * (l - 1) ≡ 1 * (l - 1) = ap (λ (n : ℕ). n * (l - 1)) step in
    let same : reference + increment * (l - 1) ≡ l = omega (arith, product, here.0) in
    ap₂ (λ (y : ℕ) (ys : List ℕ). y ∷ ys) same (coded_back reference increment ls one step (All-tail (λ l. (1 ≤ l) × (l ≤ 64)) l ls each))

less_1 : (l : ℕ) → (1 ≤ l) × (l ≤ 64) → l - 1 < 2 ^ 6
less_1 l h = omega (arith, h.1)

pub coded_lt : (lengths : List ℕ) → All (λ l. (1 ≤ l) × (l ≤ 64)) lengths → All (λ n. n < 2 ^ 6) (map (λ l. l - 1) lengths)
coded_lt lengths each = All-map (λ n. n < 2 ^ 6) (λ l. l - 1) lengths (All-weaker (λ l. (1 ≤ l) × (l ≤ 64)) (λ l. l - 1 < 2 ^ 6) less_1 lengths each)

pub length-runs : (lengths : List ℕ) (codes : List Code) → length (runs lengths codes) ≡ length lengths
length-runs [] codes = refl
length-runs (n ∷ ns) codes = ap suc (length-runs ns (drop n codes))

-- ---- the rules

none_wide : (ws : List ℕ) → All (λ w. w ≤ 32) ws → NoneOf (λ w. nat_lt 32 w) ws
none_wide [] each = tt
none_wide (w ∷ ws) each = (le-ltb 32 w (All-head (λ w. w ≤ 32) w ws each), none_wide ws (All-tail (λ w. w ≤ 32) w ws each))

pub no_wide : (ws : List ℕ) → All (λ w. w ≤ 32) ws → first_place (λ w. nat_lt 32 w) ws ≡ 0
no_wide ws each = first_place-none (λ w. nat_lt 32 w) ws (none_wide ws each)

pub no_rule : (a : Bool) (f : Fault) → a ≡ false → cond a (Some f) None ≡ None
no_rule a f e = rw e refl

pub no_rules : (a b c : Bool) (f g h : Fault) → a ≡ false → b ≡ false → c ≡ false → cond a (Some f) (cond b (Some g) (cond c (Some h) None)) ≡ None
no_rules a b c f g h ea eb ec = rw (ea, eb, ec) refl
