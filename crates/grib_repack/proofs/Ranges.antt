-- The numbers of a field that is accepted are within the range of the columns that are packed.
use Rattle.std.proofs.Common.{◌≡◌, ℕ, zero, suc, ◌+◌, ◌*◌, ◌^◌, ◌<◌, ◌≤◌, Bool, true, false, cond, not, ◌&&◌, ◌==◌, nat_lt, Option, Some, None, List, [], ◌∷◌, ◌++◌, length, drop, map, replicate, pos, inl, inr, refl, sym, ◌∙◌, arith, subst, le-ltb, ltb-false, pow_mono}
use Rattle.std.specs.List.{filter_map, range_with_len}
use Rattle.std.proofs.lemmas.Bool.{cases_Bool}
use Rattle.grib_bits.specs.Bits.{bits}
use Rattle.grib_bits.specs.Plain.{plain, plain_at}
use Rattle.grib_bits.proofs.WordNumbers.{number-lt}
use Rattle.grib_bits.proofs.Logic.{second_fails}
use Rattle.grib_base.specs.declared.code.Code.{Code}
use Rattle.grib_base.specs.declared.code.Code.TheVariants.{Present, Primary, Secondary}
use Rattle.grib_base.specs.declared.fault.Fault.{Fault}
use Rattle.grib_base.specs.Rules.{Rule, first_fault, first_place, or_then, choose}
use Rattle.grib_base.proofs.Places.{NoneOf, none_of_any}
use Rattle.grib_packing.specs.declared.column.Point.{Point}
use Rattle.grib_packing.specs.declared.column.Point.TheVariants.{Scaled}
use Rattle.grib_packing.specs.declared.group.Group.{Group}
use Rattle.grib_packing.specs.declared.layout.Layout.{Layout}
use Rattle.grib_packing.specs.Column.{points_with_mask}
use Rattle.grib_packing.specs.Coded.{coded_entries, coded_numbers, is_coded, point_of}
use Rattle.grib_packing.specs.Complex.{layout_of, descriptor_octets}
use Rattle.grib_packing.specs.Differences.{undone}
use Rattle.grib_packing.specs.Entries.{packing_fault, data_fault, complex_data_fault, complex_entries, group_data_fault, group_data_rules, group_entries, range_rules, entries_of, codes_of, descriptors, refilled, present_code, has_no_groups, is_out_of_range}
use Rattle.grib_packing.specs.Groups.{code_of, codes_from, marked, groups_from, groups, references, widths, lengths, list_octets, list_rules}
use Rattle.grib_packing.specs.Packing.{packing_template, bit_width, value_count}
use Rattle.grib_packing.proofs.Packings.{IsComplexTemplate, PackingPasses, packing_passes, most-simple, most-complex, data_fault-complex, entries_of-simple, entries_of-complex, entries_of-coded}
use Rattle.grib_simple.proofs.Seen.{first_place-any}
use Rattle.grib2_message.proofs.Passed.{passes_from_none}
use Rattle.grib_repack.proofs.InBlocks.{blocks_within}

-- ---- lists of points

-- none of some, none of those that a mask takes
pub none_with_mask : (mask : List Bool) (entries : List Point) → NoneOf is_out_of_range entries → NoneOf is_out_of_range (points_with_mask mask entries)
none_with_mask [] entries none = tt
none_with_mask (false ∷ mask) entries none = (refl, none_with_mask mask entries none)
none_with_mask (true ∷ mask) [] none = (refl, none_with_mask mask [] none)
none_with_mask (true ∷ mask) (entry ∷ entries) none = (none.0, none_with_mask mask entries none.1)

-- where no element has the first place, none passes
none_by_place : {A : Type 0} (test : A → Bool) (xs : List A) → nat_lt 0 (first_place test xs) ≡ false → NoneOf test xs
none_by_place test xs e = none_of_any test xs (first_place-any test xs ∙ e)

-- ---- numbers of some bits

scaled_within : (n : ℕ) → n ≤ 2 ^ 60 → is_out_of_range (Scaled (pos n)) ≡ false
scaled_within n small = le-ltb (2 ^ 60) n small

plain_small : (xs : List Bool) (w k : ℕ) → plain_at xs w k < 2 ^ w
plain_small xs w k = number-lt w (drop (k * w) xs)

pub plain_within : (xs : List Bool) (w : ℕ) (places : List ℕ) → w ≤ 48 → NoneOf is_out_of_range (map (λ x. Scaled (pos x)) (map (plain_at xs w) places))
plain_within xs w [] few = tt
plain_within xs w (k ∷ places) few =
    let power : 2 ^ w ≤ 2 ^ 48 = pow_mono few in
    let small = plain_small xs w k in
    (scaled_within (plain_at xs w k) (omega arith), plain_within xs w places few)

zeros_within : (n : ℕ) → NoneOf is_out_of_range (replicate n (Scaled (pos 0)))
zeros_within zero = tt
zeros_within (suc n) = (refl, zeros_within n)

-- ---- codes of groups

abbrev IsLow : Code → Type 0
IsLow (Present n) = n < 2 ^ 33
IsLow Primary = Unit {0}
IsLow Secondary = Unit {0}

abbrev AreLow : List Code → Type 0
AreLow [] = Unit {0}
AreLow (code ∷ codes) = IsLow code × AreLow codes

low-append : (codes more : List Code) → AreLow codes → AreLow more → AreLow (codes ++ more)
low-append [] more a b = b
low-append (code ∷ codes) more a b = (a.0, low-append codes more a.1 b)

low-cond : (b : Bool) (x y : Code) → IsLow x → IsLow y → IsLow (cond b x y)
low-cond true x y low_x low_y = low_x
low-cond false x y low_x low_y = low_y

low-marked : (management field top : ℕ) (code : Code) → IsLow code → IsLow (marked management field top code)
low-marked management field top code low =
    low-cond (not (management == 0) && (field + 1 == top)) Primary _ tt
    (low-cond (management == 2 && (field + 2 == top)) Secondary code tt low)

-- a group with a reference and a width of the profile
abbrev IsNarrow : Group → Type 0
IsNarrow group = (group.reference < 2 ^ 32) × (group.width ≤ 32)

abbrev AreNarrow : List Group → Type 0
AreNarrow [] = Unit {0}
AreNarrow (group ∷ groups) = IsNarrow group × AreNarrow groups

code_low : (layout : Layout) (group : Group) (n : ℕ) → IsNarrow group → n < 2 ^ group.width → IsLow (code_of layout group n)
code_low layout group n narrow small =
    let power : 2 ^ group.width ≤ 2 ^ 32 = pow_mono narrow.1 in
    let reference : group.reference < 2 ^ 33 = omega (arith, narrow.0) in
    let sum : group.reference + n < 2 ^ 33 = omega (arith, narrow.0) in
    low-cond (group.width == 0) _ _
    (low-marked layout.management group.reference (2 ^ layout.reference_bits) (Present group.reference) reference)
    (low-marked layout.management n (2 ^ group.width) (Present (group.reference + n)) sum)

run_low : (layout : Layout) (group : Group) (xs : List Bool) (places : List ℕ) → IsNarrow group → AreLow (map (code_of layout group) (map (plain_at xs group.width) places))
run_low layout group xs [] narrow = tt
run_low layout group xs (k ∷ places) narrow =
    (code_low layout group (plain_at xs group.width k) narrow (plain_small xs group.width k), run_low layout group xs places narrow)

codes_low : (layout : Layout) (groups : List Group) (xs : List Bool) → AreNarrow groups → AreLow (codes_from layout groups xs)
codes_low layout [] xs narrow = tt
codes_low layout (group ∷ groups) xs narrow =
    low-append (map (code_of layout group) (plain xs group.width group.count)) (codes_from layout groups (drop (group.width * group.count) xs))
    (run_low layout group xs (range_with_len 0 group.count) narrow.0) (codes_low layout groups (drop (group.width * group.count) xs) narrow.1)

abbrev AreBelow : List ℕ → Type 0
AreBelow [] = Unit {0}
AreBelow (n ∷ ns) = (n < 2 ^ 32) × AreBelow ns

plain_below : (xs : List Bool) (w : ℕ) (places : List ℕ) → w ≤ 32 → AreBelow (map (plain_at xs w) places)
plain_below xs w [] few = tt
plain_below xs w (k ∷ places) few =
    let power : 2 ^ w ≤ 2 ^ 32 = pow_mono few in
    let small = plain_small xs w k in
    (omega arith, plain_below xs w places few)

groups_narrow : (rs ws ns : List ℕ) → AreBelow rs → NoneOf (λ w. nat_lt 32 w) ws → AreNarrow (groups_from rs ws ns)
groups_narrow [] ws ns below none = tt
groups_narrow (r ∷ rs) [] ns below none = tt
groups_narrow (r ∷ rs) (w ∷ ws) [] below none = tt
groups_narrow (r ∷ rs) (w ∷ ws) (n ∷ ns) below none =
    ((below.0, ltb-false 32 w none.0), groups_narrow rs ws ns below.1 none.1)

refilled_within : (codes : List Code) → AreLow codes → NoneOf is_out_of_range (refilled codes (map pos (filter_map present_code codes)))
refilled_within [] low = tt
refilled_within (Primary ∷ codes) low = (refl, refilled_within codes low.1)
refilled_within (Secondary ∷ codes) low = (refl, refilled_within codes low.1)
refilled_within (Present n ∷ codes) low =
    let here : n < 2 ^ 33 = low.0 in
    (scaled_within n (omega arith), refilled_within codes low.1)

-- ---- rules that pass

or_tells : (fault : Option Fault) (later : Unit {0} → List Rule) → or_then fault later ≡ None → (fault ≡ None) × (first_fault (later tt) ≡ None)
or_tells (Some fault) later none = absurd (cc)
or_tells None later none = (refl, none)

module _ (s5 s7 : List ℕ) (points : ℕ) (accepted : packing_fault s5 points ≡ None) (values : data_fault s5 s7 ≡ None) where
  packing : PackingPasses s5 points
  packing = packing_passes s5 points accepted

  simple_within : packing_template s5 ≡ 0 → NoneOf is_out_of_range (entries_of s5 s7)
  simple_within simple =
      let few : bit_width s5 ≤ 48 = omega (arith, packing.narrow, most-simple (packing_template s5) simple) in
      subst (λ (ps : List Point). NoneOf is_out_of_range ps) (sym (entries_of-simple s5 s7 simple))
      (plain_within (bits (drop 5 s7)) (bit_width s5) (range_with_len 0 (value_count s5)) few)

  -- with groups
  module _ (complex : IsComplexTemplate (packing_template s5)) where
    few_bits : bit_width s5 ≤ 32
    few_bits = omega (arith, packing.narrow, most-complex (packing_template s5) complex)

    complex_passes : complex_data_fault s5 s7 ≡ None
    complex_passes = sym (data_fault-complex s5 s7 complex) ∙ values

    groups_within : has_no_groups s5 ≡ false → NoneOf is_out_of_range (group_entries s5 s7)
    groups_within some =
        let layout = layout_of s5 in
        let octets = drop (5 + descriptor_octets s5) s7 in
        let passes : group_data_fault s5 s7 ≡ None = subst (λ (b : Bool). choose b (λ _. None) (λ _. group_data_fault s5 s7) ≡ None) some complex_passes in
        let all = or_tells (or_then (first_fault (list_rules layout (length s7) (descriptor_octets s5))) (λ _. group_data_rules s5 s7)) (λ _. range_rules s5 s7) passes in
        let lists = or_tells (first_fault (list_rules layout (length s7) (descriptor_octets s5))) (λ _. group_data_rules s5 s7) all.0 in
        let rules = passes_from_none (group_data_rules s5 s7) lists.1 in
        let range = passes_from_none (range_rules s5 s7) all.1 in
        let wide : NoneOf (λ w. nat_lt 32 w) (widths layout octets) = none_by_place (λ w. nat_lt 32 w) (widths layout octets) rules.1.1.0 in
        let low : AreLow (codes_of s5 s7) =
        codes_low layout (groups layout octets) (bits (drop (list_octets layout) octets))
        (groups_narrow (references layout octets) (widths layout octets) (lengths layout octets)
        (plain_below (bits octets) layout.reference_bits (range_with_len 0 layout.groups) few_bits) wide) in
        let present = filter_map present_code (codes_of s5 s7) in
        elim (cases_Bool (packing_template s5 == 3)) [
          | inl spatial ↦
              none_by_place is_out_of_range (group_entries s5 s7)
              (second_fails (packing_template s5 == 3) (nat_lt 0 (first_place is_out_of_range (group_entries s5 s7))) range.0 spatial)
          | inr plain ↦
              subst (λ (b : Bool). NoneOf is_out_of_range (refilled (codes_of s5 s7) (cond b (undone (descriptors s5 s7) present) (map pos present)))) (sym plain)
              (refilled_within (codes_of s5 s7) low)
        ]

    complex_within : NoneOf is_out_of_range (complex_entries s5 s7)
    complex_within = elim (cases_Bool (has_no_groups s5)) [
      | inl none ↦
          subst (λ (b : Bool). NoneOf is_out_of_range (choose b (λ _. replicate (value_count s5) (Scaled (pos 0))) (λ _. group_entries s5 s7))) (sym none)
          (zeros_within (value_count s5))
      | inr some ↦
          subst (λ (b : Bool). NoneOf is_out_of_range (choose b (λ _. replicate (value_count s5) (Scaled (pos 0))) (λ _. group_entries s5 s7))) (sym some)
          (groups_within some)
    ]

  -- in blocks
  coded_within : packing_template s5 ≡ 42 → NoneOf is_out_of_range (coded_entries s5 s7)
  coded_within coded = elim (cases_Bool (is_coded s5)) [
    | inl some ↦
        subst (λ (b : Bool). NoneOf is_out_of_range (choose b (λ _. map point_of (coded_numbers s5 s7)) (λ _. replicate (value_count s5) (point_of 0)))) (sym some)
        (blocks_within s5 s7 points coded accepted values some)
    | inr none ↦
        subst (λ (b : Bool). NoneOf is_out_of_range (choose b (λ _. map point_of (coded_numbers s5 s7)) (λ _. replicate (value_count s5) (point_of 0)))) (sym none)
        (zeros_within (value_count s5))
  ]

  pub entries_within : NoneOf is_out_of_range (entries_of s5 s7)
  entries_within = elim packing.template [
    | inl simple ↦ simple_within simple
    | inr (inl complex) ↦ subst (λ (ps : List Point). NoneOf is_out_of_range ps) (sym (entries_of-complex s5 s7 complex)) (complex_within complex)
    | inr (inr coded) ↦ subst (λ (ps : List Point). NoneOf is_out_of_range ps) (sym (entries_of-coded s5 s7 coded)) (coded_within coded)
  ]
