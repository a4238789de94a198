-- Packing a column as its field is packed.
use Rattle.std.proofs.Common.{◌≡◌, ◌≢◌, ◌⊎◌, ℕ, ◌-◌, ◌^◌, ◌≤◌, Bool, true, false, not, cond, ◌&&◌, ◌||◌, ◌==◌, Option, Some, None, List, [], ◌∷◌, length, map, drop, pos, inl, inr, refl, sym, ap, ap₂, ◌∙◌, arith, subst, eqb-true, ne_eqb, nat_lt, replicate, zero, suc}
use Rattle.std.specs.List.{list_any}
use Rattle.std.proofs.lemmas.Bool.{cases_eq, not-false, or_parts}
use Rattle.std.proofs.lemmas.Bool.Decides.{nat_tests}
use Rattle.grib_bits.specs.Bits.{bits}
use Rattle.grib_bits.specs.Octets.{octets}
use Rattle.grib_bits.specs.Plain.{plain}
use Rattle.grib_base.specs.Rules.{choose, first_fault}
use Rattle.grib_base.specs.declared.profile.Profile.{Profile}
use Rattle.grib_base.specs.declared.profile.Profile.TheVariants.{Stated, Open}
use Rattle.grib_packing.specs.declared.column.Point.{Point}
use Rattle.grib_packing.specs.declared.column.Point.TheVariants.{Scaled}
use Rattle.grib_packing.specs.Coded.{is_coded, is_block, coded_rules, coded_numbers, point_of}
use Rattle.grib_packing.specs.Column.{points_with_mask}
use Rattle.grib_packing.specs.Complex.{complex_rules, difference_order}
use Rattle.grib_packing.specs.Entries.{packing_fault, packing_fault_under, packing_of, is_stated_packing, entries_of}
use Rattle.grib_packing.specs.Misfits.{Target, ToSimple, ToComplex, ToSpatial, ToCoded, template_of, Misfit, SecondaryMissing, OutOfRange, DifferenceRange, first_misfit, first_of, is_missing2, plain_misfit}
use Rattle.grib_packing.specs.Packing.{packing_template, bit_width, value_count}
use Rattle.grib_packing.specs.Written.{IsTarget}
use Rattle.grib_packing.proofs.OpaquePackings.{stated_accepts, accepted_open, accepted_stated}
use Rattle.grib_packing.proofs.Packings.{entries_of-simple, entries_of-coded, packing_fault-complex, packing_fault-coded, packing_shared, packing_passes}
use Rattle.grib_ccsds.specs.Blocks.{blocks_known}
use Rattle.grib2_message.proofs.Passed.{passes_from_none}
use Rattle.grib2_message.specs.Fields.{part_octets, field_mask, column_of}
use Rattle.grib_reorder.specs.Fields.{IsBitmapTemplate}
use Rattle.grib_reorder.specs.Rescanned.{own_blocks, own_target}

-- ---- the template and the order of a Section 5 that no rule refuses

target_by : ℕ → Target → ℕ → Target
target_by template blocks order = cond (template == 0) ToSimple (cond (template == 2) ToComplex (cond (template == 42) blocks (ToSpatial order)))

both_known : (spatial : Bool) (o : ℕ) → (spatial && not (o == 1) && not (o == 2)) ≡ false → spatial ≡ true → (o ≡ 1) ⊎ (o ≡ 2)
both_known spatial o e is = elim (cases_eq o 1) [
  | inl one ↦ inl one
  | inr not_1 ↦ elim (cases_eq o 2) [
    | inl two ↦ inr two
    | inr not_2 ↦ absurd (not_so spatial (o == 1) (o == 2) e is (ne_eqb o 1 not_1) (ne_eqb o 2 not_2))
  ]
] where
  not_so : (a b c : Bool) → (a && not b && not c) ≡ false → a ≡ true → b ≡ false → c ≡ false → ⊥
  not_so true true c e is b_is c_is = absurd (cc)
  not_so true false true e is b_is c_is = absurd (cc)
  not_so true false false e is b_is c_is = absurd (cc)
  not_so false b c e is b_is c_is = absurd (cc)

-- the blocks of a Section 5 that no rule refuses
blocks_stand : (s5 : List ℕ) → first_fault (coded_rules s5) ≡ None → IsTarget (own_blocks s5)
blocks_stand s5 none = let rules = passes_from_none (coded_rules s5) none in by_choice (is_coded s5) (octets s5 23 23) (octets s5 24 25) rules.1.0 rules.1.1.0 where
  within : (interval : ℕ) → ((interval == 0) || nat_lt 4096 interval) ≡ false → (1 ≤ interval) × (interval ≤ 4096)
  within interval e = (grind (arith, nat_tests), grind (arith, nat_tests))

  by_choice : (b : Bool) (block interval : ℕ) → (b && not (is_block block)) ≡ false → (b && ((interval == 0) || nat_lt 4096 interval)) ≡ false
      → IsTarget (cond b (ToCoded block interval) (ToCoded 32 128))
  by_choice true block interval known few =
      let both = within interval few in blocks_known block interval (not-false (is_block block) known) both.0 both.1
  by_choice false block interval known few = (inr (inr (inl refl)), omega arith, omega arith)

blocks_template : (b : Bool) (block interval : ℕ) → template_of (cond b (ToCoded block interval) (ToCoded 32 128)) ≡ 42
blocks_template true block interval = refl
blocks_template false block interval = refl

-- what the packing of a Section 5 says
pub record PacksAs (s5 : List ℕ) : Type 0 where
  pub target : IsTarget (own_target s5)
  pub template : template_of (own_target s5) ≡ packing_template s5
  pub long : 21 ≤ length s5
  pub coded : packing_template s5 ≡ 42 → 25 ≤ length s5
  pub longer : packing_template s5 ≢ 0 → packing_template s5 ≢ 2 → packing_template s5 ≢ 42 → 49 ≤ length s5

by_template : (s5 : List ℕ) (t : ℕ) → packing_template s5 ≡ t → 21 ≤ length s5
    → IsTarget (target_by t (own_blocks s5) (octets s5 48 48)) → template_of (target_by t (own_blocks s5) (octets s5 48 48)) ≡ t
    → (t ≡ 42 → 25 ≤ length s5) → (t ≢ 0 → t ≢ 2 → t ≢ 42 → 49 ≤ length s5) → PacksAs s5
unfolding target_by
by_template s5 t is long target template coded longer = record {
  target = subst (λ (n : ℕ). IsTarget (target_by n (own_blocks s5) (octets s5 48 48))) (sym is) target;
  template = ap (λ (n : ℕ). template_of (target_by n (own_blocks s5) (octets s5 48 48))) is ∙ template ∙ sym is;
  long = long;
  coded = λ not_other. coded (sym is ∙ not_other);
  longer = λ not_0 not_2 not_42. longer (λ e. not_0 (is ∙ e)) (λ e. not_2 (is ∙ e)) (λ e. not_42 (is ∙ e));
}

pub packs_as : (s5 : List ℕ) (points : ℕ) → packing_fault s5 points ≡ None → PacksAs s5
unfolding target_by
packs_as s5 points none =
    let passes = packing_passes s5 points none in
    let shared = packing_shared s5 points none in
    elim passes.template [
      | inl is ↦ by_template s5 0 is passes.long tt refl (λ e. absurd (cc)) (λ not_0 not_2 not_42. absurd (not_0 refl))
      | inr others ↦ elim others [
        | inl complex ↦ elim complex [
          | inl is ↦ by_template s5 2 is passes.long tt refl (λ e. absurd (omega (arith, e))) (λ not_0 not_2 not_42. absurd (not_2 refl))
          | inr is ↦
              let more = passes_from_none (complex_rules s5) (sym (packing_fault-complex s5 points shared (inr is)) ∙ none) in
              let spatial : (packing_template s5 == 3) ≡ true = ap (λ (t : ℕ). t == 3) is in
              let order : difference_order s5 ≡ octets s5 48 48 = ap (λ (t : ℕ). cond (t == 3) (octets s5 48 48) 0) is in
              let long : 49 ≤ length s5 = subst (λ (t : ℕ). (packing_of t).least ≤ length s5) is passes.least in
              by_template s5 3 is passes.long (subst (λ (o : ℕ). (o ≡ 1) ⊎ (o ≡ 2)) order (both_known (packing_template s5 == 3) (difference_order s5) more.1.1.1.1.1.0 spatial)) refl (λ e. absurd (omega (arith, e))) (λ not_0 not_2 not_42. long)
        ]
        | inr is ↦
            let stand = blocks_stand s5 (sym (packing_fault-coded s5 points shared is) ∙ none) in
            let long : 25 ≤ length s5 = subst (λ (t : ℕ). (packing_of t).least ≤ length s5) is passes.least in
            by_template s5 42 is passes.long stand (blocks_template (is_coded s5) (octets s5 23 23) (octets s5 24 25)) (λ e. long) (λ not_0 not_2 not_42. absurd (not_42 refl))
      ]
    ]

-- ---- under a profile

-- a Section 5 that no rule refuses is accepted by a profile that accepts one with its template
pub accepted_alike : (profile : Profile) (s other : List ℕ) (points others : ℕ) → packing_template other ≡ packing_template s
    → packing_fault_under profile s points ≡ None → packing_fault other others ≡ None → packing_fault_under profile other others ≡ None
accepted_alike Open s other points others same accepted none = accepted_open other others none
accepted_alike Stated s other points others same accepted none =
    let stated : is_stated_packing other ≡ true = ap (λ (t : ℕ). (packing_of t).stated) same ∙ (stated_accepts s points accepted).0 in
    accepted_stated Stated other others stated none

-- ---- simple packing and CCSDS packing have no secondary missing points

none_scaled : (xs : List ℕ) → list_any is_missing2 (map (λ x. Scaled (pos x)) xs) ≡ false
none_scaled [] = refl
none_scaled (x ∷ xs) = none_scaled xs

none_with : (mask : List Bool) (entries : List Point) → list_any is_missing2 entries ≡ false → list_any is_missing2 (points_with_mask mask entries) ≡ false
none_with [] entries none = refl
none_with (false ∷ mask) entries none = none_with mask entries none
none_with (true ∷ mask) [] none = none_with mask [] none
none_with (true ∷ mask) (entry ∷ entries) none =
    let both = or_parts (is_missing2 entry) (list_any is_missing2 entries) none in
    ap₂ (λ (a b : Bool). a || b) both.0 (none_with mask entries both.1)

none_same : (count : ℕ) → list_any is_missing2 (replicate count (point_of 0)) ≡ false
none_same zero = refl
none_same (suc count) = none_same count

none_coded : (b : Bool) (numbers : List ℕ) (count : ℕ) → list_any is_missing2 (choose b (λ _. map point_of numbers) (λ _. replicate count (point_of 0))) ≡ false
none_coded true numbers count = none_scaled numbers
none_coded false numbers count = none_same count

none_entries : (s5 s7 : List ℕ) → IsBitmapTemplate (packing_template s5) → list_any is_missing2 (entries_of s5 s7) ≡ false
none_entries s5 s7 (inl simple) = ap (list_any is_missing2) (entries_of-simple s5 s7 simple) ∙ none_scaled (plain (bits (drop 5 s7)) (bit_width s5) (value_count s5))
none_entries s5 s7 (inr coded) = ap (list_any is_missing2) (entries_of-coded s5 s7 coded) ∙ none_coded (is_coded s5) (coded_numbers s5 s7) (value_count s5)

pub none_secondary : (message : List ℕ) (i : ℕ) → IsBitmapTemplate (packing_template (part_octets message i 5)) → list_any is_missing2 (column_of message i).points ≡ false
none_secondary message i bitmap =
    let s5 = part_octets message i 5 in
    let s7 = part_octets message i 7 in
    none_with (field_mask message i) (entries_of s5 s7) (none_entries s5 s7 bitmap)

-- so no such misfit is met
no_range : (b : Bool) (at point : ℕ) → cond b (Some (OutOfRange at)) None ≡ Some (SecondaryMissing point) → ⊥
no_range true at point e = absurd (cc)
no_range false at point e = absurd (cc)

no_difference : (b : Bool) (point : ℕ) → cond b (Some DifferenceRange) None ≡ Some (SecondaryMissing point) → ⊥
no_difference true point e = absurd (cc)
no_difference false point e = absurd (cc)

no_first : (b : Bool) (misfit : Misfit) (later other : Option Misfit) → b ≡ false → first_of (cond b (Some misfit) None) later ≡ other → later ≡ other
no_first true misfit later other is e = absurd (cc)
no_first false misfit later other is e = e

no_plain : (greatest : ℕ) (points : List Point) (point : ℕ) → list_any is_missing2 points ≡ false → plain_misfit greatest points ≡ Some (SecondaryMissing point) → ⊥
no_plain greatest points point none e = no_range _ _ point (no_first (list_any is_missing2 points) _ _ (Some (SecondaryMissing point)) none e)

no_blocks : (b : Bool) (block interval : ℕ) (points : List Point) (point : ℕ) → list_any is_missing2 points ≡ false
    → first_misfit (cond b (ToCoded block interval) (ToCoded 32 128)) points ≡ Some (SecondaryMissing point) → ⊥
no_blocks true block interval points point none e = no_plain (2 ^ 32 - 1) points point none e
no_blocks false block interval points point none e = no_plain (2 ^ 32 - 1) points point none e

no_secondary_by : (simple complex coded : Bool) (blocks : Target) (order : ℕ) (points : List Point) (point : ℕ) → (simple ≡ true → list_any is_missing2 points ≡ false)
    → (coded ≡ true → first_misfit blocks points ≡ Some (SecondaryMissing point) → ⊥)
    → first_misfit (cond simple ToSimple (cond complex ToComplex (cond coded blocks (ToSpatial order)))) points ≡ Some (SecondaryMissing point) → ⊥
no_secondary_by true complex coded blocks order points point none other e = no_plain (2 ^ 48 - 1) points point (none refl) e
no_secondary_by false true coded blocks order points point none other e = no_range _ _ point e
no_secondary_by false false true blocks order points point none other e = other refl e
no_secondary_by false false false blocks order points point none other e = no_difference _ point e

pub no_secondary : (s5 : List ℕ) (points : List Point) (point : ℕ) → (IsBitmapTemplate (packing_template s5) → list_any is_missing2 points ≡ false)
    → first_misfit (own_target s5) points ≡ Some (SecondaryMissing point) → ⊥
no_secondary s5 points point none e =
    let template = packing_template s5 in
    no_secondary_by (template == 0) (template == 2) (template == 42) (own_blocks s5) (octets s5 48 48) points point (λ is. none (inl (eqb-true template 0 is)))
    (λ is. no_blocks (is_coded s5) (octets s5 23 23) (octets s5 24 25) points point (none (inr (eqb-true template 42 is)))) e
