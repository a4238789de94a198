-- Lemmas on the refusals of lists of groups.
use Rattle.std.proofs.Common.{◌≡◌, ℕ, ◌+◌, ◌*◌, ◌<◌, ◌≤◌, Bool, true, false, cond, not, ltb, eqb, Option, Some, None, List, length, sum, refl, sym, ap, ap₂, ◌∙◌, arith, subst, inl, inr}
use Rattle.std.specs.Option.{option_map}
use Rattle.std.proofs.lemmas.Bool.{lt-ltb, le-ltb, eq-eqb, ne_eqb, ltb-false, eqb-true, not-false, cases_lt}
use Rattle.grib_base.specs.declared.fault.Fault.{Fault}
use Rattle.grib_base.specs.declared.fault.Reason.TheVariants.{GroupWidth, GroupShape, DataTooShort}
use Rattle.grib_base.specs.Rules.{refusal, fault_at, first_place}
use Rattle.grib_packing.specs.declared.layout.Layout.{Layout}
use Rattle.grib_packing.specs.Groups.{reference_octets, list_octets, packed_bits, groups_from, first_past}
use Rattle.grib_group_reading.specs.declared.lists.Lists.{Lists}
use Rattle.grib_group_reading.specs.declared.table.Table.{Table}
use Rattle.grib_group_reading.specs.Table.{groups_in, IsNarrow, IsWhole}
use Rattle.grib_group_reading.specs.Lists.{IsNoted, ListsAre, lists_fault}
use Rattle.grib_group_reading.specs.Taking.{values as values_of}
use Rattle.grib_group_reading.proofs.Listed.{values-groups_from}

-- the refusal of three rules
abbrev fault_by : ℕ → Bool → Bool → Bool → Fault → Fault → Fault → Option Fault
fault_by start wide shape short f g h = option_map (fault_at start) (cond wide (Some f) (cond shape (Some g) (cond short (Some h) None)))

module _ (layout : Layout) (start skip l values : ℕ) (references widths lengths : List ℕ) (narrow : first_place (λ w. ltb 32 w) widths ≡ 0) where
  pub shape_fault : (detail : ℕ) → (sum lengths ≡ values → ⊥) → detail ≡ first_past values 0 lengths
      → Some (record { octet = start; reason = GroupShape; detail = detail }) ≡ lists_fault layout start skip l values references widths lengths
  shape_fault detail wrong is_detail =
      let too_wide = first_place (λ w. ltb 32 w) widths in
      let needed = 8 * (5 + skip + list_octets layout) + packed_bits (groups_from references widths lengths) in
      let f = refusal (6 + skip + reference_octets layout) GroupWidth too_wide in
      let h = refusal 1 DataTooShort l in
      let g = refusal 1 GroupShape (first_past values 0 lengths) in
      let here : start ≡ start + 0 = omega arith in
      ap₂ (λ (o d : ℕ). Some (refusal o GroupShape d)) here is_detail
      ∙ sym (ap₂ (λ (a b : Bool). fault_by start a b (ltb (8 * l) needed) f g h) (le-ltb 0 too_wide (omega arith)) (ap not (ne_eqb (sum lengths) values wrong)))

  pub short_fault : sum lengths ≡ values → 8 * l < 8 * (5 + skip + list_octets layout) + packed_bits (groups_from references widths lengths)
      → Some (record { octet = start; reason = DataTooShort; detail = l }) ≡ lists_fault layout start skip l values references widths lengths
  short_fault right few =
      let too_wide = first_place (λ w. ltb 32 w) widths in
      let needed = 8 * (5 + skip + list_octets layout) + packed_bits (groups_from references widths lengths) in
      let f = refusal (6 + skip + reference_octets layout) GroupWidth too_wide in
      let h = refusal 1 DataTooShort l in
      let g = refusal 1 GroupShape (first_past values 0 lengths) in
      let here : start ≡ start + 0 = omega arith in
      ap (λ (o : ℕ). Some (refusal o DataTooShort l)) here
      ∙ ap (λ (c : Bool). fault_by start false false c f g h) (sym (lt-ltb (8 * l) needed few))
      ∙ sym (ap₂ (λ (a b : Bool). fault_by start a b (ltb (8 * l) needed) f g h) (le-ltb 0 too_wide (omega arith)) (ap not (eq-eqb (sum lengths) values right)))

  pub no_fault : sum lengths ≡ values → 8 * (5 + skip + list_octets layout) + packed_bits (groups_from references widths lengths) ≤ 8 * l
      → None ≡ lists_fault layout start skip l values references widths lengths
  no_fault right enough =
      let too_wide = first_place (λ w. ltb 32 w) widths in
      let needed = 8 * (5 + skip + list_octets layout) + packed_bits (groups_from references widths lengths) in
      let f = refusal (6 + skip + reference_octets layout) GroupWidth too_wide in
      let h = refusal 1 DataTooShort l in
      let g = refusal 1 GroupShape (first_past values 0 lengths) in
      ap (λ (c : Bool). fault_by start false false c f g h) (sym (le-ltb (8 * l) needed enough))
      ∙ sym (ap₂ (λ (a b : Bool). fault_by start a b (ltb (8 * l) needed) f g h) (le-ltb 0 too_wide (omega arith)) (ap not (eq-eqb (sum lengths) values right)))

-- ---- where no rule fails

no_rule : (start : ℕ) (wide shape short : Bool) (f g h : Fault) → fault_by start wide shape short f g h ≡ None → (wide ≡ false) × (shape ≡ false) × (short ≡ false)
no_rule start true shape short f g h none = absurd (cc)
no_rule start false true short f g h none = absurd (cc)
no_rule start false false true f g h none = absurd (cc)
no_rule start false false false f g h none = (refl, refl, refl)

-- what holds where no rule fails
pub record Fit (layout : Layout) (skip l values : ℕ) (references widths lengths : List ℕ) : Type 0 where
  pub narrow : first_place (λ w. ltb 32 w) widths ≡ 0
  pub right : sum lengths ≡ values
  pub enough : 8 * (5 + skip + list_octets layout) + packed_bits (groups_from references widths lengths) ≤ 8 * l

pub fit_from : (layout : Layout) (start skip l values : ℕ) (references widths lengths : List ℕ) → lists_fault layout start skip l values references widths lengths ≡ None
    → Fit layout skip l values references widths lengths
fit_from layout start skip l values references widths lengths none =
    let too_wide = first_place (λ w. ltb 32 w) widths in
    let needed = 8 * (5 + skip + list_octets layout) + packed_bits (groups_from references widths lengths) in
    let parts = no_rule start (ltb 0 too_wide) (not (eqb (sum lengths) values)) (ltb (8 * l) needed) (refusal (6 + skip + reference_octets layout) GroupWidth too_wide) (refusal 1 GroupShape (first_past values 0 lengths)) (refusal 1 DataTooShort l) none in
    record {
      narrow = omega (arith, ltb-false 0 too_wide parts.0);
      right = eqb-true (sum lengths) values (not-false (eqb (sum lengths) values) parts.1);
      enough = ltb-false (8 * l) needed parts.2;
    }

-- nothing is noted where no place is
no_place : (noted : Option ℕ) → ((place : ℕ) → noted ≡ Some place → ⊥) → noted ≡ None
no_place None none = refl
no_place (Some place) none = absurd (none place refl)

noted_some : (noted : Option ℕ) (place is_place : ℕ) → noted ≡ Some place → IsNoted noted is_place → is_place ≡ 0 → ⊥
noted_some None place is_place is are none = cc
noted_some (Some n) place is_place is are none = omega (arith, are.0, are.1, none)

-- the groups of lists that fit
pub groups_are : (layout : Layout) (skip l values : ℕ) (lists : Lists) (table : Table) (references widths lengths : List ℕ) → ListsAre layout values lists references widths lengths
    → Fit layout skip l values references widths lengths → table.references ≡ lists.references.items → table.widths ≡ lists.widths.items → table.lengths ≡ lists.lengths.items
    → groups_in table ≡ groups_from references widths lengths
groups_are layout skip l values lists table references widths lengths are fit is_references is_widths is_lengths =
    let not_past = no_place lists.lengths.past (λ place is. omega (arith, are.lengths_are.over place is, fit.right)) in
    let not_wide = no_place lists.widths.too_wide (λ place is. noted_some lists.widths.too_wide place _ is are.widths_are.place fit.narrow) in
    ap₂ (λ (rs ws : List ℕ). groups_from rs ws table.lengths.items) (ap (λ v. v.items) is_references ∙ are.references_are) (ap (λ v. v.items) is_widths ∙ are.widths_are.items not_wide)
    ∙ ap (groups_from references widths) (ap (λ v. v.items) is_lengths ∙ are.lengths_are.items not_past)

-- ---- the table of lists that were read

-- what is known of it where no rule fails
pub record TableRead (layout : Layout) (skip l values : ℕ) (references widths lengths : List ℕ) (table : Table) : Type 0 where
  pub whole : IsWhole table
  pub narrow : IsNarrow table
  pub are : groups_in table ≡ groups_from references widths lengths
  pub counted : values_of (groups_from references widths lengths) ≡ values
  pub enough : 8 * (5 + skip + list_octets layout) + packed_bits (groups_from references widths lengths) ≤ 8 * l

pub table_read : (layout : Layout) (start skip l values : ℕ) (lists : Lists) (table : Table) (references widths lengths : List ℕ) → ListsAre layout values lists references widths lengths
    → lists_fault layout start skip l values references widths lengths ≡ None → table.references ≡ lists.references.items → table.widths ≡ lists.widths.items → table.lengths ≡ lists.lengths.items
    → TableRead layout skip l values references widths lengths table
table_read layout start skip l values lists table references widths lengths are none is_references is_widths is_lengths =
    let fit = fit_from layout start skip l values references widths lengths none in
    record {
      whole = record {
        references = omega (arith, ap length (ap (λ v. v.items) is_references), ap length (ap (λ v. v.items) is_lengths), are.reference_count, are.length_count, ap length are.references_are, are.lengths_are.long, table.references.ok.0, table.lengths.ok.0);
        widths = omega (arith, ap length (ap (λ v. v.items) is_widths), ap length (ap (λ v. v.items) is_lengths), are.width_count, are.length_count, are.widths_are.long, are.lengths_are.long, table.widths.ok.0, table.lengths.ok.0);
      };
      narrow = subst (λ v. IsNarrow (record table { widths = v })) (sym is_widths) are.widths_are.narrow;
      are = groups_are layout skip l values lists table references widths lengths are fit is_references is_widths is_lengths;
      counted = values-groups_from references widths lengths (are.reference_count ∙ sym are.length_count) (are.width_count ∙ sym are.length_count) ∙ fit.right;
      enough = fit.enough;
    }
