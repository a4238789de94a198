-- Lemmas on what becomes of the codes of a Section 7.
use Rattle.std.proofs.Common.{◌≡◌, ℕ, ◌+◌, ◌*◌, ◌<◌, ◌⊎◌, Bool, true, false, cond, ◌&&◌, eqb, ltb, Some, None, List, length, drop, refl, sym, ap, ap₂, ◌∙◌, arith, inl, inr}
use Rattle.std.proofs.lemmas.Bool.{eq-eqb, lt-ltb}
use Rattle.grib_base.specs.declared.fault.Reason.TheVariants.{FirstValueSign, ScaledRange}
use Rattle.grib_base.specs.Rules.{first_fault, first_fault_at, first_place, located, refusal}
use Rattle.grib_packing.specs.declared.layout.Layout.{Layout}
use Rattle.grib_packing.specs.Complex.{layout_of, difference_order, extra_octets, descriptor_octets}
use Rattle.grib_packing.specs.Entries.{codes_of, group_entries, first_value_rules, range_rules, group_data_fault, is_out_of_range}
use Rattle.grib_packing.specs.Groups.{grouped, list_rules, group_rules}
use Rattle.grib_packing.specs.Packing.{packing_template, value_count}
use Rattle.grib_complex_reading.specs.Told.{told}
use Rattle.grib_complex_reading.specs.Descriptors.{is_signed_at, telling_by, IsAccepted}
use Rattle.grib_complex_reading.specs.declared.representation.Complex.{Complex}
use Rattle.grib_complex_reading.specs.Representation.{Spelled}
use Rattle.grib_base.specs.declared.fault.Fault.{Fault}
use Rattle.grib_complex_reading.proofs.Decided.{after_groups, fault_of_groups, entries-plain, entries-differences}

-- the numbers of a Section 5, as the code has them
pub record Numbers (s5 : List ℕ) (layout : Layout) (skip count order extra template : ℕ) : Type 0 where
  pub is_layout : layout ≡ layout_of s5
  pub is_skip : skip ≡ descriptor_octets s5
  pub is_count : count ≡ value_count s5
  pub is_order : order ≡ difference_order s5
  pub is_extra : extra ≡ extra_octets s5
  pub is_template : template ≡ packing_template s5
  pub orders : ((template ≡ 2) × (order ≡ 0)) ⊎ ((template ≡ 3) × ((order ≡ 1) ⊎ (order ≡ 2)))

-- ---- first values

module _ (s5 s7 : List ℕ) (layout : Layout) (skip count order extra template : ℕ) (same : Numbers s5 layout skip count order extra template) where
  pub rules_of_signs : first_fault (first_value_rules s5 s7)
      ≡ cond (is_signed_at order extra s7 0) (Some (refusal 6 FirstValueSign 1)) (cond (is_signed_at order extra s7 1) (Some (refusal (6 + extra) FirstValueSign 2)) None)
  rules_of_signs =
      sym (ap₂ (λ (o e : ℕ). cond (is_signed_at o e s7 0) (Some (refusal 6 FirstValueSign 1)) (cond (is_signed_at o e s7 1) (Some (refusal (6 + e) FirstValueSign 2)) None)) same.is_order same.is_extra)

  -- where codes were taken
  pub codes_are : grouped layout (drop (5 + skip) s7) ≡ codes_of s5 s7
  codes_are = ap₂ (λ (l : Layout) (k : ℕ). grouped l (drop (5 + k) s7)) same.is_layout same.is_skip

  pub rules_are : (start : ℕ) → first_fault_at start (group_rules layout s7 skip count) ≡ located start (first_fault (group_rules (layout_of s5) s7 (descriptor_octets s5) (value_count s5)))
  rules_are start =
      ap₂ (λ (l : Layout) (k : ℕ). first_fault_at start (group_rules l s7 k count)) same.is_layout same.is_skip
      ∙ ap (λ (n : ℕ). first_fault_at start (group_rules (layout_of s5) s7 (descriptor_octets s5) n)) same.is_count

  pub lists_are : (l : ℕ) → l ≡ length s7 → first_fault (list_rules layout l skip) ≡ first_fault (list_rules (layout_of s5) (length s7) (descriptor_octets s5))
  lists_are l is_length =
      ap₂ (λ (a : Layout) (k : ℕ). first_fault (list_rules a l k)) same.is_layout same.is_skip
      ∙ ap (λ (n : ℕ). first_fault (list_rules (layout_of s5) n (descriptor_octets s5))) is_length

  pub entries_are : told (telling_by order extra s7) (codes_of s5 s7) ≡ group_entries s5 s7
  entries_are = elim same.orders [
    | inl two ↦ entries-plain s5 s7 order extra same.is_order same.is_extra (sym same.is_template ∙ two.0) two.1
    | inr three ↦ entries-differences s5 s7 order extra same.is_order same.is_extra (sym same.is_template ∙ three.0) three.1
  ]

-- ---- rule S7.7

module _ (s5 s7 : List ℕ) where
  pub within_range : first_place is_out_of_range (group_entries s5 s7) ≡ 0 → first_fault (range_rules s5 s7) ≡ None
  within_range none = go (eqb (packing_template s5) 3) where
    go : (b : Bool) → cond (b && ltb 0 (first_place is_out_of_range (group_entries s5 s7))) (Some (refusal 1 ScaledRange (first_place is_out_of_range (group_entries s5 s7)))) None ≡ None
    go true = ap (λ (n : ℕ). cond (ltb 0 n) (Some (refusal 1 ScaledRange n)) None) none
    go false = refl

  pub beyond_range : packing_template s5 ≡ 3 → 0 < first_place is_out_of_range (group_entries s5 s7)
      → first_fault (range_rules s5 s7) ≡ Some (refusal 1 ScaledRange (first_place is_out_of_range (group_entries s5 s7)))
  beyond_range three some =
      let place = first_place is_out_of_range (group_entries s5 s7) in
      ap₂ (λ (a b : Bool). cond (a && b) (Some (refusal 1 ScaledRange place)) None) (eq-eqb (packing_template s5) 3 three) (lt-ltb 0 place some)

-- ---- all rules together

-- the numbers of Section 5, where the octets of the extra descriptors are these
pub numbers_with : (complex : Complex) (s5 : List ℕ) (skip : ℕ) → Spelled complex s5 → IsAccepted complex → skip ≡ (complex.order + 1) * complex.extra
    → Numbers s5 complex.layout skip complex.simple.values complex.order complex.extra complex.simple.template
numbers_with complex s5 skip spelled accepted is_skip = record {
  is_layout = spelled.layout;
  is_skip = is_skip ∙ ap₂ (λ (o e : ℕ). (o + 1) * e) spelled.order spelled.extra;
  is_count = spelled.simple.values;
  is_order = spelled.order;
  is_extra = spelled.extra;
  is_template = spelled.simple.template;
  orders = accepted.order;
}

-- what holds once rules S7.2 and S7.3 do
module _ (s5 s7 : List ℕ) (layout : Layout) (skip count order extra template : ℕ) (same : Numbers s5 layout skip count order extra template)
    (start l : ℕ) (is_length : l ≡ length s7) (lists : first_fault (list_rules layout l skip) ≡ None)
    (signs : (is_signed_at order extra s7 0 ≡ false) × (is_signed_at order extra s7 1 ≡ false)) where
  lists_hold : first_fault (list_rules (layout_of s5) (length s7) (descriptor_octets s5)) ≡ None
  lists_hold = sym (lists_are s5 s7 layout skip count order extra template same l is_length) ∙ lists

  signs_hold : first_fault (first_value_rules s5 s7) ≡ None
  signs_hold =
      rules_of_signs s5 s7 layout skip count order extra template same
      ∙ ap₂ (λ (a b : Bool). cond a (Some (refusal 6 FirstValueSign 1)) (cond b (Some (refusal (6 + extra) FirstValueSign 2)) None)) signs.0 signs.1

module _ (s5 s7 : List ℕ) (layout : Layout) (skip count order extra template : ℕ) (same : Numbers s5 layout skip count order extra template)
    (start l : ℕ) (is_length : l ≡ length s7) (lists : first_fault (list_rules layout l skip) ≡ None)
    (signs : (is_signed_at order extra s7 0 ≡ false) × (is_signed_at order extra s7 1 ≡ false)) where
  -- one of rules S7.4 to S7.6 fails
  pub refused_groups : (f : Fault) → first_fault_at start (group_rules layout s7 skip count) ≡ Some f → located start (group_data_fault s5 s7) ≡ Some f
  refused_groups f is_fault =
      fault_of_groups s5 s7 start (lists_hold s5 s7 layout skip count order extra template same start l is_length lists signs) (signs_hold s5 s7 layout skip count order extra template same start l is_length lists signs)
      f (sym (rules_are s5 s7 layout skip count order extra template same start) ∙ is_fault)

  -- only rule S7.7 is left
  pub rest_is_range : first_fault_at start (group_rules layout s7 skip count) ≡ None → group_data_fault s5 s7 ≡ first_fault (range_rules s5 s7)
  rest_is_range none =
      after_groups s5 s7 start (lists_hold s5 s7 layout skip count order extra template same start l is_length lists signs) (signs_hold s5 s7 layout skip count order extra template same start l is_length lists signs)
      (sym (rules_are s5 s7 layout skip count order extra template same start) ∙ none)

-- template 5.2 has no rule on the range
pub no_range : (s5 s7 : List ℕ) → packing_template s5 ≡ 2 → first_fault (range_rules s5 s7) ≡ None
no_range s5 s7 two =
    let place = first_place is_out_of_range (group_entries s5 s7) in
    ap (λ (t : ℕ). cond (eqb t 3 && ltb 0 place) (Some (refusal 1 ScaledRange place)) None) two

pub plain_range : (complex : Complex) (s5 s7 : List ℕ) → Spelled complex s5 → IsAccepted complex → complex.order ≡ 0 → first_fault (range_rules s5 s7) ≡ None
plain_range complex s5 s7 spelled accepted none = elim accepted.order [
  | inl two ↦ no_range s5 s7 (sym spelled.simple.template ∙ two.0)
  | inr three ↦ absurd (elim three.1 [
    | inl one ↦ omega arith
    | inr both ↦ omega arith
  ])
]
