-- Lemmas on a Section 7 of which the first octets came.
use Rattle.std.proofs.Common.{◌≡◌, ℕ, ◌+◌, ◌-◌, ◌*◌, ◌≤◌, Bool, true, false, cond, eqb, Option, Some, None, List, ◌++◌, length, drop, replicate, pos, refl, sym, ap, ap₂, ◌∙◌, arith, append_assoc, le-ltb, inl, inr}
use Rattle.std.proofs.lemmas.Bool.{ne_eqb}
use Rattle.std.proofs.lemmas.List.{drop-drop, drop-append-le, length-drop}
use Rattle.grib_bits.specs.Bits.{bits}
use Rattle.grib_bits.specs.Octets.{octets}
use Rattle.grib_base.specs.declared.fault.Fault.{Fault}
use Rattle.grib_base.specs.declared.fault.Reason.TheVariants.{FirstValueSign, DataTooShort}
use Rattle.grib_base.specs.Rules.{first_fault, first_fault_at, located, refusal, choose}
use Rattle.grib_packing.specs.declared.layout.Layout.{Layout}
use Rattle.grib_packing.specs.declared.group.Group.{Group}
use Rattle.grib_packing.specs.declared.column.Point.TheVariants.{Scaled}
use Rattle.grib_packing.specs.Complex.{layout_of, descriptor_octets}
use Rattle.grib_packing.specs.Entries.{data_fault, entries_of, group_data_fault, group_entries, first_value_rules, range_rules}
use Rattle.grib_packing.specs.Groups.{list_rules, group_rules, list_octets, references, widths, lengths, groups, groups_from, codes_from}
use Rattle.grib_packing.specs.Packing.{packing_template, value_count}
use Rattle.grib_packing.proofs.Packings.{IsComplexTemplate, data_fault-complex, entries_of-complex}
use Rattle.grib_group_reading.specs.Lists.{lists_fault}
use Rattle.grib_complex_reading.proofs.Decided.{fault_of_signs}
use Rattle.grib_complex_reading.proofs.Outcome.{Numbers, numbers_with, rules_of_signs, lists_are, refused_groups, rest_is_range, codes_are, entries_are}
use Rattle.grib_group_reading.proofs.Pieces.{references-front, widths-front, lengths-front}
use Rattle.grib_complex_reading.specs.declared.representation.Complex.{Complex}
use Rattle.grib_complex_reading.specs.Descriptors.{is_signed_at, telling_by, IsAccepted}
use Rattle.grib_complex_reading.specs.Feeding.{Continues}
use Rattle.grib_complex_reading.specs.Representation.{Spelled}
use Rattle.grib_complex_reading.specs.Told.{told}

-- ---- what continues

pub continues_from : (octets piece : List ℕ) (l : ℕ) (s7 : List ℕ) → Continues (octets ++ piece) l s7 → Continues octets l s7
continues_from octets piece l s7 c = record { long = c.long; known = c.known; rest = piece ++ c.rest; joined = c.joined ∙ append_assoc octets piece c.rest }

pub rest_at : (k : ℕ) (octets : List ℕ) (l : ℕ) (s7 : List ℕ) → k ≤ length octets → (c : Continues octets l s7) → drop (5 + k) s7 ≡ drop k octets ++ c.rest
rest_at k octets l s7 within c = sym (drop-drop k 5 s7) ∙ ap (drop k) c.joined ∙ drop-append-le k octets c.rest within

-- ---- the branch of a field with groups

pub complex_of : (complex : Complex) (s5 : List ℕ) → Spelled complex s5 → IsAccepted complex → IsComplexTemplate (packing_template s5)
complex_of complex s5 spelled accepted = elim accepted.order [
  | inl two ↦ inl (sym spelled.simple.template ∙ two.0)
  | inr three ↦ inr (sym spelled.simple.template ∙ three.0)
]

module _ (complex : Complex) (s5 : List ℕ) (spelled : Spelled complex s5) (accepted : IsAccepted complex) (some : 1 ≤ complex.layout.groups) (s7 : List ℕ) where
  pub has_groups : eqb (octets s5 32 35) 0 ≡ false
  has_groups = ne_eqb (octets s5 32 35) 0 (λ none. absurd (omega (arith, none, ap (λ l. l.groups) spelled.layout)))

  pub fault_grouped : data_fault s5 s7 ≡ group_data_fault s5 s7
  fault_grouped =
      data_fault-complex s5 s7 (complex_of complex s5 spelled accepted)
      ∙ ap (λ (b : Bool). choose b (λ _. let o : Option Fault = None in o) (λ _. group_data_fault s5 s7)) has_groups

  pub entries_grouped : entries_of s5 s7 ≡ group_entries s5 s7
  entries_grouped =
      entries_of-complex s5 s7 (complex_of complex s5 spelled accepted)
      ∙ ap (λ (b : Bool). choose b (λ _. replicate (value_count s5) (Scaled (pos 0))) (λ _. group_entries s5 s7)) has_groups

-- ---- the lists

module _ (layout : Layout) (skip values l : ℕ) (octets s7 : List ℕ) (c : Continues octets l s7) (whole : skip + list_octets layout ≤ length octets) where
  long_lists : list_octets layout ≤ length (drop skip octets)
  long_lists = omega (arith, length-drop skip octets)

  at_lists : drop (5 + skip) s7 ≡ drop skip octets ++ c.rest
  at_lists = rest_at skip octets l s7 (omega arith) c

  pub references_are : references layout (drop (5 + skip) s7) ≡ references layout (drop skip octets)
  references_are = ap (references layout) at_lists ∙ references-front layout (drop skip octets) c.rest long_lists

  pub widths_are : widths layout (drop (5 + skip) s7) ≡ widths layout (drop skip octets)
  widths_are = ap (widths layout) at_lists ∙ widths-front layout (drop skip octets) c.rest long_lists

  pub lengths_are : lengths layout (drop (5 + skip) s7) ≡ lengths layout (drop skip octets)
  lengths_are = ap (lengths layout) at_lists ∙ lengths-front layout (drop skip octets) c.rest long_lists

  pub rules_came : (start : ℕ) → first_fault_at start (group_rules layout s7 skip values)
      ≡ lists_fault layout start skip l values (references layout (drop skip octets)) (widths layout (drop skip octets)) (lengths layout (drop skip octets))
  rules_came start =
      ap₂ (λ (rs ws : List ℕ). lists_fault layout start skip (length s7) values rs ws (lengths layout (drop (5 + skip) s7))) references_are widths_are
      ∙ ap₂ (λ (n : ℕ) (ls : List ℕ). lists_fault layout start skip n values (references layout (drop skip octets)) (widths layout (drop skip octets)) ls) c.long lengths_are

  pub groups_came : groups layout (drop (5 + skip) s7) ≡ groups layout (drop skip octets)
  groups_came =
      ap₂ (λ (rs ws : List ℕ). groups_from rs ws (lengths layout (drop (5 + skip) s7))) references_are widths_are
      ∙ ap (groups_from (references layout (drop skip octets)) (widths layout (drop skip octets))) lengths_are

-- ---- rules of a section that continues

module _ (s5 s7 : List ℕ) (start : ℕ) (lists : first_fault (list_rules (layout_of s5) (length s7) (descriptor_octets s5)) ≡ None) where
  pub signs_fail : (o : Option Fault) (g : Fault) → first_fault (first_value_rules s5 s7) ≡ o → located start o ≡ Some g → located start (group_data_fault s5 s7) ≡ Some g
  signs_fail None g is fails = absurd (cc)
  signs_fail (Some f) g is fails = fault_of_signs s5 s7 start lists f is ∙ fails

pub lists_pass : (layout : Layout) (l skip : ℕ) → 5 + skip + list_octets layout ≤ l → first_fault (list_rules layout l skip) ≡ None
lists_pass layout l skip within =
    ap (λ (b : Bool). cond b (Some (refusal 1 DataTooShort l)) None) (le-ltb l (5 + skip + list_octets layout) within)

-- a first value has its top bit set
module _ (complex : Complex) (s5 : List ℕ) (spelled : Spelled complex s5) (accepted : IsAccepted complex) (some : 1 ≤ complex.layout.groups) (start : ℕ) (s7 : List ℕ)
    (within : 5 + (complex.order + 1) * complex.extra + list_octets complex.layout ≤ length s7) where
  pub signs_refuse : (f : Fault)
      → cond (is_signed_at complex.order complex.extra s7 0) (Some (refusal (start + 5) FirstValueSign 1)) (cond (is_signed_at complex.order complex.extra s7 1) (Some (refusal (start + 5 + complex.extra) FirstValueSign 2)) None) ≡ Some f
      → located start (data_fault s5 s7) ≡ Some f
  signs_refuse f is =
      let order = complex.order in
      let extra = complex.extra in
      let numbers = numbers_with complex s5 ((order + 1) * extra) spelled accepted refl in
      let lists = sym (lists_are s5 s7 complex.layout ((order + 1) * extra) complex.simple.values order extra complex.simple.template numbers (length s7) refl) ∙ lists_pass complex.layout (length s7) ((order + 1) * extra) within in
      let rules = rules_of_signs s5 s7 complex.layout ((order + 1) * extra) complex.simple.values order extra complex.simple.template numbers in
      ap (located start) (fault_grouped complex s5 spelled accepted some s7)
      ∙ signs_fail s5 s7 start lists _ f rules (at_start (is_signed_at order extra s7 0) (is_signed_at order extra s7 1) ∙ is)
    where
      at_start : (a b : Bool) → located start (cond a (Some (refusal 6 FirstValueSign 1)) (cond b (Some (refusal (6 + complex.extra) FirstValueSign 2)) None))
          ≡ cond a (Some (refusal (start + 5) FirstValueSign 1)) (cond b (Some (refusal (start + 5 + complex.extra) FirstValueSign 2)) None)
      at_start true b = refl
      at_start false true = let place : start + (6 + complex.extra - 1) ≡ start + 5 + complex.extra = omega arith in ap (λ (o : ℕ). Some (refusal o FirstValueSign 2)) place
      at_start false false = refl

module _ (complex : Complex) (s5 : List ℕ) (spelled : Spelled complex s5) (accepted : IsAccepted complex) (some : 1 ≤ complex.layout.groups) (start l : ℕ) (octets s7 : List ℕ) (c : Continues octets l s7)
    (within : 5 + (complex.order + 1) * complex.extra + list_octets complex.layout ≤ l) (whole : (complex.order + 1) * complex.extra + list_octets complex.layout ≤ length octets) where
  numbers : Numbers s5 complex.layout ((complex.order + 1) * complex.extra) complex.simple.values complex.order complex.extra complex.simple.template
  numbers = numbers_with complex s5 ((complex.order + 1) * complex.extra) spelled accepted refl

  module _ (signs : (is_signed_at complex.order complex.extra s7 0 ≡ false) × (is_signed_at complex.order complex.extra s7 1 ≡ false)) where
    -- the lists are refused
    pub came_refused : (f : Fault)
        → lists_fault complex.layout start ((complex.order + 1) * complex.extra) l complex.simple.values (references complex.layout (drop ((complex.order + 1) * complex.extra) octets)) (widths complex.layout (drop ((complex.order + 1) * complex.extra) octets)) (lengths complex.layout (drop ((complex.order + 1) * complex.extra) octets)) ≡ Some f
        → located start (data_fault s5 s7) ≡ Some f
    came_refused f is =
        let k = (complex.order + 1) * complex.extra in
        ap (located start) (fault_grouped complex s5 spelled accepted some s7)
        ∙ refused_groups s5 s7 complex.layout k complex.simple.values complex.order complex.extra complex.simple.template numbers start l (sym c.long) (lists_pass complex.layout l k within) signs
        f (rules_came complex.layout k complex.simple.values l octets s7 c whole start ∙ is)

    -- or only the rule on the range is left
    pub came_whole :
        lists_fault complex.layout start ((complex.order + 1) * complex.extra) l complex.simple.values (references complex.layout (drop ((complex.order + 1) * complex.extra) octets)) (widths complex.layout (drop ((complex.order + 1) * complex.extra) octets)) (lengths complex.layout (drop ((complex.order + 1) * complex.extra) octets)) ≡ None
        → data_fault s5 s7 ≡ first_fault (range_rules s5 s7)
    came_whole none =
        let k = (complex.order + 1) * complex.extra in
        fault_grouped complex s5 spelled accepted some s7
        ∙ rest_is_range s5 s7 complex.layout k complex.simple.values complex.order complex.extra complex.simple.template numbers start l (sym c.long) (lists_pass complex.layout l k within) signs
        (rules_came complex.layout k complex.simple.values l octets s7 c whole start ∙ none)

  -- the entries that the codes tell
  pub came_entries : told (telling_by complex.order complex.extra s7) (codes_from complex.layout (groups complex.layout (drop ((complex.order + 1) * complex.extra) octets)) (bits (drop ((complex.order + 1) * complex.extra + list_octets complex.layout) (drop 5 s7)))) ≡ entries_of s5 s7
  came_entries =
      let k = (complex.order + 1) * complex.extra in
      let place : 5 + (k + list_octets complex.layout) ≡ 5 + k + list_octets complex.layout = omega arith in
      let at_numbers : drop (k + list_octets complex.layout) (drop 5 s7) ≡ drop (list_octets complex.layout) (drop (5 + k) s7) =
      drop-drop (k + list_octets complex.layout) 5 s7 ∙ ap (λ (n : ℕ). drop n s7) place ∙ sym (drop-drop (list_octets complex.layout) (5 + k) s7) in
      ap (λ (xs : List ℕ). told (telling_by complex.order complex.extra s7) (codes_from complex.layout (groups complex.layout (drop k octets)) (bits xs))) at_numbers
      ∙ ap (λ (gs : List Group). told (telling_by complex.order complex.extra s7) (codes_from complex.layout gs (bits (drop (list_octets complex.layout) (drop (5 + k) s7))))) (sym (groups_came complex.layout k complex.simple.values l octets s7 c whole))
      ∙ ap (told (telling_by complex.order complex.extra s7)) (codes_are s5 s7 complex.layout k complex.simple.values complex.order complex.extra complex.simple.template numbers)
      ∙ entries_are s5 s7 complex.layout k complex.simple.values complex.order complex.extra complex.simple.template numbers
      ∙ sym (entries_grouped complex s5 spelled accepted some s7)
