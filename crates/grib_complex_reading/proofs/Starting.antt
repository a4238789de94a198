-- Lemmas on a Section 7 of which no octet came.
use Rattle.std.proofs.Common.{◌≡◌, ℕ, zero, suc, ◌+◌, ◌*◌, ◌^◌, ◌<◌, ◌≤◌, Bool, true, cond, Option, Some, None, List, [], ◌∷◌, length, drop, map, vec_capacity, replicate, pos, refl, sym, ap, ◌∙◌, arith, subst}
use Rattle.std.proofs.lemmas.Bool.{lt-ltb}
use Rattle.grib_bits.specs.Bits.{bits}
use Rattle.grib_bits.specs.Plain.{plain}
use Rattle.grib_base.specs.declared.code.Code.TheVariants.{Present}
use Rattle.grib_base.specs.declared.fault.Fault.{Fault}
use Rattle.grib_base.specs.declared.fault.Reason.TheVariants.{DataTooShort}
use Rattle.grib_base.specs.Rules.{first_fault, located, refusal, choose}
use Rattle.grib_packing.specs.declared.column.Point.TheVariants.{Scaled}
use Rattle.grib_packing.specs.Entries.{data_fault, entries_of, group_data_fault, group_entries, has_no_groups}
use Rattle.grib_packing.specs.Groups.{codes_from, list_octets, list_rules}
use Rattle.grib_packing.specs.Packing.{packing_template, value_count}
use Rattle.grib_packing.proofs.Packings.{IsComplexTemplate, data_fault-complex, entries_of-complex}
use Rattle.grib_packing.proofs.Fields.{plain-add}
use Rattle.grib_group_reading.specs.declared.feeding.Fed.{Fed}
use Rattle.grib_group_reading.specs.declared.lists.Lists.{Lists as GroupLists}
use Rattle.grib_group_reading.specs.declared.lists.References.{References}
use Rattle.grib_group_reading.specs.Feeding.{HasRoom, IsCaughtUp, IsFeedable, IsList, WasFed, no_marks, plain_groups}
use Rattle.grib_group_reading.specs.Lists.{AreEmpty, ReferencesRoom, ReferencesTook}
use Rattle.grib_group_reading.specs.Table.{groups_in}
use Rattle.grib_group_reading.specs.Taking.{values}
use Rattle.grib_group_reading.proofs.Pieces.{no_part, plain_codes, plain_packed}
use Rattle.grib_group_reading.proofs.Taken.{values-cons}
use Rattle.grib_packing.specs.declared.column.Point.{Point}
use Rattle.grib_complex_reading.specs.declared.values.PlainValues.{PlainValues}
use Rattle.grib_complex_reading.specs.declared.representation.Complex.{Complex}
use Rattle.grib_complex_reading.specs.Descriptors.{IsAccepted}
use Rattle.grib_complex_reading.specs.Representation.{Spelled}
use Rattle.grib_complex_reading.proofs.Arriving.{fault_grouped}
use Rattle.grib_complex_reading.proofs.Decided.{fault_of_lists}
use Rattle.grib_complex_reading.proofs.Outcome.{numbers_with, lists_are}
use Rattle.grib_complex_reading.proofs.Begun.{told_count}
use Rattle.grib_complex_reading.proofs.SoFar.{no_table, none_before, one_group, plain_so_far, told_plainly}
use Rattle.grib_complex_reading.specs.Feeding.{BeginningAgrees, PassingAgrees, PlainAgrees, ReadingPlainly}
use Rattle.grib_complex_reading.specs.Tells.{PlainTook}
use Rattle.grib_complex_reading.specs.Told.{Plainly, told}

pub told_plain : (ns : List ℕ) → told Plainly (map Present ns) ≡ map (λ n. Scaled (pos n)) ns
told_plain [] = refl
told_plain (n ∷ ns) = ap (λ ps. Scaled (pos n) ∷ ps) (told_plain ns)

-- numbers of no bits
no_bits : (xs : List Bool) (count : ℕ) → map (λ n. Scaled (pos n)) (plain xs 0 count) ≡ replicate count (Scaled (pos 0))
no_bits xs zero = refl
no_bits xs (suc count) =
    let more : suc count ≡ 1 + count = omega arith in
    ap (λ (k : ℕ). map (λ n. Scaled (pos n)) (plain xs 0 k)) more
    ∙ ap (map (λ n. Scaled (pos n))) (plain-add xs 0 1 count)
    ∙ ap (λ ps. Scaled (pos 0) ∷ ps) (no_bits xs count)

pub plain_values : (w count : ℕ) → values (plain_groups w count) ≡ count
plain_values w count = omega (arith, values-cons (record { reference = 0; width = w; count = count }) [])

-- before the first octet of numbers of one width
pub starts_plain : {K : Type 0} (kept : K → List Point → K → Type 0) (keeper : K) (l w count : ℕ) (fed : Fed (PlainValues K)) → IsFeedable (2 ^ 49) fed → IsCaughtUp fed
    → WasFed (PlainTook kept) no_marks (plain_groups w count) (record { keeper = keeper }) [] fed → 40 + count * w ≤ 8 * l → PlainAgrees kept keeper l [] no_marks (plain_groups w count) 0 fed
starts_plain kept keeper l w count fed feedable caught_up fresh enough = record {
  came = omega arith;
  enough = omega (arith, plain_packed w count, enough);
  feedable = feedable;
  so_far = fresh;
  caught_up = caught_up;
}

-- the points that numbers of one width tell
pub plain_told : (w count : ℕ) (xs : List Bool) → told Plainly (codes_from no_marks (plain_groups w count) xs) ≡ map (λ n. Scaled (pos n)) (plain xs w count)
plain_told w count xs = ap (told Plainly) (plain_codes w count xs) ∙ told_plain (plain xs w count)

-- where there are no groups
module _ (s5 : List ℕ) (complex : IsComplexTemplate (packing_template s5)) (none : has_no_groups s5 ≡ true) where
  pub zero_entries : (s7 : List ℕ) → replicate (value_count s5) (Scaled (pos 0)) ≡ entries_of s5 s7
  zero_entries s7 =
      sym (entries_of-complex s5 s7 complex
      ∙ ap (λ (b : Bool). choose b (λ _. replicate (value_count s5) (Scaled (pos 0))) (λ _. group_entries s5 s7)) none)

  pub zero_passes : (s7 : List ℕ) → data_fault s5 s7 ≡ None
  zero_passes s7 =
      data_fault-complex s5 s7 complex
      ∙ ap (λ (b : Bool). choose b (λ _. let o : Option Fault = None in o) (λ _. group_data_fault s5 s7)) none

module _ {K : Type 0} (kept : K → List Point → K → Type 0) (s5 : List ℕ) (keeper : K) (start l count : ℕ) (complex : IsComplexTemplate (packing_template s5)) (none : has_no_groups s5 ≡ true) (is_count : count ≡ value_count s5) (least : 5 ≤ l) where
  zeros_told : (s7 : List ℕ) → told Plainly (codes_from no_marks (plain_groups 0 count) (bits (drop 5 s7))) ≡ entries_of s5 s7
  zeros_told s7 =
      plain_told 0 count (bits (drop 5 s7)) ∙ no_bits (bits (drop 5 s7)) count
      ∙ ap (λ (n : ℕ). replicate n (Scaled (pos 0))) is_count ∙ zero_entries s5 complex none s7

  pub starts_zeros : (fed : Fed (PlainValues K)) → IsFeedable (2 ^ 49) fed → IsCaughtUp fed → groups_in fed.table ≡ []
      → WasFed (PlainTook kept) no_marks (plain_groups 0 count) (record { keeper = keeper }) [] fed → ReadingPlainly kept s5 keeper l [] fed
  starts_zeros fed feedable caught_up none_listed fresh =
      let nothing : count * 0 ≡ 0 = omega arith in
      let reads = starts_plain kept keeper l 0 count fed feedable caught_up fresh (omega (arith, least, nothing)) in
      record {
        layout = no_marks;
        groups = plain_groups 0 count;
        before = 0;
        reads = reads;
        counted = plain_values 0 count ∙ is_count;
        entries = λ s7 c. zeros_told s7;
        passes = λ s7 c. zero_passes s5 complex none s7;
        before_is = none_before s5 none;
        groups_are = λ s7 c. one_group s5 none count is_count s7;
        table = λ s7 c. none_listed ∙ no_table s5 none s7;
        telling_is = λ s7 c. told_plainly s5 none s7;
        points = λ s7 c. plain_so_far kept s5 keeper l [] no_marks (plain_groups 0 count) 0 fed reads s7 c (zeros_told s7) (one_group s5 none count is_count s7) (none_before s5 none);
      }

  -- and where nothing is kept of their points
  pub passes_zeros : ((points : List Point) → kept keeper points keeper) → PassingAgrees kept s5 keeper l [] keeper
  passes_zeros keeps = record {
    passes = λ s7 c. zero_passes s5 complex none s7;
    counted = λ s7 c. told_count no_marks (plain_groups 0 count) Plainly (bits (drop 5 s7)) (entries_of s5 s7) (value_count s5) (zeros_told s7) (plain_values 0 count ∙ is_count);
    keeps = keeps;
  }

-- ---- before the lists

-- the descriptors and lists of a section of which nothing came
pub begins : {K : Type 0} (complex : Complex) (s5 : List ℕ) (l : ℕ) (first : References) (descriptors : Fed References) (lists : GroupLists) (keeper : K) → Spelled complex s5 → IsAccepted complex → 1 ≤ complex.layout.groups
    → complex.simple.values < 2 ^ 32 → 5 + (complex.order + 1) * complex.extra + list_octets complex.layout ≤ l
    → first.items.items ≡ [] → 3 ≤ vec_capacity first.items → WasFed ReferencesTook no_marks (plain_groups (8 * complex.extra) (complex.order + 1)) first [] descriptors
    → IsFeedable (2 ^ 32) descriptors → IsList (8 * complex.extra) descriptors → HasRoom ReferencesRoom descriptors 0 → AreEmpty complex.layout complex.simple.values lists
    → BeginningAgrees s5 keeper l [] (record { complex = complex; descriptors = descriptors; lists = lists; keeper = keeper })
begins complex s5 l first descriptors lists keeper spelled accepted groups few within empty memory fed feedable list room listed = record {
  spelled = spelled;
  accepted = accepted;
  groups = groups;
  few = few;
  within = within;
  below = omega arith;
  first = first;
  empty = empty;
  memory = memory;
  descriptors = subst (λ (os : List ℕ). WasFed ReferencesTook no_marks (plain_groups (8 * complex.extra) (complex.order + 1)) first os descriptors) (sym (no_part 0 ((complex.order + 1) * complex.extra))) fed;
  feedable = feedable;
  list = list;
  room = room;
  lists = listed;
  keeper_is = refl;
}

-- a section that is shorter than its lists
pub lists_refused : (complex : Complex) (s5 : List ℕ) (start l : ℕ) → Spelled complex s5 → IsAccepted complex → 1 ≤ complex.layout.groups → l < 5 + (complex.order + 1) * complex.extra + list_octets complex.layout
    → (s7 : List ℕ) → length s7 ≡ l → located start (data_fault s5 s7) ≡ Some (refusal start DataTooShort l)
lists_refused complex s5 start l spelled accepted groups short s7 long =
    let k = (complex.order + 1) * complex.extra in
    let numbers = numbers_with complex s5 k spelled accepted refl in
    let fails : first_fault (list_rules complex.layout l k) ≡ Some (refusal 1 DataTooShort l) =
    ap (λ (b : Bool). cond b (Some (refusal 1 DataTooShort l)) None) (lt-ltb l (5 + k + list_octets complex.layout) short) in
    let here = sym (lists_are s5 s7 complex.layout k complex.simple.values complex.order complex.extra complex.simple.template numbers l (sym long)) ∙ fails in
    let origin : start + 0 ≡ start = omega arith in
    ap (located start) (fault_grouped complex s5 spelled accepted groups s7)
    ∙ fault_of_lists s5 s7 start (refusal 1 DataTooShort l) here
    ∙ ap (λ (o : ℕ). Some (refusal o DataTooShort l)) origin
