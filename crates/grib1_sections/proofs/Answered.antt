-- What is answered while a message is read.
use Rattle.std.proofs.Common.{◌≡◌, ℕ, ◌+◌, ◌≤◌, true, false, cond, Option, Some, None, List, length, take, map, sum, sym, ap, ap₂, ◌∙◌, arith, subst, le-ltb, eq-eqb}
use Rattle.std.specs.Prelude.{Result, Ok, Err, IsErrAnd, MatchResult}
use Rattle.std.specs.List.{range_with_len}
use Rattle.std.proofs.lemmas.Bool.{not_from_true}
use Rattle.std.proofs.lemmas.List.FromFn.{map-range_with_len_more}
use Rattle.std.proofs.lemmas.List.Sums.{sum_by_push}
use Rattle.grib_bits.specs.Octets.{octets}
use Rattle.grib_base.proofs.Firsts.{some_first, some_later, none_after}
use Rattle.grib_base.specs.declared.fault.Fault.{Fault}
use Rattle.grib_base.specs.Rules.{first_fault, choose}
use Rattle.grib2_sections.specs.Verdict as verdicts
use Rattle.grib2_sections.specs.Verdict.{Verdict}
use Rattle.grib2_sections.specs.declared.indicator.Head.{Head}
use Rattle.grib2_sections.specs.Head.{indicator, edition, discipline, head_rules, head_of, total_length, total_length_1}
use Rattle.grib2_sections.specs.Template.{is_template, least_length}
use Rattle.grib_bitmap.specs.Mask.{present_count}
use Rattle.grib_bitmap.proofs.Runs.{present_count-replicate}
use Rattle.grib1_sections.specs.Frame.{end_rules, section_at}
use Rattle.grib1_sections.specs.Identification.{identification_rules}
use Rattle.grib1_sections.specs.Grid.{grid_rules, grid_types, grid_type}
use Rattle.grib1_sections.specs.Bitmap.{bitmap_rules, mask_of}
use Rattle.grib1_sections.specs.Data.{data_rules}
use Rattle.grib1_sections.specs.Acceptance.{section_fault, bitmap_fault, message_fault, verdict_1, has_bitmap, identification, grid, bitmap, data_section, grid_start, bitmap_start, data_start, end_start, points_of, values_of}
use Rattle.grib2_sections.specs.Refused.{IsVerdict}
use Rattle.grib_base.specs.Faults.{IsReadFault}
use Rattle.grib1_sections.specs.Known.{Stands, HasBitmap, HasSections}
use Rattle.grib_base.specs.declared.fault.ReadFault.{ReadFault}
use Rattle.grib_base.specs.declared.fault.ReadFault.TheVariants.{Refused, Memory}
use Rattle.grib_base.proofs.Passing.{none_from_passes}
use Rattle.grib1_sections.proofs.Verdicts.{none_accepted, some_refused}
use Rattle.grib1_sections.proofs.Places.{grid_start-is, bitmap_start-is, data_start-flagged, data_start-plain, end_start-is, bitmap-flagged, bitmap-plain, same_identification, same_grid, same_bitmap, same_data, same_points, same_values}
use Rattle.grib1_sections.proofs.Agreeing.{agree_front}
use Rattle.grib1_sections.proofs.Fronts.{accepted_parts, accepted_states, accepted_there, front_is_message}
use Rattle.grib1_sections.proofs.Parts.{parts_inside, from_end, from_data, from_bitmap, from_grid, from_first}

-- ---- sums

-- the numbers up to one more
pub sum_more : (f : ℕ → ℕ) (n : ℕ) → sum (map f (range_with_len 0 (n + 1))) ≡ sum (map f (range_with_len 0 n)) + f n
sum_more f n = ap sum (map-range_with_len_more f 0 n n (omega arith)) ∙ sum_by_push (λ x. x) (map f (range_with_len 0 n)) (f n)

-- ---- the first rules of Section 2

pub two_passed : (s : List ℕ) (t least : ℕ) → t ≡ grid_type s → is_template grid_types t ≡ true → least ≡ least_length grid_types t → least ≤ length s
    → first_fault (take 2 (grid_rules s)) ≡ None
two_passed s t least e known is long =
    let least_is : least ≡ least_length grid_types (grid_type s) = is ∙ ap (least_length grid_types) e in
    none_from_passes (take 2 (grid_rules s)) (
      not_from_true (is_template grid_types (grid_type s)) (ap (is_template grid_types) (sym e) ∙ known),
      (le-ltb (length s) (least_length grid_types (grid_type s)) (omega (arith, least_is, long)), tt),
    )

-- ---- refusals that `?` made

pub refused_at : {V : Type 0} (P : V → Type 0) (r : Result V Fault) (first : Option Fault) (fault : Fault) → IsErrAnd r (λ e. e ≡ fault) → first ≡ Some fault
    → MatchResult r P (λ e. first ≡ Some e)
refused_at P (Ok v) first fault h is = absurd h
refused_at P (Err e) first fault h is = is ∙ ap Some (sym h)

pub refused : {V : Type 0} (P : V → Type 0) (r : Result V ReadFault) (verdict : Verdict) (fault : Fault)
    → IsErrAnd r (λ e. e ≡ Refused fault) → verdict ≡ verdicts.Refused fault → MatchResult r P (IsVerdict verdict)
refused P (Ok v) verdict fault h is = absurd h
refused P (Err e) verdict fault h is = let Says : ReadFault → Type 0 = IsVerdict verdict in subst Says (sym h) is

verdict_from_fault : (verdict : Verdict) (found : Option Fault) (e : ReadFault) → ((fault : Fault) → found ≡ Some fault → verdict ≡ verdicts.Refused fault)
    → IsReadFault found e → IsVerdict verdict e
verdict_from_fault verdict found (Refused fault) h is = h fault is
verdict_from_fault verdict found Memory h is = tt

pub passed_on : {V : Type 0} (P : V → Type 0) (r : Result V ReadFault) (verdict : Verdict) (found : Option Fault) (read : ReadFault)
    → IsErrAnd r (λ e. e ≡ read) → ((fault : Fault) → found ≡ Some fault → verdict ≡ verdicts.Refused fault)
    → IsReadFault found read → MatchResult r P (IsVerdict verdict)
passed_on P (Ok v) verdict found read h says is = absurd h
passed_on P (Err e) verdict found read h says is =
    let Says : ReadFault → Type 0 = IsVerdict verdict in subst Says (sym h) (verdict_from_fault verdict found read says is)

-- ---- the first refusal of a message

module _ (m : List ℕ) (head : first_fault (head_rules m) ≡ None) (first : section_fault m 9 28 identification_rules ≡ None) where
  pub refused_grid : (fault : Fault) → section_fault m (grid_start m) 6 grid_rules ≡ Some fault → verdict_1 m ≡ verdicts.Refused fault
  refused_grid fault e =
      some_refused (message_fault m) (total_length_1 m) fault
      (some_later (first_fault (head_rules m)) (from_first m) fault head
      (some_later (section_fault m 9 28 identification_rules) (from_grid m) fault first
      (some_first (section_fault m (grid_start m) 6 grid_rules) (from_bitmap m) fault e)))

  module _ (second : section_fault m (grid_start m) 6 grid_rules ≡ None) where
    later : (fault : Fault) → from_bitmap m tt ≡ Some fault → verdict_1 m ≡ verdicts.Refused fault
    later fault e =
        some_refused (message_fault m) (total_length_1 m) fault
        (some_later (first_fault (head_rules m)) (from_first m) fault head
        (some_later (section_fault m 9 28 identification_rules) (from_grid m) fault first
        (some_later (section_fault m (grid_start m) 6 grid_rules) (from_bitmap m) fault second e)))

    pub refused_bitmap : (fault : Fault) → bitmap_fault m ≡ Some fault → verdict_1 m ≡ verdicts.Refused fault
    refused_bitmap fault e = later fault (some_first (bitmap_fault m) (from_data m) fault e)

    pub refused_data : (fault : Fault) → bitmap_fault m ≡ None → section_fault m (data_start m) 11 (data_rules (values_of m)) ≡ Some fault
        → verdict_1 m ≡ verdicts.Refused fault
    refused_data fault third e =
        later fault (some_later (bitmap_fault m) (from_data m) fault third
        (some_first (section_fault m (data_start m) 11 (data_rules (values_of m))) (from_end m) fault e))

    pub refused_end : (fault : Fault) → bitmap_fault m ≡ None → section_fault m (data_start m) 11 (data_rules (values_of m)) ≡ None
        → first_fault (end_rules m (end_start m)) ≡ Some fault → verdict_1 m ≡ verdicts.Refused fault
    refused_end fault third fourth e =
        later fault (some_later (bitmap_fault m) (from_data m) fault third
        (some_later (section_fault m (data_start m) 11 (data_rules (values_of m))) (from_end m) fault fourth e))

    pub none_refused : bitmap_fault m ≡ None → section_fault m (data_start m) 11 (data_rules (values_of m)) ≡ None
        → first_fault (end_rules m (end_start m)) ≡ None → message_fault m ≡ None
    none_refused third fourth e =
        none_after (first_fault (head_rules m)) (from_first m) head
        (none_after (section_fault m 9 28 identification_rules) (from_grid m) first
        (none_after (section_fault m (grid_start m) 6 grid_rules) (from_bitmap m) second
        (none_after (bitmap_fault m) (from_data m) third
        (none_after (section_fault m (data_start m) 11 (data_rules (values_of m))) (from_end m) fourth e))))

-- ---- where the sections begin

pub grid_place : (m s : List ℕ) (start : ℕ) → start ≡ 9 → Stands m 9 28 s → start + length s ≡ grid_start m
grid_place m s start at h = omega (arith, at, h.as_long, grid_start-is m)

pub bitmap_place : (m s : List ℕ) (start : ℕ) → start ≡ grid_start m → Stands m start 6 s → start + length s ≡ bitmap_start m
bitmap_place m s start at h =
    let long : length s ≡ octets m (grid_start m) (grid_start m + 2) = h.as_long ∙ ap (λ q. octets m q (q + 2)) at in
    omega (arith, at, long, bitmap_start-is m)

pub end_place : (m s : List ℕ) (start : ℕ) → start ≡ data_start m → Stands m start 11 s → start + length s ≡ end_start m
end_place m s start at h =
    let long : length s ≡ octets m (data_start m) (data_start m + 2) = h.as_long ∙ ap (λ q. octets m q (q + 2)) at in
    omega (arith, at, long, end_start-is m)

-- ---- Section 3

pub without_bitmap : (m : List ℕ) (start points : ℕ) → has_bitmap m ≡ false → start ≡ bitmap_start m → points ≡ points_of m
    → 1 ≤ start → start ≤ length m + 1 → start + 3 ≤ total_length_1 m → (bitmap_fault m ≡ None) × HasBitmap m None points start
without_bitmap m start points off at count low there room = (
  ap (λ b. choose b (λ _. section_fault m (bitmap_start m) 6 (bitmap_rules (points_of m))) (λ _. None)) off,
  record {
    section = sym (bitmap-plain m off);
    present_are = count ∙ (sym (present_count-replicate (points_of m) true) ∙ ap (λ s. present_count (mask_of s (points_of m))) (sym (bitmap-plain m off)));
    place = at ∙ sym (data_start-plain m off);
    low = low;
    there = there;
    room = room;
  },
)

pub bitmap_chosen : (m : List ℕ) (start points : ℕ) → has_bitmap m ≡ true → start ≡ bitmap_start m → points ≡ points_of m
    → bitmap_fault m ≡ section_fault m start 6 (bitmap_rules points)
bitmap_chosen m start points on at count =
    ap (λ b. choose b (λ _. section_fault m (bitmap_start m) 6 (bitmap_rules (points_of m))) (λ _. None)) on
    ∙ ap (λ q. section_fault m q 6 (bitmap_rules (points_of m))) (sym at) ∙ ap (λ k. section_fault m start 6 (bitmap_rules k)) (sym count)

pub with_bitmap : (m s : List ℕ) (start points present behind : ℕ) → has_bitmap m ≡ true → start ≡ bitmap_start m → points ≡ points_of m
    → section_fault m start 6 (bitmap_rules points) ≡ None → Stands m start 6 s → present ≡ present_count (mask_of (Some s) points) → behind ≡ start + length s
    → (bitmap_fault m ≡ None) × HasBitmap m (Some s) present behind
with_bitmap m s start points present behind on at count none h counted is =
    let section : s ≡ section_at m (bitmap_start m) = h.section ∙ ap (section_at m) at in
    let found : Some s ≡ bitmap m = ap Some section ∙ sym (bitmap-flagged m on) in
    let long : length s ≡ octets m (bitmap_start m) (bitmap_start m + 2) = h.as_long ∙ ap (λ q. octets m q (q + 2)) at in (
      bitmap_chosen m start points on at count ∙ none,
      record {
        section = found;
        present_are = counted ∙ ap (λ k. present_count (mask_of (Some s) k)) count ∙ ap (λ x. present_count (mask_of x (points_of m))) found;
        place = omega (arith, is, at, long, data_start-flagged m on);
        low = omega (arith, is, h.long);
        there = omega (arith, is, h.there);
        room = omega (arith, is, h.room);
      },
    )

-- ---- no refusal

pub head_total : (m : List ℕ) (head : Head) → edition m ≡ 1 → head ≡ head_of m → head.total ≡ total_length_1 m
head_total m head first e =
    let one : Head = record { edition = 1; discipline = 0; total = total_length_1 m } in
    let two : Head = record { edition = 2; discipline = discipline m; total = total_length m } in
    ap (λ h. h.total) e ∙ ap (λ b. (cond b one two).total) (eq-eqb (edition m) 1 first)

-- the sections that were read are those of the message alone
pub keeps_front : (m s1 s2 s4 : List ℕ) (s3 : Option (List ℕ)) (points values total : ℕ)
    → take 4 m ≡ indicator → edition m ≡ 1 → verdict_1 m ≡ verdicts.Accepted total
    → s1 ≡ identification m → s2 ≡ grid m → s3 ≡ bitmap m → s4 ≡ data_section m → points ≡ points_of m → values ≡ values_of m
    → HasSections (take total m) s1 s2 s3 s4 points values
keeps_front m s1 s2 s4 s3 points values total starts first e is_1 is_2 is_3 is_4 counted present =
    let p = accepted_parts m total first e in
    let i = parts_inside total m p (omega (arith, accepted_states m total e)) in
    let u = take total m in
    let h = agree_front m total (accepted_there m total first e) in
    record {
      accepted = front_is_message m total starts first e;
      identification_is = is_1 ∙ sym (same_identification total m u h i.before.before.first);
      grid_is = is_2 ∙ sym (same_grid total m u h i.before.before);
      bitmap_is = is_3 ∙ sym (same_bitmap total m u h i.before);
      data_is = is_4 ∙ sym (same_data total m u h i.before i.fourth);
      points_are = counted ∙ sym (same_points total m u h i.before.before);
      values_are = present ∙ sym (same_values total m u h i.before);
    }

-- where no section is refused at the octets at which they were read, the message is accepted
pub all_passed : (m : List ℕ) (q2 q4 q5 present total : ℕ) → first_fault (head_rules m) ≡ None → section_fault m 9 28 identification_rules ≡ None
    → q2 ≡ grid_start m → section_fault m q2 6 grid_rules ≡ None → bitmap_fault m ≡ None
    → q4 ≡ data_start m → present ≡ values_of m → section_fault m q4 11 (data_rules present) ≡ None
    → q5 ≡ end_start m → first_fault (end_rules m q5) ≡ None → total ≡ total_length_1 m → verdict_1 m ≡ verdicts.Accepted total
all_passed m q2 q4 q5 present total head first at_2 second third at_4 counted fourth at_5 end stated =
    none_accepted (message_fault m) (total_length_1 m)
    (none_refused m head first (ap (λ q. section_fault m q 6 grid_rules) (sym at_2) ∙ second) third
    (ap₂ (λ q k. section_fault m q 11 (data_rules k)) (sym at_4) (sym counted) ∙ fourth)
    (ap (λ q. first_fault (end_rules m q)) (sym at_5) ∙ end))
    ∙ ap verdicts.Accepted (sym stated)
