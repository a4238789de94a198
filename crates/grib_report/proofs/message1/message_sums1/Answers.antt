use Rattle.std.proofs.Common.{◌≡◌, ◌-◌, ◌≤◌, ℕ, Bool, Option, Some, unwrap_or, List, length, take, drop, map, pos, sym, ap, ap₂, ◌∙◌, arith, subst}
use Rattle.std.proofs.lemmas.List.{take_rest, length-map}
use Rattle.std.proofs.lemmas.List.FromFn.{length-map-range_with_len}
use Rattle.std.proofs.lemmas.List.Sums.{count_by-le-length}
use Rattle.grib_bits.specs.Bits.{bits}
use Rattle.grib_bits.specs.Plain.{plain, plain_at}
use Rattle.grib_base.specs.declared.limits.TheConstants.{MOST_POINTS}
use Rattle.grib_bitmap.specs.Mask.{present_count}
use Rattle.grib_packing.specs.declared.column.Point.{Point}
use Rattle.grib_packing.specs.declared.column.Point.TheVariants.{Scaled}
use Rattle.grib_packing.specs.Column.{points_with_mask}
use Rattle.grib_decimal.specs.Summary.{summary_of}
use Rattle.grib1_sections.specs.Acceptance.{mask, data_section}
use Rattle.grib1_sections.specs.Column.{entries_of}
use Rattle.grib1_sections.specs.Data.{bit_width}
use Rattle.grib1_sections.specs.Frame.{section_length}
use Rattle.grib_report.specs.Kept.{TallyKept}
use Rattle.grib_report.proofs.message1.message_sums1.Goals as goal

some_is : (a b : List ℕ) → Some a ≡ Some b → a ≡ b
some_is a b is = ap (λ (o : Option (List ℕ)). unwrap_or o a) is

pub placed-requires-clause-sums : goal.placed-requires-clause-sums
placed-requires-clause-sums c =
    let m = c.args.message.now in
    let s4 = c.in-Some.section4.now in
    let presence = mask m in
    let entries = entries_of (data_section m) (present_count presence) in
    let f : ℕ → Point = λ x. Scaled (pos x) in
    let section : data_section m ≡ s4 = some_is (data_section m) s4 c.in-Some.ensures.section in
    let states : c.uint_at.result ≡ length s4 =
    c.uint_at.ensures ∙ ap section_length (sym section) ∙ c.section.ensures.passes.data_stands.length_stands ∙ ap length section in
    let whole : take (c.uint_at.result - 11) (drop 11 s4) ≡ drop 11 (data_section m) =
    ap (λ (n : ℕ). take (n - 11) (drop 11 s4)) states ∙ take_rest s4 11 ∙ ap (drop 11) (sym section) in
    let width : c.u8_at-bits.result ≡ bit_width (data_section m) = c.u8_at-bits.ensures ∙ ap bit_width (sym section) in
    let numbers : map f (plain (bits (take (c.uint_at.result - 11) (drop 11 s4))) c.u8_at-bits.result c.values.result) ≡ entries =
    ap (λ (xs : List ℕ). map f (plain (bits xs) c.u8_at-bits.result c.values.result)) whole
    ∙ ap₂ (λ (w n : ℕ). map f (plain (bits (drop 11 (data_section m))) w n)) width c.values.ensures.values in
    let count : length entries ≡ present_count presence =
    length-map (plain (bits (drop 11 (data_section m))) (bit_width (data_section m)) (present_count presence)) f
    ∙ length-map-range_with_len (plain_at (bits (drop 11 (data_section m))) (bit_width (data_section m))) 0 (present_count presence) in
    let long : length entries ≡ present_count c.in_ok-mask.mask = count ∙ ap present_count (sym c.in_ok-mask.ensures.mask) in
    let short : length entries ≤ MOST_POINTS =
    omega (arith, long, count_by-le-length (λ (b : Bool). b) c.in_ok-mask.mask, c.in_ok-mask.ensures.few) in
    let sums = c.finish.ensures c.start.result entries short c.start.ensures
    (subst (λ (ps : List Point). TallyKept c.start.result ps c.take_numbers-summed.result) numbers c.take_numbers-summed.ensures) in
    (entries, long, sums)

pub returns : goal.returns
returns c =
    let m = c.args.message.now in
    let s4 = c.in-Some.section4.now in
    let presence = mask m in
    let entries = entries_of (data_section m) (present_count presence) in
    let f : ℕ → Point = λ x. Scaled (pos x) in
    let section : data_section m ≡ s4 = some_is (data_section m) s4 c.in-Some.ensures.section in
    let states : c.uint_at.result ≡ length s4 =
    c.uint_at.ensures ∙ ap section_length (sym section) ∙ c.section.ensures.passes.data_stands.length_stands ∙ ap length section in
    let whole : take (c.uint_at.result - 11) (drop 11 s4) ≡ drop 11 (data_section m) =
    ap (λ (n : ℕ). take (n - 11) (drop 11 s4)) states ∙ take_rest s4 11 ∙ ap (drop 11) (sym section) in
    let width : c.u8_at-bits.result ≡ bit_width (data_section m) = c.u8_at-bits.ensures ∙ ap bit_width (sym section) in
    let numbers : map f (plain (bits (take (c.uint_at.result - 11) (drop 11 s4))) c.u8_at-bits.result c.values.result) ≡ entries =
    ap (λ (xs : List ℕ). map f (plain (bits xs) c.u8_at-bits.result c.values.result)) whole
    ∙ ap₂ (λ (w n : ℕ). map f (plain (bits (drop 11 (data_section m))) w n)) width c.values.ensures.values in
    let count : length entries ≡ present_count presence =
    length-map (plain (bits (drop 11 (data_section m))) (bit_width (data_section m)) (present_count presence)) f
    ∙ length-map-range_with_len (plain_at (bits (drop 11 (data_section m))) (bit_width (data_section m))) 0 (present_count presence) in
    let long : length entries ≡ present_count c.in_ok-mask.mask = count ∙ ap present_count (sym c.in_ok-mask.ensures.mask) in
    let short : length entries ≤ MOST_POINTS =
    omega (arith, long, count_by-le-length (λ (b : Bool). b) c.in_ok-mask.mask, c.in_ok-mask.ensures.few) in
    let sums = c.finish.ensures c.start.result entries short c.start.ensures
    (subst (λ (ps : List Point). TallyKept c.start.result ps c.take_numbers-summed.result) numbers c.take_numbers-summed.ensures) in
    c.placed.ensures entries long sums ∙ ap (λ (m : List Bool). summary_of (points_with_mask m entries)) c.in_ok-mask.ensures.mask
