use Rattle.std.proofs.Common.{◌≡◌, List, [], length, map, ap, sym, ◌∙◌, arith, subst}
use Rattle.std.proofs.lemmas.List.{length-map}
use Rattle.grib_packing.specs.declared.column.Point.{Point}
use Rattle.grib_packing.specs.Packing.{bit_width, packing_template, value_count}
use Rattle.grib_packing.proofs.Fields.{length-plain}
use Rattle.grib_packing.proofs.Packings.{entries_of-simple}
use Rattle.grib2_message.specs.Fields.{part_octets}
use Rattle.grib_codes.specs.KeptWords.{AreWords}
use Rattle.grib_repack.proofs.Simply.{numbers_read, room_read}
use Rattle.grib_simple_reading.proofs.Plain.{plain_point}
use Rattle.grib_repack.proofs.groups.value_words.Goals as goal

pub of_numbers-requires-clause-within : goal.of_numbers-requires-clause-within
of_numbers-requires-clause-within c =
    let spelled = c.requires.spelled in
    room_read c.args.message.now c.args.field c.args.simple.now c.in-Some.section7.octets.now c.from.result spelled c.in-Some.ensures.part.1 c.from.ensures
    (sym spelled.template ∙ c.if-simple-eq0.true) c.in-Some.ensures.passes.values

pub returns-then-simple-le31-clause-words : goal.returns-then-simple-le31-clause-words
returns-then-simple-le31-clause-words c =
    let m = c.args.message.now in
    let i = c.args.field in
    let spelled = c.requires.spelled in
    let template : packing_template (part_octets m i 5) ≡ 0 = sym spelled.template ∙ c.if-simple-eq0.true in
    let read = numbers_read m i c.args.simple.now c.in-Some.section7.octets.now c.from.result spelled c.in-Some.ensures.part.1 c.from.ensures in
    subst (λ (ps : List Point). AreWords ps c.in_ok-kept.kept) (ap (map plain_point) read ∙ sym (entries_of-simple (part_octets m i 5) (part_octets m i 7) template)) c.in_ok-kept.ensures

pub returns-then-simple-le31-clause-count : goal.returns-then-simple-le31-clause-count
returns-then-simple-le31-clause-count c =
    let s5 = part_octets c.args.message.now c.args.field 5 in
    let s7 = part_octets c.args.message.now c.args.field 7 in
    let template : packing_template s5 ≡ 0 = sym c.requires.spelled.template ∙ c.if-simple-eq0.true in
    ap length (entries_of-simple s5 s7 template) ∙ length-map _ plain_point ∙ length-plain _ (bit_width s5) (value_count s5)

pub returns-clause-words : goal.returns-clause-words
returns-clause-words c =
    let none = ap length c.in_ok-none.ensures.are.words in
    c.in_ok-kept-2.ensures.kept.keeps [] (omega (arith, none, c.in_ok-none.none.words.ok.0, c.in_ok-kept-2.ensures.count, c.requires.spelled.values, c.in_ok-none.ensures.room)) c.in_ok-none.ensures.are
