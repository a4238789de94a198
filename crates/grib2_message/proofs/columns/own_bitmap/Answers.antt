use Rattle.std.proofs.Common.{◌≡◌, sym, ap, ◌∙◌, arith}
use Rattle.grib_bitmap.specs.Mask.{bitmap_indicator}
use Rattle.grib2_message.specs.View.{octets_in_force, first_octets, first_start}
use Rattle.grib2_message.proofs.Checked.{stands_below}
use Rattle.grib2_message.proofs.Latest.{own_alone, own_repeated, start_alone, start_repeated}
use Rattle.grib2_message.proofs.Masks.{bitmap_there, repeated}
use Rattle.grib2_message.proofs.columns.own_bitmap.Goals as goal

pub section-section-requires-clause-stands : goal.section-section-requires-clause-stands
section-section-requires-clause-stands c =
    stands_below c.args.octets.now c.requires.0 c.args.places.now 6 c.requires.1.stand (omega arith) (omega arith) (omega (arith, c.requires.1.ends))

pub returns-then-u8_at-clause-octets : goal.returns-then-u8_at-clause-octets
returns-then-u8_at-clause-octets c = λ before h.
    let section = c.section-section.ensures.octets before h.stand in
    let indicator : bitmap_indicator (octets_in_force 6 before) ≡ c.u8_at.result = ap bitmap_indicator (sym section) ∙ sym c.u8_at.ensures in
    section ∙ sym (own_alone before (λ e. c.if-u8_at.true (sym indicator ∙ e)))

pub returns-then-u8_at-clause-start : goal.returns-then-u8_at-clause-start
returns-then-u8_at-clause-start c = λ before h.
    let section = c.section-section.ensures.octets before h.stand in
    let indicator : bitmap_indicator (octets_in_force 6 before) ≡ c.u8_at.result = ap bitmap_indicator (sym section) ∙ sym c.u8_at.ensures in
    c.section-section.ensures.start ∙ h.stand.starts 6 (omega arith) ∙ sym (start_alone before (λ e. c.if-u8_at.true (sym indicator ∙ e)))

pub unreachable-requires : goal.unreachable-requires
unreachable-requires c =
    let section = c.section-section.ensures.octets c.requires.0 c.requires.1.stand in
    bitmap_there c.args.octets.now c.requires.0 c.args.places.now c.requires.1
    (ap bitmap_indicator (sym section) ∙ sym c.u8_at.ensures ∙ c.if-u8_at.false) c.in_default.is

pub section_from-requires : goal.section_from-requires
section_from-requires c =
    (repeated c.args.octets.now c.requires.0 c.args.places.now c.requires.1 c.in-Some.bitmap c.in-Some.is).stands

pub returns-clause-octets : goal.returns-clause-octets
returns-clause-octets c = λ before h.
    let section = c.section-section.ensures.octets before h.stand in
    let indicator : bitmap_indicator (octets_in_force 6 before) ≡ 254 = ap bitmap_indicator (sym section) ∙ sym c.u8_at.ensures ∙ c.if-u8_at.false in
    let r = repeated c.args.octets.now before c.args.places.now h c.in-Some.bitmap c.in-Some.is in
    c.section_from.ensures.octets ∙ r.octets_are ∙ sym (ap first_octets r.is) ∙ sym (own_repeated before indicator)

pub returns-clause-start : goal.returns-clause-start
returns-clause-start c = λ before h.
    let section = c.section-section.ensures.octets before h.stand in
    let indicator : bitmap_indicator (octets_in_force 6 before) ≡ 254 = ap bitmap_indicator (sym section) ∙ sym c.u8_at.ensures ∙ c.if-u8_at.false in
    let r = repeated c.args.octets.now before c.args.places.now h c.in-Some.bitmap c.in-Some.is in
    c.section_from.ensures.start ∙ r.kept.start ∙ sym (ap first_start r.is) ∙ sym (start_repeated before indicator)
