use Rattle.std.proofs.Common.{◌≡◌, true, false, None, sym, ap, ◌∙◌, arith}
use Rattle.grib_base.proofs.Firsts.{none_after}
use Rattle.grib_base.specs.Rules.{first_fault, first_fault_at}
use Rattle.grib1_sections.specs.Frame.{frame_rules, section_at}
use Rattle.grib1_sections.specs.Bitmap.{bitmap_rules}
use Rattle.grib1_sections.specs.Acceptance.{has_bitmap}
use Rattle.grib1_sections.proofs.Answered.{without_bitmap, with_bitmap}
use Rattle.grib1_sections.proofs.reading.read_bitmap.Goals as goal

pub returns-then-not-flagged : goal.returns-then-not-flagged
returns-then-not-flagged c =
    let m = c.args.octets.now in
    let off : has_bitmap m ≡ false = sym c.requires.flagged ∙ c.if-not-flagged.true in
    without_bitmap m c.args.start c.args.points off c.requires.start c.requires.points c.requires.counted c.requires.within (omega (arith, c.requires.room, c.requires.total))

pub returns : goal.returns
returns c =
    let m = c.args.octets.now in
    let start = c.args.start in
    let points = c.args.points in
    let section = c.in_ok-section.section in
    let on : has_bitmap m ≡ true = sym c.requires.flagged ∙ c.if-not-flagged.false in
    let stands = c.in_ok-section.ensures.2 in
    let rules : first_fault_at start (bitmap_rules points (section_at m start)) ≡ None =
    ap (λ q. first_fault_at q (bitmap_rules points (section_at m start))) (sym c.in_ok-section.ensures.1)
    ∙ ap (λ s. first_fault_at section.start (bitmap_rules points s)) (sym stands.section) ∙ c.in_ok-present.ensures.0 in
    with_bitmap m section.octets.now start points c.in_ok-present.present c.end.result on c.requires.start c.requires.points
    (none_after (first_fault (frame_rules m start 6)) (λ _. first_fault_at start (bitmap_rules points (section_at m start))) c.in_ok-section.ensures.0 rules)
    stands c.in_ok-present.ensures.1 (omega (arith, c.end.ensures, c.in_ok-section.ensures.1))
