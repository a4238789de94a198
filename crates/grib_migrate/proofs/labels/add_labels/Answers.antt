use Rattle.std.proofs.Common.{◌≡◌, ℕ, List, ◌++◌, OnOk, sym, ◌∙◌, subst}
use Rattle.grib_bits.proofs.AllOctets.{added_same}
use Rattle.grib_migrate.proofs.Labelling.{labels_same, labels_added}
use Rattle.grib_migrate.proofs.labels.add_labels.Goals as goal

pub returns : goal.returns
returns c =
    let s1 = c.args.section1.now in
    let has = sym c.has_labels.ensures.labels ∙ c.if-not-has_labels.false in
    subst (λ (xs : List ℕ). OnOk c.add_numbers.result (c.add_numbers.new.out.items ≡ xs)) (labels_added s1 c.args.out.now.items c.add_section_head.new.out.items has c.in_ok-add_section_head.ensures)
    (added_same c.add_section_head.new.out.items c.add_numbers.new.out.items _ _ c.add_numbers.result
    (labels_same s1 c.from.result c.from-2.result c.from-3.result c.u32_at.result (c.from.ensures ∙ c.u8_at.ensures) (c.from-2.ensures ∙ c.u8_at-2.ensures) (c.from-3.ensures ∙ c.u16_at.ensures) c.u32_at.ensures)
    c.add_numbers.ensures)
