use Rattle.std.proofs.Common.{ℕ, List, ◌++◌, ◌∙◌, ap}
use Rattle.grib_bits.specs.Encoding.{octets_of}
use Rattle.grib_synthetic.specs.Made.{made_identification, made_grid, made_product}
use Rattle.grib_synthetic.proofs.Joined.{added}
use Rattle.grib_synthetic.proofs.making.add_front.Goals as goal

pub returns : goal.returns
returns c =
    let old = c.args.message.now.items in
    let at_1 = c.extend_from_slice.new.self.items in
    let at_2 = c.extend_from_slice-2.new.self.items in
    let at_3 = c.extend_from_slice-3.new.self.items in
    let head = octets_of 8 0x47524942_0000_00_02 in
    let total = octets_of 8 c.args.total in
    let sections = made_identification ++ made_grid c.args.ni c.args.nj ++ made_product in
    added old at_2 at_3 (head ++ total) sections
    (added old at_1 at_2 head total c.in_ok-extend_from_slice.ensures.items
    (c.in_ok-extend_from_slice-2.ensures.items ∙ ap (λ (xs : List ℕ). at_1 ++ xs) c.to_be_bytes.ensures))
    (c.in_ok-extend_from_slice-3.ensures.items ∙ ap (λ (xs : List ℕ). at_2 ++ xs) (c.as_slice-2.ensures ∙ c.in_ok-first_sections.ensures))
