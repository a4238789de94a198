use Rattle.std.proofs.Common.{◌<◌, ◌+◌, ◌++◌, ℕ, List, All, take, sym, ap, ◌∙◌, subst, arith}
use Rattle.grib_bits.specs.Bits.{bits}
use Rattle.grib_packing.specs.Packed.{HasContents}
use Rattle.grib_simple_values.proofs.InPlace.{copied_section}
use Rattle.grib_simple_values.proofs.in_place.copied_numbers.Goals as goal

pub returns : goal.returns
returns c =
    let octets = c.args.octets.now in
    let section = c.push_rest.new.out.items in
    let n = 5 + c.div_ceil.result in
    let each = subst (λ (s : List ℕ). All (λ octet. octet < 256) s) c.deref.ensures.value c.are_octets.ensures in
    subst (λ (s : List ℕ). HasContents 7 s (take c.args.count (bits octets))) (sym c.of.ensures)
    (copied_section octets section c.in_ok-section.section.items c.extend_from_slice.new.self.items c.extend_from_slice-2.new.self.items c.extend_from_slice-3.new.self.items c.args.count n
    c.in_ok-section.ensures.items
    (c.in_ok-extend_from_slice.ensures.items ∙ ap (λ (xs : List ℕ). c.in_ok-section.section.items ++ xs) c.to_be_bytes.ensures)
    c.in_ok-extend_from_slice-2.ensures.items c.in_ok-extend_from_slice-3.ensures.items c.in_ok-push_rest.ensures
    c.requires.within (omega (arith, c.div_ceil.ensures)) (omega (arith, c.requires.few, c.div_ceil.ensures)) each)
