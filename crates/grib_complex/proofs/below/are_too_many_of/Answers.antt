use Rattle.std.proofs.Common.{◌≡◌, ℕ, ◌+◌, ◌≤◌, List, length, ap, ap₂, sym, ◌∙◌, arith, subst, subst₂}
use Rattle.std.proofs.lemmas.Bool.{leb-true}
use Rattle.grib_base.specs.declared.code.Code.{Code}
use Rattle.grib_packing.specs.Groupings.{IsGrouping, cost_of, header_bits, length_bits, reference_bits_of, width_bits_of, width_of}
use Rattle.grib_packing.specs.Packed.{group_parts}
use Rattle.grib_complex.proofs.AtLeast.{parts_at_least, whole_parts}
use Rattle.grib_complex.proofs.below.are_too_many_of.Goals as goal

-- the bits are no more than those of the groups
below_parts : (c : goal.After-div_ceil) (lengths : List ℕ) → IsGrouping (length c.args.words.now) lengths
    → c.bits_at_least-bits.result ≤ length (group_parts c.args.management c.args.words.now lengths)
below_parts c lengths g =
    let k = c.args.management in
    let words = c.args.words.now in
    let costs = c.costs_of.result in
    let codes = c.codes-codes.result in
    let same : codes ≡ words = c.codes-codes.ensures in
    let header : costs.reference_bits + costs.width_bits + length_bits ≡ header_bits k words =
    ap₂ (λ (r w : ℕ). r + w + length_bits) (c.costs_of.ensures.references ∙ ap (reference_bits_of k) same) (c.costs_of.ensures.widths ∙ ap (width_bits_of k) same) in
    let found = c.bits_at_least-bits.ensures lengths (subst (λ (cs : List Code). IsGrouping (length cs) lengths) (sym same) g) in
    let here : c.bits_at_least-bits.result ≤ cost_of (costs.reference_bits + costs.width_bits + length_bits) (width_of costs.reserved) lengths words =
    subst (λ (cs : List Code). c.bits_at_least-bits.result ≤ cost_of (costs.reference_bits + costs.width_bits + length_bits) (width_of costs.reserved) lengths cs) same found in
    let cost : c.bits_at_least-bits.result ≤ cost_of (header_bits k words) (width_of k) lengths words =
    subst₂ (λ (h j : ℕ). c.bits_at_least-bits.result ≤ cost_of h (width_of j) lengths words) header c.costs_of.ensures.reserved here in
    omega (arith, cost, parts_at_least k words lengths c.requires.management g)

pub returns : goal.returns
returns c enough lengths g =
    let whole = whole_parts c.args.management c.args.words.now lengths c.bits_at_least-bits.result (below_parts c lengths g) in
    let most = leb-true c.args.most (c.from-beside.result + c.div_ceil.result) enough in
    omega (arith, whole, most, c.from-beside.ensures, c.div_ceil.ensures)
