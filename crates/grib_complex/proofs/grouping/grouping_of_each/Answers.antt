use Rattle.std.proofs.Common.{◌≡◌, ℕ, ◌+◌, ◌-◌, ◌≤◌, ◌<◌, length, get_or, All, ap, ap₂, sym, ◌∙◌, arith, subst, subst₂}
use Rattle.std.proofs.lemmas.List.{get_or_read}
use Rattle.grib_packing.specs.Groupings.{Chosen, header_bits, length_bits, width_of}
use Rattle.grib_codes.specs.Span.{IsBelow}
use Rattle.grib_codes.proofs.Bounds.{all_below}
use Rattle.grib_complex.proofs.GroupByGroup.{few_groups, some_groups}
use Rattle.grib_complex.proofs.grouping.grouping_of_each.Goals as goal

pub measures_of-requires-clause-codes : goal.measures_of-requires-clause-codes
measures_of-requires-clause-codes c =
    subst (λ (j : ℕ). All (IsBelow j) c.args.codes.now) (sym c.costs_of-costs.ensures.reserved) (all_below c.args.management c.args.codes.now c.requires.codes)

pub overflow_cast-layout : goal.overflow_cast-layout
overflow_cast-layout c =
    let chosen = c.in_ok-lengths.ensures in
    record { fits = omega (arith, c.len.ensures, few_groups (length c.args.codes.now) c.in_ok-lengths.lengths.items chosen.grouping, c.requires.most) }

pub returns-clause-lays_out : goal.returns-clause-lays_out
returns-clause-lays_out c =
    let k = c.args.management in
    let codes = c.args.codes.now in
    let lengths = c.in_ok-lengths.lengths.items in
    let chosen = c.in_ok-lengths.ensures in
    let owned = c.in_ok-lengths.lengths.ok in
    let count : c.len.result ≡ length lengths = omega (arith, c.len.ensures, owned.0) in
    let again : c.len-2.result ≡ length lengths = omega (arith, c.len-2.ensures, owned.0) in
    let some : 1 ≤ length lengths = some_groups (length codes) lengths c.requires.some chosen.grouping in
    let within : c.len-2.result - 1 < length lengths = omega arith in
    record {
      management = c.requires.few;
      codes_are_told = c.requires.codes;
      grouping = chosen.grouping;
      groups = count;
      reference_bits = c.costs_of-costs.ensures.references;
      width_reference = omega arith;
      width_bits = c.costs_of-costs.ensures.widths;
      length_reference = omega arith;
      length_increment = omega arith;
      last_length = get_or_read lengths (c.len-2.result - 1) c.index.result.now within c.index.ensures 0 ∙ ap (λ (n : ℕ). get_or lengths (n - 1) 0) again;
      coded_length_bits = omega arith;
    }

pub returns-clause-chosen : goal.returns-clause-chosen
returns-clause-chosen c =
    let k = c.args.management in
    let codes = c.args.codes.now in
    let lengths = c.in_ok-lengths.lengths.items in
    let costs = c.costs_of-costs.result in
    let header : costs.reference_bits + costs.width_bits + length_bits ≡ header_bits k codes =
    ap₂ (λ (r w : ℕ). r + w + length_bits) c.costs_of-costs.ensures.references c.costs_of-costs.ensures.widths in
    subst₂ (λ (h j : ℕ). Chosen h (width_of j) codes lengths) header c.costs_of-costs.ensures.reserved c.in_ok-lengths.ensures
