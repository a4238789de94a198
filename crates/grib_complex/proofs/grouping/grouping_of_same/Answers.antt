use Rattle.std.proofs.Common.{◌≡◌, ℕ, ◌-◌, ◌<◌, ◌≤◌, length, get_or, replicate, sym, ap, ◌∙◌, arith}
use Rattle.std.proofs.lemmas.List.{get_or_read, length-replicate}
use Rattle.std.proofs.lemmas.List.Elements.{All-replicate}
use Rattle.grib_packing.specs.Groupings.{header_bits, width_of, reference_bits_of}
use Rattle.grib_codes.specs.Span.{IsTold}
use Rattle.grib_groups.proofs.Same.{width_bits_same}
use Rattle.grib_complex.proofs.AllTheSame.{span_of_all, takes_none}
use Rattle.grib_complex.proofs.GroupByGroup.{some_groups}
use Rattle.grib_complex.proofs.grouping.grouping_of_same.Goals as goal

pub returns-clause-lays_out : goal.returns-clause-lays_out
returns-clause-lays_out c =
    let k = c.args.management in
    let codes = replicate c.args.count c.args.code in
    let lengths = c.in_ok-lengths.lengths.items in
    let long = length-replicate c.args.count c.args.code in
    let chosen = c.in_ok-lengths.ensures.chosen (header_bits k codes) (width_of k) codes long (omega arith) (takes_none k c.args.count c.args.code) in
    let owned = c.in_ok-lengths.lengths.ok in
    let count : c.len.result ≡ length lengths = omega (arith, c.len.ensures, owned.0) in
    let again : c.len-2.result ≡ length lengths = omega (arith, c.len-2.ensures, owned.0) in
    let some : 1 ≤ length lengths = some_groups (length codes) lengths (omega (arith, long, c.requires.some)) chosen.grouping in
    let within : c.len-2.result - 1 < length lengths = omega arith in
    record {
      management = c.requires.few;
      codes_are_told = All-replicate (IsTold k) c.args.count c.args.code c.requires.code;
      grouping = chosen.grouping;
      groups = count;
      reference_bits =
          c.reference_bits.ensures.is codes (span_of_all c.of-span.result c.args.count c.args.code c.requires.some c.of-span.ensures.span)
          ∙ ap (λ (j : ℕ). reference_bits_of j codes) c.from.ensures;
      width_reference = omega arith;
      width_bits = sym (width_bits_same k c.args.code c.args.count);
      length_reference = omega arith;
      length_increment = omega arith;
      last_length = get_or_read lengths (c.len-2.result - 1) c.index.result.now within c.index.ensures 0 ∙ ap (λ (n : ℕ). get_or lengths (n - 1) 0) again;
      coded_length_bits = omega arith;
    }

pub returns-clause-chosen : goal.returns-clause-chosen
returns-clause-chosen c =
    let k = c.args.management in
    let codes = replicate c.args.count c.args.code in
    c.in_ok-lengths.ensures.chosen (header_bits k codes) (width_of k) codes (length-replicate c.args.count c.args.code) (omega arith) (takes_none k c.args.count c.args.code)
