use Rattle.std.proofs.Common.{◌-◌, ◌<◌, ◌++◌, ℕ, map, replicate, arith, sym, ap, ◌∙◌}
use Rattle.grib_bits.specs.Bits.{bits}
use Rattle.grib_simple_reading.specs.Part.{plain_from}
use Rattle.grib_simple_reading.proofs.Unpacking.{pushed_both, no_bits, on_ok}
use Rattle.grib_simple_reading.proofs.numbers.push_numbers.Goals as goal

pub returns-then-bits-eq0 : goal.returns-then-bits-eq0
returns-then-bits-eq0 g c =
    let f = g.T.Unpacked.unpacked in
    let xs = bits c.args.octets.now in
    let count = c.args.to - c.args.from in
    on_ok c.push_same.result
    (λ e. e ∙ ap (λ ys. c.args.items.now.items ++ ys)
    (ap (replicate count) c.of.ensures ∙ sym (no_bits f xs c.args.from count) ∙ ap (λ (w : ℕ). map f (plain_from xs w c.args.from count)) (sym c.if-bits-eq0.true)))
    c.push_same.ensures

pub push_words-requires-clause-words : goal.push_words-requires-clause-words
push_words-requires-clause-words g c = λ k begun below.
    let inside : k < c.args.whole = omega (arith, c.max-middle.ensures, c.min.ensures) in
    c.requires.words k inside

pub returns : goal.returns
returns g c =
    on_ok c.push_last.result
    (λ e. pushed_both g.T.Unpacked.unpacked (bits c.args.octets.now) c.args.bits c.args.from c.max-middle.result c.args.to c.args.items.now.items c.push_words.new.items.items c.push_last.new.items.items
    (omega (arith, c.max-middle.ensures)) (omega (arith, c.max-middle.ensures, c.min.ensures)) c.in_ok-push_words.ensures e)
    c.push_last.ensures
