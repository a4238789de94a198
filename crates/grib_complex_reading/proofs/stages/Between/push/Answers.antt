use Rattle.std.proofs.Common.{◌≡◌, ℕ, ◌+◌, ◌*◌, ◌++◌, drop, sym, ap, ap₂, ◌∙◌, arith}
use Rattle.std.proofs.lemmas.List.{length-append, length-drop}
use Rattle.grib_packing.specs.Groups.{list_octets}
use Rattle.grib_complex_reading.proofs.Begun.{listing_more, first_numbers}
use Rattle.grib_complex_reading.proofs.stages.Between.push.Goals as goal

pub returns-then-before-piece : goal.returns-then-before-piece
returns-then-before-piece g c = λ s5 keeper octets long below agrees.
    let b = c.args.self in
    let k = c.from-skip.result in
    let is_k = c.from-skip.ensures ∙ c.skip.ensures in
    let is_before = long ∙ sym c.from-before.ensures in (
      listing_more s5 keeper c.args.length octets c.args.piece.now b k c.rest_of-listed.result.now c.push.result is_k (c.rest_of-listed.ensures.rest octets is_before) c.push.ensures.feedable
          (c.push.ensures.fed b.complex.simple.values (drop k octets) (omega (arith, length-drop k octets, is_before, c.saturating_sub.ensures))) agrees,
      omega (arith, length-append octets c.args.piece.now, is_before, c.if-before-piece.true, is_k, c.octets_of_lists.ensures.octets),
    )

pub read-requires-clause-begun : goal.read-requires-clause-begun
read-requires-clause-begun g c =
    let begun = c.requires.begun in
    let octets = begun.octets in
    let b = c.args.self in
    let k = c.from-skip.result in
    let is_k = c.from-skip.ensures ∙ c.skip.ensures in
    let is_before = begun.long ∙ sym c.from-before.ensures in
    record {
      s5 = begun.s5;
      keeper = begun.keeper;
      octets = octets ++ c.args.piece.now;
      agrees = listing_more begun.s5 begun.keeper c.args.length octets c.args.piece.now b k c.rest_of-listed.result.now c.push.result is_k (c.rest_of-listed.ensures.rest octets is_before) c.push.ensures.feedable
          (c.push.ensures.fed b.complex.simple.values (drop k octets) (omega (arith, length-drop k octets, is_before, c.saturating_sub.ensures))) begun.agrees;
      whole = omega (arith, length-append octets c.args.piece.now, is_before, c.if-before-piece.false, is_k, c.octets_of_lists.ensures.octets);
    }

pub returns : goal.returns
returns g c = λ s5 keeper octets long below agrees.
    let b = c.args.self in
    let k = c.from-skip.result in
    let is_k = c.from-skip.ensures ∙ c.skip.ensures in
    let is_before = long ∙ sym c.from-before.ensures in
    let whole : k + c.octets_of_lists.result ≡ (b.complex.order + 1) * b.complex.extra + list_octets b.complex.layout = ap₂ ◌+◌ is_k c.octets_of_lists.ensures.octets in
    let came = length-append octets c.args.piece.now in
    let all = octets ++ c.args.piece.now in
    let numbers : c.rest_of.result.now ≡ drop (k + c.octets_of_lists.result) all = first_numbers octets c.args.piece.now c.rest_of.result.now (k + c.octets_of_lists.result) (omega (arith, whole, below)) (c.rest_of.ensures.rest octets is_before) in
    c.read.ensures s5 keeper all
    (listing_more s5 keeper c.args.length octets c.args.piece.now b k c.rest_of-listed.result.now c.push.result is_k (c.rest_of-listed.ensures.rest octets is_before) c.push.ensures.feedable
    (c.push.ensures.fed b.complex.simple.values (drop k octets) (omega (arith, length-drop k octets, is_before, c.saturating_sub.ensures))) agrees)
    (numbers ∙ ap (λ (n : ℕ). drop n all) whole)
    (omega (arith, came, is_before, c.if-before-piece.false, whole))
