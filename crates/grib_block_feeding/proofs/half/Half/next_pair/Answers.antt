use Rattle.std.proofs.Common.{ℕ, ◌≡◌, ◌+◌, length, take, set, ap, ◌∙◌, arith}
use Rattle.std.proofs.lemmas.List.{take_at, length-take-le, length-set}
use Rattle.grib_block_feeding.proofs.Halves.{pairs_whole}
use Rattle.grib_block_feeding.proofs.half.Half.next_pair.Goals as goal

pub returns-clause-gone : goal.returns-clause-gone
returns-clause-gone c =
    let half = c.args.self.now in
    let numbers = set half.numbers half.place c.args.number in
    let long : length c.spread_second.new.codes ≡ c.count-count.result = omega (arith, c.count-count.ensures.most, length-take-le {A = ℕ}, length-set {A = ℕ}) in
    let all : c.from-pairs.result ≡ half.place + 1 = omega (arith, c.from-pairs.ensures) in
    pairs_whole c.args.coding half c.args.number half.part _ c.spread_second.result (take c.from-pairs.result numbers) c.spread_second.new.codes _ c.requires.reference (omega arith) (omega arith)
    (ap (λ n. take n numbers) all)
    c.spread_second.ensures (take_at _ _ _ (long ∙ c.count-count.ensures.is))
