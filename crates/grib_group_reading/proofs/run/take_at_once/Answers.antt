use Rattle.std.proofs.Common.{◌≡◌, ℕ, List, map, drop, sym, subst, ◌∙◌}
use Rattle.grib_bits.specs.Bits.{bits}
use Rattle.grib_bits.specs.Plain.{plain}
use Rattle.grib_base.specs.declared.code.Code.{Code}
use Rattle.grib_packing.specs.Groups.{code_of}
use Rattle.grib_group_reading.specs.Taking.{code_by}
use Rattle.grib_group_reading.proofs.Runs.{map-plain}
use Rattle.grib_group_reading.proofs.run.take_at_once.Goals as goal

pub returns-then-width-eq0 : goal.returns-then-width-eq0
returns-then-width-eq0 g c =
    let took = g.T.Taker.took in
    let xs = drop c.args.at (bits c.args.octets.now) in
    let group = c.args.group in
    let by = code_by c.of-coding.result in
    let none : group.width ≡ 0 = sym c.from-width.ensures ∙ c.if-width-eq0.true in
    let same = map-plain by (code_of c.args.layout.now group) xs group.width c.of-coding.ensures.codes group.count in
    let first = subst (λ (w : ℕ). took c.args.taker (map by (plain xs w group.count)) c.same_at_once.result) (sym none) (c.same_at_once.ensures xs) in
    subst (λ (cs : List Code). took c.args.taker cs c.same_at_once.result) same first

pub returns : goal.returns
returns g c =
    let took = g.T.Taker.took in
    let xs = drop c.args.at (bits c.args.octets.now) in
    let group = c.args.group in
    let by = code_by c.of-coding.result in
    let same = map-plain by (code_of c.args.layout.now group) xs group.width c.of-coding.ensures.codes group.count in
    let first = subst (λ (w : ℕ). took c.args.taker (map by (plain xs w group.count)) c.words_at_once.result) c.from-width.ensures c.words_at_once.ensures in
    subst (λ (cs : List Code). took c.args.taker cs c.words_at_once.result) same first
