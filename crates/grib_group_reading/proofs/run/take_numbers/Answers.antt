use Rattle.std.proofs.Common.{◌≡◌, ℕ, ◌+◌, ◌-◌, ◌*◌, List, length, map, drop, sym, subst, ap₂, ◌∙◌, arith, add-mul}
use Rattle.grib_bits.specs.Bits.{bits}
use Rattle.grib_bits.specs.Plain.{plain}
use Rattle.grib_base.specs.declared.code.Code.{Code}
use Rattle.grib_packing.specs.Groups.{code_of}
use Rattle.grib_group_reading.specs.Taking.{code_by}
use Rattle.grib_group_reading.proofs.CodeRuns.{length-codes}
use Rattle.grib_group_reading.proofs.Runs.{map-plain, took_then}
use Rattle.grib_group_reading.proofs.run.take_numbers.Goals as goal

pub returns-then-width-eq0 : goal.returns-then-width-eq0
returns-then-width-eq0 g c =
    let took = g.T.Taker.took in
    let xs = drop c.args.at (bits c.args.octets.now) in
    let group = c.args.group in
    let by = code_by c.of-coding.result in
    let of = code_of c.args.layout.now group in
    let none : group.width ≡ 0 = sym c.from-width.ensures ∙ c.if-width-eq0.true in
    let same = map-plain by of xs group.width c.of-coding.ensures.codes c.args.count in
    let first = subst (λ (w : ℕ). took c.args.taker (map by (plain xs w c.args.count)) c.take_same.result) (sym none) (c.take_same.ensures xs) in
    subst (λ (cs : List Code). took c.args.taker cs c.take_same.result) same first

pub returns-then-whole-count : goal.returns-then-whole-count
returns-then-whole-count g c =
    let took = g.T.Taker.took in
    let xs = drop c.args.at (bits c.args.octets.now) in
    let group = c.args.group in
    let width = c.from-width.result in
    let by = code_by c.of-coding.result in
    let of = code_of c.args.layout.now group in
    let after = c.take_from_words-taker.result in
    let same = map-plain by of xs group.width c.of-coding.ensures.codes c.args.count in
    let first = subst (λ (n : ℕ). took c.args.taker (map by (plain xs width n)) after) c.if-whole-count.true c.take_from_words-taker.ensures in
    let second = subst (λ (w : ℕ). took c.args.taker (map by (plain xs w c.args.count)) after) c.from-width.ensures first in
    subst (λ (cs : List Code). took c.args.taker cs after) same second

pub take_from_end-requires-clause-within : goal.take_from_end-requires-clause-within
take_from_end-requires-clause-within g c =
    let width = c.from-width.result in
    let whole = c.count_in_words-whole.result in
    let count : whole + (c.args.count - whole) ≡ c.args.count = omega arith in
    let split = add-mul whole (c.args.count - whole) width in
    let both : (whole + (c.args.count - whole)) * width ≡ c.args.count * c.args.group.width = ap₂ (λ (m n : ℕ). m * n) count c.from-width.ensures in
    let done : c.from.result * c.from-2.result ≡ whole * width = ap₂ (λ (m n : ℕ). m * n) c.from.ensures c.from-2.ensures in
    omega (arith, split, both, done, c.requires.within)

pub returns : goal.returns
returns g c =
    let took = g.T.Taker.took in
    let all = bits c.args.octets.now in
    let xs = drop c.args.at all in
    let group = c.args.group in
    let width = c.from-width.result in
    let whole = c.count_in_words-whole.result in
    let by = code_by c.of-coding.result in
    let of = code_of c.args.layout.now group in
    let next : c.args.at + c.from.result * c.from-2.result ≡ c.args.at + whole * width =
    ap₂ (λ (m n : ℕ). c.args.at + m * n) c.from.ensures c.from-2.ensures in
    let count : whole + (c.args.count - whole) ≡ c.args.count = omega arith in
    let both = took_then took g.met.T.Taker.more by all c.args.at width whole (c.args.count - whole) _ c.args.taker c.take_from_words-taker.result c.take_from_end.result
    c.take_from_words-taker.ensures next c.take_from_end.ensures in
    let same = map-plain by of xs group.width c.of-coding.ensures.codes c.args.count in
    let first = subst (λ (n : ℕ). took c.args.taker (map by (plain xs width n)) c.take_from_end.result) count both in
    let second = subst (λ (w : ℕ). took c.args.taker (map by (plain xs w c.args.count)) c.take_from_end.result) c.from-width.ensures first in
    subst (λ (cs : List Code). took c.args.taker cs c.take_from_end.result) same second

pub take_from_words-taker-requires-clause-room : goal.take_from_words-taker-requires-clause-room
take_from_words-taker-requires-clause-room g c = g.met.T.Taker.fewer c.args.taker c.count_in_words-whole.result c.args.count c.count_in_words-whole.ensures.count c.requires.room

pub take_from_end-requires-clause-room : goal.take_from_end-requires-clause-room
take_from_end-requires-clause-room g c =
    let whole = c.count_in_words-whole.result in
    let xs = drop c.args.at (bits c.args.octets.now) in
    let by = code_by c.of-coding.result in
    let codes = map by (plain xs c.from-width.result whole) in
    let parts : c.args.count ≡ length codes + (c.args.count - whole) = omega (arith, length-codes by xs c.from-width.result whole, c.count_in_words-whole.ensures.count) in
    g.met.T.Taker.room_after c.args.taker c.take_from_words-taker.result codes (c.args.count - whole) c.take_from_words-taker.ensures (subst (λ (n : ℕ). g.T.Taker.room c.args.taker n) parts c.requires.room)
