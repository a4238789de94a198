use Rattle.std.proofs.Common.{◌≡◌, ℕ, List, drop, length, subst, sym, ap, ◌∙◌}
use Rattle.grib_bits.specs.Bits.{bits}
use Rattle.grib_base.specs.declared.code.Code.{Code}
use Rattle.grib_group_reading.specs.CodeRuns.{codes_in_words, limit_of}
use Rattle.grib_group_reading.specs.Taking.{code_by}
use Rattle.grib_group_reading.proofs.CodeRuns.{length-codes}
use Rattle.grib_group_reading.proofs.run.words_at_once.Goals as goal

pub take_run-requires-clause-ready : goal.take_run-requires-clause-ready
take_run-requires-clause-ready g c =
    let ready = g.T.RunTaker.ready in
    let run = c.new-run.result in
    let count : length (codes_in_words run) ≡ c.args.count =
    ap length c.new-run.ensures.codes ∙ length-codes (code_by c.args.coding) (drop c.args.at (bits c.args.octets.now)) c.args.width c.args.count in
    subst (λ (n : ℕ). ready c.args.taker n (limit_of run)) (sym count)
    (subst (λ (n : ℕ). ready c.args.taker c.args.count n) (sym c.new-run.ensures.limit) c.requires.ready)

pub returns : goal.returns
returns g c =
    let took = g.T.Taker.took in
    subst (λ (cs : List Code). took c.args.taker cs c.take_run.result) c.new-run.ensures.codes c.take_run.ensures

pub take_run-requires-clause-room : goal.take_run-requires-clause-room
take_run-requires-clause-room g c =
    let long = ap length c.new-run.ensures.codes ∙ length-codes (code_by c.args.coding) (drop c.args.at (bits c.args.octets.now)) c.args.width c.args.count in
    subst (λ (n : ℕ). g.T.Taker.room c.args.taker n) (sym long) c.requires.room
