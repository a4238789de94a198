use Rattle.std.proofs.Common.{ℕ, List, ap, drop, length, sym, subst, ◌∙◌}
use Rattle.grib_bits.specs.Bits.{bits}
use Rattle.grib_base.specs.declared.code.Code.{Code}
use Rattle.grib_group_reading.specs.Taking.{code_by}
use Rattle.grib_group_reading.proofs.CodeRuns.{length-codes}
use Rattle.grib_group_reading.proofs.run.take_from_words.Goals as goal

pub returns : goal.returns
returns g c =
    let took = g.T.Taker.took in
    subst (λ (cs : List Code). took c.args.taker cs c.take_all.result) c.new-run.ensures.codes c.take_all.ensures

pub take_all-requires-clause-room : goal.take_all-requires-clause-room
take_all-requires-clause-room g c =
    let long = ap length c.new-run.ensures.codes ∙ length-codes (code_by c.args.coding) (drop c.args.at (bits c.args.octets.now)) c.args.width c.args.count in
    subst (λ (n : ℕ). g.T.Taker.room c.args.taker n) (sym long) c.requires.room
