use Rattle.std.proofs.Common.{ℕ, List, length, sym, subst, ◌∙◌, ap}
use Rattle.std.proofs.lemmas.List.{length-replicate}
use Rattle.grib_base.specs.declared.code.Code.{Code}
use Rattle.grib_group_reading.proofs.taker.RunTaker.take_same.Goals as goal

pub returns : goal.returns
returns g c =
    subst (λ (cs : List Code). g.Self.Taker.took c.args.self cs c.take_each.result) c.new.ensures.codes c.take_each.ensures

pub take_each-requires-clause-room : goal.take_each-requires-clause-room
take_each-requires-clause-room g c =
    let long = ap length c.new.ensures.codes ∙ length-replicate {A = Code} c.args.count c.args.code in
    subst (λ (n : ℕ). g.Self.Taker.room c.args.self n) (sym long) c.requires.room
