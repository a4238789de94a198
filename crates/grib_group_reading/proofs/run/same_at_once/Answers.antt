use Rattle.std.proofs.Common.{ℕ, List, length, sym, subst, ◌∙◌, ap, replicate}
use Rattle.std.proofs.lemmas.List.{length-replicate}
use Rattle.grib_base.specs.declared.code.Code.{Code}
use Rattle.grib_group_reading.specs.Taking.{code_by}
use Rattle.grib_group_reading.proofs.CodeRuns.{plain_zeros}
use Rattle.grib_group_reading.proofs.run.same_at_once.Goals as goal

pub returns : goal.returns
returns g c = λ xs.
    let took = g.T.Taker.took in
    let same = c.new-run.ensures.codes ∙ ap (replicate c.args.count) c.code-2.ensures ∙ sym (plain_zeros (code_by c.args.coding) xs c.args.count) in
    subst (λ (cs : List Code). took c.args.taker cs c.take_run.result) same c.take_run.ensures

pub take_run-requires-clause-room : goal.take_run-requires-clause-room
take_run-requires-clause-room g c =
    let long = ap length c.new-run.ensures.codes ∙ length-replicate c.args.count c.code-2.result in
    subst (λ (n : ℕ). g.T.Taker.room c.args.taker n) (sym long) c.requires.room

pub returns-then-is_quick : goal.returns-then-is_quick
returns-then-is_quick g c = λ xs.
    let took = g.T.Taker.took in
    let same = ap (replicate c.args.count) c.code.ensures ∙ sym (plain_zeros (code_by c.args.coding) xs c.args.count) in
    subst (λ (cs : List Code). took c.args.taker cs c.take_same.result) same c.take_same.ensures
