use Rattle.std.proofs.Common.{ℕ, [], sym, arith, subst}
use Rattle.std.proofs.lemmas.List.{append-nil}
use Rattle.grib_decimal.specs.Summary.{IsTally}
use Rattle.grib_report.proofs.keeping.Tallying.finish.Goals as goal

pub returns : goal.returns
returns c = λ start points few begins kept.
    let all = kept.keeps points [] 0 few (sym (append-nil points)) (begins points) in
    c.summary.ensures points few (subst (λ (k : ℕ). IsTally points k c.args.self.tally) (omega arith) all)
