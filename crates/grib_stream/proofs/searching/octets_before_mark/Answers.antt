use Rattle.std.proofs.Common.{sym, subst}
use Rattle.grib_stream.specs.Searching.{Unmarked}
use Rattle.grib_stream.proofs.Streams.{unmarked_some, unmarked_none, marked_some}
use Rattle.grib_stream.proofs.searching.octets_before_mark.Goals as goal

pub returns-in-Some-clause-unmarked : goal.returns-in-Some-clause-unmarked
returns-in-Some-clause-unmarked c = unmarked_some c.args.octets.now c.in-Some.place c.in-Some.ensures

pub returns-in-Some-clause-begun : goal.returns-in-Some-clause-begun
returns-in-Some-clause-begun c = λ _. marked_some c.args.octets.now c.in-Some.place c.in-Some.ensures

pub returns-in-None-clause-unmarked : goal.returns-in-None-clause-unmarked
returns-in-None-clause-unmarked c =
    subst (λ n. Unmarked n c.args.octets.now) (sym c.saturating_sub.ensures) (unmarked_none c.args.octets.now c.in-None.ensures)
