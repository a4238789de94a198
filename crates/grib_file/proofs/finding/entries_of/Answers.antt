use Rattle.std.proofs.Common.{List, ℕ, subst}
use Rattle.std.proofs.lemmas.List.{take_rest}
use Rattle.grib_file.specs.Finding.{IsSpan, IsStopAt}
use Rattle.grib_file.proofs.Found.{one_found, all_found, none_filed, exit_with}
use Rattle.grib_file.proofs.finding.entries_of.Goals as goal

pub returns-in_err-span-clause-filed : goal.returns-in_err-span-clause-filed
returns-in_err-span-clause-filed c =
    let loop = c.loop-start in
    let stop = c.in_err-span.field-0.0 in
    exit_with _ c.args.profile c.args.octets.now c.from_residual.result stop
    (none_filed c.args.profile c.args.octets.now loop.place loop.messages c.in-Some.start loop.entries.items stop loop.invariant c.in-Some.ensures
    (subst (λ (xs : List ℕ). IsStopAt c.args.profile xs loop.messages stop) (take_rest c.args.octets.now c.in-Some.start) c.in_err-span.ensures))
    c.from_residual.ensures.1

pub loop-start-preserved : goal.loop-start-preserved
loop-start-preserved c =
    let loop = c.loop-start in
    one_found c.args.profile c.args.octets.now loop.place loop.messages c.in-Some.start loop.entries.items c.push_fields.new.entries.items c.in_ok-span.span loop.invariant c.in-Some.ensures
    (subst (λ (xs : List ℕ). IsSpan c.args.profile xs c.in_ok-span.span) (take_rest c.args.octets.now c.in-Some.start) c.in_ok-span.ensures) c.in_ok-push_fields.ensures

pub returns-clause-filed : goal.returns-clause-filed
returns-clause-filed c =
    let loop = c.loop-start in
    all_found c.args.profile c.args.octets.now loop.place loop.messages loop.entries.items loop.invariant c.in_default.ensures
