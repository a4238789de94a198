use Rattle.std.proofs.Common.{◌≡◌, true, false, sym, ◌∙◌}
use Rattle.std.proofs.lemmas.Bool.{false≢true}
use Rattle.grib_migrate.proofs.Later.{later_found, later_none, end_year}
use Rattle.grib_migrate.proofs.date.later.Goals as goal

pub returns : goal.returns
returns c =
    let a = c.in_ok-at.ensures in
    later_found c.in_ok-at.at c.args.start c.args.seconds _ c.checked_add.result a.at.0 a.at.1 (a.civil.0 Rattle.std.proofs.Common.refl) c.span_of.ensures c.checked_add.ensures.value
    c.in_ok-end.end c.moment_of.result c.in_ok-end.ensures.value c.moment_of.ensures

pub returns-in_err-end : goal.returns-in_err-end
returns-in_err-end c =
    let a = c.in_ok-at.ensures in
    let none =
    later_none c.in_ok-at.at c.args.start c.args.seconds _ c.checked_add.result a.at.0 a.at.1 (a.civil.0 Rattle.std.proofs.Common.refl) c.span_of.ensures c.checked_add.ensures.value
    (λ range. false≢true (c.in_err-end.ensures.variant ∙ c.checked_add.ensures.succeeds.1 range)) in
    c.from_residual-in_err-end.ensures ∙ none

pub moment_of-requires : goal.moment_of-requires
moment_of-requires c =
    let a = c.in_ok-at.ensures in
    end_year c.in_ok-at.at c.args.start c.args.seconds _ c.checked_add.result a.at.0 a.at.1 (a.civil.0 Rattle.std.proofs.Common.refl) c.span_of.ensures c.checked_add.ensures.value
    c.in_ok-end.end c.in_ok-end.ensures.value
