use Rattle.std.proofs.Common.{ℕ, ◌≤◌, List, ◌++◌, take, length, sym, ◌∙◌, subst, arith, length-take-le}
use Rattle.std.proofs.lemmas.Result.{err_from_is_err_and}
use Rattle.grib2_arrival.specs.Heard.{IsOne}
use Rattle.grib2_arrival.proofs.States.{gathered_more, gathered_stands}
use Rattle.grib2_arrival.proofs.Verdicts.{stops_piece}
use Rattle.grib2_arrival.proofs.state.gather.Goals as goal

pub settle-requires : goal.settle-requires
settle-requires c =
    let u = c.requires.heard.1 in
    let gh = c.requires.heard.2 in
    let items = c.args.gathered.items in
    let part = take c.min-taken.result c.args.piece.now in
    let within : c.min-taken.result ≤ length c.args.piece.now = omega (arith, c.min-taken.ensures) in
    let long = length-take-le c.min-taken.result c.args.piece.now within in
    let one = subst (λ (xs : List ℕ). IsOne (xs ++ part)) c.as_slice.ensures.value (c.wanted.ensures.one part (omega (arith, long, c.min-taken.ensures))) in
    let new = c.in_ok-extend_from_slice.ensures.items in
    record {
      stands = (
        c.requires.heard.0,
        u ++ part,
        gh.before,
        gathered_stands c.requires.heard.0 u part c.args.kept items gh,
        new ∙ gathered_more c.requires.heard.0 u part c.args.kept items gh,
        subst IsOne (sym new) one,
      );
    }

pub returns-in_err-state : goal.returns-in_err-state
returns-in_err-state c = λ profile u gh.
    let items = c.args.gathered.items in
    let part = take c.min-taken.result c.args.piece.now in
    let within : c.min-taken.result ≤ length c.args.piece.now = omega (arith, c.min-taken.ensures) in
    let long = length-take-le c.min-taken.result c.args.piece.now within in
    let one = subst (λ (xs : List ℕ). IsOne (xs ++ part)) c.as_slice.ensures.value (c.wanted.ensures.one part (omega (arith, long, c.min-taken.ensures))) in
    let new = c.in_ok-extend_from_slice.ensures.items in
    let stands = gathered_stands profile u part c.args.kept items gh in
    let stops = c.in_err-state.ensures profile (u ++ part) gh.before stands (new ∙ gathered_more profile u part c.args.kept items gh) (subst IsOne (sym new) one) in
    let p = err_from_is_err_and c.from_residual-in_err-state.result c.from_residual-in_err-state.ensures.1 in
    rw (p.1, p.2) (stops_piece profile u c.args.piece.now c.min-taken.result _ stands.second stops)

pub returns : goal.returns
returns c = λ profile u gh.
    let items = c.args.gathered.items in
    let part = take c.min-taken.result c.args.piece.now in
    let within : c.min-taken.result ≤ length c.args.piece.now = omega (arith, c.min-taken.ensures) in
    let long = length-take-le c.min-taken.result c.args.piece.now within in
    let one = subst (λ (xs : List ℕ). IsOne (xs ++ part)) c.as_slice.ensures.value (c.wanted.ensures.one part (omega (arith, long, c.min-taken.ensures))) in
    let new = c.in_ok-extend_from_slice.ensures.items in (
      omega (arith, c.wanted.ensures.some, c.requires.some, c.min-taken.ensures),
      within,
      c.in_ok-state.ensures profile (u ++ part) gh.before (gathered_stands profile u part c.args.kept items gh) (new ∙ gathered_more profile u part c.args.kept items gh) (subst IsOne (sym new) one),
    )
