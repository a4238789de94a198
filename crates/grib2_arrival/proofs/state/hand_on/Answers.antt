use Rattle.std.proofs.Common.{ℕ, ◌≤◌, List, [], ◌++◌, drop, take, length, subst, arith, length-take-le}
use Rattle.std.proofs.lemmas.Result.{err_from_is_err_and}
use Rattle.grib2_message.specs.View.{octets_in_force}
use Rattle.grib2_arrival.specs.Fed.{DataAgrees}
use Rattle.grib2_arrival.specs.Heard.{pending}
use Rattle.grib2_arrival.proofs.Onward.{stands_longer}
use Rattle.grib2_arrival.proofs.States.{values_more, values_stand, values_long}
use Rattle.grib2_arrival.proofs.Verdicts.{stops_piece}
use Rattle.grib2_arrival.proofs.state.hand_on.Goals as goal

pub push-feed-requires : goal.push-feed-requires
push-feed-requires c =
    let u = c.requires.heard.1 in
    let fh = c.requires.heard.2 in
    let kept = c.args.kept in
    let left = c.left.ensures (octets_in_force 5 fh.before) kept.frame.place c.args.length (drop 5 (pending u kept)) fh.agrees in
    let within : c.min-taken.result ≤ length c.args.piece.now = omega (arith, c.min-taken.ensures) in
    let long = length-take-le c.min-taken.result c.args.piece.now within in
    record {
      s5 = octets_in_force 5 fh.before;
      start = kept.frame.place;
      l = c.args.length;
      octets = drop 5 (pending u kept);
      agrees = fh.agrees;
      room = omega (arith, left, long, c.min-taken.ensures);
    }

pub go_on-requires-clause-stands : goal.go_on-requires-clause-stands
go_on-requires-clause-stands c =
    let u = c.requires.heard.1 in
    let fh = c.requires.heard.2 in
    let kept = c.args.kept in
    let part = take c.min-taken.result c.args.piece.now in
    let s5 = octets_in_force 5 fh.before in (
      c.requires.heard.0,
      u ++ part,
      fh.before,
      stands_longer c.requires.heard.0 u fh.before kept fh.stands part,
      values_stand c.requires.heard.0 u part kept c.args.length fh.before fh.stands fh.values,
      subst (λ (xs : List ℕ). DataAgrees s5 kept.frame.place c.args.length xs c.push-feed.result) (values_more c.requires.heard.0 u part kept c.args.length fh.before fh.stands fh.values)
          (c.push-feed.ensures s5 kept.frame.place c.args.length (drop 5 (pending u kept)) fh.agrees),
    )

pub returns-in_err-state : goal.returns-in_err-state
returns-in_err-state c = λ profile u fh.
    let kept = c.args.kept in
    let part = take c.min-taken.result c.args.piece.now in
    let s5 = octets_in_force 5 fh.before in
    let stands = stands_longer profile u fh.before kept fh.stands part in
    let stops = c.in_err-state.ensures profile (u ++ part) fh.before stands (values_stand profile u part kept c.args.length fh.before fh.stands fh.values)
    (subst (λ (xs : List ℕ). DataAgrees s5 kept.frame.place c.args.length xs c.push-feed.result) (values_more profile u part kept c.args.length fh.before fh.stands fh.values)
    (c.push-feed.ensures s5 kept.frame.place c.args.length (drop 5 (pending u kept)) fh.agrees)) in
    let p = err_from_is_err_and c.from_residual.result c.from_residual.ensures.1 in
    rw (p.1, p.2) (stops_piece profile u c.args.piece.now c.min-taken.result _ stands.second stops)

pub returns : goal.returns
returns c = λ profile u fh.
    let kept = c.args.kept in
    let part = take c.min-taken.result c.args.piece.now in
    let s5 = octets_in_force 5 fh.before in
    let left = c.left.ensures s5 kept.frame.place c.args.length (drop 5 (pending u kept)) fh.agrees in
    let long = values_long profile u [] kept c.args.length fh.before fh.stands fh.values in
    let wants = fh.wants in (
      omega (arith, left, long, wants, c.min-taken.ensures, c.requires.some),
      omega (arith, c.min-taken.ensures),
      c.in_ok-state.ensures profile (u ++ part) fh.before (stands_longer profile u fh.before kept fh.stands part) (values_stand profile u part kept c.args.length fh.before fh.stands fh.values)
          (subst (λ (xs : List ℕ). DataAgrees s5 kept.frame.place c.args.length xs c.push-feed.result) (values_more profile u part kept c.args.length fh.before fh.stands fh.values)
          (c.push-feed.ensures s5 kept.frame.place c.args.length (drop 5 (pending u kept)) fh.agrees)),
    )
