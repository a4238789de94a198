use Rattle.std.proofs.Common.{◌≡◌, ℕ, List, [], drop, length, refl, sym, ap, ◌∙◌, subst, arith}
use Rattle.std.proofs.lemmas.Result.{err_from_is_err_and}
use Rattle.grib_base.specs.Rules.{located}
use Rattle.grib_base.specs.declared.fault.ReadFault.TheVariants.{Refused as ReadRefused}
use Rattle.grib2_message.specs.View.{octets_in_force}
use Rattle.grib2_arrival.specs.Fed.{DataAgrees}
use Rattle.grib2_arrival.specs.Heard.{pending, GathersHeard}
use Rattle.grib2_arrival.proofs.States.{fresh, after_whole, stops_contents, values_fault, values_long}
use Rattle.grib2_arrival.proofs.Verdicts.{values_whole}
use Rattle.grib2_arrival.proofs.state.go_on.Goals as goal

pub returns-then-left-gt0 : goal.returns-then-left-gt0
returns-then-left-gt0 c = λ profile u before h v agrees.
    let kept = c.args.kept in
    let left = c.left.ensures (octets_in_force 5 before) kept.frame.place c.args.length (drop 5 (pending u kept)) agrees in
    let long = values_long profile u [] kept c.args.length before h v in (
      record { before = before; stands = h; values = v; agrees = agrees; wants = omega (arith, left, long) },
      c.requires.empty,
    )

pub returns-in_err-finish : goal.returns-in_err-finish
returns-in_err-finish c = λ profile u before h v agrees.
    let kept = c.args.kept in
    let s7 = pending u kept in
    let s5 = octets_in_force 5 before in
    let left = c.left.ensures s5 kept.frame.place c.args.length (drop 5 s7) agrees in
    let long = values_long profile u [] kept c.args.length before h v in
    let whole : length s7 ≡ c.args.length = omega (arith, left, long) in
    let told = values_whole u kept c.args.length (omega (arith, h.walked.low)) v whole in
    let agrees_whole : DataAgrees s5 kept.frame.place (length s7) (drop 5 s7) c.args.feed = subst (λ (n : ℕ). DataAgrees s5 kept.frame.place n (drop 5 s7) c.args.feed) (sym whole) agrees in
    let refused = c.in_err-finish.ensures s5 kept.frame.place s7 (omega (arith, long)) agrees_whole in
    let p = err_from_is_err_and c.from_residual.result c.from_residual.ensures.1 in
    rw (p.1, p.2) (stops_contents profile u before kept h s7 told.0 kept.frame.place refl (ReadRefused _) (values_fault profile before kept.frame.place s7 told.1 ∙ refused))

pub after_values-requires : goal.after_values-requires
after_values-requires c =
    let r = c.requires.stands in
    record { stands = (r.0, r.1, r.2, r.3, omega (arith, r.4.room, r.3.walked.low)) }

pub returns : goal.returns
returns c = λ profile u before h v agrees.
    let kept = c.args.kept in
    let s7 = pending u kept in
    let s5 = octets_in_force 5 before in
    let left = c.left.ensures s5 kept.frame.place c.args.length (drop 5 s7) agrees in
    let long = values_long profile u [] kept c.args.length before h v in
    let whole : length s7 ≡ c.args.length = omega (arith, left, long) in
    let told = values_whole u kept c.args.length (omega (arith, h.walked.low)) v whole in
    let agrees_whole : DataAgrees s5 kept.frame.place (length s7) (drop 5 s7) c.args.feed = subst (λ (n : ℕ). DataAgrees s5 kept.frame.place n (drop 5 s7) c.args.feed) (sym whole) agrees in
    let passed = c.in_ok-finish.ensures s5 kept.frame.place s7 (omega (arith, long)) agrees_whole in
    let none = values_fault profile before kept.frame.place s7 told.1 ∙ ap (located kept.frame.place) passed in
    let after = c.in_ok-kept.ensures.stands profile u before s7 h told.0 whole told.1 none in
    let at = after_whole profile u before kept s7 h refl in
    subst (λ (xs : List ℕ). GathersHeard profile c.in_ok-kept.kept xs u) (sym c.requires.empty) (fresh profile u _ c.in_ok-kept.kept after.0 (omega (arith, after.1, at, whole)))

pub finish-requires : goal.finish-requires
finish-requires c =
    let r = c.requires.stands in
    let kept = c.args.kept in
    let s5 = octets_in_force 5 r.2 in
    let left = c.left.ensures s5 kept.frame.place c.args.length (drop 5 (pending r.1 kept)) r.5 in
    record { s5 = s5; start = kept.frame.place; l = c.args.length; octets = drop 5 (pending r.1 kept); agrees = r.5; whole = omega (arith, left) }
