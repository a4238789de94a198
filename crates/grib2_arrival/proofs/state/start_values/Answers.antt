use Rattle.std.proofs.Common.{◌≡◌, ℕ, List, [], drop, sym, ap, ◌∙◌, subst}
use Rattle.grib2_message.specs.View.{octets_in_force}
use Rattle.grib2_arrival.specs.Fed.{DataAgrees}
use Rattle.grib2_arrival.specs.Heard.{pending}
use Rattle.grib2_arrival.proofs.States.{values_follow, values_begun}
use Rattle.grib2_arrival.proofs.state.start_values.Goals as goal

pub representation-representation-requires : goal.representation-representation-requires
representation-representation-requires c =
    let r = c.requires.stands in
    (r.2, r.3.force, values_follow c.requires.stands.0 r.1 r.2 c.args.kept c.args.length r.3 r.5)

pub start-requires-clause-read : goal.start-requires-clause-read
start-requires-clause-read c =
    let r = c.requires.stands in
    (octets_in_force 5 r.2, c.representation-representation.ensures r.2 r.3.force)

pub go_on-requires-clause-stands : goal.go_on-requires-clause-stands
go_on-requires-clause-stands c =
    let r = c.requires.stands in
    let kept = c.args.kept in
    let represents = c.representation-representation.ensures r.2 r.3.force in
    let none : drop 5 (pending r.1 kept) ≡ [] = ap (drop 5) (sym r.4) ∙ values_begun c.args.gathered.items r.6 in (
      r.0,
      r.1,
      r.2,
      r.3,
      r.5,
      subst (λ (xs : List ℕ). DataAgrees (octets_in_force 5 r.2) kept.frame.place c.args.length xs c.in_ok-feed.feed) (sym none)
          (subst (λ (q : ℕ). DataAgrees (octets_in_force 5 r.2) q c.args.length [] c.in_ok-feed.feed) c.place.ensures (c.in_ok-feed.ensures (octets_in_force 5 r.2) represents)),
    )

pub returns : goal.returns
returns c = λ profile u before h is five v.
    let kept = c.args.kept in
    let represents = c.representation-representation.ensures before h.force in
    let none : drop 5 (pending u kept) ≡ [] = ap (drop 5) (sym is) ∙ values_begun c.args.gathered.items five in
    c.go_on.ensures profile u before h v
    (subst (λ (xs : List ℕ). DataAgrees (octets_in_force 5 before) kept.frame.place c.args.length xs c.in_ok-feed.feed) (sym none)
    (subst (λ (q : ℕ). DataAgrees (octets_in_force 5 before) q c.args.length [] c.in_ok-feed.feed) c.place.ensures (c.in_ok-feed.ensures (octets_in_force 5 before) represents)))
