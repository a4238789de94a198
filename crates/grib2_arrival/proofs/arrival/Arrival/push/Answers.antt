use Rattle.std.proofs.Common.{◌≡◌, ℕ, ◌-◌, List, ◌++◌, take, drop, length, ap, subst, arith, length-drop}
use Rattle.std.proofs.lemmas.List.{take_all}
use Rattle.grib2_message.specs.Acceptance.{verdict_under}
use Rattle.grib2_arrival.specs.Heard.{HeardUnder, IsUndecided}
use Rattle.grib2_arrival.proofs.Verdicts.{whole_is, undecided, ended_longer, parted, joined}
use Rattle.grib2_arrival.proofs.arrival.Arrival.push.Goals as goal

pub loop-count-preserved : goal.loop-count-preserved
loop-count-preserved c =
    let i = c.loop-count.invariant in
    let piece = c.args.piece.now in
    let n = c.loop-count.count in
    let k = c.in_ok-count.field-0 in
    let r = c.requires.live in
    let rest : take (length piece - n) (drop n piece) ≡ drop n piece = take_all (length piece - n) (drop n piece) (omega (arith, length-drop n piece)) in
    let got = c.in_ok-count.ensures.heard c.requires.live.0 (r.1 ++ take n piece) (i.heard r.0 r.1 r.2) in
    record {
      within = omega (arith, got.1, ap length rest, length-drop n piece, i.within);
      heard = λ profile u h.
          let now = c.in_ok-count.ensures.heard profile (u ++ take n piece) (i.heard profile u h) in
          let all = subst (λ (xs : List ℕ). HeardUnder profile c.take.new.self ((u ++ take n piece) ++ take k xs)) rest now.2 in
          subst (λ (xs : List ℕ). HeardUnder profile c.take.new.self xs) (joined u piece n k) all;
    }

pub returns-else-not-is_ended-clause-heard : goal.returns-else-not-is_ended-clause-heard
returns-else-not-is_ended-clause-heard c = λ profile u h.
    let i = c.loop-count.invariant in
    let now = i.heard profile u h in (
      i.within,
      now,
      λ less. (whole_is profile c.loop-count.self.state (u ++ take c.loop-count.count c.args.piece.now) c.is_ended.result now c.is_ended.ensures.listens c.is_ended.ensures.ended).0 c.if-not-is_ended.false,
    )

pub returns-else-not-is_ended-clause-undecided : goal.returns-else-not-is_ended-clause-undecided
returns-else-not-is_ended-clause-undecided c = λ profile u h.
    let i = c.loop-count.invariant in
    let piece = c.args.piece.now in
    let n = c.loop-count.count in
    let now = i.heard profile u h in
    let accepted = (whole_is profile c.loop-count.self.state (u ++ take n piece) c.is_ended.result now c.is_ended.ensures.listens c.is_ended.ensures.ended).0 c.if-not-is_ended.false in
    subst (λ (xs : List ℕ). IsUndecided (verdict_under profile xs)) (parted u piece n) (ended_longer profile c.loop-count.self.state (u ++ take n piece) (drop n piece) now accepted)

pub returns-after-loop-count-clause-undecided : goal.returns-after-loop-count-clause-undecided
returns-after-loop-count-clause-undecided c = λ profile u h.
    let i = c.loop-count.invariant in
    let piece = c.args.piece.now in
    let n = c.loop-count.count in
    subst (λ (xs : List ℕ). IsUndecided (verdict_under profile (u ++ xs))) (take_all n piece c.loop-count-test.false) (undecided profile c.loop-count.self.state (u ++ take n piece) (i.heard profile u h))
