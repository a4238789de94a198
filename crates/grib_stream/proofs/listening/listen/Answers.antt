use Rattle.std.proofs.Common.{◌≡◌, ◌<◌, length, sym, ◌∙◌, ap, subst, arith, ⊎_elim, Err}
use Rattle.grib_stream.specs.declared.gathering.Rest.TheVariants.{Open, Full, Ended}
use Rattle.grib_stream.specs.Hearing.{Hears}
use Rattle.grib_stream.specs.Rest.{Stands}
use Rattle.grib_stream.proofs.Hearers.{Alike, refused_with, stopped_with, pushed, whole_now, goes_on, listening_on, cut_off, failed_so, gathers_less, listens_passed}
use Rattle.grib_stream.proofs.listening.listen.Goals as goal

pub returns-in-Err-Refused-clause-listens : goal.returns-in-Err-Refused-clause-listens
returns-in-Err-Refused-clause-listens g c =
    let alike : Alike (g.K.Performer.task c.args.performer.now) (g.K.Performer.judges c.args.performer.now) (g.K.Performer.hears c.args.performer.now) g.K.Hearer.Hearer.hears =
    record { fronts = g.met.K.Performer.alike c.args.performer.now } in
    let hearer = g.K.Hearer.Hearer in
    let judge = g.K.Performer.judges c.args.performer.now in
    refused_with (g.met.K.Performer.lawful c.args.performer.now) c.as_slice.result.now c.in-Err-Refused.fault
    alike c.pieces.invariant.so c.as_slice.ensures
    (subst (λ stop. Hears judge (hearer.heard judge c.pieces.hearer) (hearer.heard judge c.push.new.self) c.as_slice.result.now (Err stop)) c.in-Err-Refused.field-0-is (c.in-Err-Refused.ensures judge))

pub returns-in-Err-Memory-clause-listens : goal.returns-in-Err-Memory-clause-listens
returns-in-Err-Memory-clause-listens g c = stopped_with c.pieces.invariant.so

pub cut-requires : goal.cut-requires
cut-requires g c =
    let alike : Alike (g.K.Performer.task c.args.performer.now) (g.K.Performer.judges c.args.performer.now) (g.K.Performer.hears c.args.performer.now) g.K.Hearer.Hearer.hears =
    record { fronts = g.met.K.Performer.alike c.args.performer.now } in
    let so = pushed (g.met.K.Performer.lawful c.args.performer.now) c.as_slice.result.now c.pass.new.self.octets c.in-Ok.count alike c.pieces.invariant.so c.as_slice.ensures (c.in-Ok.ensures (g.K.Performer.judges c.args.performer.now)) c.pass.ensures.octets in
    (g.K.Performer.judges c.args.performer.now, so.octets, so.heard, so.four)

pub returns-in-None-clause-listens : goal.returns-in-None-clause-listens
returns-in-None-clause-listens g c =
    let alike : Alike (g.K.Performer.task c.args.performer.now) (g.K.Performer.judges c.args.performer.now) (g.K.Performer.hears c.args.performer.now) g.K.Hearer.Hearer.hears =
    record { fronts = g.met.K.Performer.alike c.args.performer.now } in
    let so = pushed (g.met.K.Performer.lawful c.args.performer.now) c.as_slice.result.now c.pass.new.self.octets c.in-Ok.count alike c.pieces.invariant.so c.as_slice.ensures (c.in-Ok.ensures (g.K.Performer.judges c.args.performer.now)) c.pass.ensures.octets in
    whole_now alike so (c.in-None.ensures (g.K.Performer.judges c.args.performer.now))

pub gather-requires : goal.gather-requires
gather-requires g c =
    let alike : Alike (g.K.Performer.task c.args.performer.now) (g.K.Performer.judges c.args.performer.now) (g.K.Performer.hears c.args.performer.now) g.K.Hearer.Hearer.hears =
    record { fronts = g.met.K.Performer.alike c.args.performer.now } in
    let so = pushed (g.met.K.Performer.lawful c.args.performer.now) c.as_slice.result.now c.pass.new.self.octets c.in-Ok.count alike c.pieces.invariant.so c.as_slice.ensures (c.in-Ok.ensures (g.K.Performer.judges c.args.performer.now)) c.pass.ensures.octets in
    let on = goes_on c.in-Some.fault alike so (c.in-Some.ensures (g.K.Performer.judges c.args.performer.now)) in
    let none : length c.pass.new.self.octets ≡ 0 = ap length on.none in
    record { few = omega (arith, none) }

pub returns-in_err-gather-clause-listens : goal.returns-in_err-gather-clause-listens
returns-in_err-gather-clause-listens g c =
    let alike : Alike (g.K.Performer.task c.args.performer.now) (g.K.Performer.judges c.args.performer.now) (g.K.Performer.hears c.args.performer.now) g.K.Hearer.Hearer.hears =
    record { fronts = g.met.K.Performer.alike c.args.performer.now } in
    let task = g.K.Performer.task c.args.performer.now in
    let so = pushed (g.met.K.Performer.lawful c.args.performer.now) c.as_slice.result.now c.pass.new.self.octets c.in-Ok.count alike c.pieces.invariant.so c.as_slice.ensures (c.in-Ok.ensures (g.K.Performer.judges c.args.performer.now)) c.pass.ensures.octets in
    let on = goes_on c.in-Some.fault alike so (c.in-Some.ensures (g.K.Performer.judges c.args.performer.now)) in
    listens_passed (g.K.Hearer.Hearer.heard (g.K.Performer.judges c.args.performer.now)) task.judge c.from_residual.result c.in_err-gather.field-0.0 c.gather.new.window.octets c.from_residual.ensures.1
    (failed_so task c.in-Some.fault (cut_off on c.in_err-gather.ensures.gathers c.in_err-gather.ensures.few))

pub pieces-smaller : goal.pieces-smaller
pieces-smaller g c =
    let alike : Alike (g.K.Performer.task c.args.performer.now) (g.K.Performer.judges c.args.performer.now) (g.K.Performer.hears c.args.performer.now) g.K.Hearer.Hearer.hears =
    record { fronts = g.met.K.Performer.alike c.args.performer.now } in
    let so = pushed (g.met.K.Performer.lawful c.args.performer.now) c.as_slice.result.now c.pass.new.self.octets c.in-Ok.count alike c.pieces.invariant.so c.as_slice.ensures (c.in-Ok.ensures (g.K.Performer.judges c.args.performer.now)) c.pass.ensures.octets in
    let on = goes_on c.in-Some.fault alike so (c.in-Some.ensures (g.K.Performer.judges c.args.performer.now)) in
    gathers_less c.in_ok-gather.ensures.gathers on.none
    (subst (λ rest. Stands rest 1 (length c.gather.new.window.octets) c.gather.new.left (g.S.Source.left c.gather.new.input)) c.in-Open.is c.in_ok-gather.ensures.stands)

pub pieces-preserved : goal.pieces-preserved
pieces-preserved g c =
    let alike : Alike (g.K.Performer.task c.args.performer.now) (g.K.Performer.judges c.args.performer.now) (g.K.Performer.hears c.args.performer.now) g.K.Hearer.Hearer.hears =
    record { fronts = g.met.K.Performer.alike c.args.performer.now } in
    let so = pushed (g.met.K.Performer.lawful c.args.performer.now) c.as_slice.result.now c.pass.new.self.octets c.in-Ok.count alike c.pieces.invariant.so c.as_slice.ensures (c.in-Ok.ensures (g.K.Performer.judges c.args.performer.now)) c.pass.ensures.octets in
    let on = goes_on c.in-Some.fault alike so (c.in-Some.ensures (g.K.Performer.judges c.args.performer.now)) in
    record {
      so = listening_on (g.met.K.Performer.lawful c.args.performer.now) on c.in_ok-gather.ensures.gathers (omega (arith, c.in_ok-gather.ensures.short));
      calm = c.in_ok-gather.ensures.counted ∙ c.pieces.invariant.calm;
    }

pub returns-in-Full-clause-listens : goal.returns-in-Full-clause-listens
returns-in-Full-clause-listens g c =
    let alike : Alike (g.K.Performer.task c.args.performer.now) (g.K.Performer.judges c.args.performer.now) (g.K.Performer.hears c.args.performer.now) g.K.Hearer.Hearer.hears =
    record { fronts = g.met.K.Performer.alike c.args.performer.now } in
    let so = pushed (g.met.K.Performer.lawful c.args.performer.now) c.as_slice.result.now c.pass.new.self.octets c.in-Ok.count alike c.pieces.invariant.so c.as_slice.ensures (c.in-Ok.ensures (g.K.Performer.judges c.args.performer.now)) c.pass.ensures.octets in
    let on = goes_on c.in-Some.fault alike so (c.in-Some.ensures (g.K.Performer.judges c.args.performer.now)) in (
      cut_off on c.in_ok-gather.ensures.gathers
          (⊎_elim (λ (more : c.in_ok-gather.field-0 ≡ Open). let no : Full ≡ Open = sym c.in-Full.is ∙ more in let never : ⊥ = cc in absurd never)
          (λ (few : length c.gather.new.window.octets < 1). few) c.in_ok-gather.ensures.fewer),
      subst (λ rest. Stands rest 1 (length c.gather.new.window.octets) c.gather.new.left (g.S.Source.left c.gather.new.input)) c.in-Full.is c.in_ok-gather.ensures.stands,
    )

pub returns-in-Ended-clause-listens : goal.returns-in-Ended-clause-listens
returns-in-Ended-clause-listens g c =
    let alike : Alike (g.K.Performer.task c.args.performer.now) (g.K.Performer.judges c.args.performer.now) (g.K.Performer.hears c.args.performer.now) g.K.Hearer.Hearer.hears =
    record { fronts = g.met.K.Performer.alike c.args.performer.now } in
    let so = pushed (g.met.K.Performer.lawful c.args.performer.now) c.as_slice.result.now c.pass.new.self.octets c.in-Ok.count alike c.pieces.invariant.so c.as_slice.ensures (c.in-Ok.ensures (g.K.Performer.judges c.args.performer.now)) c.pass.ensures.octets in
    let on = goes_on c.in-Some.fault alike so (c.in-Some.ensures (g.K.Performer.judges c.args.performer.now)) in (
      cut_off on c.in_ok-gather.ensures.gathers
          (⊎_elim (λ (more : c.in_ok-gather.field-0 ≡ Open). let no : Ended ≡ Open = sym c.in-Ended.is ∙ more in let never : ⊥ = cc in absurd never)
          (λ (few : length c.gather.new.window.octets < 1). few) c.in_ok-gather.ensures.fewer),
      subst (λ rest. Stands rest 1 (length c.gather.new.window.octets) c.gather.new.left (g.S.Source.left c.gather.new.input)) c.in-Ended.is c.in_ok-gather.ensures.stands,
    )
