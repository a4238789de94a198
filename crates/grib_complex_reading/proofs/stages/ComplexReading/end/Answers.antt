use Rattle.std.proofs.Common.{◌≡◌, ℕ, Some, length, drop, sym, ap, ◌∙◌, arith, subst}
use Rattle.grib_base.specs.declared.fault.Reason.TheVariants.{ScaledRange}
use Rattle.grib_base.specs.Rules.{refusal}
use Rattle.grib_packing.specs.Entries.{entries_of}
use Rattle.grib_complex_reading.specs.declared.stages.ComplexReading.{ComplexReading}
use Rattle.grib_complex_reading.specs.Feeding.{StateAgrees}
use Rattle.grib_complex_reading.proofs.Begun.{continues_itself, read_plainly, read_whole, told_count}
use Rattle.grib_complex_reading.proofs.stages.ComplexReading.end.Goals as goal

pub returns-in-Refused : goal.returns-in-Refused
returns-in-Refused g c = λ s5 keeper s7 known agrees.
    let state = subst (λ (r : ComplexReading _). StateAgrees g.K.Keeper.kept s5 keeper c.args.start (length s7) (drop 5 s7) r) c.in-Refused.is agrees in
    state.0 s7 (continues_itself s7 known)

pub returns-in-Passes : goal.returns-in-Passes
returns-in-Passes g c = λ s5 keeper s7 known agrees.
    let state = subst (λ (r : ComplexReading _). StateAgrees g.K.Keeper.kept s5 keeper c.args.start (length s7) (drop 5 s7) r) c.in-Passes.is agrees in
    (state.passes s7 (continues_itself s7 known), state.keeps (entries_of s5 s7), state.counted s7 (continues_itself s7 known))

pub returns-in-ReadsPlainly : goal.returns-in-ReadsPlainly
returns-in-ReadsPlainly g c = λ s5 keeper s7 known agrees.
    let kept = g.K.Keeper.kept in
    let reading = subst (λ (r : ComplexReading _). StateAgrees kept s5 keeper c.args.start (length s7) (drop 5 s7) r) c.in-ReadsPlainly.is agrees in
    let itself = continues_itself s7 known in
    let all = read_plainly kept keeper s7 reading.layout reading.groups reading.before c.in-ReadsPlainly.fed c.finish.result reading.reads
    (c.finish.ensures.took reading.layout reading.groups (record { keeper = keeper }) (drop reading.before (drop 5 s7)) reading.reads.so_far) in (
      reading.passes s7 itself,
      subst (λ ps. kept keeper ps c.finish.result.keeper) (reading.entries s7 itself) all,
      told_count reading.layout reading.groups _ _ _ _ (reading.entries s7 itself) reading.counted,
    )

pub returns-then-beyond-gt0 : goal.returns-then-beyond-gt0
returns-then-beyond-gt0 g c = λ s5 keeper s7 known agrees.
    let reads = subst (λ (r : ComplexReading _). StateAgrees g.K.Keeper.kept s5 keeper c.args.start (length s7) (drop 5 s7) r) c.in-Reads.is agrees in
    let all = read_whole g.K.Keeper.kept s5 keeper c.args.start s7 c.in-Reads.fed c.finish-teller.result reads known (c.finish-teller.ensures.took reads.layout reads.groups reads.first (drop reads.before (drop 5 s7)) reads.so_far) in
    all.some (omega (arith, c.beyond-beyond.ensures, c.if-beyond-gt0.true))
    ∙ ap (λ (d : ℕ). Some (refusal c.args.start ScaledRange d)) (sym c.beyond-beyond.ensures)
    ∙ sym (ap Some c.at.ensures)

pub returns : goal.returns
returns g c = λ s5 keeper s7 known agrees.
    let reads = subst (λ (r : ComplexReading _). StateAgrees g.K.Keeper.kept s5 keeper c.args.start (length s7) (drop 5 s7) r) c.in-Reads.is agrees in
    let all = read_whole g.K.Keeper.kept s5 keeper c.args.start s7 c.in-Reads.fed c.finish-teller.result reads known (c.finish-teller.ensures.took reads.layout reads.groups reads.first (drop reads.before (drop 5 s7)) reads.so_far) in
    let none : c.finish-teller.result.teller.beyond ≡ 0 = omega (arith, c.beyond-beyond.ensures) in
    (all.none none, all.keeps none, all.counted)
