use Rattle.std.proofs.Common.{length, drop, subst}
use Rattle.grib_packing.specs.Entries.{entries_of}
use Rattle.grib_packing.specs.Packing.{bit_width, value_count}
use Rattle.grib_group_reading.specs.Feeding.{no_marks, plain_groups}
use Rattle.grib_complex_reading.proofs.Begun.{continues_itself, read_plainly}
use Rattle.grib_packings.specs.declared.simple_reading.SimpleReading.{SimpleReading}
use Rattle.grib_packings.specs.Reading.{SimpleAgrees}
use Rattle.grib_packings.proofs.Simply.{simply_counted, simply_told}
use Rattle.grib_packings.proofs.simple_reading.SimpleReading.end.Goals as goal

pub returns-in-Reads : goal.returns-in-Reads
returns-in-Reads g c = λ s5 keeper start s7 known agrees.
    let kept = g.K.Keeper.kept in
    let reading = subst (λ (r : SimpleReading _). SimpleAgrees kept s5 keeper start (length s7) (drop 5 s7) r) c.in-Reads.is agrees in
    let groups = plain_groups (bit_width s5) (value_count s5) in
    let all = read_plainly kept keeper s7 no_marks groups 0 c.in-Reads.fed c.finish.result reading.reads (c.finish.ensures.took no_marks groups (record { keeper = keeper }) (drop 0 (drop 5 s7)) reading.reads.so_far) in (
      reading.passes s7 (continues_itself s7 known),
      subst (λ ps. kept keeper ps c.finish.result.keeper) (simply_told s5 reading.simple s7) all,
      simply_counted s5 reading.simple s7,
    )

pub returns-in-Passes : goal.returns-in-Passes
returns-in-Passes g c = λ s5 keeper start s7 known agrees.
    let passing = subst (λ (r : SimpleReading _). SimpleAgrees g.K.Keeper.kept s5 keeper start (length s7) (drop 5 s7) r) c.in-Passes.is agrees in
    (passing.passes s7 (continues_itself s7 known), passing.keeps (entries_of s5 s7), passing.counted s7 (continues_itself s7 known))

pub returns-in-Refused : goal.returns-in-Refused
returns-in-Refused g c = λ s5 keeper start s7 known agrees.
    let refused = subst (λ (r : SimpleReading _). SimpleAgrees g.K.Keeper.kept s5 keeper start (length s7) (drop 5 s7) r) c.in-Refused.is agrees in
    refused.0 s7 (continues_itself s7 known)
