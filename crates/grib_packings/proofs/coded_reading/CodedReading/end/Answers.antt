use Rattle.std.proofs.Common.{Some, length, drop, sym, ap, ◌∙◌, subst}
use Rattle.grib_base.specs.Rules.{located}
use Rattle.grib_packings.specs.declared.coded_reading.CodedReading.{CodedReading}
use Rattle.grib_packings.specs.Reading.{CodedAgrees}
use Rattle.grib_packing.specs.Coded.{block_refusal}
use Rattle.grib_block_feeding.proofs.Values.{blocks_fault, blocks_read}
use Rattle.grib_packings.proofs.coded_reading.CodedReading.end.Goals as goal

pub returns-in-Ok : goal.returns-in-Ok
returns-in-Ok g c = λ s5 keeper s7 long agrees.
    let reading = subst (λ (r : CodedReading _). CodedAgrees g.K.Keeper.kept s5 keeper (drop 5 s7) r) c.in-Blocks.is agrees in
    let read = c.in-Ok.ensures _ _ _ _ reading.agrees in
    blocks_read s5 s7 reading.template reading.coded g.K.Keeper.kept keeper c.in-Ok.keeper reading.agrees.fits read.0 read.1

pub returns-in-Err : goal.returns-in-Err
returns-in-Err g c = λ s5 keeper s7 long agrees.
    let reading = subst (λ (r : CodedReading _). CodedAgrees g.K.Keeper.kept s5 keeper (drop 5 s7) r) c.in-Blocks.is agrees in
    let fault = c.in-Err.ensures _ _ _ _ reading.agrees in
    ap (located c.args.start) (blocks_fault s5 s7 reading.template reading.coded ∙ ap (block_refusal (length s7)) fault ∙ ap (λ l. block_refusal l (Some c.in-Err.fault)) (long ∙ sym c.from.ensures)) ∙ c.fault_of_blocks.ensures
