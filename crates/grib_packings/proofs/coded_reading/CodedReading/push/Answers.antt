use Rattle.std.proofs.Common.{subst}
use Rattle.grib_packings.specs.declared.coded_reading.CodedReading.{CodedReading}
use Rattle.grib_packings.specs.Reading.{CodedAgrees}
use Rattle.grib_packings.proofs.coded_reading.CodedReading.push.Goals as goal

pub returns-in-Blocks : goal.returns-in-Blocks
returns-in-Blocks g c = λ s5 keeper octets agrees.
    let reading = subst (λ (r : CodedReading _). CodedAgrees g.K.Keeper.kept s5 keeper octets r) c.in-Blocks.is agrees in
    record {
      template = reading.template;
      coded = reading.coded;
      agrees = c.push.ensures _ _ _ _ reading.agrees;
    }
