use Rattle.std.proofs.Common.{◌≡◌, ◌+◌, ◌∙◌, List, length, replicate, sym, arith}
use Rattle.std.proofs.lemmas.List.{length-replicate}
use Rattle.grib_base.specs.declared.code.Code.{Code}
use Rattle.grib_packing.specs.declared.column.Point.{Point}
use Rattle.grib_packing.specs.declared.column.Point.TheVariants.{Missing}
use Rattle.grib_complex_reading.specs.Told.{after, told}
use Rattle.grib_complex_reading.proofs.values.ValuesRunTaker.take_same.Goals as goal

-- no points are kept
pub returns : goal.returns
returns g c =
    let n = c.args.count in
    let code = c.args.code in
    let keeps = c.requires.quick in
    let long = length-replicate {A = Code} n code in
    record {
      stays = c.tell_same.ensures.stays;
      undoes = c.tell_same.ensures.undoes;
      tells = λ start seen room tells. c.tell_same.ensures.tells start seen (omega (arith, room, long)) tells;
      keeps = λ start seen room tells none. keeps (told (after start seen) (replicate n code));
      went = record {
        points = replicate n Missing;
        counted = length-replicate {A = Point} n Missing ∙ sym long;
        keeps = keeps (replicate n Missing);
      };
    }
