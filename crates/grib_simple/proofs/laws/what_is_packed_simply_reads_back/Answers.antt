use Rattle.grib_simple.proofs.Back.{accepted, values_pass, column_back}
use Rattle.grib_simple.proofs.Bitmaps.{bitmap_reads}
use Rattle.grib_simple.proofs.Fitting.{none_fail}
use Rattle.grib_simple.proofs.laws.what_is_packed_simply_reads_back.Goals as goal

pub returns : goal.returns
returns c column kind s5 s6 s7 may none packed =
    let marks = none_fail column.points none in
    record {
      representation = accepted column kind s5 s6 s7 may none packed;
      bitmap = λ earlier. let reads = bitmap_reads column.points s6 _ earlier marks.0 packed.numbers.values_stand packed.bitmap in reads.1;
      values = values_pass column kind s5 s6 s7 may none packed;
      column_stands = λ earlier.
          let reads = bitmap_reads column.points s6 _ earlier marks.0 packed.numbers.values_stand packed.bitmap in
          column_back column kind s5 s6 s7 may none packed _ reads.0;
    }
