use Rattle.std.proofs.Common.{◌-◌, ◌^◌}
use Rattle.grib_simple.proofs.Bitmaps.{bitmap_reads}
use Rattle.grib_simple.proofs.Fitting.{nothing_fails}
use Rattle.grib_ccsds.proofs.Back.{accepted, values_back, column_back}
use Rattle.grib_ccsds.proofs.laws.what_is_packed_in_blocks_reads_back.Goals as goal

pub returns : goal.returns
returns c block interval column kind s5 s6 s7 may blocks none packed =
    let marks = nothing_fails (2 ^ 32 - 1) column.points none in
    let values = values_back block interval column kind s5 s6 s7 may blocks none packed in
    record {
      representation = accepted block interval column kind s5 s6 s7 may blocks none packed;
      bitmap = λ earlier. let reads = bitmap_reads column.points s6 _ earlier marks.0 packed.numbers.values_stand packed.bitmap in reads.1;
      values = values.0;
      column_stands = λ earlier.
          let reads = bitmap_reads column.points s6 _ earlier marks.0 packed.numbers.values_stand packed.bitmap in
          column_back block interval column kind s5 s6 s7 may blocks none packed _ reads.0;
    }
