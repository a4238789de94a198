use Rattle.std.proofs.Common.{◌≡◌, [], map, string_bytes, take, drop}
use Rattle.grib_words.specs.Reading.{read_count}
use Rattle.grib_words.proofs.reading.read_count.Given as goal

abbrev pub invariant-loop-place : goal.invariant-loop-place
invariant-loop-place l =
    let those = map string_bytes l.words in
    read_count l.command (take l.place those) (drop l.place those) ≡ read_count l.command [] those
