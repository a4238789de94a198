use Rattle.std.proofs.Common.{arith}
use Rattle.std.proofs.lemmas.Fmt.{length-decimal-le}
use Rattle.grib_text.proofs.values.append_place.Goals as goal

pub write_digits-start-requires : goal.write_digits-start-requires
write_digits-start-requires c =
    (omega (arith, length-decimal-le 10 c.from.result (omega arith) (omega arith) (omega arith)), omega arith)
