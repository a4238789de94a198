use Rattle.std.proofs.Common.{refl, arith}
use Rattle.grib2_arrival.proofs.data.Data.start.Goals as goal

pub returns-in_ok-feeding-in-Read : goal.returns-in_ok-feeding-in-Read
returns-in_ok-feeding-in-Read c = λ s5 is.
    let represents = rw c.in-Read.is at is in
    record { keeper = _; read = c.in_ok-feeding-in-Read.ensures.read s5 represents }

pub returns-in-Opaque : goal.returns-in-Opaque
returns-in-Opaque c = λ s5 is. (let told = rw c.in-Opaque.is at is in (told.0, omega (arith, c.requires.least)))
