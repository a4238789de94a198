use Rattle.std.proofs.Common.{refl}
use Rattle.grib_engine.proofs.closing.close.Goals as goal

pub returns-in-Ok-clause-whole : goal.returns-in-Ok-clause-whole
returns-in-Ok-clause-whole g c = λ off notes_off other. (refl, (c.in-Ok.ensures.noted.whole, c.in-Ok.ensures.settled))

pub returns-in-Err-Memory-clause-whole : goal.returns-in-Err-Memory-clause-whole
returns-in-Err-Memory-clause-whole g c = λ off notes_off other. let no : ⊥ = cc (c.in-Err-Memory.ensures.memory off notes_off) in absurd no
