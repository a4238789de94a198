use Rattle.std.proofs.Common.{◌≡◌, ℕ, Option, List, subst}
use Rattle.std.specs.Io.KnownBytes.{Appends}
use Rattle.grib_io.specs.Outside.{AppendsFront}
use Rattle.grib_io.specs.Shelves.{Held}
use Rattle.grib_stream.proofs.Worlds.{did_write, did_write_front}
use Rattle.grib_stream.specs.Acts.{world, writes, Did, DidFront}
use Rattle.grib_stream.specs.declared.place.Totals.{Totals}
use Rattle.grib_command.specs.declared.ending.Ending.{Ending}
use Rattle.grib_command.specs.Endings.{ending_text}
use Rattle.grib_dispatch.proofs.performing.AnsweringPerformer.finish.Goals as goal

whole : (own ending : Ending) (totals : Totals) (a b : Option (List ℕ)) (names : Option Held) → own ≡ ending → Appends a b (ending_text own totals)
    → Did (world a names) (world b names) (writes (ending_text ending totals))
whole own ending totals a b names same told =
    subst (λ e. Did (world a names) (world b names) (writes (ending_text e totals))) same (did_write a b names (ending_text own totals) told)

front : (own ending : Ending) (totals : Totals) (a b : Option (List ℕ)) (names : Option Held) → own ≡ ending → AppendsFront a b (ending_text own totals)
    → DidFront (world a names) (world b names) (writes (ending_text ending totals))
front own ending totals a b names same told =
    subst (λ e. DidFront (world a names) (world b names) (writes (ending_text e totals))) same (did_write_front a b names (ending_text own totals) told)

pub returns-in-Ok-clause-done : goal.returns-in-Ok-clause-done
returns-in-Ok-clause-done g c = λ names. whole _ _ _ _ _ names c.ending.ensures c.in-Ok.ensures.octets.whole

pub returns-in-Err-Failed-clause-front : goal.returns-in-Err-Failed-clause-front
returns-in-Err-Failed-clause-front g c = λ names. front _ _ _ _ _ names c.ending.ensures c.in-Err-Failed.ensures.octets.front

pub returns-in-Err-Memory-clause-front : goal.returns-in-Err-Memory-clause-front
returns-in-Err-Memory-clause-front g c = λ names. front _ _ _ _ _ names c.ending.ensures c.in-Err-Memory.ensures.octets.front
