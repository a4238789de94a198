use Rattle.std.proofs.Common.{[], ℕ, List, Bor, string_bytes, map}
use Rattle.grib_help.specs.Helping.{with_wanted}
use Rattle.grib_help.proofs.Told.{folded_on}
use Rattle.grib_help.proofs.wants.named_or.Goals as goal

pub loop-name-preserved : goal.loop-name-preserved
loop-name-preserved c =
    let none : Bor (List ℕ) = record { ref_ptr = (0, 0); now = [] } in
    folded_on (with_wanted (map string_bytes c.args.words.now)) [] (λ name. name.now) c.args.names.now c.loop-name.name-index none (string_bytes c.loop-name.text) (string_bytes c.in_ok-text.text)
    c.loop-name-test.true c.loop-name.invariant c.in_ok-text.ensures
