-- What is waited for.
use Rattle.std.proofs.Common.{◌≡◌, ℕ, ◌+◌, ◌<◌, ◌≤◌, List, ◌++◌, length, arith, ⊎_elim}
use Rattle.std.proofs.lemmas.Bool.{cases_lt}
use Rattle.grib_base.specs.declared.fault.Fault.{Fault}
use Rattle.grib_stream.specs.Stream.{Message, Faulty}
use Rattle.grib_stream.specs.Task.{Task, IsLawful}
use Rattle.grib_stream.specs.Texts.{States}
use Rattle.grib_items.proofs.Heads.{stated_stays, stated_long}
use Rattle.grib_items.proofs.Messages.{longer}

-- no message has fewer octets than are wanted
pub no_shorter : (task : Task) → IsLawful task → ((octets : List ℕ) (total : ℕ) → task.judge octets ≡ Message total → States octets total)
    → (octets : List ℕ) (fault : Fault) (wanted : ℕ) → task.judge octets ≡ Faulty fault → (length octets + 1 < wanted → States octets wanted)
    → (more : List ℕ) (total : ℕ) → task.judge (octets ++ more) ≡ Message total → wanted ≤ total
no_shorter task lawful states octets fault wanted is stated more total later =
    ⊎_elim
    (λ (long : length octets + 1 < wanted).
    let (none, so) = stated long in
    let (none_now, total_now) = stated_stays octets more none in
    let own = (states (octets ++ more) total later).1 in
    omega (arith, so, total_now, own))
    (λ (short : wanted ≤ length octets + 1). let fewer : length octets < total = longer task lawful octets more fault total is later in omega arith)
    (cases_lt (length octets + 1) wanted)

-- where more is wanted than one read asks for, eight octets are there
pub eight_there : (octets : List ℕ) (wanted : ℕ) → 65536 < wanted → (length octets + 1 < wanted → States octets wanted) → 8 ≤ length octets
eight_there octets wanted much stated =
    ⊎_elim (λ (long : length octets + 1 < wanted). stated_long octets (stated long).0) (λ (short : wanted ≤ length octets + 1). omega arith)
    (cases_lt (length octets + 1) wanted)
