-- The notes on a run, with their newline (10).
use Rattle.std.specs.Prelude.{ℕ, List, [], ◌∷◌, ◌++◌, codes}
use Rattle.std.specs.Fmt.{decimal}
use Rattle.grib_base.specs.declared.fault.Fault.{Fault}
use Rattle.grib_base.specs.Reason.{name_of}

-- what is refused, and the octet that decides it, the reason and its detail
abbrev pub refusal_text : List ℕ → Fault → List ℕ
refusal_text head fault =
    head ++ codes " octet " ++ decimal fault.octet ++ codes " " ++ name_of fault.reason ++ codes " " ++ decimal fault.detail ++ 10 ∷ []

-- message m is refused, with which the run ends
abbrev pub refusal_note : ℕ → Fault → List ℕ
refusal_note m fault = refusal_text (codes "refused message " ++ decimal m) fault

-- octets are refused, and the run goes on behind them: the number that a message there would have, and how many octets
-- of the input stand before them
abbrev pub refused_line : ℕ → ℕ → Fault → List ℕ
refused_line m before fault = refusal_text (codes "refused message " ++ decimal m ++ codes " at " ++ decimal before) fault
