-- The messages of an input: from each place on, the next begins at the first `GRIB`, and its octets end
-- at its total length. What stands before, between and after them is skipped and counted.
use Rattle.std.specs.Prelude.{ℕ, zero, suc, ◌+◌, ◌-◌, Bool, List, [], ◌∷◌, take}
use Rattle.std.specs.Str.{bytes_eq}
use Rattle.grib_base.specs.declared.fault.Fault.{Fault}
use Rattle.grib_base.specs.Rules.{choose}
use Rattle.grib2_sections.specs.Head.{indicator}

-- whether octets begin with `GRIB`
abbrev pub begins : List ℕ → Bool
begins octets = bytes_eq (take 4 octets) indicator

-- what is said of the octets from a `GRIB` on: they begin with a message of this length, or they are refused
pub data Judgement : Type 0 where
  Message : ℕ → Judgement
  Faulty : Fault → Judgement

-- a message: how many octets of the input stand before it, and its own octets
pub record Found : Type 0 where
  pub before : ℕ
  pub octets : List ℕ

abbrev pub message_after : ℕ → List ℕ → Found
message_after before octets = record { before = before; octets = octets }

-- what stands after the last message: no further `GRIB`, with the number of all skipped octets, or
-- octets that are refused
pub data End : Type 0 where
  Over : ℕ → End
  Refusing : Fault → End

pub record Stream : Type 0 where
  pub messages : List Found
  pub end : End

abbrev pub stream_of : List Found → End → Stream
stream_of messages end = record { messages = messages; end = end }

abbrev pub followed_by : Found → Stream → Stream
followed_by first stream = stream_of (first ∷ stream.messages) stream.end

-- what comes of a judgement; a message has the rest of the input after it
abbrev pub on_judgement : Judgement → (ℕ → Stream) → Stream
on_judgement (Message total) next = next total
on_judgement (Faulty fault) next = stream_of [] (Refusing fault)

-- The messages of what is left of an input, of which `place` octets stand before and `skipped` of these
-- belong to no message. The first `inside` of the octets belong to a message that was found already.
abbrev pub stream_from : (List ℕ → Judgement) → ℕ → ℕ → ℕ → List ℕ → Stream
stream_from judge inside place skipped [] = stream_of [] (Over skipped)
stream_from judge (suc inside) place skipped (octet ∷ octets) = stream_from judge inside (place + 1) skipped octets
stream_from judge zero place skipped (octet ∷ octets) =
    choose (begins (octet ∷ octets))
    (λ _. on_judgement (judge (octet ∷ octets))
    (λ total. followed_by (message_after place (take total (octet ∷ octets))) (stream_from judge (total - 1) (place + 1) skipped octets)))
    (λ _. stream_from judge zero (place + 1) (skipped + 1) octets)

-- the messages of an input, where `judge` says what the octets from a `GRIB` on are
abbrev pub stream : (List ℕ → Judgement) → List ℕ → Stream
stream judge input = stream_from judge 0 0 0 input
