-- What is done to the output and to the names of a shelf, one octet or name after another.
use Rattle.std.specs.Prelude.{◌≡◌, ℕ, cond, List, [], ◌∷◌, ◌++◌, Option, None, Some, unwrap_or}
use Rattle.std.specs.Str.{bytes_eq}
use Rattle.std.specs.Io.KnownBytes.{Appends}
use Rattle.grib_io.specs.Shelves.{Held}

-- an octet is written to the output, a name is made, present and empty, or an octet is added at the end
-- of what stands under a name
pub data Act : Type 0 where
  Writes : ℕ → Act
  Makes : List ℕ → Act
  Adds : List ℕ → ℕ → Act

-- the octets for the output
abbrev pub written : List Act → List ℕ
written [] = []
written (Writes octet ∷ acts) = octet ∷ written acts
written (Makes name ∷ acts) = written acts
written (Adds name octet ∷ acts) = written acts

-- what stands under a name
abbrev pub held_after : List ℕ → Option (List ℕ) → List Act → Option (List ℕ)
held_after name held [] = held
held_after name held (Writes octet ∷ acts) = held_after name held acts
held_after name held (Makes other ∷ acts) = held_after name (cond (bytes_eq other name) (Some []) held) acts
held_after name held (Adds other octet ∷ acts) =
    held_after name (cond (bytes_eq other name) (Some (unwrap_or held [] ++ octet ∷ [])) held) acts

-- octets as acts
abbrev pub writes : List ℕ → List Act
writes [] = []
writes (octet ∷ octets) = Writes octet ∷ writes octets

-- what the output and the names hold, where they tell it
pub record World : Type 0 where
  pub output : Option (List ℕ)
  pub names : Option Held

abbrev pub world : Option (List ℕ) → Option Held → World
world output names = record { output = output; names = names }

-- each name has what the acts leave of what it had. Names that are not told claim nothing
abbrev pub NamesDid : Option Held → Option Held → List Act → Type 0
NamesDid None now acts = Unit {0}
NamesDid (Some before) None acts = ⊥
NamesDid (Some before) (Some now) acts = (name : List ℕ) → now name ≡ held_after name (before name) acts

-- these acts were done, and nothing else
pub record Did (before now : World) (acts : List Act) : Type 0 where
  pub output : Appends before.output now.output (written acts)
  pub names : NamesDid before.names now.names acts

-- some front of these acts was done
abbrev pub DidFront : World → World → List Act → Type 0
DidFront before now acts = (front rest : List Act) × (acts ≡ front ++ rest) × Did before now front
