-- Inputs whose messages are all in the grammar and all answered.
use Rattle.std.specs.Prelude.{◌≡◌, ◌⊎◌, ℕ, List, [], ◌∷◌, ◌++◌, length, All}
use Rattle.grib_base.specs.declared.profile.Profile.{Profile}
use Rattle.grib1_sections.specs.Message.{IsMessage1}
use Rattle.grib2_message.specs.Message.{IsMessageUnder}
use Rattle.grib_file.specs.Filed.{FieldOf, Good, filed}
use Rattle.grib_table.specs.declared.together.Tables.{Tables}
use Rattle.grib_table.specs.Together.{AllGood, Texts, together}
use Rattle.grib_stream.specs.Searching.{Markless}
use Rattle.grib_run_spec.specs.Tasks.{Work, Reads, Makes, ReadsTables, ReadsFile}
use Rattle.grib_run_law.specs.Written.{HasResult}

-- a message, and the octets before it
pub record Piece : Type 0 where
  pub between : List ℕ
  pub message : List ℕ

-- octets are one message of the grammar of their edition, that of edition 2 by a profile
abbrev pub IsInGrammar : Profile → List ℕ → Type 0
IsInGrammar profile message = IsMessage1 message ⊎ IsMessageUnder profile message

-- an input consists of these messages; none begins in the octets before, between and after them
abbrev pub IsMadeOf : Profile → List Piece → List ℕ → Type 0
IsMadeOf profile [] input = Markless (length input) input
IsMadeOf profile (piece ∷ pieces) input =
    (rest : List ℕ) × (input ≡ piece.between ++ (piece.message ++ rest)) × Markless (length piece.between) input × IsInGrammar profile piece.message × IsMadeOf profile pieces rest

-- each message has a result, by the tables or the file where they are read, which are good
abbrev pub HaveResults : Work → Texts → List Piece → Type 0
HaveResults (Reads command) texts pieces = All (λ piece. HasResult command piece.message) pieces
HaveResults (Makes stated) texts pieces = Unit {0}
HaveResults (ReadsTables asked commands) texts pieces =
    (tables : Tables) × (together asked texts ≡ AllGood tables) × All (λ piece. HasResult (commands tables) piece.message) pieces
HaveResults (ReadsFile profile name commands) texts pieces =
    (fields : List FieldOf) × (filed profile texts.file ≡ Good fields) × All (λ piece. HasResult (commands fields) piece.message) pieces
