-- What the octets from a `GRIB` on are, and how far a refusal is passed.
use Rattle.std.specs.Prelude.{ℕ, ◌-◌, Bool, cond, ◌&&◌, nat_lt, List, length, take, drop, Some, None}
use Rattle.std.specs.Str.{bytes_eq}
use Rattle.std.specs.declared.option.Option.{Option}
use Rattle.grib_base.specs.declared.fault.Fault.{Fault}
use Rattle.grib_base.specs.Rules.{first_fault}
use Rattle.grib2_sections.specs.Head.{end_mark, head_rules, head_of}
use Rattle.grib_stream.specs.Stream.{Judgement, Message, Faulty}
use Rattle.grib_stream.specs.Outcomes.{is_truncated}

-- whether `7777` ends the first `total` octets
abbrev pub is_ended : ℕ → List ℕ → Bool
is_ended total octets = bytes_eq end_mark (drop (total - 4) (take total octets))

-- By the first rule of Section 0 that fails: where none does, a total length is stated, and `7777` ends it or not.
-- Where more octets may follow, they may give what is missing.
abbrev pub passed_by : Bool → List ℕ → Option Fault → Option ℕ
passed_by more octets None =
    let total = (head_of octets).total in
    cond (more && nat_lt (length octets) total) None (Some (cond (is_ended total octets) total 4))
passed_by more octets (Some fault) = cond (more && is_truncated fault.reason) None (Some 4)

-- How many octets a refusal is passed by: those of the stated total length where `7777` ends it there, and else the
-- four of its `GRIB`. Nothing where more octets may follow, and their stated end is not there yet.
abbrev pub passed : Bool → List ℕ → Option ℕ
passed more octets = passed_by more octets (first_fault (head_rules octets))

-- the octets from a `GRIB` on begin with a message of this length; they are refused, and the search goes on behind
-- this many of them; they are refused, and refusals are not passed; or more octets have to come before that is known
pub data Next : Type 0 where
  Accepts : ℕ → Next
  Passes : Fault → ℕ → Next
  Refuses : Fault → Next
  Unknown : Next

abbrev pub next_passed : Fault → Option ℕ → Next
next_passed fault None = Unknown
next_passed fault (Some octets) = Passes fault octets

abbrev pub next_refused : Bool → Bool → List ℕ → Fault → Next
next_refused passes more octets fault =
    cond (more && is_truncated fault.reason) Unknown (cond passes (next_passed fault (passed more octets)) (Refuses fault))

abbrev pub next_judged : Bool → Bool → List ℕ → Judgement → Next
next_judged passes more octets (Message total) = Accepts total
next_judged passes more octets (Faulty fault) = next_refused passes more octets fault

-- what comes next, where `judge` says what octets from a `GRIB` on are: whether refusals are passed, and whether more
-- octets may follow these
abbrev pub next : (List ℕ → Judgement) → Bool → Bool → List ℕ → Next
next judge passes more octets = next_judged passes more octets (judge octets)
