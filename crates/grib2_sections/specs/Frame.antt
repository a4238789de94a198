-- The frame of the sections after Section 0 (WMO-No. 306, Volume I.2, FM 92 GRIB edition 2): octets 1-4
-- of a section are its length, octet 5 is its number, and `7777` ends the message.
use Rattle.std.specs.Prelude.{ℕ, ◌+◌, ◌-◌, Bool, not, Option, Some, None, ◌&&◌, ◌||◌, List, [], ◌∷◌, length, get_or, nat_lt, ◌==◌}
use Rattle.std.specs.List.{list_any}
use Rattle.grib_bits.specs.Octets.{octets, octet_list}
use Rattle.grib_base.specs.declared.fault.Reason.TheVariants.{Truncated, SectionOrder, LengthDisagrees, EndMark, SectionLength}
use Rattle.grib_base.specs.declared.fault.Fault.{Fault}
use Rattle.grib_base.specs.Rules.{Rule, rule, first_fault, choose}

abbrev pub section_length : List ℕ → ℕ
section_length section = octets section 1 4

abbrev pub section_number : List ℕ → ℕ
section_number section = octets section 5 5

-- The sections that may follow each section, from Section 0 on. A group of sections that does not begin
-- with Section 2 or 3 keeps those in force.
abbrev pub successors : List (List ℕ)
successors = (1 ∷ []) ∷ (2 ∷ 3 ∷ []) ∷ (3 ∷ []) ∷ (4 ∷ []) ∷ (5 ∷ []) ∷ (6 ∷ []) ∷ (7 ∷ []) ∷ (2 ∷ 3 ∷ 4 ∷ []) ∷ []

abbrev pub may_follow : ℕ → ℕ → Bool
may_follow last next = list_any (λ n. n == next) (get_or successors last [])

-- the End Section follows Section 7 alone
abbrev pub may_end : ℕ → Bool
may_end last = last == 7

-- whether the End Section stands at octet q
abbrev pub ends_at : List ℕ → ℕ → Bool
ends_at message q = octets message q (q + 3) == 926365495

-- Rules F2 to F4, where these four octets stand at octet q of a message with this total length, and the section
-- before has the number `last`.
abbrev pub end_rules : ℕ → ℕ → ℕ → ℕ → List Rule
end_rules total last q mark =
    let ends = mark == 926365495 in
    rule (ends && not (may_end last)) q SectionOrder 8  -- F2
    ∷ rule (ends && nat_lt (q + 3) total) (q + 4) LengthDisagrees (total - (q + 3))  -- F3
    ∷ rule (not ends && (q + 3 == total)) q EndMark mark  -- F4
    ∷ []

-- rules F1 to F4 of a message
abbrev pub mark_rules : List ℕ → ℕ → ℕ → ℕ → List Rule
mark_rules message total last q =
    let k = length message in
    rule (nat_lt k (q + 3)) (k + 1) Truncated k  -- F1
    ∷ end_rules total last q (octets message q (q + 3))

-- rules F6 and F7, for a section of l octets with this number, and then others
abbrev pub opening_rules : ℕ → ℕ → ℕ → ℕ → ℕ → List Rule → List Rule
opening_rules total last q l number others =
    rule (nat_lt l 5 || nat_lt total (q - 1 + l + 4)) q SectionLength l  -- F6
    ∷ rule (not (may_follow last number)) (q + 4) SectionOrder number  -- F7
    ∷ others

-- rules F5 to F8, where no End Section stands
abbrev pub frame_rules : List ℕ → ℕ → ℕ → ℕ → List Rule
frame_rules message total last q =
    let k = length message in
    let l = octets message q (q + 3) in
    rule (nat_lt k (q + 4)) (k + 1) Truncated k  -- F5
    ∷ opening_rules total last q l (octets message (q + 4) (q + 4)) (
    rule (nat_lt k (q - 1 + l)) (k + 1) Truncated k  -- F8
    ∷ [])

-- the octets of the section at octet q
abbrev pub section_at : List ℕ → ℕ → List ℕ
section_at message q = octet_list message q (q - 1 + octets message q (q + 3))

-- what stands at octet q of a message: the End Section, a rule that fails, or the next section
pub data Step : Type 0 where
  End : Step
  Fails : Fault → Step
  Next : List ℕ → Step

abbrev pub unless_fails : Option Fault → (Unit {0} → Step) → Step
unless_fails (Some fault) next = Fails fault
unless_fails None next = next tt

abbrev pub step : List ℕ → ℕ → ℕ → ℕ → Step
step message total last q =
    unless_fails (first_fault (mark_rules message total last q))
    (λ _. choose (ends_at message q) (λ _. End)
    (λ _. unless_fails (first_fault (frame_rules message total last q)) (λ _. Next (section_at message q))))

-- a section and the octet of the message at which it begins
pub record Placed : Type 0 where
  pub start : ℕ
  pub octets : List ℕ

abbrev pub placed_at : ℕ → List ℕ → Placed
placed_at start s = record { start = start; octets = s }

-- where a walk stands in a message with this total length: at octet `place`, after a section with the
-- number `last`, 0 for Section 0
pub record Position : Type 0 where
  pub total : ℕ
  pub place : ℕ
  pub last : ℕ

-- what the rules of a mark, and those of a frame, refuse there
abbrev pub mark_fault : List ℕ → Position → Option Fault
mark_fault message at = first_fault (mark_rules message at.total at.last at.place)

abbrev pub frame_fault : List ℕ → Position → Option Fault
frame_fault message at = first_fault (frame_rules message at.total at.last at.place)

-- what the rules refuse that ask for no octet beyond these four, or beyond this length and this number
abbrev pub end_fault : Position → ℕ → Option Fault
end_fault at mark = first_fault (end_rules at.total at.last at.place mark)

abbrev pub opening_fault : Position → ℕ → ℕ → Option Fault
opening_fault at l number = first_fault (opening_rules at.total at.last at.place l number [])

abbrev pub step_from : List ℕ → Position → Step
step_from message at = step message at.total at.last at.place

-- where it stands after this section
abbrev pub position_after : Position → List ℕ → Position
position_after at section = record {
  total = at.total;
  place = at.place + length section;
  last = section_number section;
}
