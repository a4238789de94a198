-- What is in the grammar is a message.
use Rattle.std.proofs.Common.{ℕ, ◌+◌, ◌≤◌, List, [], length, sym, ap, ◌∙◌, append-nil, arith}
use Rattle.grib_base.specs.Rules.{first_fault}
use Rattle.grib_base.specs.declared.limits.TheConstants.{MOST_OCTETS}
use Rattle.grib_base.specs.declared.profile.Profile.{Profile}
use Rattle.grib2_sections.specs.Head.{head_rules}
use Rattle.grib2_message.specs.Acceptance.{verdict_under, verdict_from}
use Rattle.grib2_message.specs.Grammar.{GrammarUnder}
use Rattle.grib2_message.specs.Message.{IsMessageUnder}
use Rattle.grib2_message.proofs.Parted.{second_edition, message_states}
use Rattle.grib2_message.proofs.Passed.{passes_from_none, unless_tells}
use Rattle.grib2_message.proofs.Whole.{grammar_accepted, head_passes}

pub message_in_grammar : (profile : Profile) (m : List ℕ) (sections : List (List ℕ)) → GrammarUnder profile m sections → IsMessageUnder profile m
message_in_grammar profile m sections g = record {
  indicated = g.indicated;
  edition_stands = g.edition_stands;
  accepted = ap (verdict_under profile) (sym (append-nil m)) ∙ grammar_accepted profile m [] sections g;
}

-- a message has at most 2 ^ 28 octets
pub message_most : (profile : Profile) (m : List ℕ) → IsMessageUnder profile m → length m ≤ MOST_OCTETS
message_most profile m h =
    let told = unless_tells (first_fault (head_rules m)) (λ _. verdict_from profile (length m + 1) m [] 17) (length m) h.accepted in
    let p = head_passes m (second_edition profile m h) (passes_from_none (head_rules m) told.0) in
    omega (arith, p.most, message_states profile m h)
