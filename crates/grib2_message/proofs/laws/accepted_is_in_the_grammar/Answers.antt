use Rattle.std.proofs.Common.{ap, sym, ◌∙◌, map}
use Rattle.grib2_message.proofs.Placing.{octets_placed}
use Rattle.grib2_message.proofs.Whole.{accepted_in_grammar, grammar_accepted, sections_placed, sections_alone}
use Rattle.grib2_message.proofs.laws.accepted_is_in_the_grammar.Goals as goal

pub returns-clause-accepted : goal.returns-clause-accepted
returns-clause-accepted c = accepted_in_grammar

pub returns-clause-in_grammar : goal.returns-clause-in_grammar
returns-clause-in_grammar c = grammar_accepted

pub returns-clause-its_sections : goal.returns-clause-its_sections
returns-clause-its_sections c profile message sections g = ap (map (λ s. s.octets)) (sections_alone profile message sections g) ∙ octets_placed 17 sections

pub returns-clause-the_same_sections : goal.returns-clause-the_same_sections
returns-clause-the_same_sections c profile message after sections g = sections_placed profile message after sections g ∙ sym (sections_alone profile message sections g)
