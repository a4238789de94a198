use Rattle.grib1_sections.proofs.Joined.{accepted_in_grammar, grammar_accepted, rejoined}
use Rattle.grib1_sections.proofs.laws.accepted_is_in_the_grammar.Goals as goal

pub returns-clause-accepted : goal.returns-clause-accepted
returns-clause-accepted c = accepted_in_grammar

pub returns-clause-in_grammar : goal.returns-clause-in_grammar
returns-clause-in_grammar c = grammar_accepted

pub returns-clause-its_sections : goal.returns-clause-its_sections
returns-clause-its_sections c message sections g =
    let r = rejoined message sections g in (r.identification_is, r.grid_is, r.bitmap_is, r.data_is)
