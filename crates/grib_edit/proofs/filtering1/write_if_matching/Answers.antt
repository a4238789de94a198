use Rattle.std.proofs.Common.{◌≡◌, ℕ, true, cond, List, [], IfOk, length, sym, ap, ◌∙◌, subst}
use Rattle.grib1_select.specs.declared.condition.Wanted1.{Wanted1}
use Rattle.grib1_select.specs.Values.{fulfils_all1}
use Rattle.grib_command.specs.Pending.{WritesTo}
use Rattle.grib_edit.specs.Filtering1.{filtered1}
use Rattle.grib_edit.proofs.filtering1.write_if_matching.Goals as goal

-- a message that fulfils the conditions is written whole
is_whole : (conditions : List Wanted1) (message : List ℕ) → fulfils_all1 message conditions ≡ true → filtered1 conditions message ≡ message
is_whole conditions message here = ap (λ b. cond b message []) here

pub returns-clause-writes : goal.returns-clause-writes
returns-clause-writes g c =
    subst (WritesTo g.T.Sink.contents g.T.Sink.faults g.T.Sink.settled c.write_counted.result _ _)
    (c.octets.ensures.octets ∙ sym (is_whole c.args.conditions.now c.args.message.now (sym c.if-not-matches1.ensures.answer)))
    c.write_counted.ensures.writes

pub returns-clause-count : goal.returns-clause-count
returns-clause-count g c =
    subst (λ (octets : List ℕ). IfOk c.write_counted.result (λ count. count ≡ length octets))
    (c.octets.ensures.octets ∙ sym (is_whole c.args.conditions.now c.args.message.now (sym c.if-not-matches1.ensures.answer)))
    c.write_counted.ensures.count
