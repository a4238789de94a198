use Rattle.std.proofs.Common.{subst}
use Rattle.grib1_sections.specs.Message.{SectionsPass}
use Rattle.grib1_sections.proofs.Joined.{message_sections_pass}
use Rattle.grib1_sections.proofs.message.Message1.section.Goals as goal

pub returns-in-1-clause-passes : goal.returns-in-1-clause-passes
returns-in-1-clause-passes c = subst SectionsPass c.self.view_is (message_sections_pass c.self.inside.octets.now c.self.invariant.accepted)

pub returns-in-2-clause-passes : goal.returns-in-2-clause-passes
returns-in-2-clause-passes c = subst SectionsPass c.self.view_is (message_sections_pass c.self.inside.octets.now c.self.invariant.accepted)

pub returns-in-3-clause-passes : goal.returns-in-3-clause-passes
returns-in-3-clause-passes c = subst SectionsPass c.self.view_is (message_sections_pass c.self.inside.octets.now c.self.invariant.accepted)

pub returns-in_default-clause-passes : goal.returns-in_default-clause-passes
returns-in_default-clause-passes c = subst SectionsPass c.self.view_is (message_sections_pass c.self.inside.octets.now c.self.invariant.accepted)
