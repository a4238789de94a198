use Rattle.std.proofs.Common.{subst}
use Rattle.grib1_sections.specs.Message.{SectionsPass}
use Rattle.grib1_sections.proofs.Joined.{message_sections_pass}
use Rattle.grib1_sections.proofs.message.Message1.octets.Goals as goal

pub returns-clause-passes : goal.returns-clause-passes
returns-clause-passes c = subst SectionsPass c.self.view_is (message_sections_pass c.self.inside.octets.now c.self.invariant.accepted)
