use Rattle.std.proofs.Common.{subst}
use Rattle.grib2_message.specs.Message.{IsAnyMessage}
use Rattle.grib2_message.proofs.Opened.{any_message}
use Rattle.grib2_message.proofs.message.Message.octets.Goals as goal

pub returns-clause-message : goal.returns-clause-message
returns-clause-message c = subst IsAnyMessage c.self.view_is (any_message c.self.invariant.profile c.self.inside.octets.now c.self.invariant.keeps.accepted)
