use Rattle.grib_base.specs.declared.profile.Profile.TheVariants.{Open}
use Rattle.grib2_message.proofs.Opened.{verdict_opened, message_opened, verdict_closed}
use Rattle.grib2_message.proofs.laws.profiles_differ_in_opaque_templates_alone.Goals as goal

pub returns : goal.returns
returns c = record { opened = verdict_opened Open; message = message_opened Open; alike = verdict_closed Open }
