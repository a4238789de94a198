use Rattle.grib2_message.proofs.Stays.{refused_stays, accepted_stays}
use Rattle.grib2_message.proofs.laws.verdict_stays.Goals as goal

pub returns : goal.returns
returns c = record { accepted = accepted_stays; refused = refused_stays }
