use Rattle.grib1_sections.proofs.Stays.{refused_stays, accepted_stays}
use Rattle.grib1_sections.proofs.laws.verdict_stays.Goals as goal

pub returns : goal.returns
returns c = record { accepted = accepted_stays; refused = refused_stays }
