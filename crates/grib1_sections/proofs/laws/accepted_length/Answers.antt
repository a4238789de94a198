use Rattle.grib1_sections.proofs.Fronts.{accepted_states, accepted_least, accepted_there, accepted_alone}
use Rattle.grib1_sections.proofs.laws.accepted_length.Goals as goal

pub returns : goal.returns
returns c = record { stated = accepted_states; least = accepted_least; there = accepted_there; alone = accepted_alone }
