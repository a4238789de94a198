use Rattle.std.proofs.Common.{◌∙◌}
use Rattle.grib2_message.proofs.Latest.{in_force_octets}
use Rattle.grib2_message.proofs.places.Places.section.Goals as goal

pub returns-clause-octets : goal.returns-clause-octets
returns-clause-octets c = λ before h.
    c.section_from.ensures.octets
    ∙ in_force_octets c.args.octets.now before c.args.self.now c.args.number h c.requires.number c.requires.stands.low
