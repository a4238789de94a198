use Rattle.std.proofs.Common.{sym, subst}
use Rattle.grib_base.specs.declared.profile.Profile.TheVariants.{Open}
use Rattle.grib2_message.specs.Fields.{part_octets}
use Rattle.grib_rescan.specs.Sections.{HasTemplate}
use Rattle.grib_placed.proofs.causes.field_place_cause.Goals as goal

pub place_cause-requires : goal.place_cause-requires
place_cause-requires c =
    subst HasTemplate (sym c.in-Some.ensures.part.1)
    (c.what_has_places.ensures.template Open (part_octets c.args.message.now c.args.field 3) c.part.ensures.passes.grid)
