use Rattle.std.proofs.Common.{◌≡◌, subst}
use Rattle.grib1_sections.specs.Acceptance.{grid}
use Rattle.grib1_sections.specs.Held.{HoldsLists}
use Rattle.grib1_sections.proofs.Listed.{holds_lists}
use Rattle.grib1_sections.proofs.message.Message1.coordinates1.Goals as goal

pub read_coordinates-requires : goal.read_coordinates-requires
read_coordinates-requires c =
    let same : grid c.args.self.now ≡ c.present_section.result.now = cc in
    subst HoldsLists same (holds_lists (grid c.args.self.now) c.present_section.ensures.passes.grid_stands.rules_hold)
