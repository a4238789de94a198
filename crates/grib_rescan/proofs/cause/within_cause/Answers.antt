use Rattle.std.proofs.Common.{arith}
use Rattle.grib_rescan.proofs.cause.within_cause.Goals as goal

pub area_in-requires-clause-grid : goal.area_in-requires-clause-grid
area_in-requires-clause-grid c = c.requires.points (omega (arith, c.u8_at.ensures)) (omega (arith, c.u16_at.ensures)) (omega (arith, c.u8_at-else-u16_at-ne0.ensures))
