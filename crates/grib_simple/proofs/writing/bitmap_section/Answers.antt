use Rattle.std.proofs.Common.{sym, ◌∙◌}
use Rattle.grib_simple.proofs.writing.bitmap_section.Goals as goal

pub returns-then-missing : goal.returns-then-missing
returns-then-missing c = rw (sym c.requires.missing ∙ c.if-missing.true) c.own_bitmap.ensures

pub returns-else-missing : goal.returns-else-missing
returns-else-missing c = rw (sym c.requires.missing ∙ c.if-missing.false) c.no_bitmap.ensures.has
