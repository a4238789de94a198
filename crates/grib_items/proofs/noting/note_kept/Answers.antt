use Rattle.grib_items.proofs.noting.note_kept.Goals as goal

pub returns-clause-writes : goal.returns-clause-writes
returns-clause-writes g c = c.note_line.ensures.writes _ c.kept_line.ensures
