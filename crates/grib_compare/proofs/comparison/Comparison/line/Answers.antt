use Rattle.std.proofs.Common.{append_assoc}
use Rattle.grib_compare.proofs.comparison.Comparison.line.Goals as goal

pub returns-in-Same : goal.returns-in-Same
returns-in-Same c = rw c.in-Same.is (simp append_assoc c.format.ensures.ok)

pub returns-in-Shape : goal.returns-in-Shape
returns-in-Shape c = rw c.in-Shape.is (simp append_assoc c.format-in-Shape.ensures.ok)

pub returns-in-Differs : goal.returns-in-Differs
returns-in-Differs c = rw c.in-Differs.is (simp append_assoc c.format-in-Differs.ensures.ok)

pub returns-in-Section : goal.returns-in-Section
returns-in-Section c = rw c.in-Section.is (simp append_assoc c.format-in-Section.ensures.ok)
