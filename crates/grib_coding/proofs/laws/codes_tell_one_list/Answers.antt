use Rattle.std.proofs.Common.{sym, ◌∙◌}
use Rattle.grib_coding.proofs.Lists.{some, only, tells_within}
use Rattle.grib_coding.proofs.laws.codes_tell_one_list.Goals as goal

pub returns-clause-some : goal.returns-clause-some
returns-clause-some c most before codes b all = some most before codes b all

pub returns-clause-only : goal.returns-clause-only
returns-clause-only c most before codes one other b h k = only most before one other b h.within k.within (h.told ∙ sym k.told)

pub returns-clause-within : goal.returns-clause-within
returns-clause-within c most before codes numbers b h = tells_within most before codes numbers b h.within h.told
