use Rattle.grib_same.proofs.Differences.{found_first, never_0}
use Rattle.grib_same.proofs.laws.a_difference_is_the_first.Goals as goal

pub returns-clause-within : goal.returns-clause-within
returns-clause-within c = λ ps qs n e. (found_first n ps qs e).within

pub returns-clause-differs : goal.returns-clause-differs
returns-clause-differs c = λ ps qs n e. (found_first n ps qs e).differs

pub returns-clause-before : goal.returns-clause-before
returns-clause-before c = λ ps qs n k e less. (found_first n ps qs e).before k less

pub returns-clause-counted : goal.returns-clause-counted
returns-clause-counted c = never_0
