use Rattle.grib_nearest.specs.Nearest.{nearest_word}
use Rattle.grib_nearest.proofs.Nearness.{is_nearest, only_one}
use Rattle.grib_nearest.proofs.laws.one_word_is_nearest.Goals as goal

pub returns-clause-nearest : goal.returns-clause-nearest
returns-clause-nearest c = is_nearest

pub returns-clause-only : goal.returns-clause-only
returns-clause-only c f n d word some is = only_one f n d word (nearest_word f n d) some is (is_nearest f n d some)
