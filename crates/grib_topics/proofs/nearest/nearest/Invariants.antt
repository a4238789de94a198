use Rattle.std.proofs.Common.{◌≡◌, take, map}
use Rattle.std.specs.List.{fold}
use Rattle.grib_topics.specs.Nearest.{seen, nearer, first_word}
use Rattle.grib_topics.proofs.nearest.nearest.Given as goal

abbrev pub invariant-loop-text : goal.invariant-loop-text
invariant-loop-text l =
    seen l.best.name.now l.best.changes ≡ fold (nearer l.word) (seen l.start.name.now l.start.changes) (map first_word (map (λ t. t.now) (take l.text-index l.texts)))
