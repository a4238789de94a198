use Rattle.std.proofs.Common.{◌-◌, ℕ, List, [], length, drop, arith, subst₂}
use Rattle.std.proofs.lemmas.List.{take_rest, length-take, length-drop}
use Rattle.grib_packings.specs.Feeding.{HasRead}
use Rattle.grib_packings.proofs.feeding.Feeding.whole.Goals as goal

pub push-requires-clause-within : goal.push-requires-clause-within
push-requires-clause-within g c =
    let s7 = c.args.section7.now.octets.now in
    let is_length = c.length_of_section-length.ensures in
    let read = c.in_ok-feeding.ensures.read c.requires.read.0 c.requires.read.1 in
    omega (arith, is_length, read.length_is, read.pushed, length-take (length s7 - 5) (drop 5 s7), length-drop 5 s7)

pub returns-clause-read : goal.returns-clause-read
returns-clause-read g c = λ s5 is.
    let s7 = c.args.section7.now.octets.now in
    let start = c.args.section7.now.start in
    let is_length = c.length_of_section-length.ensures in
    let read = c.push.ensures.read s5 c.args.keeper start c.length_of_section-length.result [] (c.in_ok-feeding.ensures.read s5 is) in
    subst₂ (λ (l : ℕ) (os : List ℕ). HasRead g.K.Keeper.kept s5 c.args.keeper start l os c.push.new.self) is_length (take_rest s7 5) read

pub returns-clause-all : goal.returns-clause-all
returns-clause-all g c =
    let s7 = c.args.section7.now.octets.now in
    let is_length = c.length_of_section-length.ensures in
    let start = c.args.section7.now.start in
    let read = c.push.ensures.read c.requires.read.0 c.args.keeper start c.length_of_section-length.result [] (c.in_ok-feeding.ensures.read c.requires.read.0 c.requires.read.1) in
    omega (arith, is_length, read.length_is, read.pushed, length-take (length s7 - 5) (drop 5 s7), length-drop 5 s7)
