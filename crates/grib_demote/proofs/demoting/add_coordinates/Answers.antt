use Rattle.std.proofs.Common.{ℕ, Option, [], ◌∷◌, ◌++◌, ap, ◌∙◌, arith}
use Rattle.std.specs.Prelude.{unwrap_or}
use Rattle.grib_bits.specs.declared.adding.Number.TheVariants.{Four}
use Rattle.grib_bits.specs.Encoding.{all_octets}
use Rattle.grib_demote.proofs.Lists.{coordinate_written}
use Rattle.grib_demote.proofs.demoting.add_coordinates.Goals as goal

pub loop-word-preserved : goal.loop-word-preserved
loop-word-preserved c =
    let before = c.loop-word.out.items in
    let found = c.unwrap_or.ensures ∙ ap (λ (o : Option ℕ). unwrap_or o 0) c.ibm_of.ensures in
    coordinate_written c.args.coordinates.now c.loop-word.word-index c.args.out.now.items before _ (omega arith) c.loop-word.invariant
    (c.in_ok-add_numbers.ensures ∙ ap (λ (n : ℕ). before ++ all_octets (Four n ∷ [])) found)
