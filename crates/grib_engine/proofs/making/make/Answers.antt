use Rattle.std.proofs.Common.{◌≡◌, None, sym, subst}
use Rattle.grib_synthetic.specs.Made.{made}
use Rattle.grib_synthetic.specs.Points.{made_column}
use Rattle.grib_packing.specs.Misfits.{ToSimple}
use Rattle.grib_packing.specs.Targets.{target_of}
use Rattle.grib_repack.specs.Repacked.{repacked, repack_misfit}
use Rattle.grib_command.proofs.Answers.{target_stands}
use Rattle.grib_engine.proofs.Made.{nothing_lost, stays_same}
use Rattle.grib_engine.proofs.making.make.Goals as goal

pub in_packing-requires-clause-fits : goal.in_packing-requires-clause-fits
in_packing-requires-clause-fits c =
    let seed = c.args.seed in
    let ni = c.args.ni in
    let nj = c.args.nj in
    let target = target_of c.args.target in
    subst (λ message. repack_misfit target message ≡ None) (sym c.in_ok-message.ensures)
    (nothing_lost target (made seed ni nj) (made_column seed ni nj) (c.what_is_made_is_accepted.ensures.one_field seed ni nj c.requires.made)
    (c.what_is_made_is_accepted.ensures.its_column seed ni nj c.requires.made) (c.what_is_made_is_accepted.ensures.its_kind seed ni nj c.requires.made)
    (c.what_is_made_fits.ensures.fits target seed ni nj)
    (c.what_is_made_stays_short.ensures target seed ni nj (target_stands c.args.target c.requires.target) c.requires.made))

pub in_packing-requires-clause-simple : goal.in_packing-requires-clause-simple
in_packing-requires-clause-simple c =
    let seed = c.args.seed in
    let ni = c.args.ni in
    let nj = c.args.nj in
    subst (λ message. repacked ToSimple message ≡ message) (sym c.in_ok-message.ensures)
    (stays_same ToSimple (made seed ni nj) (made_column seed ni nj) (c.what_is_made_is_accepted.ensures.one_field seed ni nj c.requires.made)
    (c.what_is_made_is_accepted.ensures.its_column seed ni nj c.requires.made) (c.what_is_made_is_accepted.ensures.its_kind seed ni nj c.requires.made)
    (c.what_is_made_is_packed_simply.ensures seed ni nj c.requires.made))
