use Rattle.std.proofs.Common.{◌≡◌, ◌+◌, min, arith}
use Rattle.grib_base.specs.declared.code.Code.TheVariants.{Present}
use Rattle.grib_split.specs.Alike.{code_at}
use Rattle.grib_split.proofs.Alike.{one_more}
use Rattle.grib_split.proofs.choosing.alike_from.Goals as goal

pub returns : goal.returns
returns c =
    let codes = c.args.codes.now in
    let at = c.args.at in
    let after = c.requires.after in
    let next : code_at codes at ≡ code_at codes (at + 1) = c.are_same.ensures.same (Present 0) c.if-not-are_same.false in
    let less : c.min.result ≡ min (c.args.after + 1) 64 = c.min.ensures in
    record {
      most = omega (arith, less);
      fits = omega (arith, less, after.fits);
      same = λ i within. one_more codes at c.args.after next after i (omega (arith, less));
    }
