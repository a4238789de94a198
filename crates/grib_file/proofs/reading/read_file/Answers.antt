use Rattle.grib_file.proofs.Found.{by_stop, stands_exit, stands_good}
use Rattle.grib_file.proofs.reading.read_file.Goals as goal

pub returns-in_err-file-clause-read : goal.returns-in_err-file-clause-read
returns-in_err-file-clause-read g c =
    stands_exit c.args.profile (g.H.Shelf.contents c.args.shelf.now) c.args.name.now c.in_ok-octets.octets.items c.from_residual-in_err-file.result c.in_err-file.field-0.0 c.in_ok-octets.ensures.read
    c.in_err-file.ensures.filed c.from_residual-in_err-file.ensures.1

pub returns-clause-read : goal.returns-clause-read
returns-clause-read g c =
    stands_good c.args.profile (g.H.Shelf.contents c.args.shelf.now) c.args.name.now c.in_ok-octets.octets.items c.in_ok-file.file c.in_ok-octets.ensures.read c.in_ok-file.ensures.profile
    c.in_ok-file.ensures.filed

pub returns-in_err-octets-clause-read : goal.returns-in_err-octets-clause-read
returns-in_err-octets-clause-read g c =
    by_stop c.args.profile (g.H.Shelf.contents c.args.shelf.now) c.args.name.now c.from_residual.result c.in_err-octets.field-0.0 c.in_err-octets.ensures.read c.from_residual.ensures.1
