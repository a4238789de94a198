use Rattle.grib_command.proofs.Passing.{on_refused}
use Rattle.grib_edit.proofs.Shelved.{put_unmade, put_added}
use Rattle.grib_edit.proofs.splitting.put.Goals as goal

pub returns-in_err-make-clause-shelved : goal.returns-in_err-make-clause-shelved
returns-in_err-make-clause-shelved g c = record {
  whole = on_refused _ _ c.from_residual.ensures.0;
  front = put_unmade _ _ c.args.name.now c.args.octets.now c.in_err-make.ensures.octets c.in_err-make.ensures.others;
}

pub returns-clause-shelved : goal.returns-clause-shelved
returns-clause-shelved g c =
    put_added c.append.result _ _ _ c.args.name.now c.args.octets.now c.in_ok-make.ensures.octets c.in_ok-make.ensures.others c.append.ensures.octets
    c.append.ensures.others
