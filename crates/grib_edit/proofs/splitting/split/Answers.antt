use Rattle.std.proofs.Common.{refl, sym, ap, rules}
use Rattle.grib_stream.specs.Task.{Gives}
use Rattle.grib_edit.specs.Parts.{parts_of, puts_all}
use Rattle.grib_edit.proofs.splitting.split.Goals as goal

pub returns-in-Ok : goal.returns-in-Ok
returns-in-Ok g c = λ m.
    let acts = puts_all (parts_of c.args.name.now c.args.before c.args.message.now) in
    record {
      answers = λ output. (acts, ap (Gives acts) (sym c.in-Ok.ensures.written), c.in-Ok.ensures.shelved.whole output);
      shelf_fault = λ no. absurd (cc no);
      shelf_stays = λ other. c.in-Ok.ensures.counted;
      unwritten = λ no. cc;
    }

pub returns-in-Err-Failed : goal.returns-in-Err-Failed
returns-in-Err-Failed g c = λ m. record {
  answers = λ output. c.in-Err-Failed.ensures.shelved.front output;
  shelf_fault = λ same. search rules;
  shelf_stays = λ other. absurd (other refl);
  unwritten = λ no. cc;
}

pub returns-in-Err-Memory : goal.returns-in-Err-Memory
returns-in-Err-Memory g c = λ m. record {
  answers = λ output. c.in-Err-Memory.ensures.shelved.front output;
  shelf_fault = λ no. absurd (cc no);
  shelf_stays = λ other. search rules;
  unwritten = λ no. cc;
}
