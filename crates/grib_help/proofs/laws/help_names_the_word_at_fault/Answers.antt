use Rattle.std.proofs.Common.{refl}
use Rattle.grib_help.proofs.laws.help_names_the_word_at_fault.Goals as goal

pub returns : goal.returns
returns c = record {
  word = λ words place alone plain at within. rw (alone, plain, at, within) refl;
  wanted = λ first later command place alone plain named at behind. rw (alone, plain, at, behind, named) refl;
  done = λ words command alone plain is. rw (alone, plain, is) refl;
}
