use Rattle.std.proofs.Common.{rules, refl, inl, inr, ◌∙◌, sym}
use Rattle.grib_items.proofs.Written.{written_more, written_front, failed_counted, memory_calm, left_true}
use Rattle.grib_items.proofs.writing.write_whole.Goals as goal

pub loop-written-preserved : goal.loop-written-preserved
loop-written-preserved g c = record {
  appended = written_more _ _ _ c.args.piece.now c.loop-written.written c.in-Ok.count c.loop-written.invariant.appended c.in-Ok.ensures.octets;
  calm = c.in-Ok.ensures.counted ∙ c.loop-written.invariant.calm;
  unfinished = λ all. c.loop-written.invariant.unfinished (left_true _ _ (sym c.in-Ok.ensures.settled ∙ all));
  within = search rules;
}

pub returns-in-Err-Failed-clause-writes : goal.returns-in-Err-Failed-clause-writes
returns-in-Err-Failed-clause-writes g c = record {
  whole = tt;
  front = written_front _ _ _ c.args.piece.now c.loop-written.written c.loop-written.invariant.appended c.in-Err-Failed.ensures.octets;
  one_of = inl refl;
  counted = λ e. failed_counted c.in-Err-Failed.field-0 _ _ _ c.in-Err-Failed.field-0-is c.in-Err-Failed.ensures.counted c.loop-written.invariant.calm;
  calm = λ other. absurd (other refl);
}

pub returns-in-Err-Memory-clause-writes : goal.returns-in-Err-Memory-clause-writes
returns-in-Err-Memory-clause-writes g c = record {
  whole = tt;
  front = written_front _ _ _ c.args.piece.now c.loop-written.written c.loop-written.invariant.appended c.in-Err-Memory.ensures.octets;
  one_of = inr refl;
  counted = λ e. cc;
  calm = λ other. memory_calm c.in-Err-Memory.field-0 _ _ _ c.in-Err-Memory.field-0-is c.in-Err-Memory.ensures.counted c.loop-written.invariant.calm;
}
