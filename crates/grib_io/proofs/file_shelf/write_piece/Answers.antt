use Rattle.std.proofs.Common.{◌+◌, arith, rules}
use Rattle.std.proofs.KnownBytes.{Appends-nil}
use Rattle.grib_io.proofs.Folders.{grown, front_added, front_kept, whole_added}
use Rattle.grib_io.proofs.file_shelf.write_piece.Goals as goal

pub loop-written-init : goal.loop-written-init
loop-written-init g c = record {
  within = omega arith;
  added = Appends-nil (g.F.OpenedFile.octets c.args.file.now);
}

pub loop-written-preserved : goal.loop-written-preserved
loop-written-preserved g c = record {
  within = search rules;
  added = grown _ _ _ c.args.piece.now c.loop-written.written c.in_ok-count.count c.loop-written.invariant.within c.loop-written.invariant.added c.in_ok-count.ensures.octets;
}

pub returns-in_err-count-clause-front : goal.returns-in_err-count-clause-front
returns-in_err-count-clause-front g c =
    front_kept c.from_residual.result _ _ _ c.args.piece.now c.loop-written.written c.loop-written.invariant.added c.in_err-count.ensures.octets

pub returns-then-count-eq0-clause-front : goal.returns-then-count-eq0-clause-front
returns-then-count-eq0-clause-front g c =
    front_added _ _ c.args.piece.now (c.loop-written.written + c.in_ok-count.count)
    (grown _ _ _ c.args.piece.now c.loop-written.written c.in_ok-count.count c.loop-written.invariant.within c.loop-written.invariant.added c.in_ok-count.ensures.octets)

pub returns-clause-whole : goal.returns-clause-whole
returns-clause-whole g c = whole_added _ _ c.args.piece.now c.loop-written.written (search rules) c.loop-written.invariant.added
