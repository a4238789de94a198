use Rattle.std.proofs.Common.{IfErr, ap, ◌∙◌}
use Rattle.grib.specs.Reading.{Breaks}
use Rattle.grib.proofs.Readings.{passed_on, keeps_moved, keeps_added, keeps_then, breaks_after}
use Rattle.grib.proofs.reader.Reader.find_mark.Goals as goal

pub returns-then-len-ge4-clause-keeps : goal.returns-then-len-ge4-clause-keeps
returns-then-len-ge4-clause-keeps g c =
    keeps_moved g.S.Source.left c.args.self.now c.loop-self.self c.pass.new.self c.octets_before_mark-before.result c.as_slice.result.now c.loop-self.invariant.keeps c.loop-self.invariant.none
    (c.as_slice.ensures ∙ ap (λ r. r.ahead) c.self.view_is) c.octets_before_mark-before.ensures.unmarked c.octets_before_mark-before.ensures.within c.pass.ensures

pub returns-then-self-clause-keeps : goal.returns-then-self-clause-keeps
returns-then-self-clause-keeps g c =
    keeps_moved g.S.Source.left c.args.self.now c.loop-self.self c.pass.new.self c.octets_before_mark-before.result c.as_slice.result.now c.loop-self.invariant.keeps c.loop-self.invariant.none
    (c.as_slice.ensures ∙ ap (λ r. r.ahead) c.self.view_is) c.octets_before_mark-before.ensures.unmarked c.octets_before_mark-before.ensures.within c.pass.ensures

pub loop-self-preserved : goal.loop-self-preserved
loop-self-preserved g c =
    let left = g.S.Source.left in
    let moved = keeps_moved left c.args.self.now c.loop-self.self c.pass.new.self c.octets_before_mark-before.result c.as_slice.result.now c.loop-self.invariant.keeps c.loop-self.invariant.none
    (c.as_slice.ensures ∙ ap (λ r. r.ahead) c.self.view_is) c.octets_before_mark-before.ensures.unmarked c.octets_before_mark-before.ensures.within c.pass.ensures in
    let added = c.in_ok-read_to.ensures.adds in
    record {
      keeps = keeps_then left c.args.self.now c.pass.new.self c.read_to.new.self moved (keeps_added left c.pass.new.self c.read_to.new.self 4 (ap (λ r. r.size) c.pass.ensures) added);
      none = added.size;
      calm = c.in_ok-read_to.ensures.counted ∙ (ap (λ r. g.S.Source.faults r.source) c.pass.ensures ∙ c.loop-self.invariant.calm);
    }

pub returns-in_err-read_to-clause-breaks : goal.returns-in_err-read_to-clause-breaks
returns-in_err-read_to-clause-breaks g c =
    let left = g.S.Source.left in
    let error = c.in_err-read_to.field-0.0 in
    let moved = keeps_moved left c.args.self.now c.loop-self.self c.pass.new.self c.octets_before_mark-before.result c.as_slice.result.now c.loop-self.invariant.keeps c.loop-self.invariant.none
    (c.as_slice.ensures ∙ ap (λ r. r.ahead) c.self.view_is) c.octets_before_mark-before.ensures.unmarked c.octets_before_mark-before.ensures.within c.pass.ensures in
    passed_on (λ r. IfErr r (Breaks left c.args.self.now c.read_to.new.self)) c.from_residual.result error c.from_residual.ensures.1
    (breaks_after left c.args.self.now c.pass.new.self c.read_to.new.self error moved c.in_err-read_to.ensures.breaks)
