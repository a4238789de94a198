use Rattle.std.proofs.Common.{IfErr, sym, ap, ◌∙◌}
use Rattle.grib.specs.Reading.{Breaks}
use Rattle.grib.proofs.Readings.{passed_on, keeps_added, keeps_gathered, breaks_after, begun_added, there_stated, there_refused}
use Rattle.grib.proofs.reader.Reader.gather_message.Goals as goal

pub returns-in_err-read_to-2-clause-breaks : goal.returns-in_err-read_to-2-clause-breaks
returns-in_err-read_to-2-clause-breaks g c =
    let left = g.S.Source.left in
    let error = c.in_err-read_to-2.field-0.0 in
    passed_on (λ r. IfErr r (Breaks left c.args.self.now c.read_to-in-Ok.new.self)) c.from_residual-in_err-read_to-2.result error c.from_residual-in_err-read_to-2.ensures.1
    (breaks_after left c.args.self.now c.read_to.new.self c.read_to-in-Ok.new.self error (keeps_added left c.args.self.now c.read_to.new.self 16 c.requires.none c.in_ok-read_to.ensures.adds)
    c.in_err-read_to-2.ensures.breaks)

pub returns-in_ok-read_to-2-clause-keeps : goal.returns-in_ok-read_to-2-clause-keeps
returns-in_ok-read_to-2-clause-keeps g c =
    keeps_gathered g.S.Source.left c.args.self.now c.read_to.new.self c.read_to-in-Ok.new.self 16 c.in-Ok.head.total c.requires.none c.in_ok-read_to.ensures.adds c.in_ok-read_to-2.ensures.adds

pub returns-in_ok-read_to-2-clause-begun : goal.returns-in_ok-read_to-2-clause-begun
returns-in_ok-read_to-2-clause-begun g c =
    begun_added g.S.Source.left c.read_to.new.self c.read_to-in-Ok.new.self c.in-Ok.head.total
    (begun_added g.S.Source.left c.args.self.now c.read_to.new.self 16 c.requires.begun c.in_ok-read_to.ensures.adds) c.in_ok-read_to-2.ensures.adds

pub returns-in_ok-read_to-2-clause-there : goal.returns-in_ok-read_to-2-clause-there
returns-in_ok-read_to-2-clause-there g c =
    there_stated g.S.Source.left c.read_to.new.self c.read_to-in-Ok.new.self c.in-Ok.head.total c.as_slice.result.now (c.as_slice.ensures ∙ ap (λ r. r.ahead) c.self.view_is)
    c.in-Ok.ensures.0 (ap (λ h. h.total) (sym c.in-Ok.ensures.1)) c.in_ok-read_to-2.ensures.adds

pub returns-in_default-clause-begun : goal.returns-in_default-clause-begun
returns-in_default-clause-begun g c = begun_added g.S.Source.left c.args.self.now c.read_to.new.self 16 c.requires.begun c.in_ok-read_to.ensures.adds

pub returns-in_default-clause-keeps : goal.returns-in_default-clause-keeps
returns-in_default-clause-keeps g c = keeps_added g.S.Source.left c.args.self.now c.read_to.new.self 16 c.requires.none c.in_ok-read_to.ensures.adds

pub returns-in_default-clause-there : goal.returns-in_default-clause-there
returns-in_default-clause-there g c =
    there_refused g.S.Source.left c.args.self.now c.read_to.new.self c.as_slice.result.now c.in_default.field-0 (c.as_slice.ensures ∙ ap (λ r. r.ahead) c.self.view_is) c.in_default.ensures
    c.in_ok-read_to.ensures.adds
