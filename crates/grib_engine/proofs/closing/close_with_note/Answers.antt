use Rattle.std.proofs.Common.{refl, sym, ap, ◌∙◌}
use Rattle.grib_stream.specs.declared.outcome.Outcome.TheVariants.{FileRefused, Kept, Memory, Passed, Refused, SurfacesRefused, TableRefused, Usage}
use Rattle.grib_command.specs.Outcomes.{note_with}
use Rattle.grib_command.proofs.Noted.{ends_by, stands_by}
use Rattle.grib_engine.proofs.closing.close_with_note.Goals as goal

pub returns-in-Ok-clause-ends : goal.returns-in-Ok-clause-ends
returns-in-Ok-clause-ends g c =
    ends_by g.T.Sink.contents g.T.Sink.faults g.T.Sink.settled g.N.Sink.contents g.N.Sink.faults g.N.Sink.settled _ _ _ _ c.args.outcome (Refused c.in-Refused.refusal) c.args.done.now _
    c.close.result (sym c.in-Refused.is) (c.as_slice.ensures.value ∙ c.in-Ok.ensures) c.close.ensures.closes

pub returns-in-Ok-usage_note-clause-ends : goal.returns-in-Ok-usage_note-clause-ends
returns-in-Ok-usage_note-clause-ends g c =
    ends_by g.T.Sink.contents g.T.Sink.faults g.T.Sink.settled g.N.Sink.contents g.N.Sink.faults g.N.Sink.settled _ _ _ _ c.args.outcome (Usage c.in-Usage.word) c.args.done.now _
    c.close-in-Ok-usage_note.result (sym c.in-Usage.is) (c.as_slice-in-Ok-usage_note.ensures.value ∙ c.in-Ok-usage_note.ensures) c.close-in-Ok-usage_note.ensures.closes

pub returns-in-Ok-kept_note-clause-ends : goal.returns-in-Ok-kept_note-clause-ends
returns-in-Ok-kept_note-clause-ends g c =
    ends_by g.T.Sink.contents g.T.Sink.faults g.T.Sink.settled g.N.Sink.contents g.N.Sink.faults g.N.Sink.settled _ _ _ _ c.args.outcome (Kept c.in-Kept.kept) c.args.done.now _
    c.close-in-Ok-kept_note.result (sym c.in-Kept.is) (c.as_slice-in-Ok-kept_note.ensures.value ∙ c.in-Ok-kept_note.ensures) c.close-in-Ok-kept_note.ensures.closes

pub returns-in-Ok-table_note-clause-ends : goal.returns-in-Ok-table_note-clause-ends
returns-in-Ok-table_note-clause-ends g c =
    ends_by g.T.Sink.contents g.T.Sink.faults g.T.Sink.settled g.N.Sink.contents g.N.Sink.faults g.N.Sink.settled _ _ _ _ c.args.outcome (TableRefused c.in-TableRefused.refusal) c.args.done.now _
    c.close-in-Ok-table_note.result (sym c.in-TableRefused.is) (c.as_slice-in-Ok-table_note.ensures.value ∙ c.in-Ok-table_note.ensures) c.close-in-Ok-table_note.ensures.closes

pub returns-in-Ok-surfaces_note-clause-ends : goal.returns-in-Ok-surfaces_note-clause-ends
returns-in-Ok-surfaces_note-clause-ends g c =
    ends_by g.T.Sink.contents g.T.Sink.faults g.T.Sink.settled g.N.Sink.contents g.N.Sink.faults g.N.Sink.settled _ _ _ _ c.args.outcome (SurfacesRefused c.in-SurfacesRefused.refusal) c.args.done.now _
    c.close-in-Ok-surfaces_note.result (sym c.in-SurfacesRefused.is) (c.as_slice-in-Ok-surfaces_note.ensures.value ∙ c.in-Ok-surfaces_note.ensures) c.close-in-Ok-surfaces_note.ensures.closes

pub returns-in-Ok-file_note-clause-ends : goal.returns-in-Ok-file_note-clause-ends
returns-in-Ok-file_note-clause-ends g c =
    ends_by g.T.Sink.contents g.T.Sink.faults g.T.Sink.settled g.N.Sink.contents g.N.Sink.faults g.N.Sink.settled _ _ _ _ c.args.outcome (FileRefused c.in-FileRefused.refusal) c.args.done.now _
    c.close-in-Ok-file_note.result (sym c.in-FileRefused.is) (c.as_slice-in-Ok-file_note.ensures.value ∙ c.in-Ok-file_note.ensures) c.close-in-Ok-file_note.ensures.closes

pub returns-in-Ok-passed_note-clause-ends : goal.returns-in-Ok-passed_note-clause-ends
returns-in-Ok-passed_note-clause-ends g c =
    ends_by g.T.Sink.contents g.T.Sink.faults g.T.Sink.settled g.N.Sink.contents g.N.Sink.faults g.N.Sink.settled _ _ _ _ c.args.outcome (Passed c.in-Passed.refused c.in-Passed.kept) c.args.done.now _
    c.close-in-Ok-passed_note.result (sym c.in-Passed.is) (c.as_slice-in-Ok-passed_note.ensures.value ∙ c.in-Ok-passed_note.ensures) c.close-in-Ok-passed_note.ensures.closes

pub returns-in-ReadFault-clause-ends : goal.returns-in-ReadFault-clause-ends
returns-in-ReadFault-clause-ends g c =
    ends_by g.T.Sink.contents g.T.Sink.faults g.T.Sink.settled g.N.Sink.contents g.N.Sink.faults g.N.Sink.settled _ _ _ _ c.args.outcome c.args.outcome c.args.done.now _
    c.close-in-ReadFault.result refl (sym (ap (note_with c.args.done.now) c.in-ReadFault.is)) c.close-in-ReadFault.ensures.closes

pub returns-in-ShelfFault-clause-ends : goal.returns-in-ShelfFault-clause-ends
returns-in-ShelfFault-clause-ends g c =
    ends_by g.T.Sink.contents g.T.Sink.faults g.T.Sink.settled g.N.Sink.contents g.N.Sink.faults g.N.Sink.settled _ _ _ _ c.args.outcome c.args.outcome c.args.done.now _
    c.close-in-ShelfFault.result refl (sym (ap (note_with c.args.done.now) c.in-ShelfFault.is)) c.close-in-ShelfFault.ensures.closes

pub returns-in-InputTooLong-clause-ends : goal.returns-in-InputTooLong-clause-ends
returns-in-InputTooLong-clause-ends g c =
    ends_by g.T.Sink.contents g.T.Sink.faults g.T.Sink.settled g.N.Sink.contents g.N.Sink.faults g.N.Sink.settled _ _ _ _ c.args.outcome c.args.outcome c.args.done.now _
    c.close-in-InputTooLong.result refl (sym (ap (note_with c.args.done.now) c.in-InputTooLong.is)) c.close-in-InputTooLong.ensures.closes

pub returns-in-Differs-clause-ends : goal.returns-in-Differs-clause-ends
returns-in-Differs-clause-ends g c =
    ends_by g.T.Sink.contents g.T.Sink.faults g.T.Sink.settled g.N.Sink.contents g.N.Sink.faults g.N.Sink.settled _ _ _ _ c.args.outcome c.args.outcome c.args.done.now _
    c.close-in-Differs.result refl (sym (ap (note_with c.args.done.now) c.in-Differs.is)) c.close-in-Differs.ensures.closes

pub returns-in-Ok-clause-whole : goal.returns-in-Ok-clause-whole
returns-in-Ok-clause-whole g c = λ off notes_off.
    stands_by g.T.Sink.settled g.N.Sink.contents g.N.Sink.settled c.close.new.output c.args.notes.now c.close.new.notes c.args.done.now _ (Refused c.in-Refused.refusal) c.close.result (c.as_slice.ensures.value ∙ c.in-Ok.ensures) (c.close.ensures.whole off notes_off)

pub returns-in-Err-clause-whole : goal.returns-in-Err-clause-whole
returns-in-Err-clause-whole g c = λ off notes_off.
    stands_by g.T.Sink.settled g.N.Sink.contents g.N.Sink.settled c.close-in-Err.new.output c.args.notes.now c.close-in-Err.new.notes c.args.done.now _ Memory c.close-in-Err.result refl (c.close-in-Err.ensures.whole off notes_off)

pub returns-in-Ok-usage_note-clause-whole : goal.returns-in-Ok-usage_note-clause-whole
returns-in-Ok-usage_note-clause-whole g c = λ off notes_off.
    stands_by g.T.Sink.settled g.N.Sink.contents g.N.Sink.settled c.close-in-Ok-usage_note.new.output c.args.notes.now c.close-in-Ok-usage_note.new.notes c.args.done.now _ (Usage c.in-Usage.word) c.close-in-Ok-usage_note.result (c.as_slice-in-Ok-usage_note.ensures.value ∙ c.in-Ok-usage_note.ensures) (c.close-in-Ok-usage_note.ensures.whole off notes_off)

pub returns-in-Err-usage_note-clause-whole : goal.returns-in-Err-usage_note-clause-whole
returns-in-Err-usage_note-clause-whole g c = λ off notes_off.
    stands_by g.T.Sink.settled g.N.Sink.contents g.N.Sink.settled c.close-in-Err-usage_note.new.output c.args.notes.now c.close-in-Err-usage_note.new.notes c.args.done.now _ Memory c.close-in-Err-usage_note.result refl (c.close-in-Err-usage_note.ensures.whole off notes_off)

pub returns-in-Ok-passed_note-clause-whole : goal.returns-in-Ok-passed_note-clause-whole
returns-in-Ok-passed_note-clause-whole g c = λ off notes_off.
    stands_by g.T.Sink.settled g.N.Sink.contents g.N.Sink.settled c.close-in-Ok-passed_note.new.output c.args.notes.now c.close-in-Ok-passed_note.new.notes c.args.done.now _ (Passed c.in-Passed.refused c.in-Passed.kept) c.close-in-Ok-passed_note.result (c.as_slice-in-Ok-passed_note.ensures.value ∙ c.in-Ok-passed_note.ensures) (c.close-in-Ok-passed_note.ensures.whole off notes_off)

pub returns-in-Err-passed_note-clause-whole : goal.returns-in-Err-passed_note-clause-whole
returns-in-Err-passed_note-clause-whole g c = λ off notes_off.
    stands_by g.T.Sink.settled g.N.Sink.contents g.N.Sink.settled c.close-in-Err-passed_note.new.output c.args.notes.now c.close-in-Err-passed_note.new.notes c.args.done.now _ Memory c.close-in-Err-passed_note.result refl (c.close-in-Err-passed_note.ensures.whole off notes_off)

pub returns-in-Ok-kept_note-clause-whole : goal.returns-in-Ok-kept_note-clause-whole
returns-in-Ok-kept_note-clause-whole g c = λ off notes_off.
    stands_by g.T.Sink.settled g.N.Sink.contents g.N.Sink.settled c.close-in-Ok-kept_note.new.output c.args.notes.now c.close-in-Ok-kept_note.new.notes c.args.done.now _ (Kept c.in-Kept.kept) c.close-in-Ok-kept_note.result (c.as_slice-in-Ok-kept_note.ensures.value ∙ c.in-Ok-kept_note.ensures) (c.close-in-Ok-kept_note.ensures.whole off notes_off)

pub returns-in-Err-kept_note-clause-whole : goal.returns-in-Err-kept_note-clause-whole
returns-in-Err-kept_note-clause-whole g c = λ off notes_off.
    stands_by g.T.Sink.settled g.N.Sink.contents g.N.Sink.settled c.close-in-Err-kept_note.new.output c.args.notes.now c.close-in-Err-kept_note.new.notes c.args.done.now _ Memory c.close-in-Err-kept_note.result refl (c.close-in-Err-kept_note.ensures.whole off notes_off)

pub returns-in-Ok-table_note-clause-whole : goal.returns-in-Ok-table_note-clause-whole
returns-in-Ok-table_note-clause-whole g c = λ off notes_off.
    stands_by g.T.Sink.settled g.N.Sink.contents g.N.Sink.settled c.close-in-Ok-table_note.new.output c.args.notes.now c.close-in-Ok-table_note.new.notes c.args.done.now _ (TableRefused c.in-TableRefused.refusal) c.close-in-Ok-table_note.result (c.as_slice-in-Ok-table_note.ensures.value ∙ c.in-Ok-table_note.ensures) (c.close-in-Ok-table_note.ensures.whole off notes_off)

pub returns-in-Ok-surfaces_note-clause-whole : goal.returns-in-Ok-surfaces_note-clause-whole
returns-in-Ok-surfaces_note-clause-whole g c = λ off notes_off.
    stands_by g.T.Sink.settled g.N.Sink.contents g.N.Sink.settled c.close-in-Ok-surfaces_note.new.output c.args.notes.now c.close-in-Ok-surfaces_note.new.notes c.args.done.now _ (SurfacesRefused c.in-SurfacesRefused.refusal) c.close-in-Ok-surfaces_note.result (c.as_slice-in-Ok-surfaces_note.ensures.value ∙ c.in-Ok-surfaces_note.ensures) (c.close-in-Ok-surfaces_note.ensures.whole off notes_off)

pub returns-in-Ok-file_note-clause-whole : goal.returns-in-Ok-file_note-clause-whole
returns-in-Ok-file_note-clause-whole g c = λ off notes_off.
    stands_by g.T.Sink.settled g.N.Sink.contents g.N.Sink.settled c.close-in-Ok-file_note.new.output c.args.notes.now c.close-in-Ok-file_note.new.notes c.args.done.now _ (FileRefused c.in-FileRefused.refusal) c.close-in-Ok-file_note.result (c.as_slice-in-Ok-file_note.ensures.value ∙ c.in-Ok-file_note.ensures) (c.close-in-Ok-file_note.ensures.whole off notes_off)

pub returns-in-Err-table_note-clause-whole : goal.returns-in-Err-table_note-clause-whole
returns-in-Err-table_note-clause-whole g c = λ off notes_off.
    stands_by g.T.Sink.settled g.N.Sink.contents g.N.Sink.settled c.close-in-Err-table_note.new.output c.args.notes.now c.close-in-Err-table_note.new.notes c.args.done.now _ Memory c.close-in-Err-table_note.result refl (c.close-in-Err-table_note.ensures.whole off notes_off)

pub returns-in-Err-surfaces_note-clause-whole : goal.returns-in-Err-surfaces_note-clause-whole
returns-in-Err-surfaces_note-clause-whole g c = λ off notes_off.
    stands_by g.T.Sink.settled g.N.Sink.contents g.N.Sink.settled c.close-in-Err-surfaces_note.new.output c.args.notes.now c.close-in-Err-surfaces_note.new.notes c.args.done.now _ Memory c.close-in-Err-surfaces_note.result refl (c.close-in-Err-surfaces_note.ensures.whole off notes_off)

pub returns-in-Err-file_note-clause-whole : goal.returns-in-Err-file_note-clause-whole
returns-in-Err-file_note-clause-whole g c = λ off notes_off.
    stands_by g.T.Sink.settled g.N.Sink.contents g.N.Sink.settled c.close-in-Err-file_note.new.output c.args.notes.now c.close-in-Err-file_note.new.notes c.args.done.now _ Memory c.close-in-Err-file_note.result refl (c.close-in-Err-file_note.ensures.whole off notes_off)

pub returns-in-Done-clause-whole : goal.returns-in-Done-clause-whole
returns-in-Done-clause-whole g c = λ off notes_off.
    stands_by g.T.Sink.settled g.N.Sink.contents g.N.Sink.settled c.close-in-Done.new.output c.args.notes.now c.close-in-Done.new.notes c.args.done.now _ c.args.outcome c.close-in-Done.result (sym (ap (note_with c.args.done.now) c.in-Done.is)) (c.close-in-Done.ensures.whole off notes_off)

pub returns-in-WriteFault-clause-whole : goal.returns-in-WriteFault-clause-whole
returns-in-WriteFault-clause-whole g c = λ off notes_off.
    stands_by g.T.Sink.settled g.N.Sink.contents g.N.Sink.settled c.close-in-WriteFault.new.output c.args.notes.now c.close-in-WriteFault.new.notes c.args.done.now _ c.args.outcome c.close-in-WriteFault.result (sym (ap (note_with c.args.done.now) c.in-WriteFault.is)) (c.close-in-WriteFault.ensures.whole off notes_off)

pub returns-in-Differs-clause-whole : goal.returns-in-Differs-clause-whole
returns-in-Differs-clause-whole g c = λ off notes_off.
    stands_by g.T.Sink.settled g.N.Sink.contents g.N.Sink.settled c.close-in-Differs.new.output c.args.notes.now c.close-in-Differs.new.notes c.args.done.now _ c.args.outcome c.close-in-Differs.result (sym (ap (note_with c.args.done.now) c.in-Differs.is)) (c.close-in-Differs.ensures.whole off notes_off)

pub returns-in-ReadFault-clause-whole : goal.returns-in-ReadFault-clause-whole
returns-in-ReadFault-clause-whole g c = λ off notes_off.
    stands_by g.T.Sink.settled g.N.Sink.contents g.N.Sink.settled c.close-in-ReadFault.new.output c.args.notes.now c.close-in-ReadFault.new.notes c.args.done.now _ c.args.outcome c.close-in-ReadFault.result (sym (ap (note_with c.args.done.now) c.in-ReadFault.is)) (c.close-in-ReadFault.ensures.whole off notes_off)

pub returns-in-ShelfFault-clause-whole : goal.returns-in-ShelfFault-clause-whole
returns-in-ShelfFault-clause-whole g c = λ off notes_off.
    stands_by g.T.Sink.settled g.N.Sink.contents g.N.Sink.settled c.close-in-ShelfFault.new.output c.args.notes.now c.close-in-ShelfFault.new.notes c.args.done.now _ c.args.outcome c.close-in-ShelfFault.result (sym (ap (note_with c.args.done.now) c.in-ShelfFault.is)) (c.close-in-ShelfFault.ensures.whole off notes_off)

pub returns-in-Memory-clause-whole : goal.returns-in-Memory-clause-whole
returns-in-Memory-clause-whole g c = λ off notes_off.
    stands_by g.T.Sink.settled g.N.Sink.contents g.N.Sink.settled c.close-in-Memory.new.output c.args.notes.now c.close-in-Memory.new.notes c.args.done.now _ c.args.outcome c.close-in-Memory.result (sym (ap (note_with c.args.done.now) c.in-Memory.is)) (c.close-in-Memory.ensures.whole off notes_off)

pub returns-in-InputTooLong-clause-whole : goal.returns-in-InputTooLong-clause-whole
returns-in-InputTooLong-clause-whole g c = λ off notes_off.
    stands_by g.T.Sink.settled g.N.Sink.contents g.N.Sink.settled c.close-in-InputTooLong.new.output c.args.notes.now c.close-in-InputTooLong.new.notes c.args.done.now _ c.args.outcome c.close-in-InputTooLong.result (sym (ap (note_with c.args.done.now) c.in-InputTooLong.is)) (c.close-in-InputTooLong.ensures.whole off notes_off)
