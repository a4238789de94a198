use Rattle.std.proofs.Common.{◌≡◌, ◌++◌, ◌∙◌, codes, IfOk, subst, append_assoc}
use Rattle.std.specs.Fmt.{decimal}
use Rattle.grib_text.specs.Notes.{refusal_text}
use Rattle.grib_text.proofs.notes.refused_line.Goals as goal

pub returns : goal.returns
returns c =
    let head : c.as_str.result.now ≡ codes "refused message " ++ decimal c.args.message ++ codes " at " ++ decimal c.args.before =
    c.as_str.ensures.value ∙ (simp append_assoc c.in_ok-head.ensures.ok) in
    subst (λ h. IfOk c.refusal_text.result (λ line. line.items ≡ refusal_text h c.args.fault.now)) head c.refusal_text.ensures
