use Rattle.std.proofs.Common.{List, ℕ, MatchResult, ◌∙◌, subst}
use Rattle.grib_base.specs.declared.profile.Profile.TheVariants.{Stated}
use Rattle.grib2_sections.specs.Refused.{IsVerdict}
use Rattle.grib2_message.specs.Acceptance.{verdict_under}
use Rattle.grib2_message.specs.Message.{IsMessageUnder}
use Rattle.grib_select.specs.Single.{single_of}
use Rattle.grib_dispatch.specs.declared.reading.Held.TheVariants.{Two}
use Rattle.grib.specs.Changing.{IsRepacked, IsRepackError}
use Rattle.grib.proofs.Alone.{is_alone, read_alone, not_refused}
use Rattle.grib.proofs.changing.repack_single.Goals as goal

pub returns-in-Ok-read_message : goal.returns-in-Ok-read_message
returns-in-Ok-read_message c =
    let message = c.args.message.now in
    let number = c.args.number in
    let target = c.args.target in
    let law = c.what_is_cut_out_keeps_its_column.ensures.accepted Stated message number c.requires.accepted c.requires.first c.requires.last in
    let same = c.deref.ensures.value ∙ c.in-Ok.ensures in
    let accepted : IsMessageUnder Stated c.deref.result.now = is_alone (single_of message number) c.deref.result.now same law in
    let read = c.in-Ok-read_message.ensures in
    subst (λ (m : List ℕ). MatchResult c.repack_second.result (λ octets. IsRepacked target (Two m) octets.items) (IsRepackError target (Two m)))
    (read_alone c.deref.result.now c.in-Ok-read_message.alone accepted read.0 read.1 ∙ same) c.repack_second.ensures

pub unreachable-requires : goal.unreachable-requires
unreachable-requires c =
    let message = c.args.message.now in
    let number = c.args.number in
    let law = c.what_is_cut_out_keeps_its_column.ensures.accepted Stated message number c.requires.accepted c.requires.first c.requires.last in
    let accepted : IsMessageUnder Stated c.deref.result.now = is_alone (single_of message number) c.deref.result.now (c.deref.ensures.value ∙ c.in-Ok.ensures) law in
    not_refused c.deref.result.now c.in-Err-Refused.field-0-0 accepted
    (subst (IsVerdict (verdict_under Stated c.deref.result.now)) c.in-Err-Refused.field-0-is c.in-Err-Refused.ensures)
