use Rattle.std.proofs.Common.{IfOk, ◌≡◌, ◌≤◌, length, ◌∙◌, ap, subst, rules, arith}
use Rattle.grib_reasons.specs.declared.cause.Cause.TheVariants.{Demoted}
use Rattle.grib_demote.specs.Demoted.{first_loss}
use Rattle.grib_command.proofs.Outside.{front_none}
use Rattle.grib_command.specs.LawfulCommands.{unmapped}
use Rattle.grib_command.specs.Pending.{WritesTo}
use Rattle.grib_edit.specs.Demoting.{few_octets}
use Rattle.grib_edit.proofs.Demoted.{few_counted}
use Rattle.grib_edit.proofs.demoting.write_field.Goals as goal

pub returns-in-Ok-clause-writes : goal.returns-in-Ok-clause-writes
returns-in-Ok-clause-writes g c =
    subst (WritesTo g.T.Sink.contents g.T.Sink.faults g.T.Sink.settled c.write_counted.result _ _) (c.as_slice.ensures.value ∙ c.in-Ok.ensures.1) c.write_counted.ensures.writes

pub returns-in-Ok-clause-count : goal.returns-in-Ok-clause-count
returns-in-Ok-clause-count g c =
    subst (λ octets. IfOk c.write_counted.result (λ count. count ≡ length octets)) (c.as_slice.ensures.value ∙ c.in-Ok.ensures.1) c.write_counted.ensures.count

pub returns-in-Ok-clause-few : goal.returns-in-Ok-clause-few
returns-in-Ok-clause-few g c =
    let table = c.args.demoting.now.table.now in
    let matching = c.args.demoting.now.matching in
    let keep = c.args.demoting.now.keep_local in
    let any = c.args.demoting.now.any_earth in
    let m = c.args.message.now in
    let none = unmapped (Demoted c.args.field) (first_loss table matching keep any m c.args.field) c.in-Ok.ensures.0 in
    let same = ap length (c.as_slice.ensures.value ∙ c.in-Ok.ensures.1) in
    few_counted c.write_counted.result 16777215 (length c.as_slice.result.now) (omega (arith, same, few_octets matching keep any table m c.args.field none)) c.write_counted.ensures.count

pub returns-in-Err-clause-writes : goal.returns-in-Err-clause-writes
returns-in-Err-clause-writes g c = record {
  octets = record { whole = search rules; front = front_none _ _ };
  counted = search rules;
  unfinished = search rules;
}
