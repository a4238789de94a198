use Rattle.std.proofs.Common.{refl, ap, ◌∙◌, rules}
use Rattle.grib_decimal.specs.Range.{first_too_large}
use Rattle.grib_text.specs.Values.{value_lines}
use Rattle.grib_report.specs.Valuing.{scale_by}
use Rattle.grib_command.proofs.Outside.{front_none}
use Rattle.grib_report.proofs.Pending.{valued_is, three_written, one_refused, two_refused}
use Rattle.grib_command.proofs.Passing.{on_refused}
use Rattle.grib_report.proofs.valuing.append_valued.Goals as goal

pub returns-in_err-numbers : goal.returns-in_err-numbers
returns-in_err-numbers g c = record {
  octets = record { whole = search rules; front = front_none _ _ };
  counted = search rules;
  unfinished = search rules;
}

pub returns-in_err-append_text : goal.returns-in_err-append_text
returns-in_err-append_text g c = record {
  octets = record {
    whole = on_refused _ _ c.from_residual-in_err-append_text.ensures.0;
    front = one_refused _ _ c.args.lines.now.items c.args.listed.now c.in_ok-numbers.numbers.items (value_lines (scale_by c.args.places c.args.reference.now c.args.column.now) 1 c.args.column.now.points) _
        (valued_is c.args.places c.args.listed.now c.in_ok-numbers.numbers.items c.args.reference.now c.args.column.now
        (scale_by c.args.places c.args.reference.now c.args.column.now) c.args.column.now.points c.in_ok-numbers.ensures refl refl)
        c.append_text.ensures.octets.front;
  };
  counted = search rules;
  unfinished = search rules;
}

pub returns-in_err-append_text-2 : goal.returns-in_err-append_text-2
returns-in_err-append_text-2 g c = record {
  octets = record {
    whole = on_refused _ _ c.from_residual-in_err-append_text-2.ensures.0;
    front = two_refused _ _ _ c.args.lines.now.items c.args.listed.now c.append_text.new.lines.items c.as_slice.result.now (value_lines (scale_by c.args.places c.args.reference.now c.args.column.now) 1 c.args.column.now.points) _
        (valued_is c.args.places c.args.listed.now c.as_slice.result.now c.args.reference.now c.args.column.now
        (scale_by c.args.places c.args.reference.now c.args.column.now) c.args.column.now.points (c.as_slice.ensures.value ∙ c.in_ok-numbers.ensures) refl refl)
        c.in_ok-append_text.ensures.octets.whole c.append_text-2.ensures.octets.front;
  };
  counted = search rules;
  unfinished = search rules;
}

pub returns : goal.returns
returns g c = record {
  octets =
      three_written c.append_values.result _ _ _ _ c.args.lines.now.items c.args.listed.now c.append_text.new.lines.items c.as_slice.result.now
      c.append_text-2.new.lines.items (value_lines c.of-scale.result 1 c.as_slice-2.result.now) _ _
      (valued_is c.args.places c.args.listed.now c.as_slice.result.now c.args.reference.now c.args.column.now c.of-scale.result c.as_slice-2.result.now
      (c.as_slice.ensures.value ∙ c.in_ok-numbers.ensures) c.of-scale.ensures c.as_slice-2.ensures)
      c.in_ok-append_text.ensures.octets.whole c.in_ok-append_text-2.ensures.octets.whole c.append_values.ensures.octets;
  counted = search rules;
  unfinished = search rules;
}

pub append_values-requires-clause-fits : goal.append_values-requires-clause-fits
append_values-requires-clause-fits g c =
    ap (λ s. first_too_large s c.as_slice-2.result.now) c.of-scale.ensures
    ∙ ap (first_too_large (scale_by c.args.places c.args.reference.now c.args.column.now)) c.as_slice-2.ensures ∙ c.requires.fits
