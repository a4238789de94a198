use Rattle.std.proofs.Common.{◌≡◌, ℕ, ◌*◌, refl, ap, ap₂, sym, ◌∙◌, subst, arith, rules, length}
use Rattle.grib_io.specs.Outside.{CountsStops}
use Rattle.grib_text.specs.Lines.{lines_by}
use Rattle.grib_command.proofs.Outside.{front_none}
use Rattle.grib_command.proofs.Passing.{on_refused}
use Rattle.grib_report.proofs.Pending.{three_written, one_refused, two_refused}
use Rattle.grib_placed.specs.Lines.{placed_line}
use Rattle.grib_placed.specs.Texts.{text_in, HasTexts}
use Rattle.grib_placed.proofs.Placed.{placed_is}
use Rattle.grib_placed.proofs.texts.append_field_placed.Goals as goal

pub returns-in_err-places : goal.returns-in_err-places
returns-in_err-places g c = record {
  octets = record { whole = search rules; front = front_none _ _ };
  counted = search rules;
  unfinished = search rules;
}

pub returns-in_err-numbers : goal.returns-in_err-numbers
returns-in_err-numbers g c = record {
  octets = record { whole = search rules; front = front_none _ _ };
  counted = search rules;
  unfinished = search rules;
}

pub returns-in_err-append_text : goal.returns-in_err-append_text
returns-in_err-append_text g c =
    let field = c.args.field.now in
    let s = field.section3.now in
    let text = text_in c.args.form.now in
    record {
      octets = record {
        whole = on_refused _ _ c.from_residual-in_err-append_text.ensures.0;
        front = one_refused _ _ c.args.lines.now.items field.listed.now c.in_ok-numbers.numbers.items (lines_by (placed_line s text) 1 field.column.now.points) _
            (placed_is s text field.listed.now c.in_ok-numbers.numbers.items field.reference.now field.column.now field.column.now.points c.in_ok-numbers.ensures refl)
            c.append_text.ensures.octets.front;
      };
      counted = search rules;
      unfinished = search rules;
    }

pub returns-in_err-append_text-2 : goal.returns-in_err-append_text-2
returns-in_err-append_text-2 g c =
    let field = c.args.field.now in
    let s = field.section3.now in
    let text = text_in c.args.form.now in
    record {
      octets = record {
        whole = on_refused _ _ c.from_residual-in_err-append_text-2.ensures.0;
        front = two_refused _ _ _ c.args.lines.now.items field.listed.now c.append_text.new.lines.items c.as_slice.result.now (lines_by (placed_line s text) 1 field.column.now.points) _
            (placed_is s text field.listed.now c.as_slice.result.now field.reference.now field.column.now field.column.now.points
            (c.as_slice.ensures.value ∙ c.in_ok-numbers.ensures) refl)
            c.in_ok-append_text.ensures.octets.whole c.append_text-2.ensures.octets.front;
      };
      counted = search rules;
      unfinished = search rules;
    }

pub append_placed-requires : goal.append_placed-requires
append_placed-requires g c =
    let field = c.args.field.now in
    let are = c.in_ok-places.ensures in
    let same = ap length c.as_slice-2.ensures in
    let latitudes = ap₂ (λ (a b : ℕ). a * b) are.latitudes.order.columns are.latitudes.order.rows in
    let longitudes = ap₂ (λ (a b : ℕ). a * b) are.longitudes.order.columns are.longitudes.order.rows in
    record {
      few = omega (arith, same, c.requires.few);
      latitudes = omega (arith, same, latitudes, c.requires.points);
      longitudes = omega (arith, same, longitudes, c.requires.points);
      texts = subst (HasTexts c.args.form.now) (sym c.as_slice-2.ensures) c.requires.texts;
    }

pub returns : goal.returns
returns g c =
    let field = c.args.field.now in
    let s = field.section3.now in
    let text = text_in c.args.form.now in
    let own = c.append_placed.ensures s c.in_ok-places.ensures in
    record {
      octets =
          three_written c.append_placed.result _ _ _ _ c.args.lines.now.items field.listed.now c.append_text.new.lines.items c.as_slice.result.now
          c.append_text-2.new.lines.items (lines_by (placed_line s text) 1 c.as_slice-2.result.now) _ _
          (placed_is s text field.listed.now c.as_slice.result.now field.reference.now field.column.now c.as_slice-2.result.now
          (c.as_slice.ensures.value ∙ c.in_ok-numbers.ensures) c.as_slice-2.ensures)
          c.in_ok-append_text.ensures.octets.whole c.in_ok-append_text-2.ensures.octets.whole own.octets;
      counted = subst (λ n. CountsStops c.append_placed.result n (g.T.Sink.faults c.append_placed.new.output)) (c.in_ok-append_text-2.ensures.counted ∙ c.in_ok-append_text.ensures.counted) own.counted;
      unfinished = λ all. c.in_ok-append_text.ensures.unfinished (c.in_ok-append_text-2.ensures.unfinished (own.unfinished all));
    }
