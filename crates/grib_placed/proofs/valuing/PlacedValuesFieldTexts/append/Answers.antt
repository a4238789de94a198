use Rattle.std.proofs.Common.{◌≡◌, ◌*◌, ◌++◌, None, List, ℕ, length, is_none, true, sym, ap, ◌∙◌, subst, arith, rules}
use Rattle.grib_base.specs.declared.profile.Profile.TheVariants.{Open}
use Rattle.grib_bits.specs.Octets.{octets}
use Rattle.grib2_message.specs.Fields.{part_octets}
use Rattle.grib_rescan.specs.Sections.{HasPoints}
use Rattle.grib_text.specs.Lines.{list_line}
use Rattle.grib_command.specs.Pending.{WritesAllBut}
use Rattle.grib_command.proofs.Outside.{front_none}
use Rattle.grib_report.proofs.Finite.{finite_column}
use Rattle.grib_decimal.specs.Range.{first_too_large}
use Rattle.grib_report.specs.Valuing.{cause_2}
use Rattle.grib_report.proofs.Causes.{values_fit}
use Rattle.grib_placed.specs.Causes.{message_place_cause}
use Rattle.grib_placed.proofs.Placed.{value_placed_is}
use Rattle.grib_placed.proofs.Told.{told, neither}
use Rattle.grib_placed.proofs.valuing.PlacedValuesFieldTexts.append.Goals as goal

pub returns-in_err-column : goal.returns-in_err-column
returns-in_err-column g c = record {
  octets = record { whole = search rules; front = front_none _ _ };
  counted = search rules;
  unfinished = search rules;
}

pub ieee_reference-reference-requires : goal.ieee_reference-reference-requires
ieee_reference-reference-requires g c = record {
  finite = finite_column c.args.self.now.message.now c.args.field c.in_ok-column.column c.column.ensures.passes c.in_ok-column.ensures.column;
}

pub returns-in_err-listed : goal.returns-in_err-listed
returns-in_err-listed g c = record {
  octets = record { whole = search rules; front = front_none _ _ };
  counted = search rules;
  unfinished = search rules;
}

pub append_field_placed-requires : goal.append_field_placed-requires
append_field_placed-requires g c =
    let m = c.args.self.now.message.now in
    let places = c.args.self.now.places in
    let s = part_octets m c.args.field 3 in
    let same = c.in-Some.ensures.part.1 in
    let passes = c.part.ensures.passes.grid in
    let uncaused = neither (message_place_cause m) (λ _. cause_2 places m) c.args.self.now.uncaused in
    let none = told m c.args.field c.requires.first c.requires.last uncaused.0 in
    record {
      grid = subst HasPoints (sym same) (c.what_has_places.ensures.points Open s passes none);
      points = subst (λ s. length c.in_ok-column.column.points ≡ octets s 31 34 * octets s 35 38) (sym same)
          (c.in_ok-column.ensures.long ∙ sym (c.what_has_places.ensures.product Open s passes none));
      few = omega (arith, c.in_ok-column.ensures.few);
      texts = ap (λ k. first_too_large k c.in_ok-column.column.points) c.of-scale.ensures
          ∙ values_fit places m c.args.field c.in_ok-column.column c.ieee_reference-reference.result c.requires.first c.requires.last
          c.in_ok-column.ensures.column c.ieee_reference-reference.ensures.value uncaused.1;
    }

pub returns : goal.returns
returns g c = record {
  octets =
      subst
      (λ text. WritesAllBut c.append_field_placed.result (g.T.Sink.contents c.args.output.now) (g.T.Sink.contents c.append_field_placed.new.output) (c.args.lines.now.items ++ text)
      c.append_field_placed.new.lines.items)
      (value_placed_is c.args.self.now.places c.args.self.now.message.now c.args.self.now.number c.args.field c.in-Some.section3.octets.now c.as_slice.result.now c.ieee_reference-reference.result c.in_ok-column.column
      c.of-scale.result c.in-Some.ensures.part.1 c.in_ok-column.ensures.column
      (c.as_slice.ensures.value ∙ c.in_ok-listed.ensures ∙ ap (λ m. list_line m c.args.self.now.number c.args.field) c.message.ensures) c.ieee_reference-reference.ensures.value c.of-scale.ensures)
      c.append_field_placed.ensures.octets;
  counted = search rules;
  unfinished = search rules;
}
