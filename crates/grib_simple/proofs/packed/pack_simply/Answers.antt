use Rattle.std.proofs.Common.{◌≡◌, ◌-◌, ◌^◌, ◌<◌, ◌≤◌, ℕ, List, length, None, All, sym, ap, ◌∙◌, subst, subst₂, arith}
use Rattle.std.proofs.lemmas.Result.{err_from_is_err_and}
use Rattle.grib_packing.specs.declared.column.Point.{Point}
use Rattle.grib_packing.specs.declared.column.Column.{Column}
use Rattle.grib_packing.specs.Groupings.{digits}
use Rattle.grib_packing.specs.Misfits.{ToSimple, first_misfit}
use Rattle.grib_packing.specs.Written.{IsPackFault}
use Rattle.grib_packing.specs.Packed.{HasContents, HasNumbers, IsBitmap, IsSimple, fields, simple_numbers, simple_width}
use Rattle.grib_simple.proofs.Fitting.{few_numbers, none_fail, width_few, width_fits}
use Rattle.grib_simple.proofs.packed.pack_simply.Goals as goal

pub values_octets-octets-requires-clause-count : goal.values_octets-octets-requires-clause-count
values_octets-octets-requires-clause-count c =
    omega (arith, c.of-survey.ensures.present, few_numbers c.as_slice-points.result.now, ap length c.as_slice-points.ensures, c.requires.few)

module _ (c : goal.After-bit_length-bits) where
  fits : first_misfit ToSimple c.as_slice-points.result.now ≡ None
  fits = c.in_ok-fits.ensures (2 ^ 48 - 1) c.as_slice-points.result.now c.of-survey.ensures

  width : c.bit_length-bits.result ≡ simple_width c.as_slice-points.result.now
  width = c.bit_length-bits.ensures.is ∙ ap digits c.of-survey.ensures.greatest_is

pub values_octets-octets-requires-clause-bits : goal.values_octets-octets-requires-clause-bits
values_octets-octets-requires-clause-bits c = omega (arith, width c, width_few c.as_slice-points.result.now (fits c))

pub bitmap_section-requires-clause-one_kind : goal.bitmap_section-requires-clause-one_kind
bitmap_section-requires-clause-one_kind c =
    let both = none_fail c.as_slice-points.result.now (c.in_ok-fits.ensures (2 ^ 48 - 1) c.as_slice-points.result.now c.of-survey.ensures) in
    both.0

few : (c : goal.After-bitmap_section) → c.bit_length-bits.result ≤ 48
few c =
    let none = c.in_ok-fits.ensures (2 ^ 48 - 1) c.as_slice-points.result.now c.of-survey.ensures in
    let width : c.bit_length-bits.result ≡ simple_width c.as_slice-points.result.now = c.bit_length-bits.ensures.is ∙ ap digits c.of-survey.ensures.greatest_is in
    omega (arith, width, width_few c.as_slice-points.result.now none)

pub values_section-requires-clause-width : goal.values_section-requires-clause-width
values_section-requires-clause-width c = few c

pub values_section-requires-clause-fits : goal.values_section-requires-clause-fits
values_section-requires-clause-fits c =
    let points = c.as_slice-points.result.now in
    let none = c.in_ok-fits.ensures (2 ^ 48 - 1) points c.of-survey.ensures in
    let width : c.bit_length-bits.result ≡ simple_width points = c.bit_length-bits.ensures.is ∙ ap digits c.of-survey.ensures.greatest_is in
    subst (λ (w : ℕ). All (λ n. n < 2 ^ w) (simple_numbers points)) (sym width) (width_fits points none)

is_simple : (column : Column) (points : List Point) (kind count bits : ℕ) (s5 s6 s7 : List ℕ) → points ≡ column.points → count ≡ length (simple_numbers points)
    → bits ≡ simple_width points → length s5 ≡ 21 → HasNumbers s5 column count 0 bits kind → IsBitmap s6 points → HasContents 7 s7 (fields bits (simple_numbers points))
    → IsSimple column kind s5 s6 s7
is_simple column points kind count bits s5 s6 s7 same is_count is_width long numbers bitmap values = record {
  as_long = long;
  numbers = subst₂ (λ (n w : ℕ). HasNumbers s5 column n 0 w kind) (is_count ∙ ap (λ (ps : List Point). length (simple_numbers ps)) same) (is_width ∙ ap simple_width same) numbers;
  bitmap = subst (IsBitmap s6) same bitmap;
  values = subst (λ (ps : List Point). HasContents 7 s7 (fields (simple_width ps) (simple_numbers ps))) same
      (subst (λ (w : ℕ). HasContents 7 s7 (fields w (simple_numbers points))) is_width values);
}

pub returns-in_err-fits : goal.returns-in_err-fits
returns-in_err-fits c =
    let p = err_from_is_err_and c.from_residual.result c.from_residual.ensures.1 in
    let fault = c.in_err-fits.ensures (2 ^ 48 - 1) c.as_slice-points.result.now c.of-survey.ensures in
    rw (p.1, p.2) (subst (λ (ps : List Point). IsPackFault (first_misfit ToSimple ps) c.in_err-fits.field-0.0) c.as_slice-points.ensures fault)

pub returns : goal.returns
returns c =
    let points = c.as_slice-points.result.now in
    let none = c.in_ok-fits.ensures (2 ^ 48 - 1) points c.of-survey.ensures in
    let width : c.bit_length-bits.result ≡ simple_width points = c.bit_length-bits.ensures.is ∙ ap digits c.of-survey.ensures.greatest_is in (
      subst (λ (ps : List Point). first_misfit ToSimple ps ≡ None) c.as_slice-points.ensures none,
      is_simple c.args.column.now points c.args.kind c.of-survey.result.present c.bit_length-bits.result _ _ _ c.as_slice-points.ensures c.of-survey.ensures.present width
          c.representation_section.ensures.length c.representation_section.ensures.numbers c.bitmap_section.ensures c.values_section.ensures,
    )
