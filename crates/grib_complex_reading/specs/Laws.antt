-- Laws of what takes codes.
use Rattle.std.proofs.Common.{◌≡◌, ◌<◌, List, [], ◌∷◌, ◌++◌, refl, sym, ap, ◌∙◌, arith, append_assoc, subst, inl, inr}
use Rattle.std.proofs.lemmas.Bool.{cases_lt}
use Rattle.std.proofs.lemmas.List.{append-nil, length-append}
use Rattle.grib_base.specs.declared.code.Code.{Code}
use Rattle.grib_base.specs.declared.code.Code.TheVariants.{Present, Primary, Secondary}
use Rattle.grib_packing.specs.declared.column.Point.{Point}
use Rattle.grib_complex_reading.specs.declared.values.PlainValues.{PlainValues}
use Rattle.grib_complex_reading.specs.declared.values.Values.{Values}
use Rattle.grib_complex_reading.specs.Told.{Telling, Plainly, point_of, telling_after, told, after}
use Rattle.grib_complex_reading.specs.Tells.{PlainTook, Tells, ValuesTook}

-- codes after codes
pub told-append : (telling : Telling) (codes more : List Code) → told telling (codes ++ more) ≡ told telling codes ++ told (after telling codes) more
told-append telling [] more = refl
told-append telling (code ∷ codes) more = ap (λ points. point_of telling code ∷ points) (told-append (telling_after telling code) codes more)

pub after-append : (telling : Telling) (codes more : List Code) → after telling (codes ++ more) ≡ after (after telling codes) more
after-append telling [] more = refl
after-append telling (code ∷ codes) more = after-append (telling_after telling code) codes more

-- codes that are the scaled integers themselves stay so
pub after-plainly : (codes : List Code) → after Plainly codes ≡ Plainly
after-plainly [] = refl
after-plainly (Present n ∷ codes) = after-plainly codes
after-plainly (Primary ∷ codes) = after-plainly codes
after-plainly (Secondary ∷ codes) = after-plainly codes

pub told-plainly-append : (codes more : List Code) → told Plainly (codes ++ more) ≡ told Plainly codes ++ told Plainly more
told-plainly-append codes more = told-append Plainly codes more ∙ ap (λ (t : Telling). told Plainly codes ++ told t more) (after-plainly codes)

pub plain-none : {K : Type 0} (kept : K → List Point → K → Type 0) → ((keeper : K) → kept keeper [] keeper) → (taker : PlainValues K) → PlainTook kept taker [] taker
plain-none kept none taker = none taker.keeper

pub plain-more : {K : Type 0} (kept : K → List Point → K → Type 0)
    → ((before between after : K) (points more_points : List Point) → kept before points between → kept between more_points after → kept before (points ++ more_points) after)
    → (before between last : PlainValues K) (codes more_codes : List Code) → PlainTook kept before codes between → PlainTook kept between more_codes last
    → PlainTook kept before (codes ++ more_codes) last
plain-more kept more before between last codes more_codes first second =
    subst (λ (ps : List Point). kept before.keeper ps last.keeper) (sym (told-plainly-append codes more_codes)) (more before.keeper between.keeper last.keeper _ _ first second)

pub values-none : {K : Type 0} (kept : K → List Point → K → Type 0) → ((keeper : K) → kept keeper [] keeper) → (taker : Values K) → ValuesTook kept taker [] taker
values-none kept none taker = record {
  stays = λ some. refl;
  undoes = refl;
  tells = λ start seen room tells. subst (λ (codes : List Code). Tells start codes taker.teller) (sym (append-nil seen)) tells;
  keeps = λ start seen room tells within. none taker.keeper;
  went = record { points = []; counted = refl; keeps = none taker.keeper };
}

pub values-more : {K : Type 0} (kept : K → List Point → K → Type 0)
    → ((before between after : K) (points more_points : List Point) → kept before points between → kept between more_points after → kept before (points ++ more_points) after)
    → (before between last : Values K) (codes more_codes : List Code) → ValuesTook kept before codes between → ValuesTook kept between more_codes last
    → ValuesTook kept before (codes ++ more_codes) last
values-more kept more before between last codes more_codes first second = record {
  stays = λ some.
      let same = first.stays some in
      let some_between : 0 < between.teller.beyond = omega arith in
      second.stays some_between ∙ same;
  undoes = second.undoes ∙ first.undoes;
  tells = λ start seen room tells.
      let one = first.tells start seen (omega (arith, length-append codes more_codes)) tells in
      let two = second.tells start (seen ++ codes) (omega (arith, length-append codes more_codes, length-append seen codes)) one in
      subst (λ (cs : List Code). Tells start cs last.teller) (append_assoc seen codes more_codes) two;
  keeps = λ start seen room tells within.
      let between_within : between.teller.beyond ≡ 0 = elim (cases_lt 0 between.teller.beyond) [
        | inl some ↦
            let same = second.stays some in
            omega arith
        | inr none ↦ omega arith
      ] in
      let one = first.tells start seen (omega (arith, length-append codes more_codes)) tells in
      let kept_first = first.keeps start seen (omega (arith, length-append codes more_codes)) tells between_within in
      let kept_second = second.keeps start (seen ++ codes) (omega (arith, length-append codes more_codes, length-append seen codes)) one within in
      let points : told (after start seen) codes ++ told (after start (seen ++ codes)) more_codes ≡ told (after start seen) (codes ++ more_codes) =
      ap (λ (t : Telling). told (after start seen) codes ++ told t more_codes) (after-append start seen codes) ∙ sym (told-append (after start seen) codes more_codes) in
      subst (λ (ps : List Point). kept before.keeper ps last.keeper) points (more before.keeper between.keeper last.keeper _ _ kept_first kept_second);
  went = record {
    points = first.went.points ++ second.went.points;
    counted = omega (arith, length-append first.went.points second.went.points, first.went.counted, second.went.counted, length-append codes more_codes);
    keeps = more before.keeper between.keeper last.keeper _ _ first.went.keeps second.went.keeps;
  };
}
