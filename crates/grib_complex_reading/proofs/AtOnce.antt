-- Lemmas on the points of codes that come at once.
use Rattle.std.proofs.Common.{◌≡◌, ◌+◌, ◌%◌, ◌<◌, ◌^◌, List, [], ◌∷◌, ◌++◌, All, length, refl, sym, ap, ◌∙◌, arith, append_assoc, subst, inl, inr}
use Rattle.std.proofs.lemmas.Bool.{cases_lt}
use Rattle.std.proofs.lemmas.List.{length-append, append-nil}
use Rattle.std.proofs.lemmas.List.Elements.{All-nil, All-head, All-tail, All-append, All-same}
use Rattle.grib_base.specs.declared.code.Code.{Code}
use Rattle.grib_base.specs.Rules.{first_place}
use Rattle.grib_packing.specs.declared.column.Point.{Point}
use Rattle.grib_packing.specs.Entries.{is_out_of_range}
use Rattle.grib_group_reading.proofs.Places.{place_nowhere, place_before}
use Rattle.grib_complex_reading.specs.declared.runs.Steadily.{Steadily}
use Rattle.grib_complex_reading.specs.declared.telling.Teller.{Teller}
use Rattle.grib_complex_reading.specs.declared.values.Values.{Values}
use Rattle.grib_complex_reading.specs.Told.{Telling, Plainly, told, after, undoing}
use Rattle.grib_complex_reading.specs.Tells.{IsWithin, telling_of, Tells, SteadilyTook, ValuesTook}
use Rattle.grib_complex_reading.proofs.Told.{length-told, undoing-after}
use Rattle.grib_complex_reading.specs.Laws.{told-append, told-plainly-append, after-append}

-- ---- the first place out of range

pub nowhere_more : (points more : List Point) → first_place is_out_of_range points ≡ 0 → All IsWithin more → first_place is_out_of_range (points ++ more) ≡ 0
nowhere_more points [] none within = ap (first_place is_out_of_range) (append-nil points) ∙ none
nowhere_more points (point ∷ more) none within =
    ap (first_place is_out_of_range) (sym (append_assoc points (point ∷ []) more))
    ∙ nowhere_more (points ++ point ∷ []) more (place_nowhere is_out_of_range points point none (All-head IsWithin point more within)) (All-tail IsWithin point more within)

pub before_more : (points more : List Point) → 0 < first_place is_out_of_range points → first_place is_out_of_range (points ++ more) ≡ first_place is_out_of_range points
before_more points [] some = ap (first_place is_out_of_range) (append-nil points)
before_more points (point ∷ more) some =
    let one = place_before is_out_of_range points point some in
    ap (first_place is_out_of_range) (sym (append_assoc points (point ∷ []) more))
    ∙ before_more (points ++ point ∷ []) more (omega (arith, one)) ∙ one

-- ---- codes that come at once, none of whose numbers is out of range

pub tells_run : (start : Telling) (seen codes : List Code) (before last : Teller) → length seen + length codes < 2 ^ 63 → Tells start seen before
    → last.place ≡ (before.place + length codes) % 2 ^ 64 → last.beyond ≡ before.beyond
    → (before.beyond ≡ 0 → All IsWithin (told (after start seen) codes)) → (before.beyond ≡ 0 → telling_of last.running ≡ after (after start seen) codes)
    → Tells start (seen ++ codes) last
tells_run start seen codes before last room tells is_place same within telling =
    let points = told start seen in
    let more = told (after start seen) codes in
    record {
      place = omega (arith, is_place, tells.place, length-append seen codes);
      beyond = same ∙ tells.beyond ∙ elim (cases_lt 0 before.beyond) [
        | inl some ↦ sym (before_more points more (omega (arith, tells.beyond)))
        | inr none ↦
            let nothing : before.beyond ≡ 0 = omega arith in
            let nowhere : first_place is_out_of_range points ≡ 0 = sym tells.beyond ∙ nothing in
            nowhere ∙ sym (nowhere_more points more nowhere (within nothing))
      ] ∙ ap (first_place is_out_of_range) (sym (told-append start seen codes));
      telling = λ none. telling (sym same ∙ none) ∙ sym (after-append start seen codes);
    }

pub values_run : {K : Type 0} (kept : K → List Point → K → Type 0) (before last : Values K) (codes : List Code) (telling : Telling) → telling_of before.teller.running ≡ telling
    → last.teller.place ≡ (before.teller.place + length codes) % 2 ^ 64 → last.teller.beyond ≡ before.teller.beyond
    → All IsWithin (told telling codes) → telling_of last.teller.running ≡ after telling codes → kept before.keeper (told telling codes) last.keeper
    → ValuesTook kept before codes last
values_run kept before last codes telling is is_place same within after_them keeps =
    let here = λ (start : Telling) (seen : List Code) (tells : Tells start seen before.teller) (none : before.teller.beyond ≡ 0).
    let e : telling ≡ after start seen = sym is ∙ tells.telling none in e in
    record {
      stays = λ some. same;
      undoes = ap undoing after_them ∙ undoing-after telling codes ∙ sym (ap undoing is);
      tells = λ start seen room tells.
          tells_run start seen codes before.teller last.teller room tells is_place same
          (λ none. subst (λ (t : Telling). All IsWithin (told t codes)) (here start seen tells none) within)
          (λ none. after_them ∙ ap (λ (t : Telling). after t codes) (here start seen tells none));
      keeps = λ start seen room tells none.
          subst (λ (t : Telling). kept before.keeper (told t codes) last.keeper) (here start seen tells (sym same ∙ none)) keeps;
      went = record { points = told telling codes; counted = length-told telling codes; keeps = keeps };
    }

-- ---- codes that are the scaled integers themselves

abbrev pub PlainKept : {K : Type 0} → (K → List Point → K → Type 0) → K → List Code → K → Type 0
PlainKept kept before codes last = kept before (told Plainly codes) last

module _ {K : Type 0} (kept : K → List Point → K → Type 0) (none : (keeper : K) → kept keeper [] keeper)
    (more : (before between after : K) (points more_points : List Point) → kept before points between → kept between more_points after → kept before (points ++ more_points) after) where
  pub plain_kept-more : (before between last : K) (codes more_codes : List Code) → PlainKept kept before codes between → PlainKept kept between more_codes last
      → PlainKept kept before (codes ++ more_codes) last
  plain_kept-more before between last codes more_codes first second =
      subst (λ (ps : List Point). kept before ps last) (sym (told-plainly-append codes more_codes)) (more before between last _ _ first second)

  -- ---- codes of differences

  pub steadily-none : (taker : Steadily K) → SteadilyTook kept taker [] taker
  steadily-none taker = record { within = All-nil IsWithin; telling = refl; keeps = none taker.keeper }

  pub steadily-more : (before between last : Steadily K) (codes more_codes : List Code) → SteadilyTook kept before codes between → SteadilyTook kept between more_codes last
      → SteadilyTook kept before (codes ++ more_codes) last
  steadily-more before between last codes more_codes first second =
      let t = telling_of before.steady.run in
      let both : told t (codes ++ more_codes) ≡ told t codes ++ told (telling_of between.steady.run) more_codes =
      told-append t codes more_codes ∙ ap (λ (u : Telling). told t codes ++ told u more_codes) (sym first.telling) in
      record {
        within = All-same IsWithin _ _ both (All-append IsWithin _ _ first.within second.within);
        telling = second.telling ∙ ap (λ (u : Telling). after u more_codes) first.telling ∙ sym (after-append t codes more_codes);
        keeps = subst (λ (ps : List Point). kept before.keeper ps last.keeper) (sym both) (more before.keeper between.keeper last.keeper _ _ first.keeps second.keeps);
      }
