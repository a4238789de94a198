-- Lemmas on the points that codes tell.
use Rattle.std.proofs.Common.{◌≡◌, suc, ◌+◌, ◌%◌, ◌<◌, ◌^◌, true, false, List, [], ◌∷◌, ◌++◌, length, refl, sym, ap, ◌∙◌, arith, inl, inr}
use Rattle.std.proofs.lemmas.Bool.{cases_lt}
use Rattle.std.proofs.lemmas.List.{length_push}
use Rattle.grib_base.specs.declared.code.Code.{Code}
use Rattle.grib_base.specs.declared.code.Code.TheVariants.{Present, Primary, Secondary}
use Rattle.grib_base.specs.Rules.{first_place}
use Rattle.grib_packing.specs.Entries.{is_out_of_range}
use Rattle.grib_group_reading.proofs.Places.{place_there, place_nowhere, place_before}
use Rattle.grib_complex_reading.specs.declared.telling.Teller.{Teller}
use Rattle.grib_complex_reading.specs.Told.{Telling, Plainly, After, point_of, telling_after, told, after, undoing}
use Rattle.grib_complex_reading.specs.Tells.{telling_of, Tells}
use Rattle.grib_complex_reading.specs.Laws.{told-append, after-append}

pub length-told : (telling : Telling) (codes : List Code) → length (told telling codes) ≡ length codes
length-told telling [] = refl
length-told telling (code ∷ codes) = ap suc (length-told (telling_after telling code) codes)

-- one code more
module _ (start : Telling) (seen : List Code) (before last : Teller) (code : Code) (room : length seen + 1 < 2 ^ 63) (tells : Tells start seen before) (is_place : last.place ≡ (before.place + 1) % 2 ^ 64) where
  -- whose point is within the range, or an earlier one was not
  pub tells_within : last.beyond ≡ before.beyond → (before.beyond ≡ 0 → is_out_of_range (point_of (after start seen) code) ≡ false)
      → (before.beyond ≡ 0 → telling_of last.running ≡ telling_after (after start seen) code) → Tells start (seen ++ code ∷ []) last
  tells_within same within telling =
      let points = told start seen in
      let point = point_of (after start seen) code in
      let more : told start (seen ++ code ∷ []) ≡ points ++ point ∷ [] = told-append start seen (code ∷ []) in
      record {
        place = omega (arith, is_place, tells.place, length_push seen code);
        beyond = same ∙ tells.beyond ∙ elim (cases_lt 0 before.beyond) [
          | inl some ↦ sym (place_before is_out_of_range points point (omega (arith, tells.beyond)))
          | inr none ↦
              let nothing : before.beyond ≡ 0 = omega arith in
              let nowhere : first_place is_out_of_range points ≡ 0 = sym tells.beyond ∙ nothing in
              nowhere ∙ sym (place_nowhere is_out_of_range points point nowhere (within nothing))
        ] ∙ ap (first_place is_out_of_range) (sym more);
        telling = λ none. telling (sym same ∙ none) ∙ sym (after-append start seen (code ∷ []));
      }

  -- whose point is the first out of range
  pub tells_beyond : before.beyond ≡ 0 → last.beyond ≡ last.place → is_out_of_range (point_of (after start seen) code) ≡ true → Tells start (seen ++ code ∷ []) last
  tells_beyond none noted out =
      let points = told start seen in
      let point = point_of (after start seen) code in
      let more : told start (seen ++ code ∷ []) ≡ points ++ point ∷ [] = told-append start seen (code ∷ []) in
      let long : last.place ≡ length points + 1 = omega (arith, is_place, tells.place, length-told start seen) in
      record {
        place = omega (arith, is_place, tells.place, length_push seen code);
        beyond = noted ∙ long ∙ sym (place_there is_out_of_range points point (sym tells.beyond ∙ none) out) ∙ ap (first_place is_out_of_range) (sym more);
        telling = λ nowhere. absurd (omega arith);
      }

-- what codes are undone with stays
undoing-one : (telling : Telling) (code : Code) → undoing (telling_after telling code) ≡ undoing telling
undoing-one Plainly (Present n) = refl
undoing-one Plainly Primary = refl
undoing-one Plainly Secondary = refl
undoing-one (After d last) (Present n) = refl
undoing-one (After d last) Primary = refl
undoing-one (After d last) Secondary = refl

pub undoing-after : (telling : Telling) (codes : List Code) → undoing (after telling codes) ≡ undoing telling
undoing-after telling [] = refl
undoing-after telling (code ∷ codes) = undoing-after (telling_after telling code) codes ∙ undoing-one telling code
