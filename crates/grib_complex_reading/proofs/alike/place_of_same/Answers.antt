use Rattle.std.proofs.Common.{◌≡◌, ◌+◌, ◌<◌, ◌^◌, [], replicate, ap, ◌∙◌, arith, eqb, inl, inr}
use Rattle.std.proofs.lemmas.Bool.{cond-false, ne_eqb}
use Rattle.grib_base.specs.Rules.{first_place}
use Rattle.grib_packing.specs.Differences.{NoNumber}
use Rattle.grib_packing.specs.Entries.{is_out_of_range}
use Rattle.grib_complex_reading.specs.Descriptors.{descriptors_in}
use Rattle.grib_complex_reading.specs.Tells.{telling_of}
use Rattle.grib_complex_reading.specs.Told.{Telling, Plainly, After, told}
use Rattle.grib_complex_reading.proofs.alike.place_of_same.Goals as goal

pub returns : goal.returns
returns c =
    let d = c.args.told.now in
    let n = c.args.count in
    let some : d.order ≡ 0 → ⊥ = λ none. absurd (elim c.requires.order [ inl one ↦ omega (arith, one, none) | inr two ↦ omega (arith, two, none) ]) in
    let is : telling_of c.running.result ≡ After (descriptors_in d) NoNumber =
    c.running.ensures ∙ cond-false (eqb d.order 0) Plainly (After (descriptors_in d) NoNumber) (ne_eqb d.order 0 some) in
    let small : 0 + n < 2 ^ 63 = omega (arith, c.ranges.count.fits) in
    let tells = c.tell_same.ensures.tells (telling_of c.running.result) [] small c.start-teller.ensures.nothing in
    c.beyond.ensures ∙ tells.beyond ∙ ap (λ (t : Telling). first_place is_out_of_range (told t (replicate n c.args.code))) is
