use Rattle.std.proofs.Common.{◌≡◌, ℕ, List, take, get_or, subst, sym, arith, inl, inr}
use Rattle.std.proofs.lemmas.Bool.{cases_lt}
use Rattle.std.proofs.lemmas.List.{length-take-le}
use Rattle.grib_bits.specs.Encoding.{AddsOctets}
use Rattle.grib_bits.proofs.Encoding.{AddsOctets-append}
use Rattle.grib2_products.specs.Written.{SpecFits}
use Rattle.grib2_products.proofs.Ranges.{no_spec, specs_octets-more, length-specs_octets, specs_at-behind}
use Rattle.grib2_products.proofs.writing.write_specs.Goals as goal

pub write_spec-requires : goal.write_spec-requires
write_spec-requires c =
    let specs = c.args.specs.now in
    let k = c.loop-spec.spec-index in
    omega (arith, length-specs_octets (take k specs), length-take-le k specs (omega arith))

pub loop-spec-preserved : goal.loop-spec-preserved
loop-spec-preserved c =
    let Added : List ℕ → Type 0 = λ xs. AddsOctets c.args.out.now c.write_spec.new.out xs in
    record {
      octets = subst Added (sym (specs_octets-more c.args.specs.now c.loop-spec.spec-index _ (omega arith)))
          (AddsOctets-append c.loop-spec.invariant.octets c.write_spec.ensures.octets);
      fit = λ k below. elim (cases_lt k c.loop-spec.spec-index) [
        | inl before ↦ c.loop-spec.invariant.fit k before
        | inr last ↦
            let Fits : ℕ → Type 0 = λ i. SpecFits (get_or c.args.specs.now i no_spec) in
            let same : c.loop-spec.spec-index ≡ k = omega arith in
            subst Fits same c.write_spec.ensures.fits
      ];
    }

pub returns-clause-again : goal.returns-clause-again
returns-clause-again c = λ front rest first place.
    specs_at-behind front rest c.args.specs.now first no_spec (λ k below. c.loop-spec.invariant.fit k (omega (arith, c.loop-spec-test.false))) place
