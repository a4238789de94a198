use Rattle.std.proofs.Common.{◌≡◌, ◌≢◌, ℕ, ◌⊎◌, inl, inr, ap, ◌∙◌, subst, arith}
use Rattle.std.specs.Int.{w64, trailing_zeros, bit_at}
use Rattle.std.proofs.lemmas.Nat.Bits.{bit_at-trailing_zeros, bit_at-zero}
use Rattle.grib_split.specs.Runs.{WideAt}
use Rattle.grib_split.proofs.Bits.{cleared_less, cleared_other}
use Rattle.grib_split.proofs.Kept.{told_same, wide_other}
use Rattle.grib_split.proofs.slots.Slots.mend.Goals as goal

same_or_not : (a b : ℕ) → (a ≡ b) ⊎ (a ≢ b)
same_or_not a b = grind arith

pub loop-rest-smaller : goal.loop-rest-smaller
loop-rest-smaller c = cleared_less c.loop-rest.rest c.loop-rest-test.true

pub loop-rest-preserved : goal.loop-rest-preserved
loop-rest-preserved c =
    let i = c.loop-rest.invariant in
    let rest = c.loop-rest.rest in
    let at_place = trailing_zeros w64 rest in
    let t = bit_at-trailing_zeros w64 rest (omega (arith, c.loop-rest-test.true)) c.loop-rest.auto.rest-fits.fits in
    let m = c.mend_one.ensures in
    record {
      numbers = record { least = m.numbers.least ∙ i.numbers.least; greatest = m.numbers.greatest ∙ i.numbers.greatest };
      marks = record { primary = m.marks.primary ∙ i.marks.primary; secondary = m.marks.secondary ∙ i.marks.secondary };
      after = m.after ∙ i.after;
      wide = λ run told right place within unset. elim (same_or_not at_place place) [
        | inl here ↦
            let P : ℕ → Type 0 = λ p. WideAt c.args.reserved c.mend_one.new.self p (run p) in
            subst P here (m.wide (run at_place) (told_same c.args.self.now c.loop-rest.self at_place (run at_place) i.numbers i.marks (told at_place t.0)))
        | inr other ↦
            let kept : bit_at rest place ≡ 0 = cleared_other rest place c.loop-rest.auto.rest-fits.fits c.loop-rest-test.true other unset in
            wide_other c.args.reserved c.loop-rest.self c.mend_one.new.self at_place place (run place) other m.width m.limit (i.wide run told right place within kept)
      ];
    }

pub returns-clause-wide : goal.returns-clause-wide
returns-clause-wide c run told right place within unset =
    c.loop-rest.invariant.wide run told right place within (ap (λ n. bit_at n place) c.loop-rest-test.false ∙ bit_at-zero place)
