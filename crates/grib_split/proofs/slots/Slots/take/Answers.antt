use Rattle.std.proofs.Common.{◌≡◌, ℕ, ◌-◌, ◌<◌, ◌∷◌, max, min, inl, inr, sym, ap, ◌∙◌, subst, arith}
use Rattle.std.specs.Prelude.{slice_index}
use Rattle.grib_base.specs.declared.code.Code.{Code}
use Rattle.grib_base.specs.declared.code.Code.TheVariants.{Present, Primary, Secondary}
use Rattle.grib_codes.specs.Span.{IsBelow}
use Rattle.grib_split.specs.Runs.{Told, Wide, WideAt}
use Rattle.grib_packing.specs.Groupings.{digits}
use Rattle.grib_split.proofs.Kept.{wide_as}
use Rattle.grib_split.proofs.Widths.{wide_anew, tells_number, tells_primary, tells_secondary, tells_as, wide_number, wide_covered, wide_primary, wide_secondary}
use Rattle.std.proofs.lemmas.Simd.{get_or-replicate}
use Rattle.grib_split.proofs.slots.Slots.take.Goals as goal

pub returns-in-Present-clause-told : goal.returns-in-Present-clause-told
returns-in-Present-clause-told c place run within t =
    let n = c.in-Present.number in
    let P : Code → Type 0 = λ code. Told c.take_number.new.self place (code ∷ run) in
    let below : IsBelow c.args.reserved (Present n) = subst (IsBelow c.args.reserved) c.in-Present.is c.requires.below in
    let tells = tells_as _ _ _ _ (slice_index c.take_number.new.self.least place) (slice_index c.take_number.new.self.greatest place) (slice_index c.take_number.new.self.primary place) (slice_index c.take_number.new.self.secondary place) (Present n ∷ run) (tells_number _ _ _ _ n run (omega (arith, below)) t.tells)
    (c.take_number.ensures.least place within)
    (c.take_number.ensures.greatest place within)
    (ap (λ xs. slice_index xs place) c.take_number.ensures.marks.primary)
    (ap (λ xs. slice_index xs place) c.take_number.ensures.marks.secondary) in
    subst P (sym c.in-Present.is) (record { tells = tells })

pub returns-in-Present-clause-wide : goal.returns-in-Present-clause-wide
returns-in-Present-clause-wide c place run within unset small t w =
    let n = c.in-Present.number in
    let k = c.args.reserved in
    let e = c.take_number.ensures in
    let old = c.args.self.now in
    let new = c.take_number.new.self in
    let P : Code → Type 0 = λ code. WideAt k new place (code ∷ run) in
    let below : IsBelow k (Present n) = subst (IsBelow k) c.in-Present.is c.requires.below in
    let limit = ap (λ xs. slice_index xs place) e.limit in
    let W : ℕ → Type 0 = λ l. Wide k (slice_index new.width place) l (Present n ∷ run) in
    let V : ℕ → Type 0 = λ v. Wide k v (slice_index old.limit place) (Present n ∷ run) in
    let spread : slice_index new.greatest place - slice_index new.least place ≡ max (slice_index old.greatest place) n - min (slice_index old.least place) n = omega (arith, e.least place within, e.greatest place within) in
    subst P (sym c.in-Present.is) (subst W (sym limit) (elim (e.settled place within unset) [
      | inl (inl kept) ↦ subst V (sym kept.width) (wide_number k _ _ _ _ _ _ n run t.tells below small (omega (arith, kept.less, spread)) w)
      | inl (inr anew) ↦ wide_anew k _ _ _ _ _ _ n _ run t.tells below small (c.are_narrow-narrow.ensures.none anew.is) (anew.width ∙ ap digits spread) w
      | inr covered ↦ subst V (sym covered.width) (wide_covered k _ _ _ _ _ _ n run t.tells below covered.covers.least covered.covers.most w)
    ]))

pub returns-in-Primary-clause-told : goal.returns-in-Primary-clause-told
returns-in-Primary-clause-told c place run within t =
    let P : Code → Type 0 = λ code. Told c.take_primary.new.self place (code ∷ run) in
    let tells = tells_as _ _ _ _ (slice_index c.take_primary.new.self.least place) (slice_index c.take_primary.new.self.greatest place) (slice_index c.take_primary.new.self.primary place) (slice_index c.take_primary.new.self.secondary place) (Primary ∷ run) (tells_primary _ _ _ _ run t.tells)
    (ap (λ xs. slice_index xs place) c.take_primary.ensures.numbers.least)
    (ap (λ xs. slice_index xs place) c.take_primary.ensures.numbers.greatest)
    (ap (λ xs. slice_index xs place) c.take_primary.ensures.primary ∙ get_or-replicate 64 place 1 0 within)
    (ap (λ xs. slice_index xs place) c.take_primary.ensures.secondary) in
    subst P (sym c.in-Primary.is) (record { tells = tells })

pub returns-in-Primary-clause-wide : goal.returns-in-Primary-clause-wide
returns-in-Primary-clause-wide c place run within unset small t w =
    let k = c.args.reserved in
    let e = c.take_primary.ensures in
    let P : Code → Type 0 = λ code. WideAt k c.take_primary.new.self place (code ∷ run) in
    let some : 0 < slice_index c.args.self.now.primary place = omega (arith, e.places place within unset) in
    subst P (sym c.in-Primary.is)
    (wide_as k c.args.self.now c.take_primary.new.self place (Primary ∷ run) (ap (λ xs. slice_index xs place) e.widths.width) (ap (λ xs. slice_index xs place) e.widths.limit)
    (wide_primary k _ _ _ _ _ _ run t.tells some w))

pub returns-in-Secondary-clause-told : goal.returns-in-Secondary-clause-told
returns-in-Secondary-clause-told c place run within t =
    let P : Code → Type 0 = λ code. Told c.take_secondary.new.self place (code ∷ run) in
    let tells = tells_as _ _ _ _ (slice_index c.take_secondary.new.self.least place) (slice_index c.take_secondary.new.self.greatest place) (slice_index c.take_secondary.new.self.primary place) (slice_index c.take_secondary.new.self.secondary place) (Secondary ∷ run) (tells_secondary _ _ _ _ run t.tells)
    (ap (λ xs. slice_index xs place) c.take_secondary.ensures.numbers.least)
    (ap (λ xs. slice_index xs place) c.take_secondary.ensures.numbers.greatest)
    (ap (λ xs. slice_index xs place) c.take_secondary.ensures.primary)
    (ap (λ xs. slice_index xs place) c.take_secondary.ensures.secondary ∙ get_or-replicate 64 place 1 0 within) in
    subst P (sym c.in-Secondary.is) (record { tells = tells })

pub returns-in-Secondary-clause-wide : goal.returns-in-Secondary-clause-wide
returns-in-Secondary-clause-wide c place run within unset small t w =
    let k = c.args.reserved in
    let e = c.take_secondary.ensures in
    let P : Code → Type 0 = λ code. WideAt k c.take_secondary.new.self place (code ∷ run) in
    let some : 0 < slice_index c.args.self.now.secondary place = omega (arith, e.places place within unset) in
    subst P (sym c.in-Secondary.is)
    (wide_as k c.args.self.now c.take_secondary.new.self place (Secondary ∷ run) (ap (λ xs. slice_index xs place) e.widths.width) (ap (λ xs. slice_index xs place) e.widths.limit)
    (wide_secondary k _ _ _ _ _ _ run t.tells some w))
