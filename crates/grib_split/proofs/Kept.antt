-- What is kept of a run in slots that are the same at its place.
use Rattle.std.proofs.Common.{◌≡◌, ◌≢◌, ℕ, List, ap, sym, ◌∙◌, subst}
use Rattle.std.specs.Prelude.{slice_index, slice_set}
use Rattle.std.proofs.lemmas.List.{get_or-set_other}
use Rattle.grib_base.specs.declared.code.Code.{Code}
use Rattle.grib_split.specs.declared.slots.Slots.{Slots}
use Rattle.grib_split.specs.Runs.{Told, Wide, WideAt, SameNumbers, SameMarks}
use Rattle.grib_split.proofs.Widths.{tells_as}

pub told_same : (a b : Slots) (place : ℕ) (run : List Code) → SameNumbers a b → SameMarks a b → Told a place run → Told b place run
told_same a b place run numbers marks t = record {
  tells = tells_as _ _ _ _ (slice_index b.least place) (slice_index b.greatest place) (slice_index b.primary place) (slice_index b.secondary place) run t.tells
      (ap (λ xs. slice_index xs place) numbers.least) (ap (λ xs. slice_index xs place) numbers.greatest)
      (ap (λ xs. slice_index xs place) marks.primary) (ap (λ xs. slice_index xs place) marks.secondary);
}

-- the width by its numbers
pub wide_as : (k : ℕ) (a b : Slots) (place : ℕ) (run : List Code) → slice_index b.width place ≡ slice_index a.width place
    → slice_index b.limit place ≡ slice_index a.limit place → Wide k (slice_index a.width place) (slice_index a.limit place) run
    → Wide k (slice_index b.width place) (slice_index b.limit place) run
wide_as k a b place run width limit wide =
    let P : ℕ → Type 0 = λ w. Wide k w (slice_index b.limit place) run in
    let Q : ℕ → Type 0 = λ n. Wide k (slice_index a.width place) n run in
    subst P (sym width) (subst Q (sym limit) wide)

pub other_at : (xs ys : List ℕ) (here place value : ℕ) → here ≢ place → ys ≡ slice_set xs here value → slice_index ys place ≡ slice_index xs place
other_at xs ys here place value other is = ap (λ zs. slice_index zs place) is ∙ get_or-set_other xs here place value 0 (λ e. other (sym e))

pub wide_other : (k : ℕ) (a b : Slots) (here place : ℕ) (run : List Code) → here ≢ place
    → b.width ≡ slice_set a.width here (slice_index b.width here) → b.limit ≡ slice_set a.limit here (slice_index b.limit here)
    → WideAt k a place run → WideAt k b place run
wide_other k a b here place run other width limit w =
    wide_as k a b place run (other_at a.width b.width here place _ other width) (other_at a.limit b.limit here place _ other limit) w
