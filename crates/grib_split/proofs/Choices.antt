-- The choices from a place on.
use Rattle.std.proofs.Common.{◌≡◌, ◌⊎◌, inl, inr, ℕ, ◌+◌, ◌<◌, ◌≤◌, List, [], ◌∷◌, length, drop, sym, subst, arith, length-drop, drop-drop}
use Rattle.std.specs.Prelude.{slice_index, slice_set}
use Rattle.std.proofs.lemmas.List.{get_or-set_same, get_or-set_other}
use Rattle.grib_base.specs.declared.code.Code.{Code}
use Rattle.grib_packing.specs.Groupings.{width_of, Chosen}
use Rattle.grib_split.specs.declared.choosing.Costs.{Costs}
use Rattle.grib_split.specs.declared.slots.Slots.{Slots}
use Rattle.grib_split.specs.Alike.{HeadsFrom}
use Rattle.grib_split.specs.Costs.{header_of}
use Rattle.grib_split.specs.Least as least
use Rattle.grib_split.specs.Least.{IsLeast, with_first, AreLeastAfter, IsHead}
use Rattle.grib_split.specs.Runs.{Afters, after_of}
use Rattle.grib_split.proofs.Optimal.{least_step, chosen_step}
use Rattle.grib_split.proofs.Following.{none_chosen}

-- what follows each first group costs what its slot says
pub least_after : (costs : Costs) (codes : List Code) (at : ℕ) (slots : Slots) → at < length codes
    → Afters (header_of costs) costs.reserved codes at slots
    → AreLeastAfter (header_of costs) (width_of costs.reserved) (drop at codes) (after_of slots at)
least_after costs codes at slots within afters l some most fits =
    let P : List Code → Type 0 = λ cs. IsLeast (header_of costs) (width_of costs.reserved) cs (after_of slots at l) in
    subst P (sym (drop-drop l at codes)) ((afters l some most).some (omega (arith, length-drop at codes, fits)))

pub cost_of_best : (costs : Costs) (codes : List Code) (at n cost : ℕ) (slots : Slots) → at < length codes
    → Afters (header_of costs) costs.reserved codes at slots
    → least.Best (header_of costs) (width_of costs.reserved) (drop at codes) (after_of slots at) n
    → cost ≡ with_first (header_of costs) (width_of costs.reserved) (drop at codes) n (after_of slots at n)
    → IsLeast (header_of costs) (width_of costs.reserved) (drop at codes) cost
cost_of_best costs codes at n cost slots within afters best is =
    let P : ℕ → Type 0 = λ c. IsLeast (header_of costs) (width_of costs.reserved) (drop at codes) c in
    subst P (sym is)
    (least_step (header_of costs) (width_of costs.reserved) (drop at codes) (after_of slots at) n best (least_after costs codes at slots within afters))

-- the codes from a place on have a chosen grouping
chosen_from : (costs : Costs) (codes : List Code) (at i : ℕ) (choices : List ℕ) → HeadsFrom costs codes at choices → at ≤ i → i ≤ length codes
    → (lengths : List ℕ) × Chosen (header_of costs) (width_of costs.reserved) (drop i codes) lengths
chosen_from costs codes at i choices heads from within = elim (reached i (length codes) within) [
  | inl before ↦ let h = heads i from before in (slice_index choices i ∷ h.0, h.1)
  | inr end ↦ ([], none_chosen (header_of costs) (width_of costs.reserved) (drop i codes) (omega (arith, end, length-drop i codes)))
]
  where
    reached : (i n : ℕ) → i ≤ n → (i < n) ⊎ (i ≡ n)
    reached i n within = grind arith

pub head_of_best : (costs : Costs) (codes : List Code) (at n : ℕ) (slots : Slots) (choices : List ℕ) → at < length codes
    → Afters (header_of costs) costs.reserved codes at slots
    → least.Best (header_of costs) (width_of costs.reserved) (drop at codes) (after_of slots at) n
    → HeadsFrom costs codes (at + 1) choices → IsHead (header_of costs) (width_of costs.reserved) (drop at codes) n
head_of_best costs codes at n slots choices within afters best heads =
    let rest = chosen_from costs codes (at + 1) (at + n) choices heads (omega (arith, best.some)) (omega (arith, best.fits, length-drop at codes)) in
    let P : List Code → Type 0 = λ cs. Chosen (header_of costs) (width_of costs.reserved) cs rest.0 in (
      rest.0,
      chosen_step (header_of costs) (width_of costs.reserved) (drop at codes) (after_of slots at) n rest.0
          best (least_after costs codes at slots within afters) (subst P (sym (drop-drop n at codes)) rest.1),
    )

-- the choices from this place on
pub heads_more : (costs : Costs) (codes : List Code) (at length_here : ℕ) (choices : List ℕ) → at < length choices
    → IsHead (header_of costs) (width_of costs.reserved) (drop at codes) length_here → HeadsFrom costs codes (at + 1) choices
    → HeadsFrom costs codes at (slice_set choices at length_here)
heads_more costs codes at length_here choices room head heads i from within = elim (here_or_later at i from) [
  | inl here ↦
      let P : ℕ → Type 0 = λ l. IsHead (header_of costs) (width_of costs.reserved) (drop at codes) l in
      let Q : ℕ → Type 0 = λ k. IsHead (header_of costs) (width_of costs.reserved) (drop k codes) (slice_index (slice_set choices at length_here) k) in
      subst Q here (subst P (sym (get_or-set_same choices at length_here 0 room)) head)
  | inr later ↦
      let P : ℕ → Type 0 = λ l. IsHead (header_of costs) (width_of costs.reserved) (drop i codes) l in
      subst P (sym (get_or-set_other choices at i length_here 0 (λ e. omega arith))) (heads i later within)
]
  where
    here_or_later : (at i : ℕ) → at ≤ i → (at ≡ i) ⊎ (at + 1 ≤ i)
    here_or_later at i from = grind arith
