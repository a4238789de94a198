-- Lemmas on fields whose groups are all alike, where no points are kept.
use Rattle.std.proofs.Common.{◌≡◌, ℕ, ◌+◌, ◌*◌, ◌≤◌, Bool, false, eqb, Some, List, length, drop, sym, ap, ap₂, ◌∙◌, arith, inl, inr}
use Rattle.std.proofs.lemmas.Bool.{cases_eq, cond-false, ne_eqb}
use Rattle.grib_bits.specs.Bits.{bits}
use Rattle.grib_base.specs.declared.fault.Fault.{Fault}
use Rattle.grib_base.specs.declared.fault.Reason.TheVariants.{ScaledRange}
use Rattle.grib_base.specs.Rules.{first_place, located, refusal}
use Rattle.grib_packing.specs.declared.column.Point.{Point}
use Rattle.grib_packing.specs.Differences.{NoNumber}
use Rattle.grib_packing.specs.Entries.{entries_of, group_entries, is_out_of_range}
use Rattle.grib_packing.specs.Groups.{codes_from, groups, list_octets}
use Rattle.grib_packing.specs.Packing.{value_count}
use Rattle.grib_complex_reading.specs.declared.noted.Told.{Told}
use Rattle.grib_complex_reading.specs.declared.representation.Complex.{Complex}
use Rattle.grib_complex_reading.specs.Alike.{AllPass, AreAlike, ListsFail, RangeFails, place_beyond}
use Rattle.grib_complex_reading.specs.Descriptors.{IsAccepted, descriptors_in, is_signed_at, telling_by, telling_told}
use Rattle.grib_complex_reading.specs.Feeding.{Continues, IsFaultOf, PassingAgrees}
use Rattle.grib_complex_reading.specs.Representation.{Spelled}
use Rattle.grib_complex_reading.specs.Told.{Telling, Plainly, After, told as points_of}
use Rattle.grib_complex_reading.proofs.Arriving.{came_entries, came_refused, came_whole, entries_grouped}
use Rattle.grib_complex_reading.proofs.Begun.{told_count}
use Rattle.grib_complex_reading.proofs.Outcome.{beyond_range, plain_range, within_range}
use Rattle.grib_complex_reading.proofs.Uniform.{no_octets, values_are}

module _ (complex : Complex) (s5 : List ℕ) (spelled : Spelled complex s5) (accepted : IsAccepted complex) (some : 1 ≤ complex.layout.groups) (start l : ℕ) (octets : List ℕ)
    (within : 5 + (complex.order + 1) * complex.extra + list_octets complex.layout ≤ l) (came : (complex.order + 1) * complex.extra ≤ length octets)
    (told : Told) (order : told.order ≡ complex.order)
    (told_is : (s7 : List ℕ) → Continues octets l s7 → telling_told told ≡ telling_by complex.order complex.extra s7)
    (unsigned : (s7 : List ℕ) → Continues octets l s7 → (is_signed_at complex.order complex.extra s7 0 ≡ false) × (is_signed_at complex.order complex.extra s7 1 ≡ false)) where
  abbrev k : ℕ
  k = (complex.order + 1) * complex.extra

  abbrev numbers : List ℕ → List Bool
  numbers s7 = bits (drop (k + list_octets complex.layout) (drop 5 s7))

  -- there are no octets of lists
  whole : AreAlike complex.layout → (complex.order + 1) * complex.extra + list_octets complex.layout ≤ length octets
  whole alike = omega (arith, no_octets complex.layout alike, came)

  -- the numbers of differences
  module _ (alike : AreAlike complex.layout) (some_order : told.order ≡ 0 → ⊥) (s7 : List ℕ) (continues : Continues octets l s7) where
    place_there : place_beyond complex told (drop k octets) (numbers s7) ≡ first_place is_out_of_range (group_entries s5 s7)
    place_there =
        let after : After (descriptors_in told) NoNumber ≡ telling_by complex.order complex.extra s7 =
        sym (cond-false (eqb told.order 0) Plainly (After (descriptors_in told) NoNumber) (ne_eqb told.order 0 some_order)) ∙ told_is s7 continues in
        ap (first_place is_out_of_range)
        (ap (λ (t : Telling). points_of t (codes_from complex.layout (groups complex.layout (drop k octets)) (numbers s7))) after
        ∙ came_entries complex s5 spelled accepted some start l octets s7 continues within (whole alike)
        ∙ entries_grouped complex s5 spelled accepted some s7)

  -- no rule fails
  pub settled_passes : {K : Type 0} (kept : K → List Point → K → Type 0) (keeper : K) → ((points : List Point) → kept keeper points keeper) → AllPass complex told start l
      → PassingAgrees kept s5 keeper l octets keeper
  settled_passes kept keeper keeps all = record {
    passes = λ s7 continues.
        came_whole complex s5 spelled accepted some start l octets s7 continues within (whole all.alike) (unsigned s7 continues) (all.lists (drop k octets))
        ∙ elim (cases_eq told.order 0) [
          | inl none ↦ plain_range complex s5 s7 spelled accepted (sym order ∙ none)
          | inr differs ↦ elim all.within [
            | inl none ↦ absurd (differs none)
            | inr nowhere ↦ within_range s5 s7 (sym (place_there all.alike differs s7 continues) ∙ nowhere (drop k octets) (numbers s7))
          ]
        ];
    counted = λ s7 continues.
        told_count complex.layout (groups complex.layout (drop k octets)) (telling_by complex.order complex.extra s7) (numbers s7) (entries_of s5 s7) (value_count s5)
        (came_entries complex s5 spelled accepted some start l octets s7 continues within (whole all.alike))
        (values_are complex.layout all.alike (drop k octets) some start k l complex.simple.values (all.lists (drop k octets)) ∙ spelled.simple.values);
    keeps = keeps;
  }

  -- the lists are refused
  pub settled_lists : (fault : Fault) → ListsFail complex start l fault → IsFaultOf s5 start l octets fault
  settled_lists fault fail = λ s7 continues.
      came_refused complex s5 spelled accepted some start l octets s7 continues within (whole fail.alike) (unsigned s7 continues) fault (fail.lists (drop k octets))

  -- a number is out of range
  pub settled_range : (fault : Fault) → RangeFails complex told start l fault → IsFaultOf s5 start l octets fault
  settled_range fault fail = λ s7 continues.
      let here : first_place is_out_of_range (group_entries s5 s7) ≡ fail.place = sym (place_there fail.alike fail.order s7 continues) ∙ fail.beyond (drop k octets) (numbers s7) in
      let origin : start + 0 ≡ start = omega arith in
      ap (located start) (came_whole complex s5 spelled accepted some start l octets s7 continues within (whole fail.alike) (unsigned s7 continues) (fail.lists (drop k octets))
      ∙ beyond_range s5 s7 (elim accepted.order [
        | inl two ↦ absurd (fail.order (order ∙ two.1))
        | inr three ↦ sym spelled.simple.template ∙ three.0
      ]) (omega (arith, here, fail.some)))
      ∙ ap₂ (λ (o d : ℕ). Some (refusal o ScaledRange d)) origin here
      ∙ ap Some (sym fail.fault_is)
