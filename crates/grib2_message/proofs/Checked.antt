-- What the code knows of the sections before the next one.
use Rattle.std.proofs.Common.{◌≡◌, ℕ, ◌+◌, ◌≤◌, Option, Some, None, Result, Ok, Err, MatchResult, List, [], ◌∷◌, length, get_or, sym, ap, ◌∙◌, arith, subst}
use Rattle.grib_base.specs.declared.profile.Profile.{Profile}
use Rattle.grib_base.specs.declared.fault.Fault.{Fault}
use Rattle.grib_bitmap.specs.Mask.{own_mask, present_count}
use Rattle.grib2_sections.specs.Frame.{Placed}
use Rattle.grib2_message.specs.Kept.{StandsAt, AreSound, begun, HasPlaces, KeepsBitmap, TellsBitmap}
use Rattle.grib2_message.specs.View.{last_number, points_in_force, bitmap_mask, section_count}
use Rattle.grib_base.specs.Faults.{AreTried, IsReadFault}
use Rattle.grib_base.specs.declared.fault.ReadFault.{ReadFault}
use Rattle.grib2_message.specs.declared.in_force.Bitmap.{Bitmap}
use Rattle.grib2_message.specs.declared.places.Places.{Places}
use Rattle.grib2_message.proofs.Latest.{in_force_stands}
use Rattle.grib2_message.proofs.Order.{Follows, next, skips, again, begun_none}
use Rattle.grib2_message.proofs.Bitmaps.{own_tells}

-- a section that has to be in force stands where its place is kept
pub stands_below : (m : List ℕ) (before : List Placed) (places : Places) (k : ℕ) → HasPlaces m before places → 3 ≤ k → k ≤ 7 → k ≤ last_number before
    → StandsAt m (get_or places.starts k 0) k
stands_below m before places k h low high within =
    in_force_stands m before places k h (omega arith) (h.force.sound.present k (omega arith) within (λ e. absurd (omega arith)))

-- what is kept of the earlier bitmap tells what its rule asks
pub keeps_tells : (bitmap : Option Bitmap) (earlier : List Placed) → KeepsBitmap bitmap earlier → TellsBitmap bitmap (bitmap_mask earlier)
keeps_tells None [] h = tt
keeps_tells None (s ∷ before) h = absurd h
keeps_tells (Some bitmap) [] h = absurd h
keeps_tells (Some bitmap) (s ∷ before) h =
    let told = own_tells s.octets bitmap.points bitmap.present h.own h.rules in
    let bits : own_mask s.octets (points_in_force before) ≡ own_mask s.octets bitmap.points = ap (own_mask s.octets) (sym h.points) in
    (ap length bits ∙ told.0, ap present_count bits ∙ told.1)

-- a Section 4 stands after as many others as there are fields
pub products_are_fields : (profile : Profile) (before : List Placed) → AreSound profile before → Follows (last_number before) 4 → section_count 4 before ≡ section_count 7 before
products_are_fields profile before h f =
    let last = last_number before in
    let none : begun last ≡ 0 = elim f [
      | next e low ↦ begun_none last (λ same. absurd (omega arith)) (λ same. absurd (omega arith)) (λ same. absurd (omega arith))
      | skips a b ↦ begun_none last (λ same. absurd (omega arith)) (λ same. absurd (omega arith)) (λ same. absurd (omega arith))
      | again a b e ↦ begun_none last (λ same. absurd (omega arith)) (λ same. absurd (omega arith)) (λ same. absurd (omega arith))
    ] in
    let counted : section_count 4 before ≡ section_count 7 before + begun last = h.counted in
    omega arith

-- rules that were tried are those of the section, and where none fails, this is known
pub tried_as : {A : Type 0} (real expected : Option Fault) (result : Result A ReadFault) (Known : Type 0) → real ≡ expected → AreTried expected result → (real ≡ None → Known)
    → MatchResult result (λ _. (real ≡ None) × Known) (IsReadFault real)
tried_as real expected (Ok x) Known e h then = (let none : real ≡ None = e ∙ h in (none, then none))
tried_as real expected (Err fault) Known e h then = subst (λ (o : Option Fault). IsReadFault o fault) (sym e) h
