-- The sections that are found in a message are those that it is joined of.
use Rattle.std.proofs.Common.{◌≡◌, ℕ, zero, suc, ◌+◌, ◌<◌, Bool, true, false, List, [], ◌∷◌, length, map, refl, ap, ◌∙◌, arith, length-append}
use Rattle.std.specs.List.{concat}
use Rattle.grib_base.specs.declared.profile.Profile.{Profile}
use Rattle.grib_base.specs.Rules.{choose}
use Rattle.grib2_sections.specs.Frame.{Placed, placed_at, section_at, ends_at}
use Rattle.grib2_message.specs.Grammar.{AreSections}
use Rattle.grib2_message.specs.Fields.{sections_from}
use Rattle.grib2_message.proofs.Joined.{Stand, ends_here, begins}

-- sections one after another from octet q on, with their places
abbrev pub placed_from : ℕ → List (List ℕ) → List Placed
placed_from q [] = []
placed_from q (s ∷ sections) = placed_at q s ∷ placed_from (q + length s) sections

-- without their places they are the sections again
pub octets_placed : (q : ℕ) (sections : List (List ℕ)) → map (λ s. s.octets) (placed_from q sections) ≡ sections
octets_placed q [] = refl
octets_placed q (s ∷ sections) = ap (λ xs. s ∷ xs) (octets_placed (q + length s) sections)

-- no section is found where the End Section stands
pub none_found : (ends : Bool) (later : Unit {0} → List Placed) → ends ≡ true → choose ends (λ _. []) later ≡ []
none_found ends later e = rw e

-- and one where it does not
pub some_found : (ends : Bool) (later : Unit {0} → List Placed) → ends ≡ false → choose ends (λ _. []) later ≡ later tt
some_found ends later e = rw e

-- a section at q, and those found after it
abbrev found_after : ℕ → List ℕ → ℕ → List ℕ → List Placed
found_after turns m q s = placed_at q s ∷ sections_from turns m (q + length s)

-- what is found from octet q on
pub found_from : (profile : Profile) (sections : List (List ℕ)) (turns : ℕ) (m : List ℕ) (before : List Placed) (q total : ℕ) (after : List ℕ)
    → AreSections profile before q sections → Stand m q total sections after → length (concat sections) < turns
    → sections_from turns m q ≡ placed_from q sections
found_from profile sections zero m before q total after follow h more = absurd (omega arith)
found_from profile [] (suc turns) m before q total after follow h more =
    none_found (ends_at m q) (λ _. found_after turns m q (section_at m q)) (ends_here m q total after h)
found_from profile (s ∷ sections) (suc turns) m before q total after follow h more =
    let is = follow.0 in
    let b = begins m q total s sections after is.length_stands is.least h in
    some_found (ends_at m q) (λ _. found_after turns m q (section_at m q)) b.goes
    ∙ (ap (found_after turns m q) b.is
    ∙ ap (λ found. placed_at q s ∷ found)
    (found_from profile sections turns m (placed_at q s ∷ before) (q + length s) total after follow.1 b.more (omega (arith, is.least, length-append s (concat sections)))))
