-- How many octets a message of edition 2 has at least: Section 1 stands in it.
use Rattle.std.proofs.Common.{◌≡◌, ℕ, ◌+◌, ◌≤◌, Bool, true, false, ◌||◌, ◌==◌, IsTrue, List, [], ◌∷◌, length, refl, sym, ◌∙◌, arith, length-append, eqb-true, ltb-false}
use Rattle.std.specs.List.{concat}
use Rattle.grib_base.specs.declared.profile.Profile.{Profile}
use Rattle.grib_base.specs.Rules.{first_fault}
use Rattle.grib2_sections.specs.Frame.{placed_at, section_number, may_follow}
use Rattle.grib2_sections.specs.Identification.{identification_rules}
use Rattle.grib2_message.specs.Grammar.{AreSections}
use Rattle.grib2_message.specs.Message.{IsMessageUnder}
use Rattle.grib2_message.proofs.Parted.{message_parted, message_states}
use Rattle.grib2_message.proofs.Passed.{passes_from_none}
use Rattle.grib2_message.proofs.Sound.{none_located, fault_of}

-- Section 1 alone may be the first
first_number : (n : ℕ) → IsTrue (may_follow 0 n) → n ≡ 1
first_number n follows = by (1 == n) refl follows
  where
    by : (b : Bool) → (1 == n) ≡ b → ((1 == n) || false) ≡ true → n ≡ 1
    by true e follows = sym (eqb-true 1 n e)
    by false e follows = absurd (cc)

pub long_first : (profile : Profile) (m : List ℕ) → IsMessageUnder profile m → 35 ≤ length m
long_first profile m h = let f = message_parted profile m h in by f.sections f.follow (f.ends ∙ message_states profile m h)
  where
    by : (sections : List (List ℕ)) → AreSections profile [] 17 sections → 17 + length (concat sections) + 3 ≡ length m → 35 ≤ length m
    by [] follow ends = absurd (cc)
    by (s ∷ sections) follow ends =
        let is = follow.0 in
        let number = first_number (section_number s) is.follows in
        let none = none_located 17 (first_fault (identification_rules s)) (sym (fault_of profile [] (placed_at 17 s) 1 number) ∙ is.rules_hold) in
        let long = ltb-false (length s) 21 (passes_from_none (identification_rules s) none).0 in
        omega (arith, long, ends, length-append s (concat sections))
