-- The sections of a message have its octets.
use Rattle.std.proofs.Common.{◌≡◌, ℕ, zero, suc, ◌+◌, ◌-◌, ◌*◌, ◌^◌, ◌<◌, ◌≤◌, Bool, true, false, cond, ◌&&◌, ◌==◌, Some, List, [], ◌∷◌, length, take, drop, All, find, arith, pow_mono}
use Rattle.std.specs.Option.{option_map_or}
use Rattle.std.proofs.lemmas.List.{length-take}
use Rattle.std.proofs.lemmas.List.Elements.{All-nil, All-take, All-drop}
use Rattle.grib_bits.specs.Bits.{bits, num, digit}
use Rattle.grib_bits.specs.Octets.{num_on, octets}
use Rattle.grib_bits.proofs.Numbers.{num-lt}
use Rattle.grib_bits.proofs.OctetBits.{length-bits, num_on-bits}
use Rattle.grib_base.specs.Rules.{choose}
use Rattle.grib2_sections.specs.Frame.{Placed, placed_at, ends_at, section_at}
use Rattle.grib_packing.proofs.Sections.{AreOctets-all}
use Rattle.grib2_message.specs.View.{is_numbered, octets_in_force}
use Rattle.grib2_message.specs.Fields.{sections_from, sections_of, sections_up_to_field, field_sections, part_octets}

-- a number of at most w bits in octets
pub number_few : (xs : List ℕ) (w : ℕ) → All (λ octet. octet < 256) xs → 8 * length xs ≤ w → num_on 0 xs < 2 ^ w
number_few xs w each few =
    let value : num_on 0 xs ≡ 0 * 256 ^ length xs + num (bits xs) = num_on-bits 0 xs (AreOctets-all xs each) in
    let none : 0 * 256 ^ length xs ≡ 0 = omega arith in
    let count : length (bits xs) ≤ w = omega (arith, length-bits xs) in
    let power : 2 ^ length (bits xs) ≤ 2 ^ w = pow_mono count in
    omega (arith, value, none, num-lt (bits xs), power)

-- the number that octets `first` to `last` make
pub octets_few : (s : List ℕ) (first last w : ℕ) → All (λ octet. octet < 256) s → 8 * (last + 1 - first) ≤ w → octets s first last < 2 ^ w
octets_few s first last w each few =
    let part = take (last + 1 - first) (drop (first - 1) s) in
    number_few part w (All-take (λ octet. octet < 256) (last + 1 - first) (drop (first - 1) s) (All-drop (λ octet. octet < 256) (first - 1) s each))
    (omega (arith, length-take (last + 1 - first) (drop (first - 1) s)))

-- sections of octets
abbrev AreOf : List Placed → Type 0
AreOf [] = Unit {0}
AreOf (s ∷ sections) = All (λ octet. octet < 256) s.octets × AreOf sections

choose_either : (b : Bool) (here there : List Placed) → AreOf here → AreOf there → AreOf (choose b (λ _. here) (λ _. there))
choose_either true here there a c = a
choose_either false here there a c = c

cond_either : (b : Bool) (here there : List Placed) → AreOf here → AreOf there → AreOf (cond b here there)
cond_either true here there a c = a
cond_either false here there a c = c

section_of_octets : (message : List ℕ) (q : ℕ) → All (λ octet. octet < 256) message → All (λ octet. octet < 256) (section_at message q)
section_of_octets message q each =
    let last = q - 1 + octets message q (q + 3) in
    All-take (λ octet. octet < 256) (last + 1 - q) (drop (q - 1) message) (All-drop (λ octet. octet < 256) (q - 1) message each)

all_from : (turns : ℕ) (message : List ℕ) (q : ℕ) → All (λ octet. octet < 256) message → AreOf (sections_from turns message q)
all_from zero message q each = tt
all_from (suc turns) message q each =
    let s = section_at message q in
    choose_either (ends_at message q) [] (placed_at q s ∷ sections_from turns message (q + length s)) tt
    (section_of_octets message q each, all_from turns message (q + length s) each)

all_up_to : (i : ℕ) (before sections : List Placed) → AreOf before → AreOf sections → AreOf (sections_up_to_field i before sections)
all_up_to i before [] a c = a
all_up_to i before (s ∷ sections) a c =
    let ends = is_numbered 7 s in
    cond_either (ends && (i == 1)) (s ∷ before) (sections_up_to_field (i - digit ends) (s ∷ before) sections) (c.0, a)
    (all_up_to (i - digit ends) (s ∷ before) sections (c.0, a) c.1)

all_in_force : (k : ℕ) (before : List Placed) → AreOf before → All (λ octet. octet < 256) (octets_in_force k before)
all_in_force k [] a = All-nil (λ octet. octet < 256)
all_in_force k (s ∷ before) a = go (is_numbered k s) (all_in_force k before a.1) where
  go : (b : Bool) → All (λ octet. octet < 256) (octets_in_force k before) → All (λ octet. octet < 256) (option_map_or (λ t. t.octets) (cond b (Some s) (find (is_numbered k) before)) [])
  go true behind = a.0
  go false behind = behind

pub part_of_octets : (message : List ℕ) (i k : ℕ) → All (λ octet. octet < 256) message → All (λ octet. octet < 256) (part_octets message i k)
part_of_octets message i k each =
    all_in_force k (field_sections message i) (all_up_to i [] (sections_of message) tt (all_from (length message) message 17 each))
