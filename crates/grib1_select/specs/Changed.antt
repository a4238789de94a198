-- A message of edition 1 with other values of some numbers of Section 1: their octets change, and no others.
use Rattle.std.specs.Prelude.{◌≡◌, ℕ, ◌+◌, ◌-◌, ◌^◌, cond, nat_lt, is_none, Option, Some, None, option_map, unwrap_or, List, [], ◌∷◌, ◌++◌, length, take, drop, ℤ, pos, negsuc}
use Rattle.std.specs.List.{find}
use Rattle.grib_bits.specs.Encoding.{octets_of}
use Rattle.grib1_sections.specs.Acceptance.{identification}
use Rattle.grib_keys.specs.Keys1.{place_of}
use Rattle.grib_keys.specs.declared.key1.Key1.{Key1}
use Rattle.grib1_select.specs.declared.condition.Change1.{Change1}
use Rattle.grib1_select.specs.declared.changing.SetFault1.{SetFault1}
use Rattle.grib1_select.specs.declared.changing.SetFault1.TheVariants.{KeyRange, Memory}

-- how many octets the number of a key has
abbrev pub octet_count : Key1 → ℕ
octet_count key = let place = place_of key in place.last + 1 - place.first

-- a number from 0 on and below the limit, none where it is another
abbrev pub number_below : ℕ → ℤ → Option ℕ
number_below limit (pos x) = cond (nat_lt x limit) (Some x) None
number_below limit (negsuc x) = None

-- the number that the octets of the key are to make, none where the value does not fit
abbrev pub new_number1 : Change1 → Option ℕ
new_number1 change = number_below (256 ^ octet_count change.key) change.value

-- a Section 1 with the new number of the key
abbrev pub with_key1 : Change1 → List ℕ → List ℕ
with_key1 change s =
    let place = place_of change.key in
    take (place.first - 1) s ++ (octets_of (octet_count change.key) (unwrap_or (new_number1 change) 0) ++ drop place.last s)

-- with all changes
abbrev pub with_changes1 : List Change1 → List ℕ → List ℕ
with_changes1 [] s = s
with_changes1 (change ∷ changes) s = with_changes1 changes (with_key1 change s)

-- the message with all changes in Section 1, which begins at octet 9
abbrev pub with_keys1 : List ℕ → List Change1 → List ℕ
with_keys1 message changes =
    let s = identification message in
    take 8 message ++ (with_changes1 changes s ++ drop (8 + length s) message)

-- the first key whose value does not fit
abbrev pub set_fault1 : List Change1 → Option Key1
set_fault1 changes = option_map (λ change. change.key) (find (λ change. is_none (new_number1 change)) changes)

-- a fault is this one; where there is no memory, nothing is said of it
abbrev pub IsSetFault1 : Option Key1 → SetFault1 → Type 0
IsSetFault1 expected (KeyRange key) = expected ≡ Some key
IsSetFault1 expected Memory = Unit {0}
