-- A message with other values of some keys: their octets change in Section 0, in Section 1 and in every
-- Section 3 and 4, and no others.
use Rattle.std.specs.Prelude.{◌≡◌, ℕ, ◌+◌, ◌-◌, ◌*◌, ◌^◌, ◌≤◌, Bool, cond, ◌&&◌, ◌==◌, nat_lt, is_none, Option, Some, None, unwrap_or, List, [], ◌∷◌, ◌++◌, length, take, drop, map, ℤ, pos, negsuc}
use Rattle.std.specs.List.{concat, list_any, range_with_len}
use Rattle.std.specs.Option.{option_map_or}
use Rattle.grib_base.specs.Rules.{choose, or_later}
use Rattle.grib_bits.specs.Encoding.{octets_of}
use Rattle.grib2_sections.specs.Frame.{section_number}
use Rattle.grib2_sections.specs.Head.{end_mark}
use Rattle.grib_keys.specs.declared.key.Key.{Key}
use Rattle.grib_keys.specs.declared.condition.Value.{Value}
use Rattle.grib_keys.specs.declared.condition.Value.TheVariants.{Number, Missing}
use Rattle.grib_keys.specs.declared.condition.Change.{Change}
use Rattle.grib_keys.specs.declared.table.Octets.{Octets}
use Rattle.grib_keys.specs.declared.table.Kind.{Kind}
use Rattle.grib_keys.specs.Keys.{row_of, key_place, full_layout}
use Rattle.grib2_message.specs.Fields.{sections_of, field_count}
use Rattle.grib_select.specs.Values.{octet_count, is_all_ones, layout_of, key_value_of}
use Rattle.grib_select.specs.declared.changing.SetFault.{SetFault}
use Rattle.grib_select.specs.declared.changing.SetFault.TheVariants.{KeyRange, KeyAbsent, Memory}

-- how many octets the number of a key has: as many in each layout that has the key
abbrev pub key_octets : Key → ℕ
key_octets key = option_map_or octet_count (key_place key (full_layout (row_of key).section)) 0

-- the number of n octets without sign
abbrev pub unsigned_number : ℕ → ℤ → Option ℕ
unsigned_number n (pos x) = cond (nat_lt x (256 ^ n)) (Some x) None
unsigned_number n (negsuc x) = None

-- with sign and magnitude: the first bit is 1 where the number is below 0
abbrev pub signed_number : ℕ → ℤ → Option ℕ
signed_number n (pos x) = cond (nat_lt x (2 ^ (8 * n - 1))) (Some x) None
signed_number n (negsuc x) = cond (nat_lt (x + 1) (2 ^ (8 * n - 1))) (Some (2 ^ (8 * n - 1) + (x + 1))) None

-- all ones are no number where the number may be missing
abbrev pub unless_missing : Bool → ℕ → Option ℕ → Option ℕ
unless_missing may_be_missing n None = None
unless_missing may_be_missing n (Some number) = cond (may_be_missing && is_all_ones n number) None (Some number)

-- the number that n octets make where they hold this one, none where it does not fit
abbrev pub number_of : Bool → ℕ → ℤ → Option ℕ
number_of is_signed n x = cond is_signed (signed_number n x) (unsigned_number n x)

-- the number for a missing value
abbrev pub missing_number : Kind → ℕ → Option ℕ
missing_number kind n = cond kind.may_be_missing (Some (256 ^ n - 1)) None

-- the number that n octets make where they hold this value, none where it does not fit
abbrev pub number_for : Kind → ℕ → Value → Option ℕ
number_for kind n (Number x) = unless_missing kind.may_be_missing n (number_of kind.is_signed n x)
number_for kind n Missing = missing_number kind n

-- the number that the octets of the key are to make
abbrev pub new_number : Change → Option ℕ
new_number change = number_for (row_of change.key).kind (key_octets change.key) change.value

-- a section with these octets from octet `first` on, counted from 1
abbrev pub put : List ℕ → ℕ → List ℕ → List ℕ
put s first octets = take (first - 1) s ++ (octets ++ drop (first - 1 + length octets) s)

-- a section with the new number of a key, if it has the place of the key
abbrev pub put_number : Change → List ℕ → Option Octets → List ℕ
put_number change s None = s
put_number change s (Some place) = put s place.first (octets_of (octet_count place) (unwrap_or (new_number change) 0))

-- a section with this number and the new number of the key, where the key stands in it
abbrev pub with_key : Change → ℕ → List ℕ → List ℕ
with_key change number s =
    let row = row_of change.key in
    choose (row.section == number) (λ _. put_number change s (key_place change.key (layout_of number s))) (λ _. s)

abbrev pub with_changes : List Change → ℕ → List ℕ → List ℕ
with_changes [] number s = s
with_changes (change ∷ changes) number s = with_changes changes number (with_key change number s)

-- a section after Section 0 with all changes
abbrev pub changed : List Change → List ℕ → List ℕ
changed changes s = with_changes changes (section_number s) s

-- the message with all changes
abbrev pub with_keys : List ℕ → List Change → List ℕ
with_keys message changes =
    with_changes changes 0 (take 16 message) ++ (concat (map (λ s. changed changes s.octets) (sections_of message)) ++ end_mark)

-- ---- the octets that begin it

-- whether the key of some change stands in the sections with this number
abbrev pub has_change_in : List Change → ℕ → Bool
has_change_in changes number = list_any (λ c. (row_of c.key).section == number) changes

-- these octets and those of the message that come next, `end` in all
abbrev pub up_to : ℕ → List ℕ → List ℕ → List ℕ
up_to end message out = out ++ take (end - length out) (drop (length out) message)

-- these octets and those of the message up to the end of this section, with its changes, if it has one
abbrev pub with_section : List Change → List ℕ → List ℕ → ℕ → ℕ → List ℕ → List ℕ
with_section changes message out start number s =
    choose (has_change_in changes number) (λ _. up_to (start - 1) message out ++ with_changes changes number s) (λ _. out)

-- The octets that begin the message with all changes. Those after them are as they were, and the reference time,
-- which octets 13-19 of Section 1 state, is among them.
pub record IsChangedFront (message : List ℕ) (changes : List Change) (front : List ℕ) : Type 0 where
  pub joined : front ++ drop (length front) message ≡ with_keys message changes
  pub within : length front ≤ length message
  pub least : 16 + 19 ≤ length front

-- ---- why it is not made

-- the first of some fields that lacks the key
abbrev pub first_without : List ℕ → Key → List ℕ → Option SetFault
first_without message key [] = None
first_without message key (i ∷ fields) = cond (is_none (key_value_of message i key)) (Some (KeyAbsent i key)) (first_without message key fields)

-- why a change cannot be made: the value does not fit, or else a field lacks the key
abbrev pub change_fault : List ℕ → Change → Option SetFault
change_fault message change =
    choose (is_none (new_number change)) (λ _. Some (KeyRange change.key))
    (λ _. first_without message change.key (range_with_len 1 (field_count message)))

-- why the first change at fault cannot be made
abbrev pub set_fault : List ℕ → List Change → Option SetFault
set_fault message [] = None
set_fault message (change ∷ changes) = or_later (change_fault message change) (λ _. set_fault message changes)

-- a fault is this one; where there is no memory, nothing is said of it
abbrev pub IsSetFault : Option SetFault → SetFault → Type 0
IsSetFault expected (KeyRange key) = expected ≡ Some (KeyRange key)
IsSetFault expected (KeyAbsent field key) = expected ≡ Some (KeyAbsent field key)
IsSetFault expected Memory = Unit {0}
