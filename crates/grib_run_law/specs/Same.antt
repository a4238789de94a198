-- What the octets that a command writes for a message have in common with it.
use Rattle.std.specs.Prelude.{◌≡◌, ◌≢◌, ◌⊎◌, ℕ, ◌+◌, ◌<◌, ◌≤◌, ◌==◌, ◌&&◌, Bool, true, cond, Some, List, [], length, map, filter, All, AllPairs}
use Rattle.std.specs.List.{concat, flat_map, range_with_len}
use Rattle.grib_base.specs.declared.profile.Profile.{Profile}
use Rattle.grib_bits.specs.Octets.{octets}
use Rattle.grib_dyadic.specs.Meaning.{SameMeaning}
use Rattle.grib_packing.specs.declared.column.Column.{Column}
use Rattle.grib1_sections.specs.Column.{column1_of, meaning1_of}
use Rattle.grib1_sections.specs.Keys.{key1_of, number1_of}
use Rattle.grib_keys.specs.Keys1.{place_of}
use Rattle.grib1_sections.specs.Message.{IsMessage1}
use Rattle.grib_keys.specs.declared.key1.Key1.{Key1}
use Rattle.grib2_sections.specs.Head.{edition}
use Rattle.grib2_message.specs.Message.{IsMessageUnder}
use Rattle.grib2_message.specs.Fields.{field_count, column_of, meaning_of}
use Rattle.grib_keys.specs.declared.condition.Change.{Change}
use Rattle.grib_keys.specs.declared.wanted.Wanted.{Wanted}
use Rattle.grib1_select.specs.declared.condition.Change1.{Change1}
use Rattle.grib1_select.specs.declared.condition.Wanted1.{Wanted1}
use Rattle.grib1_select.specs.Values.{fulfils_all1}
use Rattle.grib_dates.specs.declared.rule.Dates.{Dates}
use Rattle.grib_dates.specs.declared.rule.Dates.TheVariants.{Valid}
use Rattle.grib_dates.specs.Times.{is_valid_time1, is_valid_time2}
use Rattle.grib_names.specs.Table.{NameEntries}
use Rattle.grib_edit.specs.Filtering.{fulfils}
use Rattle.grib_edit.specs.FilteringNamed.{fulfils_named}
use Rattle.grib_select.specs.Values.{key_value_of}

-- `repack`: a message that is accepted by a profile and whose points mean what those of the message mean
pub record SameValues (profile : Profile) (message other : List ℕ) : Type 0 where
  pub accepted : IsMessageUnder profile other
  pub fields : field_count other ≡ field_count message
  pub points : (i : ℕ) → 1 ≤ i → i ≤ field_count message → meaning_of other i ≡ meaning_of message i

-- `migrate`: an accepted message of edition 2, with one field whose points mean what those of a message of edition 1
-- mean; for one of edition 2 it is that message
pub record SameMigrated (profile : Profile) (message other : List ℕ) : Type 0 where
  pub accepted : IsMessageUnder profile other
  pub one_field : edition message ≡ 1 → field_count other ≡ 1
  pub points : edition message ≡ 1 → SameMeaning (meaning_of other 1) (meaning1_of message)
  pub copied : edition message ≢ 1 → other ≡ message

-- `set`: an accepted message with the columns of the message. Where no key stands twice among the changes, each of its
-- fields has the keys with their new values. Where dates are to be valid, its reference time is a date and time.
pub record SetsKeys (profile : Profile) (dates : Dates) (changes : List Change) (message other : List ℕ) : Type 0 where
  pub accepted : IsMessageUnder profile other
  pub fields : field_count other ≡ field_count message
  pub columns : (i : ℕ) → column_of other i ≡ column_of message i
  pub values : AllPairs (λ a b. a.key ≢ b.key) changes → (i : ℕ) → 1 ≤ i → i ≤ field_count message
      → All (λ c. key_value_of other i c.key ≡ Some c.value) changes
  pub dated : dates ≡ Valid → is_valid_time2 other ≡ true

-- `set` of edition 1: an accepted message of edition 1 with the column of the message. Where no key stands twice among the
-- changes, it has the keys with their new values. Each other key has the number that it had, and all octets but those of the
-- keys are as they were. Where dates are to be valid, its reference time is a date and time.
pub record SetsKeys1 (dates : Dates) (changes : List Change1) (message other : List ℕ) : Type 0 where
  pub accepted : IsMessage1 other
  pub column : column1_of other ≡ column1_of message
  pub values : AllPairs (λ a b. a.key ≢ b.key) changes → All (λ c. number1_of other c.key ≡ c.value) changes
  pub others : (key : Key1) → All (λ c. c.key ≢ key) changes → key1_of other key ≡ key1_of message key
  pub as_long : length other ≡ length message
  pub rest : (q : ℕ) → 1 ≤ q → All (λ c. (q < 8 + (place_of c.key).first) ⊎ (8 + (place_of c.key).last < q)) changes
      → octets other q q ≡ octets message q q
  pub dated : dates ≡ Valid → is_valid_time1 other ≡ true

-- the columns of the fields of a message, one after another
abbrev pub columns_of : List ℕ → List Column
columns_of message = map (column_of message) (range_with_len 1 (field_count message))

-- the columns of those of its fields that are picked
abbrev pub columns_picked : (List ℕ → ℕ → Bool) → List ℕ → List Column
columns_picked picks message = map (column_of message) (filter (picks message) (range_with_len 1 (field_count message)))

-- accepted messages, whose fields are those of a message that are picked, each with its column
pub record IsPicked (profile : Profile) (picks : List ℕ → ℕ → Bool) (message : List ℕ) (others : List (List ℕ)) : Type 0 where
  pub accepted : All (IsMessageUnder profile) others
  pub columns : flat_map columns_of others ≡ columns_picked picks message

-- such messages, one after another
abbrev pub ArePicked : Profile → (List ℕ → ℕ → Bool) → List ℕ → List ℕ → Type 0
ArePicked profile picks message text = (others : List (List ℕ)) × (text ≡ concat others) × IsPicked profile picks message others

-- `filter`: the fields that fulfil the conditions, and those that have one of some names too
abbrev pub IsFiltered : Profile → List Wanted → List ℕ → List ℕ → Type 0
IsFiltered profile conditions = ArePicked profile (fulfils conditions)

abbrev pub IsFilteredNamed : Profile → List Wanted → List (List ℕ) → NameEntries → List ℕ → List ℕ → Type 0
IsFilteredNamed profile conditions wanted names = ArePicked profile (fulfils_named conditions wanted names)

-- `filter` of edition 1: the message, where it is of edition 1 and fulfils the conditions, and nothing of any other
abbrev pub IsFiltered1 : List Wanted1 → List ℕ → List ℕ → Type 0
IsFiltered1 conditions message text = text ≡ cond ((edition message == 1) && fulfils_all1 message conditions) message []

-- ---- messages of octets

-- numbers below 256, as the octets of every input are
abbrev pub AreOctets : List ℕ → Type 0
AreOctets text = All (λ octet. octet < 256) text

-- this holds of what is written for a message, where that is of octets
abbrev pub IfOctets : (List ℕ → List ℕ → Type 0) → List ℕ → List ℕ → Type 0
IfOctets Is message text = AreOctets message → Is message text
