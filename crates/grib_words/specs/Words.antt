-- What the words of a command line ask for: the job of the command, by the values of its words.
use Rattle.std.specs.Prelude.{◌≡◌, ◌⊎◌, ℕ, ◌-◌, ◌^◌, ℤ, Bool, true, cond, ◌||◌, Option, Some, None, option_map, List, [], drop, codes, Result, Ok, Err}
use Rattle.std.specs.List.{filter_map}
use Rattle.std.specs.Option.{option_and_then}
use Rattle.grib_base.specs.declared.profile.Profile.{Profile}
use Rattle.grib_base.specs.declared.profile.Profile.TheVariants.{Stated, Open}
use Rattle.grib_keys.specs.declared.key.Key.{Key}
use Rattle.grib_keys.specs.declared.condition.Value.{Value}
use Rattle.grib_keys.specs.declared.condition.Change.{Change}
use Rattle.grib_keys.specs.declared.wanted.Choice.{Choice}
use Rattle.grib_keys.specs.declared.wanted.Test.{Test}
use Rattle.grib_keys.specs.declared.wanted.Test.TheVariants.{Among, Outside}
use Rattle.grib_keys.specs.declared.wanted.Wanted.{Wanted}
use Rattle.grib_keys.specs.Keys.{key_named}
use Rattle.grib_keys.specs.declared.key1.Key1.{Key1}
use Rattle.grib_keys.specs.Keys1.{key1_named}
use Rattle.grib1_select.specs.declared.condition.Change1.{Change1}
use Rattle.grib1_select.specs.declared.condition.Wanted1.{Wanted1}
use Rattle.grib_dates.specs.declared.rule.Dates.{Dates}
use Rattle.grib_dates.specs.declared.rule.Dates.TheVariants as dates
use Rattle.grib_text.specs.declared.column.LineForm.{LineForm}
use Rattle.grib_text.specs.declared.column.LineForm.TheVariants as forms
use Rattle.grib_nearest.specs.declared.format.Format.{Format}
use Rattle.grib_nearest.specs.declared.format.Format.TheVariants.{Binary32, Binary64}
use Rattle.grib_migrate.specs.declared.labels.Local.{Local}
use Rattle.grib_migrate.specs.declared.labels.Local.TheVariants.{Refuse, Keep, Ecmwf}
use Rattle.grib_params.specs.declared.matching.TableMatch.{TableMatch}
use Rattle.grib_params.specs.declared.matching.TableMatch.TheVariants.{Any, Same}
use Rattle.grib_packing.specs.declared.target.RepackTarget.{RepackTarget}
use Rattle.grib_packing.specs.declared.target.RepackTarget.TheVariants.{Simple, Complex, Spatial, Coded}
use Rattle.grib_rescan.specs.declared.points.Area.{Area}
use Rattle.grib_rescan.specs.declared.bounds.Bounds.{Bounds}
use Rattle.grib_rescan.specs.declared.bounds.Bounds.TheVariants.{Box, Nearest}
use Rattle.grib_command.specs.declared.job.Job.{Job}
use Rattle.grib_command.specs.declared.job.Job.TheVariants as jobs
use Rattle.grib_command.specs.declared.page.Page.TheVariants as pages
use Rattle.grib_words.specs.declared.job.JobFault.{JobFault}
use Rattle.grib_words.specs.declared.job.JobFault.TheVariants.{Usage, Memory}
use Rattle.grib_words.specs.declared.command.Command.{Command}
use Rattle.grib_words.specs.declared.command.Command.TheVariants as commands
use Rattle.grib_words.specs.Choices.{choices_of}
use Rattle.grib_words.specs.Columns.{columns_in, names_in}
use Rattle.grib_numbers.specs.Numbers.{is_between, signed_number}
use Rattle.grib_words.specs.Values.{key_value}
use Rattle.grib_items.specs.declared.policy.Instead.{Instead}
use Rattle.grib_items.specs.declared.policy.Instead.TheVariants.{Copy, Pass}
use Rattle.grib_items.specs.declared.policy.Policy.{Policy}
use Rattle.grib_words.specs.Reading.{is, is_marked, asked_key, asked_key1, name_in, value_in, value_of, value_if_given, number_of, number_if_given, degrees_by, has_name, has_word, has_first, reading}

-- by which profile messages of edition 2 are accepted
abbrev pub profile_of : List (List ℕ) → Profile
profile_of words = cond (has_word (codes "profile=open") words) Open Stated

-- CCSDS packing with the usual blocks: 32 values, and a reference each 128 blocks
abbrev pub usual_blocks : RepackTarget
usual_blocks = Coded 32 128

-- what `to` and `order` ask for
abbrev pub target_of : List (List ℕ) → RepackTarget
target_of words =
    let to = value_of (codes "to") words in
    cond (is (codes "0") to) Simple (cond (is (codes "2") to) Complex (cond (is (codes "42") to) usual_blocks (Spatial (number_of (codes "order") words))))

-- how the words ask messages to be repacked
abbrev pub repack_of : List (List ℕ) → Job
repack_of words = cond (is (codes "least") (value_of (codes "to") words)) (jobs.RepackLeast (profile_of words)) (jobs.Repack (target_of words))

-- the sides of a box fit 32 bits
pub record SidesStand (words : List (List ℕ)) : Type 0 where
  pub i0 : is_between 0 (2 ^ 32 - 1) (value_of (codes "i0") words) ≡ true
  pub i1 : is_between 0 (2 ^ 32 - 1) (value_of (codes "i1") words) ≡ true
  pub j0 : is_between 0 (2 ^ 32 - 1) (value_of (codes "j0") words) ≡ true
  pub j1 : is_between 0 (2 ^ 32 - 1) (value_of (codes "j1") words) ≡ true

-- the box whose sides the words give
abbrev pub area_of : List (List ℕ) → Area
area_of words = record {
  i0 = number_of (codes "i0") words;
  i1 = number_of (codes "i1") words;
  j0 = number_of (codes "j0") words;
  j1 = number_of (codes "j1") words;
}

-- what `crop` asks for: the point nearest to a place, a box in degrees, or a box by columns and rows
abbrev pub nearest_of : List (List ℕ) → Bounds
nearest_of words = Nearest (degrees_by (codes "lat") words) (degrees_by (codes "lon") words)

abbrev pub edges_of : List (List ℕ) → Bounds
edges_of words =
    Box (degrees_by (codes "north") words) (degrees_by (codes "south") words) (degrees_by (codes "west") words) (degrees_by (codes "east") words)

abbrev pub crop_of : List (List ℕ) → Job
crop_of words =
    cond (has_name (codes "lat") words) (jobs.Within (nearest_of words))
    (cond (has_name (codes "north") words) (jobs.Within (edges_of words)) (jobs.Crop (area_of words)))

abbrev pub change : Key → Value → Change
change key value = record { key = key; value = value }

-- the key of a word's name with the value that the word gives it, none where there is no such key or no value
abbrev pub change_of : List ℕ → Option Change
change_of word =
    option_and_then (λ key. option_map (change key) (key_value (value_in word))) (key_named (name_in word))

-- the changes of the words, in their order
abbrev pub changes_of : List (List ℕ) → List Change
changes_of words = filter_map change_of words

-- the same of keys of edition 1, whose values are numbers
abbrev pub change1 : Key1 → ℤ → Change1
change1 key value = record { key = key; value = value }

abbrev pub change1_of : List ℕ → Option Change1
change1_of word =
    option_and_then (λ key. option_map (change1 key) (signed_number (value_in word))) (key1_named (name_in word))

abbrev pub changes1_of : List (List ℕ) → List Change1
changes1_of words = filter_map change1_of words

-- that a value is one of these, or, by a `!` behind the name, none of them
abbrev pub test_of : Bool → List Choice → Test
test_of is_marked choices = cond is_marked (Outside choices) (Among choices)

abbrev pub wanted : Bool → Key → List Choice → Wanted
wanted is_marked key choices = record { key = key; test = test_of is_marked choices }

-- the key that a word asks of, with what it asks, none where there is no such key or the word has no such values
abbrev pub wanted_of : List ℕ → Option Wanted
wanted_of word =
    option_and_then (λ key. option_map (wanted (is_marked (name_in word)) key) (choices_of (value_in word))) (asked_key (name_in word))

-- the conditions of the words, in their order
abbrev pub conditions_of : List (List ℕ) → List Wanted
conditions_of words = filter_map wanted_of words

-- the same of keys of edition 1
abbrev pub wanted1 : Bool → Key1 → List Choice → Wanted1
wanted1 is_marked key choices = record { key = key; test = test_of is_marked choices }

abbrev pub wanted1_of : List ℕ → Option Wanted1
wanted1_of word =
    option_and_then (λ key. option_map (wanted1 (is_marked (name_in word)) key) (choices_of (value_in word))) (asked_key1 (name_in word))

abbrev pub conditions1_of : List (List ℕ) → List Wanted1
conditions1_of words = filter_map wanted1_of words

-- lines of this form, with the columns that the word of this name gives and, where the words name a table of names, by it
abbrev pub lines_by : LineForm → List ℕ → List (List ℕ) → Job
lines_by form name words = jobs.Lines form (columns_in (value_of name words)) (value_if_given (codes "names") words)

-- the lines of `list`, and of `keys`
abbrev pub list_of : List (List ℕ) → Job
list_of words = cond (has_name (codes "with") words || has_name (codes "names") words) (lines_by forms.List (codes "with") words) jobs.List

abbrev pub keys_of : List (List ℕ) → Job
keys_of words =
    cond (has_name (codes "show") words) (lines_by forms.Show (codes "show") words)
    (cond (has_name (codes "names") words) (jobs.Lines forms.Keys [] (value_if_given (codes "names") words)) jobs.Keys)

-- conditions on keys of edition 1 by themselves, or on keys of edition 2 and the names of parameters
abbrev pub by_name : List (List ℕ) → Job
by_name words = jobs.FilterNamed (conditions_of words) (value_of (codes "names") words) (names_in (value_of (codes "name") words))

abbrev pub filter_of : List (List ℕ) → Job
filter_of words =
    cond (has_name (codes "name") words) (by_name words)
    (cond (has_first words) (jobs.Filter1 (conditions1_of words)) (jobs.Filter (conditions_of words)))

-- which reference times a message may have once it is changed
abbrev pub dates_of : List (List ℕ) → Dates
dates_of words = cond (has_name (codes "dates") words) dates.Valid dates.Any

-- new values of keys of edition 1 by themselves, or of keys of edition 2
abbrev pub set_of : List (List ℕ) → Job
set_of words =
    cond (has_first words) (jobs.Set1 (changes1_of words) (dates_of words)) (jobs.Set (changes_of words) (dates_of words))

-- which tables a record of the parameter table may have
abbrev pub matching_of : List (List ℕ) → TableMatch
matching_of words = cond (has_name (codes "tables") words) Any Same

-- what becomes of octets for local use, by the value of `local`
abbrev pub local_of : List (List ℕ) → Local
local_of words =
    let local = value_of (codes "local") words in
    cond (is (codes "keep") local) Keep (cond (is (codes "ecmwf") local) Ecmwf Refuse)

-- the format of the values of an array
abbrev pub format_of : List (List ℕ) → Format
format_of words = cond (is (codes "f4") (value_of (codes "as") words)) Binary32 Binary64

-- the job of a command with these words behind it
abbrev pub job_of_command : Command → List (List ℕ) → Result Job JobFault
job_of_command commands.Check words = Ok jobs.Check
job_of_command commands.List words = Ok (list_of words)
job_of_command commands.Keys words = Ok (keys_of words)
job_of_command commands.Stats words = Ok jobs.Stats
job_of_command commands.Dump words = Ok (jobs.Dump (number_if_given (codes "decimals") words) (has_name (codes "place") words))
job_of_command commands.Values words = Ok (jobs.Values (format_of words))
job_of_command commands.Coordinates words = Ok jobs.Coordinates
job_of_command commands.Filter words = Ok (filter_of words)
job_of_command commands.Split words = Ok (jobs.Split (value_of (codes "out") words) (has_name (codes "editions") words))
job_of_command commands.Set words = Ok (set_of words)
job_of_command commands.Repack words = Ok (repack_of words)
job_of_command commands.Migrate words =
    Ok (jobs.Migrate (value_of (codes "params") words) (value_if_given (codes "surfaces") words) (local_of words))
job_of_command commands.Demote words =
    Ok (jobs.Demote (value_of (codes "params") words) (has_name (codes "local") words) (has_name (codes "earth") words) (matching_of words))
job_of_command commands.Rescan words = Ok jobs.Rescan
job_of_command commands.Crop words = Ok (crop_of words)
job_of_command commands.Compare words = Ok (jobs.Compare (value_of (codes "with") words) (has_name (codes "sections") words) (has_name (codes "quiet") words))
job_of_command commands.Make words =
    Ok (jobs.Make (number_of (codes "seed") words) (number_of (codes "ni") words) (number_of (codes "nj") words) (target_of words))
job_of_command commands.Help words = Ok (jobs.Print pages.Help)
job_of_command commands.Version words = Ok (jobs.Print pages.Version)

abbrev pub job_of_reading : Result Command ℕ → List (List ℕ) → Result Job JobFault
job_of_reading (Ok command) words = job_of_command command words
job_of_reading (Err word) words = Err (Usage word)

-- the job that the words ask for
abbrev pub job_of : List (List ℕ) → Result Job JobFault
job_of words = job_of_reading (reading words) (drop 1 words)

-- ---- what the run does with what it cannot answer

-- what is written instead, by the word that asks for a copy and the one that asks for nothing
abbrev pub instead_by : List ℕ → List ℕ → List (List ℕ) → Option Instead
instead_by copied passed words = cond (has_word copied words) (Some Copy) (cond (has_word passed words) (Some Pass) None)

abbrev pub policy_of : List (List ℕ) → Policy
policy_of words = record {
  refused = instead_by (codes "refused=copy") (codes "refused=pass") words;
  kept = instead_by (codes "kept=copy") (codes "kept=pass") words;
}

-- ---- words without a reading

-- a result is this one, unless there is no memory
abbrev pub IsUnlessMemory : Result Job JobFault → Result Job JobFault → Type 0
IsUnlessMemory result expected = (result ≡ expected) ⊎ (result ≡ Err Memory)

abbrev pub IsAsked : Result Job JobFault → List (List ℕ) → Type 0
IsAsked result words = IsUnlessMemory result (job_of words)
