-- How the words of a command line are read. Word 0 is the command; each later word is `name=value`, split
-- at its first `=`. Each command has its names, each name the rule of its value.
use Rattle.std.specs.Prelude.{ℕ, Bool, true, false, cond, not, ◌&&◌, ◌||◌, ◌==◌, nat_le, int_le, ◌+◌, ◌-◌, ℤ, pos, neg_ℤ, unwrap_or, Option, Some, None, is_some, List, [], ◌∷◌, ◌++◌, length, get_or, take, codes, Result, Ok, Err}
use Rattle.std.specs.List.{find, list_any, before_first, after_first}
use Rattle.std.specs.Option.{option_map_or}
use Rattle.std.specs.Str.{bytes_eq}
use Rattle.grib_keys.specs.declared.key.Key.{Key}
use Rattle.grib_keys.specs.Keys.{key_named, can_set}
use Rattle.grib_keys.specs.declared.key1.Key1.{Key1}
use Rattle.grib_keys.specs.Keys1.{key1_named, can_set1}
use Rattle.grib_words.specs.declared.command.Command.{Command}
use Rattle.grib_words.specs.declared.command.Command.TheVariants as the
use Rattle.grib_words.specs.declared.command.Command.TheVariants.{Check, Keys, Stats, Dump, Values, Coordinates, Filter, Split, Set, Repack, Migrate, Demote, Rescan, Crop, Compare, Make, Help, Version}
use Rattle.grib_words.specs.Choices.{is_test}
use Rattle.grib_words.specs.Columns.{is_columns, are_names}
use Rattle.grib_numbers.specs.Numbers.{number, is_between, signed_number}
use Rattle.grib_numbers.specs.Degrees.{degrees_of, are_degrees}
use Rattle.grib_words.specs.Values.{is_not_empty, key_value}

-- whether a text is this one
abbrev pub is : List ℕ → List ℕ → Bool
is this text = bytes_eq text this

abbrev pub is_equals : ℕ → Bool
is_equals octet = octet == 61

abbrev pub has_equals : List ℕ → Bool
has_equals word = list_any is_equals word

-- what stands before the first `=` of a word, and what stands behind it
abbrev pub name_in : List ℕ → List ℕ
name_in word = before_first is_equals word

abbrev pub value_in : List ℕ → List ℕ
value_in word = after_first is_equals word

-- a name, by a test, and the rule of its value
pub record Entry : Type 0 where
  pub is_name : List ℕ → Bool
  pub rule : List ℕ → Bool

abbrev pub entry : (List ℕ → Bool) → (List ℕ → Bool) → Entry
entry is_name rule = record { is_name = is_name; rule = rule }

abbrev pub is_key : List ℕ → Bool
is_key name = is_some (key_named name)

-- a name of `filter`: that of a key, with a `!` behind it where other values are asked for than those that follow
abbrev pub is_marked : List ℕ → Bool
is_marked name = get_or name (length name - 1) 0 == 33

abbrev pub unmarked : List ℕ → List ℕ
unmarked name = cond (is_marked name) (take (length name - 1) name) name

abbrev pub asked_key : List ℕ → Option Key
asked_key name = key_named (unmarked name)

abbrev pub is_asked : List ℕ → Bool
is_asked name = is_some (asked_key name)

abbrev pub is_key_to_set : List ℕ → Bool
is_key_to_set name = option_map_or can_set (key_named name) false

abbrev pub is_key_value : List ℕ → Bool
is_key_value value = is_some (key_value value)

-- the same of keys of edition 1, whose values are numbers
abbrev pub is_key1 : List ℕ → Bool
is_key1 name = is_some (key1_named name)

abbrev pub asked_key1 : List ℕ → Option Key1
asked_key1 name = key1_named (unmarked name)

abbrev pub is_asked1 : List ℕ → Bool
is_asked1 name = is_some (asked_key1 name)

abbrev pub is_any_asked : List ℕ → Bool
is_any_asked name = is_asked name || is_asked1 name

abbrev pub is_key1_to_set : List ℕ → Bool
is_key1_to_set name = option_map_or can_set1 (key1_named name) false

abbrev pub is_key1_value : List ℕ → Bool
is_key1_value value = is_some (signed_number value)

-- whether a name asks of messages of edition 1: that of a key of it, maybe with a `!`; or of fields of edition 2: that of a
-- key, or one on the names of parameters
abbrev pub is_on_first : List ℕ → Bool
is_on_first name = is_asked1 name

abbrev pub is_on_second : List ℕ → Bool
is_on_second name = is_asked name || (is (codes "name") name || is (codes "names") name)

-- whether two names are of different editions
abbrev pub are_mixed : List ℕ → List ℕ → Bool
are_mixed name other = (is_on_first name && is_on_second other) || (is_on_second name && is_on_first other)

-- whether a word has a name of the other edition than this one, and whether one of the words has
abbrev pub is_other : List ℕ → List ℕ → Bool
is_other name word = has_equals word && are_mixed name (name_in word)

abbrev pub is_mixed : List (List ℕ) → List ℕ → Bool
is_mixed words name = list_any (is_other name) words

-- where fields are packed anew: by which template of data, and of which order the differences are
abbrev pub target_entries : List Entry
target_entries =
    entry (is (codes "to")) (λ value. is (codes "0") value || is (codes "2") value || is (codes "3") value)
    ∷ entry (is (codes "order")) (λ value. is (codes "1") value || is (codes "2") value)
    ∷ []

-- or in which takes the fewest octets, or in blocks
abbrev pub repack_entries : List Entry
repack_entries = target_entries ++ entry (is (codes "to")) (λ value. is (codes "least") value || is (codes "42") value) ∷ []

-- what a made message is made from: where its numbers begin, and its points along a row and a column
abbrev pub size_entries : List Entry
size_entries =
    entry (is (codes "seed")) (is_between 0 2147483647)
    ∷ entry (is (codes "ni")) (is_between 1 4096)
    ∷ entry (is (codes "nj")) (is_between 1 4096)
    ∷ []

-- what a line of a field has behind its own, by this name, and the table of the names of parameters
abbrev pub line_entries : List ℕ → List Entry
line_entries name = entry (is name) is_columns ∷ entry (is (codes "names")) is_not_empty ∷ []

-- conditions on keys of either edition, and on the names of parameters
abbrev pub filter_entries : List Entry
filter_entries =
    entry is_any_asked is_test
    ∷ entry (is (codes "name")) are_names
    ∷ entry (is (codes "names")) is_not_empty
    ∷ []

-- new values of keys of either edition, and what is asked of dates
abbrev pub set_entries : List Entry
set_entries =
    entry is_key_to_set is_key_value
    ∷ entry is_key1_to_set is_key1_value
    ∷ entry (is (codes "dates")) (is (codes "valid"))
    ∷ []

-- a box of a grid: its first and last column, and its first and last row
abbrev pub is_side : List ℕ → Bool
is_side = is_between 0 33554431

abbrev pub box_entries : List Entry
box_entries =
    entry (is (codes "i0")) is_side
    ∷ entry (is (codes "i1")) is_side
    ∷ entry (is (codes "j0")) is_side
    ∷ entry (is (codes "j1")) is_side
    ∷ []

-- the edges of a box in degrees, or a place
abbrev pub is_latitude : List ℕ → Bool
is_latitude = are_degrees (neg_ℤ (pos 90000000)) (pos 90000000)

abbrev pub is_longitude : List ℕ → Bool
is_longitude = are_degrees (neg_ℤ (pos 360000000)) (pos 360000000)

abbrev pub degree_entries : List Entry
degree_entries =
    entry (is (codes "north")) is_latitude
    ∷ entry (is (codes "south")) is_latitude
    ∷ entry (is (codes "lat")) is_latitude
    ∷ entry (is (codes "west")) is_longitude
    ∷ entry (is (codes "east")) is_longitude
    ∷ entry (is (codes "lon")) is_longitude
    ∷ []

-- what `crop` is asked for
abbrev pub crop_entries : List Entry
crop_entries = box_entries ++ degree_entries

-- What a run does with octets that are refused and with messages that are kept: they are left out, or copied as they are.
-- Where lines are printed, nothing is copied between them.
abbrev pub is_instead : List ℕ → Bool
is_instead value = is (codes "copy") value || is (codes "pass") value

abbrev pub passed_entry : List ℕ → Entry
passed_entry name = entry (is name) (is (codes "pass"))

abbrev pub copied_entry : List ℕ → Entry
copied_entry name = entry (is name) is_instead

abbrev pub past_entries : Command → List Entry
past_entries Check = passed_entry (codes "refused") ∷ []
past_entries the.List = passed_entry (codes "refused") ∷ []
past_entries Keys = passed_entry (codes "refused") ∷ []
past_entries Stats = passed_entry (codes "refused") ∷ []
past_entries Dump = passed_entry (codes "refused") ∷ passed_entry (codes "kept") ∷ []
past_entries Values = passed_entry (codes "refused") ∷ passed_entry (codes "kept") ∷ []
past_entries Coordinates = passed_entry (codes "refused") ∷ passed_entry (codes "kept") ∷ []
past_entries Compare = []
past_entries Make = []
past_entries Help = []
past_entries Version = []
past_entries command = copied_entry (codes "refused") ∷ copied_entry (codes "kept") ∷ []

-- By which profile messages of edition 2 are accepted: with any grid, product and packing, where it is asked for.
abbrev pub profile_entry : Entry
profile_entry = entry (is (codes "profile")) (is (codes "open"))

abbrev pub profile_entries : Command → List Entry
profile_entries Make = []
profile_entries Help = []
profile_entries Version = []
profile_entries command = profile_entry ∷ []

-- the names that stand beside a command's own
abbrev pub policy_entries : Command → List Entry
policy_entries command = past_entries command ++ profile_entries command

-- whether a name has this value among the entries
abbrev pub takes : List Entry → List ℕ → List ℕ → Bool
takes those name value = list_any (λ e. e.is_name name && e.rule value) those

-- whether a word has this name, and whether one of the words has it
abbrev pub is_named : List ℕ → List ℕ → Bool
is_named name word = has_equals word && is name (name_in word)

abbrev pub has_name : List ℕ → List (List ℕ) → Bool
has_name name words = list_any (is_named name) words

-- whether this is one of the words
abbrev pub has_word : List ℕ → List (List ℕ) → Bool
has_word whole words = list_any (is whole) words

-- `to` is there; `order` is there beside `to=3`, and not otherwise
abbrev pub has_target : List (List ℕ) → Bool
has_target words =
    has_name (codes "to") words
    && cond (has_word (codes "to=3") words) (has_name (codes "order") words) (not (has_name (codes "order") words))

-- and `to=42` stands beside `profile=open`, which has that packing
abbrev pub has_repack_target : List (List ℕ) → Bool
has_repack_target words = has_target words && cond (has_word (codes "to=42") words) (has_word (codes "profile=open") words) true

-- the value of the word of this name, empty where none has it, and its number
abbrev pub value_of : List ℕ → List (List ℕ) → List ℕ
value_of name words = option_map_or value_in (find (is_named name) words) []

abbrev pub number_of : List ℕ → List (List ℕ) → ℕ
number_of name words = number (value_of name words)

-- the number of the word of this name, none where no word has it
abbrev pub number_if_given : List ℕ → List (List ℕ) → Option ℕ
number_if_given name words = cond (has_name name words) (Some (number_of name words)) None

-- the value of the word of this name, none where no word has it
abbrev pub value_if_given : List ℕ → List (List ℕ) → Option (List ℕ)
value_if_given name words = cond (has_name name words) (Some (value_of name words)) None

-- the number of one name is at most that of the other
abbrev pub in_order : List ℕ → List ℕ → List (List ℕ) → Bool
in_order least most words = nat_le (number_of least words) (number_of most words)

-- all sides of a box are there
abbrev pub has_sides : List (List ℕ) → Bool
has_sides words =
    has_name (codes "i0") words && (has_name (codes "i1") words && (has_name (codes "j0") words && has_name (codes "j1") words))

-- all sides of a box are there, and the last of them are not before the first
abbrev pub has_box : List (List ℕ) → Bool
has_box words =
    has_sides words && (in_order (codes "i0") (codes "i1") words && in_order (codes "j0") (codes "j1") words)

-- the degrees of the word of this name, in 10^-6 degree, 0 where no word has it
abbrev pub degrees_by : List ℕ → List (List ℕ) → ℤ
degrees_by name words = unwrap_or (degrees_of (value_of name words)) (pos 0)

-- all edges of a box in degrees are there, and the south is not north of the north
abbrev pub has_all_edges : List (List ℕ) → Bool
has_all_edges words =
    has_name (codes "north") words && (has_name (codes "south") words && (has_name (codes "west") words && has_name (codes "east") words))

abbrev pub has_edges : List (List ℕ) → Bool
has_edges words =
    has_all_edges words && int_le (degrees_by (codes "south") words) (degrees_by (codes "north") words)

-- some of the sides are there, or some of the edges
abbrev pub has_a_side : List (List ℕ) → Bool
has_a_side words =
    has_name (codes "i0") words || (has_name (codes "i1") words || (has_name (codes "j0") words || has_name (codes "j1") words))

abbrev pub has_an_edge : List (List ℕ) → Bool
has_an_edge words =
    has_name (codes "north") words || (has_name (codes "south") words || (has_name (codes "west") words || has_name (codes "east") words))

-- a place, a box in degrees, or a box by columns and rows: one of them alone
abbrev pub has_crop : List (List ℕ) → Bool
has_crop words =
    cond (has_name (codes "lat") words) (has_name (codes "lon") words && not (has_a_side words || has_an_edge words))
    (cond (has_name (codes "north") words) (has_edges words && not (has_name (codes "lon") words || has_a_side words))
    (has_box words && not (has_name (codes "lon") words || has_an_edge words)))

-- what is asked of all words of a command: nothing, or that there is one on a key
abbrev pub nothing : List (List ℕ) → Bool
nothing words = true

abbrev pub is_any_key : List ℕ → Bool
is_any_key name = is_key name || is_key1 name

abbrev pub is_on_key : List ℕ → Bool
is_on_key word = has_equals word && is_any_key (name_in word)

abbrev pub has_key : List (List ℕ) → Bool
has_key words = list_any is_on_key words

-- or that there is one that asks of a key
abbrev pub is_asking : List ℕ → Bool
is_asking word = has_equals word && is_any_asked (name_in word)

abbrev pub has_asking : List (List ℕ) → Bool
has_asking words = list_any is_asking words

-- or, in its place, one on the names of parameters; such a one and the table of names stand together
abbrev pub has_condition : List (List ℕ) → Bool
has_condition words =
    cond (has_name (codes "name") words) (has_name (codes "names") words) (not (has_name (codes "names") words) && has_asking words)

-- whether a word is on a key of edition 1, and whether one of the words is
abbrev pub is_of_first : List ℕ → Bool
is_of_first word = has_equals word && is_on_first (name_in word)

abbrev pub has_first : List (List ℕ) → Bool
has_first words = list_any is_of_first words

-- a command's name, the names of its own words with the rules of their values, and what is asked of all its words
pub record Row : Type 0 where
  pub name : List ℕ
  pub entries : List Entry
  pub is_complete : List (List ℕ) → Bool

abbrev pub row : List ℕ → List Entry → (List (List ℕ) → Bool) → Row
row name entries is_complete = record { name = name; entries = entries; is_complete = is_complete }

abbrev pub row_of : Command → Row
row_of Check = row (codes "check") [] nothing
row_of the.List = row (codes "list") (line_entries (codes "with")) nothing
row_of Keys = row (codes "keys") (line_entries (codes "show")) nothing
row_of Stats = row (codes "stats") [] nothing
row_of Dump =
    row (codes "dump") (entry (is (codes "decimals")) (is_between 0 18) ∷ entry (is (codes "place")) (is (codes "yes")) ∷ []) nothing
row_of Values = row (codes "values") (entry (is (codes "as")) (λ value. is (codes "f4") value || is (codes "f8") value) ∷ []) nothing
row_of Coordinates = row (codes "coordinates") [] nothing
row_of Filter = row (codes "filter") filter_entries has_condition
row_of Split =
    row (codes "split") (entry (is (codes "out")) is_not_empty ∷ entry (is (codes "editions")) (is (codes "both")) ∷ [])
    (has_name (codes "out"))
row_of Set = row (codes "set") set_entries has_key
row_of Repack = row (codes "repack") repack_entries has_repack_target
row_of Migrate =
    row (codes "migrate")
    (entry (is (codes "params")) is_not_empty ∷ entry (is (codes "surfaces")) is_not_empty
    ∷ entry (is (codes "local")) (λ value. is (codes "keep") value || is (codes "ecmwf") value) ∷ [])
    (has_name (codes "params"))
row_of Demote =
    row (codes "demote")
    (entry (is (codes "params")) is_not_empty ∷ entry (is (codes "local")) (is (codes "keep")) ∷ entry (is (codes "earth")) (is (codes "any"))
    ∷ entry (is (codes "tables")) (is (codes "any")) ∷ [])
    (has_name (codes "params"))
row_of Rescan = row (codes "rescan") [] nothing
row_of Crop = row (codes "crop") crop_entries has_crop
row_of Compare =
    row (codes "compare")
    (entry (is (codes "with")) is_not_empty ∷ entry (is (codes "sections")) (is (codes "all")) ∷ entry (is (codes "quiet")) (is (codes "yes")) ∷ [])
    (has_name (codes "with"))
row_of Make =
    row (codes "make") (size_entries ++ target_entries)
    (λ words. has_name (codes "seed") words && (has_name (codes "ni") words && (has_name (codes "nj") words && has_target words)))
row_of Help = row (codes "help") [] nothing
row_of Version = row (codes "version") [] nothing

abbrev pub name_of : Command → List ℕ
name_of command = (row_of command).name

-- whether a command reads messages
abbrev pub reads_input : Command → Bool
reads_input Make = false
reads_input Help = false
reads_input Version = false
reads_input command = true

abbrev pub commands : List Command
commands =
    Check ∷ the.List ∷ Keys ∷ Stats ∷ Dump ∷ Values ∷ Coordinates ∷ Filter ∷ Split ∷ Set ∷ Repack ∷ Migrate ∷ Demote ∷ Rescan ∷ Crop ∷ Compare ∷ Make ∷ Help ∷ Version ∷ []

-- whether a word is the name of a command; those on the program itself may have `--` before their names
abbrev pub is_called : Command → List ℕ → Bool
is_called Help word = is (codes "help") word || is (codes "--help") word
is_called Version word = is (codes "version") word || is (codes "--version") word
is_called command word = is (row_of command).name word

-- the command of this name, if there is one
abbrev pub command_named : List ℕ → Option Command
command_named word = find (λ command. is_called command word) commands

-- the names of its own words, and behind them those beside them
abbrev pub own_entries : Command → List Entry
own_entries command = (row_of command).entries

abbrev pub entries : Command → List Entry
entries command = own_entries command ++ policy_entries command

abbrev pub is_complete : Command → List (List ℕ) → Bool
is_complete command words = (row_of command).is_complete words

-- whether several words may have this name: those of `filter` that ask of a key, all of which have to hold
abbrev pub may_repeat : Command → List ℕ → Bool
may_repeat Filter name = is_any_asked name
may_repeat command name = false

-- whether a word is read: it has a `=`, the command has its name with its value, no earlier word has its name, unless
-- several may have it, and none has a name of the other edition
abbrev pub is_read : Command → List (List ℕ) → List ℕ → Bool
is_read command earlier word =
    has_equals word
    && (takes (entries command) (name_in word) (value_in word)
    && ((may_repeat command (name_in word) || not (has_name (name_in word) earlier)) && not (is_mixed earlier (name_in word))))

-- how many of the words are read, from the first on
abbrev pub read_count : Command → List (List ℕ) → List (List ℕ) → ℕ
read_count command earlier [] = length earlier
read_count command earlier (word ∷ later) =
    cond (is_read command earlier word) (read_count command (earlier ++ word ∷ []) later) (length earlier)

-- the command that the words behind it complete, or the place of the first word that is not read: all of
-- them are read where a name that is needed is missing, and the place is then the number of words
abbrev pub reading_of : Option Command → List (List ℕ) → Result Command ℕ
reading_of None later = Err 0
reading_of (Some command) later =
    let count = read_count command [] later in
    cond ((count == length later) && is_complete command later) (Ok command) (Err (count + 1))

-- the command that the words ask for, or the place of the first word that is not read
abbrev pub reading : List (List ℕ) → Result Command ℕ
reading [] = Err 0
reading (first ∷ later) = reading_of (command_named first) later
