-- What `help` tells of words: the text on a name, what a command line of the words would do, or the word at which it is at
-- fault, and why. Where the fault is goes by the reading of the words.
use Rattle.std.specs.Prelude.{ℕ, Bool, true, false, cond, not, ◌&&◌, ◌||◌, ◌==◌, nat_lt, Option, Some, None, List, [], ◌∷◌, ◌++◌, length, map, get_or, take, codes, Result, Ok, Err}
use Rattle.std.specs.List.{concat, fold, list_any}
use Rattle.std.specs.Fmt.{decimal}
use Rattle.grib_topics.specs.Topics.{told_of}
use Rattle.grib_topics.specs.Nearest.{nearest_command, nearest_key}
use Rattle.grib_topics.specs.Shown.{shown}
use Rattle.grib_words.specs.declared.command.Command.{Command}
use Rattle.grib_words.specs.declared.command.Command.TheVariants as the
use Rattle.grib_words.specs.declared.command.Command.TheVariants.{Check, Keys, Stats, Dump, Values, Coordinates, Filter, Split, Set, Repack, Migrate, Demote, Rescan, Crop, Compare, Make, Help, Version}
use Rattle.grib_words.specs.Reading.{Entry, is, has_equals, name_in, value_in, is_key1, is_any_key, is_on_first, is_mixed, has_first, has_a_side, has_an_edge, name_of, reads_input, own_entries, policy_entries, entries, takes, has_name, has_word, command_named, reading}

abbrev pub is_empty : List ℕ → Bool
is_empty text = length text == 0

-- words with a blank before each
abbrev pub spaced_word : List ℕ → List ℕ
spaced_word word = codes " " ++ word

abbrev pub spaced : List (List ℕ) → List ℕ
spaced words = concat (map spaced_word words)

-- whether there are words
abbrev pub has_any : List (List ℕ) → Bool
has_any [] = false
has_any (first ∷ later) = true

-- a text as a line, whatever characters its words have
abbrev pub line : List ℕ → List ℕ
line text = shown text ++ codes "\n"

-- the command that the first word names
abbrev pub command_of : List (List ℕ) → Option Command
command_of [] = None
command_of (first ∷ later) = command_named first

-- ---- names

-- whether one of the entries has this name
abbrev pub has_entry : List Entry → List ℕ → Bool
has_entry entries name = list_any (λ it. it.is_name name) entries

-- whether a command takes a name, with some value
abbrev pub knows_own : Command → List ℕ → Bool
knows_own command name = has_entry (own_entries command) name

abbrev pub knows_policy : Command → List ℕ → Bool
knows_policy command name = has_entry (policy_entries command) name

abbrev pub knows : Command → List ℕ → Bool
knows command name = has_entry (entries command) name

-- ---- what a value is

abbrev pub policy_rule : Command → List ℕ
policy_rule Check = codes "pass"
policy_rule the.List = codes "pass"
policy_rule Keys = codes "pass"
policy_rule Stats = codes "pass"
policy_rule Dump = codes "pass"
policy_rule Values = codes "pass"
policy_rule Coordinates = codes "pass"
policy_rule command = codes "copy or pass"

abbrev pub own_rule : List ℕ → List ℕ
own_rule name =
    cond (is (codes "decimals") name) (codes "a whole number from 0 to 18")
    (cond (is (codes "as") name) (codes "f8 or f4")
    (cond (is (codes "place") name) (codes "yes")
    (cond (is (codes "north") name || is (codes "south") name || is (codes "lat") name) (codes "degrees from -90 to 90, with up to six decimals")
    (cond (is (codes "west") name || is (codes "east") name || is (codes "lon") name) (codes "degrees from -360 to 360, with up to six decimals")
    (cond (is (codes "out") name) (codes "a name that the names of the files begin with")
    (cond (is (codes "params") name || is (codes "surfaces") name || is (codes "names") name) (codes "the name of a file")
    (cond (is (codes "to") name) (codes "0, 2 or 3")
    (cond (is (codes "order") name) (codes "1 or 2")
    (cond (is (codes "local") name) (codes "keep")
    (cond (is (codes "earth") name || is (codes "tables") name) (codes "any")
    (cond (is (codes "seed") name) (codes "a whole number from 0 to 2147483647")
    (cond (is (codes "ni") name || is (codes "nj") name) (codes "a whole number from 1 to 4096")
    (cond (is (codes "with") name || is (codes "show") name) (codes "one or more of the keys, at and octets, with commas between them; all keys: grib help keys")
    (cond (is (codes "editions") name) (codes "both")
    (codes "a whole number from 0 to 33554431")))))))))))))))

abbrev pub repack_rule : List ℕ → List ℕ
repack_rule name = cond (is (codes "to") name) (codes "0, 2, 3, 42 or least") (own_rule name)

abbrev pub migrate_rule : List ℕ → List ℕ
migrate_rule name = cond (is (codes "local") name) (codes "keep or ecmwf") (own_rule name)

-- of a key in `filter`; one of edition 1 is never missing
abbrev pub condition_rule : List ℕ → List ℕ
condition_rule name =
    cond (is_on_first name) (codes "a value, a list as 1,2 or a range as 0..24; a value is a whole number without zeros before it")
    (codes "a value, a list as 1,2 or a range as 0..24; a value is a whole number without zeros before it, or missing")

abbrev pub filter_rule : List ℕ → List ℕ
filter_rule name =
    cond (is (codes "name") name) (codes "one or more names with commas between them, each of 1 to 32 letters, digits, _ and -")
    (cond (is (codes "names") name) (own_rule name) (condition_rule name))

abbrev pub set_rule : List ℕ → List ℕ
set_rule name =
    cond (is (codes "dates") name) (codes "valid")
    (cond (is_key1 name) (codes "a whole number without zeros before it, as 98 or 0")
    (codes "a whole number without zeros before it, as 98, 0 or -5, or missing"))

abbrev pub compare_rule : List ℕ → List ℕ
compare_rule name = cond (is (codes "with") name) (codes "the name of a file") (cond (is (codes "sections") name) (codes "all") (codes "yes"))

abbrev pub command_rule : Command → List ℕ → List ℕ
command_rule Filter name = filter_rule name
command_rule Set name = set_rule name
command_rule Compare name = compare_rule name
command_rule Repack name = repack_rule name
command_rule Migrate name = migrate_rule name
command_rule command name = own_rule name

abbrev pub rule_of : Command → List ℕ → List ℕ
rule_of command name =
    cond (is (codes "profile") name) (codes "open")
    (cond (is (codes "refused") name || is (codes "kept") name) (policy_rule command) (command_rule command name))

-- ---- why a word is not read

abbrev pub is_dashed : List ℕ → Bool
is_dashed word = get_or word 0 0 == 45

-- a name that is none of this kind, with the nearest one where there is one, and where all stand
abbrev pub no_such : List ℕ → List ℕ → List ℕ → List ℕ
no_such kind nearest all =
    cond (is_empty nearest) (concat (codes "no " ∷ kind ∷ codes " has this name; " ∷ all ∷ []))
    (concat (codes "no " ∷ kind ∷ codes " has this name; nearest: " ∷ nearest ∷ codes "; " ∷ all ∷ []))

-- a word that is the name of no command
abbrev pub no_command : List ℕ → List ℕ
no_command word =
    cond (is_dashed word) (codes "no arguments but --help and --version begin with a dash")
    (no_such (codes "command") (nearest_command word) (codes "all commands: grib help"))

-- a word without a `=`: it begins with a dash, or is a name without a value, or else taken for the name of a file, with
-- a line that reads the file
abbrev pub dashed : Command → List ℕ
dashed command =
    concat (codes "no argument after " ∷ name_of command ∷ codes " begins with a dash; its arguments: grib help " ∷ name_of command ∷ [])

abbrev pub valueless : List ℕ → List ℕ
valueless word = concat (word ∷ codes " wants a value; write " ∷ word ∷ codes "=VALUE" ∷ [])

abbrev pub no_file : Command → List ℕ
no_file command = concat (name_of command ∷ codes " reads no file; its arguments: grib help " ∷ name_of command ∷ [])

-- what stands for the words beside the command and the name of a file
abbrev pub others : List (List ℕ) → List ℕ
others words = cond (length words == 2) [] (codes " ..")

abbrev pub by_input : Command → List (List ℕ) → List ℕ → List ℕ
by_input command words word =
    concat (name_of command ∷ codes " takes no file name; write grib " ∷ name_of command ∷ others words ∷ codes " < " ∷ word ∷ [])

abbrev pub bare_reason : Command → List ℕ → List (List ℕ) → List ℕ
bare_reason command word words =
    cond (is_dashed word) (dashed command)
    (cond (knows command word) (valueless word)
    (cond (not (reads_input command)) (no_file command)
    (by_input command words word)))

-- a name that is that of a key that cannot be set, or of no key
abbrev pub fixed : List ℕ → List ℕ
fixed name = concat (name ∷ codes " is fixed, and cannot be set; all keys: grib help keys" ∷ [])

abbrev pub key_reason : List ℕ → List ℕ
key_reason name = cond (is_any_key name) (fixed name) (no_such (codes "key") (nearest_key name) (codes "all keys: grib help keys"))

-- a name that a command without keys does not take
abbrev pub by_filter : Command → List ℕ → List ℕ → List ℕ
by_filter command name value =
    concat (name_of command ∷ codes " takes no key; write grib filter " ∷ concat (name ∷ codes "=" ∷ value ∷ []) ∷ codes " < FILE | grib " ∷ name_of command ∷ [])

abbrev pub no_name : Command → List ℕ → List ℕ
no_name command name =
    concat (name_of command ∷ codes " has no " ∷ name ∷ codes "=; its arguments: grib help " ∷ name_of command ∷ [])

-- whether a name is that of a key, and the command one that reads messages
abbrev pub is_filtered : Command → List ℕ → Bool
is_filtered command name = is_any_key name && reads_input command

abbrev pub name_reason : Command → List ℕ → List ℕ → List ℕ
name_reason command name value = cond (is_filtered command name) (by_filter command name value) (no_name command name)

-- whether a command takes keys
abbrev pub takes_keys : Command → Bool
takes_keys Filter = true
takes_keys Set = true
takes_keys command = false

abbrev pub unknown : Command → List ℕ → List ℕ → List ℕ
unknown command name value = cond (takes_keys command) (key_reason name) (name_reason command name value)

-- a name with a value: it is read but for an earlier word, which has a name of the other edition or the same name; or the
-- name is taken and not the value; or not the name
abbrev pub mixed : List ℕ → List ℕ
mixed name =
    cond (is_on_first name) (codes " is of edition 1, and an argument before it of edition 2; write those of one edition")
    (codes " is of edition 2, and an argument before it of edition 1; write those of one edition")

abbrev pub value_is : Command → List ℕ → List ℕ
value_is command name = concat (name ∷ codes " is " ∷ rule_of command name ∷ [])

abbrev pub beside : List ℕ → List (List ℕ) → List ℕ
beside name earlier = cond (is_mixed earlier name) (mixed name) (codes "= stands before; each name stands once")

abbrev pub not_beside : List ℕ → List (List ℕ) → List ℕ
not_beside name earlier = concat (name ∷ beside name earlier ∷ [])

abbrev pub named_reason : Command → List ℕ → List ℕ → List (List ℕ) → List ℕ
named_reason command name value earlier =
    cond (takes (entries command) name value) (not_beside name earlier)
    (cond (knows command name) (value_is command name)
    (unknown command name value))

abbrev pub reason_behind : Command → ℕ → List (List ℕ) → List ℕ
reason_behind command place words =
    let word = get_or words place [] in
    cond (has_equals word) (named_reason command (name_in word) (value_in word) (take place words)) (bare_reason command word words)

abbrev pub reason_by : Option Command → ℕ → List (List ℕ) → List ℕ
reason_by None place words = no_command (get_or words place [])
reason_by (Some command) place words = reason_behind command place words

abbrev pub reason_at : ℕ → List (List ℕ) → List ℕ
reason_at place words = reason_by (command_of words) place words

-- the line on a word that is not read: its place, the word itself, and why
abbrev pub fault_line : ℕ → List (List ℕ) → List ℕ
fault_line place words =
    line (concat (codes "word " ∷ decimal place ∷ codes " \"" ∷ get_or words place [] ∷ codes "\": " ∷ reason_at place words ∷ []))

-- ---- what is wanted where all words are read

-- a name behind those that are wanted, where none of the words has it
abbrev pub with_wanted : List (List ℕ) → List ℕ → List ℕ → List ℕ
with_wanted words text name =
    cond (has_name name words) text
    (cond (is_empty text) (concat (name ∷ codes "=" ∷ [])) (concat (text ∷ codes " and " ∷ name ∷ codes "=" ∷ [])))

-- the names that none of the words has, or else this
abbrev pub or_else : List ℕ → List ℕ → List ℕ
or_else text other = cond (is_empty text) other text

abbrev pub named_or : List (List ℕ) → List (List ℕ) → List ℕ → List ℕ
named_or words names other = or_else (fold (with_wanted words) [] names) other

abbrev pub order_wanted : List (List ℕ) → List ℕ
order_wanted words = cond (has_word (codes "to=3") words) (codes "order=1 or order=2 beside to=3") (codes "order= beside to=3 alone")

-- beside `to` of repack: the profile that has the packing, or the order
abbrev pub beside_to : List (List ℕ) → List ℕ
beside_to words = cond (has_word (codes "to=42") words && not (has_word (codes "profile=open") words)) (codes "profile=open beside to=42") (order_wanted words)

-- of `filter`: the table of names and those that are asked for stand together; else a key
abbrev pub condition_wanted : List (List ℕ) → List ℕ
condition_wanted words =
    cond (has_name (codes "name") words) (codes "names= beside name=")
    (cond (has_name (codes "names") words) (codes "name= beside names=")
    (codes "a key with its value, as centre=98; all keys: grib help keys"))

-- of `crop`: a box by columns and rows, a box in degrees, or a place
abbrev pub has_place : List (List ℕ) → Bool
has_place words = has_name (codes "lat") words || has_name (codes "lon") words

abbrev pub crop_wanted : List (List ℕ) → List ℕ
crop_wanted words =
    cond (has_place words) (named_or words (codes "lat" ∷ codes "lon" ∷ []) (codes "lat= and lon= alone"))
    (cond (has_an_edge words && not (has_a_side words))
    (named_or words (codes "north" ∷ codes "south" ∷ codes "west" ∷ codes "east" ∷ []) (codes "south= at most north="))
    (cond (has_an_edge words) (codes "columns and rows alone, or a box in degrees alone")
    (named_or words (codes "i0" ∷ codes "i1" ∷ codes "j0" ∷ codes "j1" ∷ []) (codes "i0= at most i1=, and j0= at most j1="))))

abbrev pub wanted : Command → List (List ℕ) → List ℕ
wanted Crop words = crop_wanted words
wanted Make words = named_or words (codes "seed" ∷ codes "ni" ∷ codes "nj" ∷ codes "to" ∷ []) (order_wanted words)
wanted Repack words = named_or words (codes "to" ∷ []) (beside_to words)
wanted Compare words = named_or words (codes "with" ∷ []) []
wanted Split words = named_or words (codes "out" ∷ []) []
wanted Migrate words = named_or words (codes "params" ∷ []) []
wanted Demote words = named_or words (codes "params" ∷ []) []
wanted Filter words = condition_wanted words
wanted command words = codes "a key with its value, as centre=98; all keys: grib help keys"

abbrev pub wanted_by : Option Command → List (List ℕ) → List ℕ
wanted_by None words = []
wanted_by (Some command) words = concat (name_of command ∷ codes " wants " ∷ wanted command words ∷ codes "\n" ∷ [])

abbrev pub wanted_line : List (List ℕ) → List ℕ
wanted_line words = wanted_by (command_of words) words

-- ---- what a command would do

abbrev pub dump_deed : List (List ℕ) → List ℕ
dump_deed words =
    cond (has_name (codes "decimals") words)
    (cond (has_name (codes "place") words)
    (codes "writes for each field its list line, R, E and D, and the place and the value of each point, the value with so many decimals")
    (codes "writes for each field its list line, R, E and D, and the value of each point with so many decimals"))
    (cond (has_name (codes "place") words)
    (codes "writes for each field its list line, R, E and D, and the place and the scaled integer of each point")
    (codes "writes for each field its list line, R, E and D, and the scaled integer of each point"))

abbrev pub crop_deed : List (List ℕ) → List ℕ
crop_deed words =
    cond (has_name (codes "lat") words) (codes "writes of each message the grid point nearest to this place")
    (cond (has_name (codes "north") words) (codes "writes of each message the grid points in this box")
    (codes "writes of each message these grid columns and rows"))

abbrev pub repack_deed : List (List ℕ) → List ℕ
repack_deed words =
    cond (has_word (codes "to=0") words) (codes "writes each message in simple packing")
    (cond (has_word (codes "to=2") words) (codes "writes each message in complex packing")
    (cond (has_word (codes "to=3") words) (codes "writes each message in complex packing with spatial differencing")
    (cond (has_word (codes "to=42") words) (codes "writes each message in CCSDS packing")
    (codes "writes each field in the smallest of the packings, or as it is"))))

abbrev pub list_deed : List (List ℕ) → List ℕ
list_deed words =
    cond (has_name (codes "with") words)
    (cond (has_name (codes "names") words)
    (codes "writes a line for each field, with these columns and the name of its parameter by this table")
    (codes "writes a line for each field, with these columns"))
    (cond (has_name (codes "names") words)
    (codes "writes a line for each field, with the name of its parameter by this table")
    (codes "writes a line for each field"))

abbrev pub keys_deed : List (List ℕ) → List ℕ
keys_deed words =
    cond (has_name (codes "show") words)
    (cond (has_name (codes "names") words)
    (codes "writes for each field the values of these columns and the name of its parameter by this table")
    (codes "writes for each field the values of these columns"))
    (cond (has_name (codes "names") words)
    (codes "writes for each field every key that it has, with its value, and the name of its parameter by this table")
    (codes "writes for each field every key that it has, with its value"))

abbrev pub filter_deed : List (List ℕ) → List ℕ
filter_deed words =
    cond (has_name (codes "name") words) (codes "copies the fields whose parameter has one of these names by this table, and that have all these values")
    (cond (has_first words) (codes "copies the messages of edition 1 that have all these values")
    (codes "copies the fields that have all these values"))

abbrev pub split_deed : List (List ℕ) → List ℕ
split_deed words =
    cond (has_name (codes "editions") words)
    (codes "writes the n-th field, of either edition, to the file of this name with .n after it")
    (codes "writes the n-th field to the file of this name with .n after it")

abbrev pub set_deed : List (List ℕ) → List ℕ
set_deed words =
    cond (has_first words) (codes "writes each message of edition 1 with these values of keys, and all else as it is")
    (codes "writes each message with these values of keys, and all else as it is")

abbrev pub compare_deed : List (List ℕ) → List ℕ
compare_deed words =
    cond (has_name (codes "quiet") words)
    (codes "writes a line for each field that is not the same as its counterpart in this file, and a line on all fields")
    (codes "writes a line for each field that says whether it is the same as its counterpart in this file, and a line on all fields")

abbrev pub dates_part : List (List ℕ) → List ℕ
dates_part words = cond (has_word (codes "dates=valid") words) (codes ", where its reference time is then a date and time") []

abbrev pub deed_of : Command → List (List ℕ) → List ℕ
deed_of Check words = codes "writes a line for each message, and a line on the input"
deed_of the.List words = list_deed words
deed_of Keys words = keys_deed words
deed_of Stats words = codes "writes for each field how many points it has, and its smallest and largest scaled integer"
deed_of Dump words = dump_deed words
deed_of Values words = codes "writes for each field its values as an array of NumPy"
deed_of Coordinates words = codes "writes for each field the latitudes and the longitudes of its points as arrays of NumPy"
deed_of Filter words = filter_deed words
deed_of Split words = split_deed words
deed_of Set words = set_deed words
deed_of Repack words = repack_deed words
deed_of Migrate words = codes "writes each message of edition 1 as one of edition 2, by this table"
deed_of Demote words = codes "writes each field of edition 2 as a message of edition 1, by this table"
deed_of Rescan words = codes "writes each message with its points from west to east and from north to south"
deed_of Crop words = crop_deed words
deed_of Compare words = compare_deed words
deed_of Make words = codes "writes a synthetic message, made from the seed"
deed_of Help words = codes "writes a line on each command"
deed_of Version words = codes "writes the version of the program"

abbrev pub profile_part : List (List ℕ) → List ℕ
profile_part words = cond (has_word (codes "profile=open") words) (codes ", and accepts any grid, product and packing") []

abbrev pub refused_part : List (List ℕ) → List ℕ
refused_part words =
    cond (has_word (codes "refused=copy") words) (codes ", and copies what is refused")
    (cond (has_word (codes "refused=pass") words) (codes ", and skips what is refused") [])

abbrev pub kept_part : List (List ℕ) → List ℕ
kept_part words =
    cond (has_word (codes "kept=copy") words) (codes ", and copies a message that it cannot change")
    (cond (has_word (codes "kept=pass") words) (codes ", and leaves out a message that it cannot change or print") [])

-- the line on words that do this
abbrev pub done_line : List ℕ → List (List ℕ) → List ℕ
done_line deed words =
    line (concat (codes "grib" ∷ spaced words ∷ codes ": " ∷ concat (deed ∷ dates_part words ∷ profile_part words ∷ refused_part words ∷ kept_part words ∷ codes "." ∷ []) ∷ []))

-- ---- what is told

-- whether the words are `help` with others behind it
abbrev pub is_help : List ℕ → Bool
is_help word = is (codes "help") word || is (codes "--help") word

abbrev pub is_on_words : List (List ℕ) → Bool
is_on_words [] = false
is_on_words (first ∷ later) = has_any later && is_help first

abbrev pub judged_at : ℕ → List (List ℕ) → List ℕ
judged_at place words = cond (nat_lt place (length words)) (fault_line place words) (wanted_line words)

abbrev pub judged_by : Result Command ℕ → List (List ℕ) → List ℕ
judged_by (Ok command) words = done_line (deed_of command words) words
judged_by (Err place) words = judged_at place words

-- what a command line of these words would do, or the word at which it is at fault, and why
abbrev pub judged : List (List ℕ) → List ℕ
judged words = cond (is_on_words words) (done_line (codes "tells of the arguments after help") words) (judged_by (reading words) words)

-- the text on a name that stands alone, empty where there is none
abbrev pub told_of_name : List (List ℕ) → List ℕ
told_of_name [] = []
told_of_name (name ∷ later) = cond (has_any later) [] (told_of name)

-- what `help` tells of these words
abbrev pub told_of_words : List (List ℕ) → List ℕ
told_of_words words = cond (is_empty (told_of_name words)) (judged words) (told_of_name words)
