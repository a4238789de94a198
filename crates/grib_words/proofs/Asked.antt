-- The values of words that are read.
use Rattle.std.proofs.Common.{All, IsTrue, ◌≡◌, ◌⊎◌, ℕ, suc, ◌+◌, ◌-◌, ◌<◌, ◌≤◌, Bool, true, false, cond, not, ◌&&◌, ◌||◌, ◌==◌, nat_le, ℤ, Option, Some, None, option_map, Result, Ok, Err, IfOk, IfSome, List, [], ◌∷◌, ◌++◌, length, map, get_or, take, drop, codes, refl, sym, ap, ◌∙◌, subst, rules, arith, tests, ⊎_elim, inl, inr, eqb-true}
use Rattle.std.specs.List.{list_any, list_all, find, position_or_len, cons_option}
use Rattle.std.specs.Option.{option_map_or, option_and_then}
use Rattle.std.specs.Str.{bytes_eq}
use Rattle.std.proofs.lemmas.Bool.{cases_Bool, false≢true}
use Rattle.std.proofs.lemmas.List.{length-append, length-map, take_rest}
use Rattle.std.proofs.lemmas.List.Elements.{All-nil, All-cons}
use Rattle.std.proofs.lemmas.List.Sums.{split_at_first, passes_at_first}
use Rattle.std.proofs.lemmas.Slice.Eq.{bytes_eq-Decides}
use Rattle.grib_keys.specs.declared.key.Key.{Key}
use Rattle.grib_keys.specs.declared.condition.Value.{Value}
use Rattle.grib_keys.specs.declared.condition.Change.{Change}
use Rattle.grib_keys.specs.declared.key.Key.TheVariants.{Discipline}
use Rattle.grib_keys.specs.Keys.{name_of, key_named, can_set}
use Rattle.grib_keys.specs.declared.key1.Key1.{Key1}
use Rattle.grib_keys.specs.declared.key1.Key1.TheVariants.{Version}
use Rattle.grib_keys.specs.Keys1.{name1_of, key1_named, can_set1}
use Rattle.grib1_select.specs.declared.condition.Change1.{Change1}
use Rattle.grib_keys.specs.declared.wanted.Wanted.{Wanted}
use Rattle.grib1_select.specs.declared.condition.Wanted1.{Wanted1}
use Rattle.grib_dates.specs.declared.rule.Dates.{Dates}
use Rattle.grib_text.specs.declared.column.LineForm.{LineForm}
use Rattle.grib_text.specs.declared.column.LineForm.TheVariants as forms
use Rattle.grib_text.specs.declared.column.Column.{Column}
use Rattle.grib_synthetic.specs.Made.{MayBeMade}
use Rattle.grib_packing.specs.declared.target.RepackTarget.{RepackTarget}
use Rattle.grib_rescan.specs.declared.points.Area.{Area}
use Rattle.grib_rescan.specs.declared.bounds.Bounds.{Bounds}
use Rattle.grib_packing.specs.declared.target.RepackTarget.TheVariants.{Simple, Complex, Spatial}
use Rattle.grib_base.specs.declared.profile.Profile.{Profile}
use Rattle.grib_command.specs.declared.job.Job.{Job}
use Rattle.grib_command.specs.Jobs.{IsJob, HasPlaces, is_target}
use Rattle.grib_words.specs.declared.job.JobFault.{JobFault}
use Rattle.grib_command.specs.declared.job.Job.TheVariants as jobs
use Rattle.grib_words.specs.declared.command.Command.{Command}
use Rattle.grib_words.specs.declared.command.Command.TheVariants as the
use Rattle.grib_words.specs.declared.command.Command.TheVariants.{Dump, Filter, Split, Set, Repack, Migrate, Demote, Crop, Make}
use Rattle.grib_words.specs.Columns.{columns_in, names_in}
use Rattle.grib_numbers.specs.Numbers.{number, is_number, is_between, signed_number}
use Rattle.grib_words.specs.Values.{key_value}
use Rattle.grib_words.specs.Reading.{is, is_equals, has_equals, name_in, value_in, is_key_to_set, is_key_value, is_key1_to_set, is_key1_value, is_instead, is_mixed, has_first, entries, takes, is_named, has_name, has_word, may_repeat, is_read, read_count, has_target, is_side, in_order, has_sides, has_box, has_edges, has_a_side, has_an_edge, number_if_given, value_if_given, is_complete, command_named, reading_of, reading, value_of, number_of}
use Rattle.grib_words.proofs.Single.{named, named1}
use Rattle.grib_words.specs.Words.{SidesStand, profile_of, target_of, usual_blocks, area_of, nearest_of, edges_of, change, changes_of, change1, changes1_of, conditions_of, conditions1_of, list_of, keys_of, filter_of, dates_of, set_of, job_of_command, job_of_reading, IsUnlessMemory, IsAsked}

-- the key of a change can be set
abbrev CanBeSet : Change → Type 0
CanBeSet change = IsTrue (can_set change.key)

abbrev CanBeSet1 : Change1 → Type 0
CanBeSet1 change = IsTrue (can_set1 change.key)

-- ---- tests

both : (a b : Bool) → (a && b) ≡ true → (a ≡ true) × (b ≡ true)
both true b h = (refl, h)
both false b h = cc

pub either : (a b : Bool) → (a || b) ≡ true → (a ≡ true) ⊎ (b ≡ true)
either true b h = inl refl
either false b h = inr h

or_right : (a b : Bool) → b ≡ true → (a || b) ≡ true
or_right true b h = refl
or_right false b h = h

or_left : (a b : Bool) → a ≡ true → (a || b) ≡ true
or_left true b h = refl
or_left false b h = absurd (false≢true h)

pub same_text : (xs ys : List ℕ) → bytes_eq xs ys ≡ true → xs ≡ ys
same_text xs ys e = (bytes_eq-Decides xs ys).0 e

is_itself : (xs : List ℕ) → bytes_eq xs xs ≡ true
is_itself xs = (bytes_eq-Decides xs xs).1 refl

-- ---- a word is its name, a `=`, and its value

place_step : (b : Bool) (n len : ℕ) (later : Bool) → (b || later) ≡ true → (later ≡ true → n < len) → cond (not b) (1 + n) 0 < 1 + len
place_step true n len later h next = omega arith
place_step false n len later h next = let there : n < len = next h in omega arith

has_place : (p : ℕ → Bool) (xs : List ℕ) → list_any p xs ≡ true → position_or_len p xs < length xs
has_place p [] h = absurd (false≢true h)
has_place p (x ∷ xs) h = let step = place_step (p x) (position_or_len p xs) (length xs) (list_any p xs) h (has_place p xs) in omega arith

word_split : (word : List ℕ) → has_equals word ≡ true → word ≡ name_in word ++ (61 ∷ value_in word)
word_split word h =
    let there = has_place is_equals word h in
    let at : get_or word (position_or_len is_equals word) 0 ≡ 61 = eqb-true (get_or word (position_or_len is_equals word) 0) 61 (passes_at_first is_equals word 0 there) in
    split_at_first is_equals word 0 there ∙ ap (λ octet. name_in word ++ (octet ∷ value_in word)) at

-- ---- all words are read

abbrev taken : Command → List ℕ → Bool
taken command word = takes (entries command) (name_in word) (value_in word)

first_read : (b : Bool) (n m l : ℕ) → cond b n l ≡ l + suc m → (b ≡ true) × (n ≡ l + suc m)
first_read true n m l e = (refl, e)
first_read false n m l e = absurd (omega arith)

taken_when_read : (command : Command) (earlier : List (List ℕ)) (word : List ℕ) → is_read command earlier word ≡ true → taken command word ≡ true
taken_when_read command earlier word read =
    let once = (may_repeat command (name_in word) || not (has_name (name_in word) earlier)) && not (is_mixed earlier (name_in word)) in
    (both (taken command word) once (both (has_equals word) (taken command word && once) read).1).0

all_taken : (command : Command) (earlier words : List (List ℕ)) → read_count command earlier words ≡ length earlier + length words → list_all (taken command) words ≡ true
all_taken command earlier [] e = refl
all_taken command earlier (word ∷ later) e =
    let step = first_read (is_read command earlier word) (read_count command (earlier ++ word ∷ []) later) (length later) (length earlier) e in
    let grown : length (earlier ++ word ∷ []) ≡ length earlier + 1 = length-append earlier (word ∷ []) in
    let next : read_count command (earlier ++ word ∷ []) later ≡ length (earlier ++ word ∷ []) + length later = omega (arith, step.1) in
    rw (taken_when_read command earlier word step.0) (all_taken command (earlier ++ word ∷ []) later next)

-- the word of a name that is there has a value by the rule of the name
value_step : (command : Command) (name word : List ℕ) → is_named name word ≡ true → taken command word ≡ true → takes (entries command) name (value_in word) ≡ true
value_step command name word named those =
    subst (λ n. takes (entries command) n (value_in word) ≡ true) (same_text (name_in word) name (both (has_equals word) (is name (name_in word)) named).1) those

value_taken : (command : Command) (name : List ℕ) (words : List (List ℕ)) → list_all (taken command) words ≡ true → has_name name words ≡ true
    → takes (entries command) name (value_of name words) ≡ true
value_taken command name [] all has = absurd (false≢true has)
value_taken command name (word ∷ later) all has =
    let parts = both (taken command word) (list_all (taken command) later) all in
    ⊎_elim (λ (named : is_named name word ≡ true). rw named (value_step command name word named parts.0))
    (λ (other : is_named name word ≡ false). rw other (value_taken command name later parts.1 (rw other at has)))
    (cases_Bool (is_named name word))

-- a word that has this name and this value is there
word_there : (name value : List ℕ) (words : List (List ℕ)) → has_name name words ≡ true → value_of name words ≡ value → has_word (name ++ (61 ∷ value)) words ≡ true
word_there name value [] has is_value = absurd (false≢true has)
word_there name value (word ∷ later) has is_value =
    ⊎_elim
    (λ (named : is_named name word ≡ true).
    let parts = both (has_equals word) (is name (name_in word)) named in
    let value_is : value_in word ≡ value = rw named at is_value in
    let whole : word ≡ name ++ (61 ∷ value) =
    word_split word parts.0 ∙ (ap (λ n. n ++ (61 ∷ value_in word)) (same_text (name_in word) name parts.1) ∙ ap (λ v. name ++ (61 ∷ v)) value_is) in
    or_left (is (name ++ (61 ∷ value)) word) (has_word (name ++ (61 ∷ value)) later)
    (subst (λ w. bytes_eq word w ≡ true) whole (is_itself word)))
    (λ (other : is_named name word ≡ false).
    or_right (is (name ++ (61 ∷ value)) word) (has_word (name ++ (61 ∷ value)) later)
    (word_there name value later (rw other at has) (rw other at is_value)))
    (cases_Bool (is_named name word))

-- ---- a command that is read

pub record HasRead (command : Command) (words : List (List ℕ)) : Type 0 where
  pub all : list_all (taken command) words ≡ true
  pub complete : is_complete command words ≡ true

ok_only : (b : Bool) (command : Command) (word : ℕ) → cond b (Ok command) (Err word) ≡ Ok command → b ≡ true
ok_only true command word e = refl
ok_only false command word e = let no : ⊥ = cc in absurd no

pub has_read : (command : Command) (words : List (List ℕ)) → reading_of (Some command) words ≡ Ok command → HasRead command words
has_read command words e =
    let count = read_count command [] words in
    let parts = both (count == length words) (is_complete command words) (ok_only ((count == length words) && is_complete command words) command (count + 1) e) in
    let whole : count ≡ length words = eqb-true count (length words) parts.0 in
    record { all = all_taken command [] words (omega (arith, whole)); complete = parts.1 }

-- the words behind the command
ok_same : (b : Bool) (other command : Command) (word : ℕ) → cond b (Ok other) (Err word) ≡ Ok command → other ≡ command
ok_same true other command word e = cc
ok_same false other command word e = let no : ⊥ = cc in absurd no

read_named : (named : Option Command) (later : List (List ℕ)) (command : Command) → reading_of named later ≡ Ok command → reading_of (Some command) later ≡ Ok command
read_named None later command e = let no : ⊥ = cc in absurd no
read_named (Some other) later command e =
    let count = read_count other [] later in
    let same : other ≡ command = ok_same ((count == length later) && is_complete other later) other command (count + 1) e in
    subst (λ c. reading_of (Some c) later ≡ Ok command) same e

pub read_behind : (words : List (List ℕ)) (command : Command) → reading words ≡ Ok command → reading_of (Some command) (drop 1 words) ≡ Ok command
read_behind [] command e = let no : ⊥ = cc in absurd no
read_behind (first ∷ later) command e = read_named (command_named first) later command e

drop_one : {X : Type 0} (f : X → List ℕ) (words : List X) → map f (drop 1 words) ≡ drop 1 (map f words)
drop_one f [] = refl
drop_one f (word ∷ later) = refl

pub behind : {X : Type 0} (f : X → List ℕ) (words : List X) → map f (take (length words - 1) (drop 1 words)) ≡ drop 1 (map f words)
behind f words = ap (map f) (take_rest words 1) ∙ drop_one f words

-- ---- targets

to_is : (value : List ℕ) → ((is (codes "0") value || is (codes "2") value || is (codes "3") value) || false) ≡ true
    → is (codes "0") value ≡ false → is (codes "2") value ≡ false → value ≡ codes "3"
to_is value h zero two =
    let three : is (codes "3") value ≡ true =
    ⊎_elim (λ own. rw (zero, two) at own) (λ no. absurd (false≢true no)) (either (is (codes "0") value || is (codes "2") value || is (codes "3") value) false h) in
    same_text value (codes "3") three

order_is : (value : List ℕ) → ((is (codes "1") value || is (codes "2") value) || false) ≡ true → is_between 1 2 value ≡ true
order_is value h =
    ⊎_elim
    (λ own.
    ⊎_elim (λ one. subst (λ v. is_between 1 2 v ≡ true) (sym (same_text value (codes "1") one)) refl)
    (λ two. subst (λ v. is_between 1 2 v ≡ true) (sym (same_text value (codes "2") two)) refl)
    (either (is (codes "1") value) (is (codes "2") value) own))
    (λ no. absurd (false≢true no)) (either (is (codes "1") value || is (codes "2") value) false h)

-- `order` stands, and is 1 or 2, beside a `to` that is neither 0, 2 nor 42
pub record TargetStands (words : List (List ℕ)) : Type 0 where
  pub order : is (codes "0") (value_of (codes "to") words) ≡ false → is (codes "2") (value_of (codes "to") words) ≡ false
      → is (codes "42") (value_of (codes "to") words) ≡ false → is_between 1 2 (value_of (codes "order") words) ≡ true

order_there : (words : List (List ℕ)) (b c d : Bool) → cond b c d ≡ true → b ≡ true → c ≡ true
order_there words true c d h e = h
order_there words false c d h e = absurd (false≢true e)

target_in : (words : List (List ℕ)) → has_target words ≡ true
    → (has_name (codes "to") words ≡ true → is (codes "42") (value_of (codes "to") words) ≡ false → ((is (codes "0") (value_of (codes "to") words) || is (codes "2") (value_of (codes "to") words) || is (codes "3") (value_of (codes "to") words)) || false) ≡ true)
    → (has_name (codes "order") words ≡ true → ((is (codes "1") (value_of (codes "order") words) || is (codes "2") (value_of (codes "order") words)) || false) ≡ true)
    → TargetStands words
target_in words complete to order =
    let parts = both (has_name (codes "to") words) (cond (has_word (codes "to=3") words) (has_name (codes "order") words) (not (has_name (codes "order") words))) complete in
    record {
      order = λ zero two coded.
          let three = to_is (value_of (codes "to") words) (to parts.0 coded) zero two in
          let there : has_word (codes "to=3") words ≡ true = word_there (codes "to") (codes "3") words parts.0 three in
          order_is (value_of (codes "order") words) (order (order_there words (has_word (codes "to=3") words) (has_name (codes "order") words) (not (has_name (codes "order") words)) parts.1 there));
    }

unless_least : (target least coded : Bool) → (target || ((least || coded) || false)) ≡ true → least ≡ false → coded ≡ false → (target || false) ≡ true
unless_least true least coded h other blocks = refl
unless_least false true coded h other blocks = let same : ⊥ = cc in absurd same
unless_least false false true h other blocks = let same : ⊥ = cc in absurd same
unless_least false false false h other blocks = h

pub repack_stands : (words : List (List ℕ)) → HasRead Repack words → is (codes "least") (value_of (codes "to") words) ≡ false → TargetStands words
repack_stands words read other =
    target_in words (both (has_target words) (cond (has_word (codes "to=42") words) (has_word (codes "profile=open") words) true) read.complete).0
    (λ has blocks.
    unless_least (is (codes "0") (value_of (codes "to") words) || is (codes "2") (value_of (codes "to") words) || is (codes "3") (value_of (codes "to") words))
    (is (codes "least") (value_of (codes "to") words)) (is (codes "42") (value_of (codes "to") words)) (value_taken Repack (codes "to") words read.all has) other blocks)
    (λ has. value_taken Repack (codes "order") words read.all has)

-- ---- numbers

pub record Between (least most : ℕ) (text : List ℕ) : Type 0 where
  pub is_one : is_number text ≡ true
  pub low : least ≤ number text
  pub high : number text ≤ most

between : (least most : ℕ) (text : List ℕ) → is_between least most text ≡ true → Between least most text
between least most text h =
    let parts = both (is_number text) (nat_le least (number text) && nat_le (number text) most) h in
    let sides = both (nat_le least (number text)) (nat_le (number text) most) parts.1 in
    record { is_one = parts.0; low = search (rules, tests, sides.0); high = search (rules, tests, sides.1) }

pub wider : (least most more : ℕ) (text : List ℕ) → is_between least most text ≡ true → most ≤ more → is_between 0 more text ≡ true
wider least most more text h room =
    let b = between least most text h in
    let low : nat_le 0 (number text) ≡ true = search (rules, tests) in
    let high : nat_le (number text) more ≡ true = let below : number text ≤ more = omega arith in search (rules, tests) in
    rw (b.is_one, low, high) refl

pub record SizeStands (words : List (List ℕ)) : Type 0 where
  pub seed : is_between 0 2147483647 (value_of (codes "seed") words) ≡ true
  pub ni : is_between 1 4096 (value_of (codes "ni") words) ≡ true
  pub nj : is_between 1 4096 (value_of (codes "nj") words) ≡ true
  pub target : has_target words ≡ true

only_first : (b : Bool) → (b || false) ≡ true → b ≡ true
only_first true h = refl
only_first false h = h

make_seed : (value : List ℕ) → takes (entries Make) (codes "seed") value ≡ true → is_between 0 2147483647 value ≡ true
make_seed value h = only_first (is_between 0 2147483647 value) h

make_ni : (value : List ℕ) → takes (entries Make) (codes "ni") value ≡ true → is_between 1 4096 value ≡ true
make_ni value h = only_first (is_between 1 4096 value) h

make_nj : (value : List ℕ) → takes (entries Make) (codes "nj") value ≡ true → is_between 1 4096 value ≡ true
make_nj value h = only_first (is_between 1 4096 value) h

pub make_sized : (words : List (List ℕ)) → HasRead Make words → SizeStands words
make_sized words read =
    let first = both (has_name (codes "seed") words) (has_name (codes "ni") words && (has_name (codes "nj") words && has_target words)) read.complete in
    let second = both (has_name (codes "ni") words) (has_name (codes "nj") words && has_target words) first.1 in
    let third = both (has_name (codes "nj") words) (has_target words) second.1 in
    record {
      seed = make_seed (value_of (codes "seed") words) (value_taken Make (codes "seed") words read.all first.0);
      ni = make_ni (value_of (codes "ni") words) (value_taken Make (codes "ni") words read.all second.0);
      nj = make_nj (value_of (codes "nj") words) (value_taken Make (codes "nj") words read.all third.0);
      target = third.1;
    }

pub make_stands : (words : List (List ℕ)) → HasRead Make words → TargetStands words
make_stands words read =
    target_in words (make_sized words read).target (λ has blocks. value_taken Make (codes "to") words read.all has) (λ has. value_taken Make (codes "order") words read.all has)

-- ---- boxes

side_is : (name : List ℕ) (words : List (List ℕ)) → ((value : List ℕ) → takes (entries Crop) name value ≡ true → is_side value ≡ true)
    → list_all (taken Crop) words ≡ true → has_name name words ≡ true → is_between 0 4294967295 (value_of name words) ≡ true
side_is name words rule all has =
    wider 0 33554431 4294967295 (value_of name words) (rule (value_of name words) (value_taken Crop name words all has)) (omega arith)

pub sides_of : (words : List (List ℕ)) → list_all (taken Crop) words ≡ true → has_sides words ≡ true → SidesStand words
sides_of words all sides =
    let first = both (has_name (codes "i0") words) (has_name (codes "i1") words && (has_name (codes "j0") words && has_name (codes "j1") words)) sides in
    let second = both (has_name (codes "i1") words) (has_name (codes "j0") words && has_name (codes "j1") words) first.1 in
    let third = both (has_name (codes "j0") words) (has_name (codes "j1") words) second.1 in
    record {
      i0 = side_is (codes "i0") words (λ value h. only_first (is_side value) h) all first.0;
      i1 = side_is (codes "i1") words (λ value h. only_first (is_side value) h) all second.0;
      j0 = side_is (codes "j0") words (λ value h. only_first (is_side value) h) all third.0;
      j1 = side_is (codes "j1") words (λ value h. only_first (is_side value) h) all third.1;
    }

-- the sides of words that are all read
pub sides_stand : {X : Type 0} (f : X → List ℕ) (words : List X) → read_count Crop [] (map f words) ≡ length words → has_sides (map f words) ≡ true
    → SidesStand (map f words)
sides_stand f words read sides =
    sides_of (map f words) (all_taken Crop [] (map f words) (omega (arith, read, length-map words f))) sides

-- the box that is cut out
pub record BoxStands (words : List (List ℕ)) : Type 0 where
  pub sides : SidesStand words
  pub columns : number_of (codes "i0") words ≤ number_of (codes "i1") words
  pub rows : number_of (codes "j0") words ≤ number_of (codes "j1") words

at_most : (m n : ℕ) → nat_le m n ≡ true → m ≤ n
at_most m n h = search (rules, tests, h)

-- a box by columns and rows is asked for where no place and no box in degrees is
box_there : (place degrees : Bool) (of_place of_degrees box alone : Bool) → cond place of_place (cond degrees of_degrees (box && alone)) ≡ true → place ≡ false → degrees ≡ false
    → box ≡ true
box_there place degrees of_place of_degrees box alone h no_place no_degrees = (both box alone (rw (no_place, no_degrees) at h)).0

pub crop_stands : (words : List (List ℕ)) → HasRead Crop words → has_name (codes "lat") words ≡ false → has_name (codes "north") words ≡ false → BoxStands words
crop_stands words read no_place no_degrees =
    let box =
    box_there (has_name (codes "lat") words) (has_name (codes "north") words) (has_name (codes "lon") words && not (has_a_side words || has_an_edge words))
    (has_edges words && not (has_name (codes "lon") words || has_a_side words)) (has_box words) (not (has_name (codes "lon") words || has_an_edge words)) read.complete no_place
    no_degrees in
    let parts = both (has_sides words) (in_order (codes "i0") (codes "i1") words && in_order (codes "j0") (codes "j1") words) box in
    let orders = both (in_order (codes "i0") (codes "i1") words) (in_order (codes "j0") (codes "j1") words) parts.1 in
    record {
      sides = sides_of words read.all parts.0;
      columns = at_most (number_of (codes "i0") words) (number_of (codes "i1") words) orders.0;
      rows = at_most (number_of (codes "j0") words) (number_of (codes "j1") words) orders.1;
    }

-- ---- decimals

pub decimals_stand : (words : List (List ℕ)) → HasRead Dump words → has_name (codes "decimals") words ≡ true
    → is_between 0 18 (value_of (codes "decimals") words) ≡ true
decimals_stand words read has =
    only_first (is_between 0 18 (value_of (codes "decimals") words)) (value_taken Dump (codes "decimals") words read.all has)

few_given : (given : Bool) (n : ℕ) → (given ≡ true → n ≤ 18) → IfSome (cond given (Some n) None) (λ places. places ≤ 18)
few_given true n few = few refl
few_given false n few = tt

pub decimals_few : (words : List (List ℕ)) → HasRead Dump words → IfSome (number_if_given (codes "decimals") words) (λ places. places ≤ 18)
decimals_few words read =
    few_given (has_name (codes "decimals") words) (number_of (codes "decimals") words)
    (λ has. (between 0 18 (value_of (codes "decimals") words) (decimals_stand words read has)).high)

-- ---- changes

no_changes : All CanBeSet []
no_changes = All-nil CanBeSet

no_changes1 : All CanBeSet1 []
no_changes1 = All-nil CanBeSet1

change_can : (key : Option Key) (value : Option Value) (changes : List Change) → option_map_or can_set key false ≡ true → All CanBeSet changes
    → All CanBeSet (cons_option (option_and_then (λ key. option_map (change key) value) key) changes)
change_can None value changes can all = absurd (false≢true can)
change_can (Some key) None changes can all = all
change_can (Some key) (Some value) changes can all = All-cons CanBeSet (change key value) changes can all

change1_can : (key : Option Key1) (value : Option ℤ) (changes : List Change1) → option_map_or can_set1 key false ≡ true → All CanBeSet1 changes
    → All CanBeSet1 (cons_option (option_and_then (λ key. option_map (change1 key) value) key) changes)
change1_can None value changes can all = absurd (false≢true can)
change1_can (Some key) None changes can all = all
change1_can (Some key) (Some value) changes can all = All-cons CanBeSet1 (change1 key value) changes can all

-- no key of one edition has the name of one of the other
no_second : (key : Key1) → key_named (name1_of key) ≡ None
no_second Version = refl
no_second key = refl

no_first : (key : Key) → key1_named (name_of key) ≡ None
no_first Discipline = refl
no_first key = refl

found_key : {K : Type 0} (can : K → Bool) (found : Option K) → option_map_or can found false ≡ true → (key : K) × (found ≡ Some key)
found_key can None set = absurd (false≢true set)
found_key can (Some key) set = (key, refl)

first_alone : (name : List ℕ) → is_key1_to_set name ≡ true → key_named name ≡ None
first_alone name set = let found = found_key can_set1 (key1_named name) set in ap key_named (sym (named1 name found.0 found.1)) ∙ no_second found.0

second_alone : (name : List ℕ) → is_key_to_set name ≡ true → key1_named name ≡ None
second_alone name set = let found = found_key can_set (key_named name) set in ap key1_named (sym (named name found.0 found.1)) ∙ no_first found.0

-- a name that is this one, which is that of no key
keyless : {K : Type 0} (key_of : List ℕ → Option K) (this name : List ℕ) (rule : Bool) → key_of this ≡ None → (is this name && rule) ≡ true → key_of name ≡ None
keyless key_of this name rule none is_this = ap key_of (same_text name this (both (is this name) rule is_this).0) ∙ none

-- a word of `set` on no key
abbrev is_beside : List ℕ → List ℕ → Bool
is_beside name value =
    (is (codes "dates") name && is (codes "valid") value)
    || ((is (codes "refused") name && is_instead value) || ((is (codes "kept") name && is_instead value) || ((is (codes "profile") name && is (codes "open") value) || false)))

no_key_beside : {K : Type 0} (key_of : List ℕ → Option K) (name value : List ℕ) → key_of (codes "dates") ≡ None → key_of (codes "refused") ≡ None → key_of (codes "kept") ≡ None
    → key_of (codes "profile") ≡ None → is_beside name value ≡ true → key_of name ≡ None
no_key_beside key_of name value dates refused kept profile h =
    let opened = is (codes "profile") name && is (codes "open") value in
    let passed = is (codes "kept") name && is_instead value in
    let skipped = is (codes "refused") name && is_instead value in
    ⊎_elim (λ first. keyless key_of (codes "dates") name (is (codes "valid") value) dates first)
    (λ past.
    ⊎_elim (λ second. keyless key_of (codes "refused") name (is_instead value) refused second)
    (λ later.
    ⊎_elim (λ third. keyless key_of (codes "kept") name (is_instead value) kept third)
    (λ last. keyless key_of (codes "profile") name (is (codes "open") value) profile (only_first opened last))
    (either passed (opened || false) later))
    (either skipped (passed || (opened || false)) past))
    (either (is (codes "dates") name && is (codes "valid") value) (skipped || (passed || (opened || false))) h)

-- the name of a word that is read is that of a key that can be set, or of none; for keys of either edition
key_can : (name value : List ℕ) → takes (entries Set) name value ≡ true → (is_key_to_set name ≡ true) ⊎ (key_named name ≡ None)
key_can name value h =
    let own = is_key_to_set name && is_key_value value in
    let other = is_key1_to_set name && is_key1_value value in
    ⊎_elim (λ second. inl (both (is_key_to_set name) (is_key_value value) second).0)
    (λ later.
    ⊎_elim (λ first. inr (first_alone name (both (is_key1_to_set name) (is_key1_value value) first).0))
    (λ beside. inr (no_key_beside key_named name value refl refl refl refl beside))
    (either other (is_beside name value) later))
    (either own (other || is_beside name value) h)

key1_can : (name value : List ℕ) → takes (entries Set) name value ≡ true → (is_key1_to_set name ≡ true) ⊎ (key1_named name ≡ None)
key1_can name value h =
    let own = is_key_to_set name && is_key_value value in
    let other = is_key1_to_set name && is_key1_value value in
    ⊎_elim (λ second. inr (second_alone name (both (is_key_to_set name) (is_key_value value) second).0))
    (λ later.
    ⊎_elim (λ first. inl (both (is_key1_to_set name) (is_key1_value value) first).0)
    (λ beside. inr (no_key_beside key1_named name value refl refl refl refl beside))
    (either other (is_beside name value) later))
    (either own (other || is_beside name value) h)

-- a word on no key gives no change
unchanged : {K V C : Type 0} (make : K → V → C) (Can : C → Type 0) (key : Option K) (value : Option V) (changes : List C) → key ≡ None → All Can changes
    → All Can (cons_option (option_and_then (λ key. option_map (make key) value) key) changes)
unchanged make Can None value changes none all = all
unchanged make Can (Some key) value changes none all = let no : ⊥ = cc in absurd no

changes_can : (words : List (List ℕ)) → list_all (taken Set) words ≡ true → All CanBeSet (changes_of words)
changes_can [] all = no_changes
changes_can (word ∷ later) all =
    let parts = both (taken Set word) (list_all (taken Set) later) all in
    ⊎_elim (λ can. change_can (key_named (name_in word)) (key_value (value_in word)) (changes_of later) can (changes_can later parts.1))
    (λ none. unchanged change CanBeSet (key_named (name_in word)) (key_value (value_in word)) (changes_of later) none (changes_can later parts.1))
    (key_can (name_in word) (value_in word) parts.0)

changes1_can : (words : List (List ℕ)) → list_all (taken Set) words ≡ true → All CanBeSet1 (changes1_of words)
changes1_can [] all = no_changes1
changes1_can (word ∷ later) all =
    let parts = both (taken Set word) (list_all (taken Set) later) all in
    ⊎_elim (λ can. change1_can (key1_named (name_in word)) (signed_number (value_in word)) (changes1_of later) can (changes1_can later parts.1))
    (λ none. unchanged change1 CanBeSet1 (key1_named (name_in word)) (signed_number (value_in word)) (changes1_of later) none (changes1_can later parts.1))
    (key1_can (name_in word) (value_in word) parts.0)

-- ---- the job

one_or_two : (n : ℕ) → 1 ≤ n → n ≤ 2 → ((n == 1) || (n == 2)) ≡ true
one_or_two n low high = grind (arith, tests)

target_by : (zero two coded : Bool) (n : ℕ) → (zero ≡ false → two ≡ false → coded ≡ false → (1 ≤ n) × (n ≤ 2))
    → is_target (cond zero Simple (cond two Complex (cond coded usual_blocks (Spatial n)))) ≡ true
target_by true two coded n h = refl
target_by false true coded n h = refl
target_by false false true n h = refl
target_by false false false n h = let bounds = h refl refl refl in one_or_two n bounds.0 bounds.1

target_is : (words : List (List ℕ)) → TargetStands words → is_target (target_of words) ≡ true
target_is words stands =
    target_by (is (codes "0") (value_of (codes "to") words)) (is (codes "2") (value_of (codes "to") words)) (is (codes "42") (value_of (codes "to") words)) (number_of (codes "order") words)
    (λ zero two coded. let b = between 1 2 (value_of (codes "order") words) (stands.order zero two coded) in (b.low, b.high))

size_is : (words : List (List ℕ)) → SizeStands words → MayBeMade (number_of (codes "seed") words) (number_of (codes "ni") words) (number_of (codes "nj") words)
size_is words stands =
    let seed = between 0 2147483647 (value_of (codes "seed") words) stands.seed in
    let ni = between 1 4096 (value_of (codes "ni") words) stands.ni in
    let nj = between 1 4096 (value_of (codes "nj") words) stands.nj in
    record { seed_fits = omega arith; some_columns = ni.low; few_columns = ni.high; some_rows = nj.low; few_rows = nj.high }

places : (given : Option ℕ) (placed : Bool) → IfSome given (λ n. n ≤ 18) → HasPlaces (jobs.Dump given placed)
places None placed few = tt
places (Some n) placed few = few

repack_job : (least : Bool) (profile : Profile) (target : RepackTarget) → (least ≡ false → is_target target ≡ true) → IsJob (cond least (jobs.RepackLeast profile) (jobs.Repack target))
repack_job true profile target stands = record { target_stands = refl; size_stands = tt; changes_stand = no_changes; changes1_stand = no_changes1; places_stand = tt; area_stands = tt }
repack_job false profile target stands = record { target_stands = stands refl; size_stands = tt; changes_stand = no_changes; changes1_stand = no_changes1; places_stand = tt; area_stands = tt }

-- one of two jobs
one_of : (b : Bool) (x y : Job) → IsJob x → IsJob y → IsJob (cond b x y)
one_of true x y first second = first
one_of false x y first second = second

lines_job : (form : LineForm) (columns : List Column) (names : Option (List ℕ)) → IsJob (jobs.Lines form columns names)
lines_job form columns names = record { target_stands = refl; size_stands = tt; changes_stand = no_changes; changes1_stand = no_changes1; places_stand = tt; area_stands = tt }

list_job : IsJob jobs.List
list_job = record { target_stands = refl; size_stands = tt; changes_stand = no_changes; changes1_stand = no_changes1; places_stand = tt; area_stands = tt }

keys_job : IsJob jobs.Keys
keys_job = record { target_stands = refl; size_stands = tt; changes_stand = no_changes; changes1_stand = no_changes1; places_stand = tt; area_stands = tt }

filter_job : (conditions : List Wanted) → IsJob (jobs.Filter conditions)
filter_job conditions = record { target_stands = refl; size_stands = tt; changes_stand = no_changes; changes1_stand = no_changes1; places_stand = tt; area_stands = tt }

filter1_job : (conditions : List Wanted1) → IsJob (jobs.Filter1 conditions)
filter1_job conditions = record { target_stands = refl; size_stands = tt; changes_stand = no_changes; changes1_stand = no_changes1; places_stand = tt; area_stands = tt }

named_job : (conditions : List Wanted) (names : List ℕ) (wanted : List (List ℕ)) → IsJob (jobs.FilterNamed conditions names wanted)
named_job conditions names wanted = record { target_stands = refl; size_stands = tt; changes_stand = no_changes; changes1_stand = no_changes1; places_stand = tt; area_stands = tt }

set_job : (changes : List Change) (dates : Dates) → All CanBeSet changes → IsJob (jobs.Set changes dates)
set_job changes dates can = record { target_stands = refl; size_stands = tt; changes_stand = can; changes1_stand = no_changes1; places_stand = tt; area_stands = tt }

set1_job : (changes : List Change1) (dates : Dates) → All CanBeSet1 changes → IsJob (jobs.Set1 changes dates)
set1_job changes dates can = record { target_stands = refl; size_stands = tt; changes_stand = no_changes; changes1_stand = can; places_stand = tt; area_stands = tt }

crop_job : (place degrees : Bool) (nearest edges : Bounds) (area : Area) → (place ≡ false → degrees ≡ false → (area.i0 ≤ area.i1) × (area.j0 ≤ area.j1))
    → IsJob (cond place (jobs.Within nearest) (cond degrees (jobs.Within edges) (jobs.Crop area)))
crop_job true degrees nearest edges area stands = record { target_stands = refl; size_stands = tt; changes_stand = no_changes; changes1_stand = no_changes1; places_stand = tt; area_stands = tt }
crop_job false true nearest edges area stands = record { target_stands = refl; size_stands = tt; changes_stand = no_changes; changes1_stand = no_changes1; places_stand = tt; area_stands = tt }
crop_job false false nearest edges area stands = record { target_stands = refl; size_stands = tt; changes_stand = no_changes; changes1_stand = no_changes1; places_stand = tt; area_stands = stands refl refl }

pub is_job : (command : Command) (words : List (List ℕ)) → HasRead command words → IfOk (job_of_command command words) IsJob
is_job the.Check words read = record { target_stands = refl; size_stands = tt; changes_stand = no_changes; changes1_stand = no_changes1; places_stand = tt; area_stands = tt }
is_job the.List words read =
    one_of (has_name (codes "with") words || has_name (codes "names") words) _ _
    (lines_job forms.List (columns_in (value_of (codes "with") words)) (value_if_given (codes "names") words)) list_job
is_job Dump words read = record {
  target_stands = refl;
  size_stands = tt;
  changes_stand = no_changes;
  changes1_stand = no_changes1;
  places_stand = places (number_if_given (codes "decimals") words) (has_name (codes "place") words) (decimals_few words read);
  area_stands = tt;
}
is_job the.Values words read = record { target_stands = refl; size_stands = tt; changes_stand = no_changes; changes1_stand = no_changes1; places_stand = tt; area_stands = tt }
is_job the.Coordinates words read = record { target_stands = refl; size_stands = tt; changes_stand = no_changes; changes1_stand = no_changes1; places_stand = tt; area_stands = tt }
is_job the.Compare words read = record { target_stands = refl; size_stands = tt; changes_stand = no_changes; changes1_stand = no_changes1; places_stand = tt; area_stands = tt }
is_job the.Keys words read =
    one_of (has_name (codes "show") words) _ _
    (lines_job forms.Show (columns_in (value_of (codes "show") words)) (value_if_given (codes "names") words))
    (one_of (has_name (codes "names") words) _ _ (lines_job forms.Keys [] (value_if_given (codes "names") words)) keys_job)
is_job the.Stats words read = record { target_stands = refl; size_stands = tt; changes_stand = no_changes; changes1_stand = no_changes1; places_stand = tt; area_stands = tt }
is_job the.Rescan words read = record { target_stands = refl; size_stands = tt; changes_stand = no_changes; changes1_stand = no_changes1; places_stand = tt; area_stands = tt }
is_job Crop words read =
    crop_job (has_name (codes "lat") words) (has_name (codes "north") words) (nearest_of words) (edges_of words) (area_of words)
    (λ no_place no_degrees. let box = crop_stands words read no_place no_degrees in (box.columns, box.rows))
is_job Filter words read =
    one_of (has_name (codes "name") words) _ _
    (named_job (conditions_of words) (value_of (codes "names") words) (names_in (value_of (codes "name") words)))
    (one_of (has_first words) _ _ (filter1_job (conditions1_of words)) (filter_job (conditions_of words)))
is_job Split words read = record { target_stands = refl; size_stands = tt; changes_stand = no_changes; changes1_stand = no_changes1; places_stand = tt; area_stands = tt }
is_job Set words read =
    one_of (has_first words) _ _ (set1_job (changes1_of words) (dates_of words) (changes1_can words read.all))
    (set_job (changes_of words) (dates_of words) (changes_can words read.all))
is_job Repack words read =
    repack_job (is (codes "least") (value_of (codes "to") words)) (profile_of words) (target_of words) (λ other. target_is words (repack_stands words read other))
is_job Make words read =
    record { target_stands = target_is words (make_stands words read); size_stands = size_is words (make_sized words read); changes_stand = no_changes; changes1_stand = no_changes1; places_stand = tt; area_stands = tt }
is_job Migrate words read = record { target_stands = refl; size_stands = tt; changes_stand = no_changes; changes1_stand = no_changes1; places_stand = tt; area_stands = tt }
is_job Demote words read = record { target_stands = refl; size_stands = tt; changes_stand = no_changes; changes1_stand = no_changes1; places_stand = tt; area_stands = tt }
is_job the.Help words read = record { target_stands = refl; size_stands = tt; changes_stand = no_changes; changes1_stand = no_changes1; places_stand = tt; area_stands = tt }
is_job the.Version words read = record { target_stands = refl; size_stands = tt; changes_stand = no_changes; changes1_stand = no_changes1; places_stand = tt; area_stands = tt }

-- the answer to the words, by that to the words behind their command
pub asked : (words : List (List ℕ)) (command : Command) (result : Result Job JobFault) → reading words ≡ Ok command
    → IsUnlessMemory result (job_of_command command (drop 1 words)) → IsAsked result words
asked words command result read answer = subst (λ r. IsUnlessMemory result (job_of_reading r (drop 1 words))) (sym read) answer

pub answer_is_job : (command : Command) (words : List (List ℕ)) (result : Result Job JobFault) → HasRead command words
    → IsUnlessMemory result (job_of_command command words) → IfOk result IsJob
answer_is_job command words result read (inl same) = subst (λ r. IfOk r IsJob) (sym same) (is_job command words read)
answer_is_job command words result read (inr memory) = subst (λ r. IfOk r IsJob) (sym memory) tt

-- ---- the word of a name

find-map : {X Y : Type 0} (p : Y → Bool) (f : X → Y) (xs : List X) → find p (map f xs) ≡ option_map f (find (λ x. p (f x)) xs)
find-map p f [] = refl
find-map p f (x ∷ xs) =
    ⊎_elim (λ (here : p (f x) ≡ true). rw here refl) (λ (other : p (f x) ≡ false). rw other (find-map p f xs)) (cases_Bool (p (f x)))

mapped : {X : Type 0} (f : X → List ℕ) (found : Option X) → option_map_or value_in (option_map f found) [] ≡ option_map_or (λ x. value_in (f x)) found []
mapped f None = refl
mapped f (Some x) = refl

pub value_found : {X : Type 0} (f : X → List ℕ) (name : List ℕ) (words : List X) (found : Option X) → found ≡ find (λ x. is_named name (f x)) words
    → option_map_or (λ x. value_in (f x)) found [] ≡ value_of name (map f words)
value_found f name words found is_found =
    ap (λ o. option_map_or (λ x. value_in (f x)) o []) is_found
    ∙ (sym (mapped f (find (λ x. is_named name (f x)) words)) ∙ ap (λ o. option_map_or value_in o []) (sym (find-map (is_named name) f words)))
