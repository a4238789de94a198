-- A parameter table the other way round: which version and parameter of a centre stand for a parameter of edition 2.
use Rattle.std.specs.Prelude.{ℕ, Bool, false, not, ◌&&◌, ◌||◌, ◌==◌, if◌then◌else◌, nat_lt, Option, Some, None, fold}
use Rattle.std.specs.Option.{option_map_or}
use Rattle.grib_params.specs.declared.row.Target.{Target}
use Rattle.grib_params.specs.declared.matching.TableMatch.{TableMatch}
use Rattle.grib_params.specs.declared.matching.TableMatch.TheVariants.{Same, Any}
use Rattle.grib_params.specs.Fields.{Key}
use Rattle.grib_params.specs.Table.{Entries, lookup_in}

-- a version and a parameter
abbrev pub Pair : Type 0
Pair = ℕ × ℕ

-- by version, then parameter
abbrev pub is_before : Pair → Pair → Bool
is_before a b = nat_lt a.0 b.0 || ((a.0 == b.0) && nat_lt a.1 b.1)

abbrev pub same_target : Target → Target → Bool
same_target a b =
    (a.discipline == b.discipline) && (a.category == b.category) && (a.number == b.number) && (a.master == b.master)
    && (a.local == b.local)

-- the same discipline, category and number, whatever the tables that these are of
abbrev pub same_parameter : Target → Target → Bool
same_parameter a b = (a.discipline == b.discipline) && (a.category == b.category) && (a.number == b.number)

-- categories and numbers from 192 on are for local use (code tables 4.1 and 4.2): the local tables say what they are
abbrev pub is_local : Target → Bool
is_local parameter = not (nat_lt parameter.category 192 && nat_lt parameter.number 192)

-- whether a target stands for a parameter: by all five, or by any master tables, and by any local tables too where
-- the parameter is not for local use
abbrev pub matches : TableMatch → Target → Target → Bool
matches Same parameter target = same_target parameter target
matches Any parameter target = same_parameter parameter target && (not (is_local parameter) || (parameter.local == target.local))

abbrev pub pair_of : Key → Pair
pair_of key = (key.1, key.2)

-- whether a look-up finds a target that stands for the parameter
abbrev pub has_target : Entries → TableMatch → ℕ → Target → Pair → Bool
has_target table matching centre parameter pair =
    option_map_or (matches matching parameter) (lookup_in table centre pair.0 pair.1) false

-- the pair of a row, where the row and the look-up have a target that stands for the parameter
abbrev pub is_among : Entries → TableMatch → ℕ → Target → Key × Target → Bool
is_among table matching centre parameter row =
    matches matching parameter row.1 && has_target table matching centre parameter (pair_of row.0)

-- the earlier of two pairs, where there is one already
abbrev pub earlier : Option Pair → Pair → Pair
earlier None pair = pair
earlier (Some first) pair = if is_before pair first then pair else first

-- the first pair so far, with a row more
abbrev pub with_row : Entries → TableMatch → ℕ → Target → Option Pair → Key × Target → Option Pair
with_row table matching centre parameter first row =
    if is_among table matching centre parameter row then Some (earlier first (pair_of row.0)) else first

-- the first pair of all that stand for the parameter, by version, then parameter
abbrev pub first_pair : Entries → TableMatch → ℕ → Target → Option Pair
first_pair table matching centre parameter = fold (with_row table matching centre parameter) None table
