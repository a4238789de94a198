-- Lists of names, with `,` between them: the columns of a line, and the names of parameters.
use Rattle.std.specs.Prelude.{ℕ, Bool, cond, Option, Some, None, is_some, option_map, List, codes}
use Rattle.std.specs.List.{list_all, filter_map}
use Rattle.std.specs.Option.{option_or}
use Rattle.std.specs.Str.{bytes_eq}
use Rattle.grib_keys.specs.Keys.{key_named}
use Rattle.grib_keys.specs.Keys1.{key1_named}
use Rattle.grib_text.specs.declared.column.Column.{Column}
use Rattle.grib_text.specs.declared.column.Column.TheVariants as columns
use Rattle.grib_names.specs.Rows.{is_name}
use Rattle.grib_words.specs.Choices.{elements}

-- a column that is no key
abbrev pub place_named : List ℕ → Option Column
place_named name =
    cond (bytes_eq name (codes "at")) (Some columns.At) (cond (bytes_eq name (codes "octets")) (Some columns.Octets) None)

-- the column of this name: a key of edition 2 or of edition 1, or a place
abbrev pub column_named : List ℕ → Option Column
column_named name =
    option_or (option_map columns.Key (key_named name)) (option_or (option_map columns.First (key1_named name)) (place_named name))

-- whether each element is the name of a column
abbrev pub is_columns : List ℕ → Bool
is_columns text = list_all (λ element. is_some (column_named element)) (elements text)

-- the columns of these names, in their order
abbrev pub columns_in : List ℕ → List Column
columns_in text = filter_map column_named (elements text)

-- whether each element is the name of a parameter
abbrev pub are_names : List ℕ → Bool
are_names text = list_all is_name (elements text)

-- the names, in their order
abbrev pub names_in : List ℕ → List (List ℕ)
names_in text = elements text
