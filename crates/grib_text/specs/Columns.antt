-- Lines of fields with columns, with their newline (10).
use Rattle.std.specs.Prelude.{ℕ, Option, Some, None, List, [], ◌∷◌, ◌++◌, length, codes}
use Rattle.std.specs.Fmt.{decimal, signed_decimal}
use Rattle.grib_keys.specs.declared.condition.Value.{Value}
use Rattle.grib_keys.specs.Keys.{name_of}
use Rattle.grib_keys.specs.Words.{value_text}
use Rattle.grib_select.specs.Values.{key_value_of}
use Rattle.grib1_sections.specs.Keys.{number1_of}
use Rattle.grib_keys.specs.Keys1.{name1_of}
use Rattle.grib_names.specs.Rows.{Name}
use Rattle.grib_names.specs.Table.{NameEntries}
use Rattle.grib_text.specs.declared.column.Column.{Column}
use Rattle.grib_text.specs.declared.column.Column.TheVariants.{Key, First, At, Octets}
use Rattle.grib_text.specs.declared.column.LineForm.{LineForm}
use Rattle.grib_text.specs.declared.column.LineForm.TheVariants as forms
use Rattle.grib_text.specs.Lines.{list_text}
use Rattle.grib_text.specs.Lines1.{list_text1}
use Rattle.grib_text.specs.KeyLines.{keys_text, keys_text1}
use Rattle.grib_text.specs.Named.{field_name}

abbrev pub column_name : Column → List ℕ
column_name (Key key) = name_of key
column_name (First key) = name1_of key
column_name At = codes "at"
column_name Octets = codes "octets"

-- the value of a key, `-` where the field does not have the key
abbrev pub value_or_none : Option Value → List ℕ
value_or_none None = codes "-"
value_or_none (Some value) = value_text value

-- what a column has of field i of a message of edition 2, which stands after `before` octets of the input; no field has a
-- key of the other edition
abbrev pub cell_of : ℕ → List ℕ → ℕ → Column → List ℕ
cell_of before message i (Key key) = value_or_none (key_value_of message i key)
cell_of before message i (First key) = codes "-"
cell_of before message i At = decimal before
cell_of before message i Octets = decimal (length message)

-- and of a message of edition 1
abbrev pub cell1_of : ℕ → List ℕ → Column → List ℕ
cell1_of before message (Key key) = codes "-"
cell1_of before message (First key) = signed_decimal (number1_of message key)
cell1_of before message At = decimal before
cell1_of before message Octets = decimal (length message)

-- a column behind a space: in a line of values alone without its name
abbrev pub column_text : LineForm → Column → List ℕ → List ℕ
column_text forms.Show column cell = codes " " ++ cell
column_text form column cell = codes " " ++ (column_name column ++ (codes "=" ++ cell))

-- some columns, each with what it has
abbrev pub columns_text : LineForm → (Column → List ℕ) → List Column → List ℕ
columns_text form cell_of [] = []
columns_text form cell_of (column ∷ columns) = column_text form column (cell_of column) ++ columns_text form cell_of columns

-- the name of a parameter behind a space, nothing where it has none
abbrev pub name_text : Option Name → List ℕ
name_text None = []
name_text (Some name) = codes " name=" ++ name

-- what a line begins with, of field i of message m, of edition 2
abbrev pub head_text : LineForm → List ℕ → ℕ → ℕ → List ℕ
head_text forms.List message m i = list_text message m i
head_text forms.Keys message m i = keys_text message m i
head_text forms.Show message m i = decimal m ++ (codes "." ++ decimal i)

-- and of message m, of edition 1
abbrev pub head_text1 : LineForm → List ℕ → ℕ → List ℕ
head_text1 forms.List message m = list_text1 message m
head_text1 forms.Keys message m = keys_text1 message m
head_text1 forms.Show message m = decimal m ++ codes ".1"

-- of field i of message m, of edition 2, which stands after `before` octets of the input
abbrev pub line_of : LineForm → List Column → NameEntries → ℕ → ℕ → List ℕ → ℕ → List ℕ
line_of form columns names m before message i =
    head_text form message m i ++ columns_text form (cell_of before message i) columns
    ++ name_text (field_name names message i) ++ 10 ∷ []

-- of message m, of edition 1
abbrev pub line1_of : LineForm → List Column → ℕ → ℕ → List ℕ → List ℕ
line1_of form columns m before message =
    head_text1 form message m ++ columns_text form (cell1_of before message) columns ++ 10 ∷ []

-- the table of names, one of none where there is no table
abbrev pub entries_of : Option NameEntries → NameEntries
entries_of None = []
entries_of (Some entries) = entries
