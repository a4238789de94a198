-- What a field of either edition holds.
use Rattle.std.specs.Prelude.{◌≡◌, ℕ, ℤ, true, Option, None, Some, List}
use Rattle.grib_dyadic.specs.Reference.{Binary, ieee, ibm, reduced}
use Rattle.grib_keys.specs.declared.key.Key.{Key}
use Rattle.grib_keys.specs.declared.condition.Value.{Value as KeyValue}
use Rattle.grib_packing.specs.declared.column.Column.{Column}
use Rattle.grib_keys.specs.declared.key1.Key1.{Key1}
use Rattle.grib1_sections.specs.Keys.{number1_of}
use Rattle.grib1_sections.specs.Column.{column1_of}
use Rattle.grib1_sections.specs.Acceptance.{points_of}
use Rattle.grib2_grids.specs.Grid.{grid_points}
use Rattle.grib2_grids.specs.Opaque.{is_opaque_grid}
use Rattle.grib2_grids.specs.Spelled as grids
use Rattle.grib2_grids.specs.declared.grid.GridSection.{GridSection}
use Rattle.grib2_products.specs.Opaque.{is_opaque_product}
use Rattle.grib2_products.specs.Spelled as products
use Rattle.grib2_products.specs.declared.product.ProductSection.{ProductSection}
use Rattle.grib2_message.specs.Fields.{column_of, part_octets}
use Rattle.grib_select.specs.Values.{key_value_of}
use Rattle.grib_select.specs.Single.{single_of}
use Rattle.grib_dispatch.specs.declared.reading.Held.{Held}
use Rattle.grib_dispatch.specs.declared.reading.Held.TheVariants.{One, Two}
use Rattle.grib_dyadic.specs.Value.{Exact}
use Rattle.grib.specs.Message.{FieldOf, field_of}
use Rattle.grib.specs.declared.field.Field.{Field}
use Rattle.grib.specs.Points.{values_of}

-- what a field shows of itself: its message and its number
abbrev pub shown : Field → FieldOf
shown field = field_of field.message.now field.number

abbrev pub key_of : Held → ℕ → Key → Option KeyValue
key_of (One message) number key = None
key_of (Two message) number key = key_value_of message number key

-- the value of a key of edition 2
abbrev pub key_in : FieldOf → Key → Option KeyValue
key_in field key = key_of field.message field.number key

abbrev pub number_of : Held → Key1 → Option ℤ
number_of (One message) key = Some (number1_of message key)
number_of (Two message) key = None

-- the number of a key of edition 1
abbrev pub key1_in : FieldOf → Key1 → Option ℤ
key1_in field key = number_of field.message key

abbrev pub IsGrid : Held → ℕ → Option GridSection → Type 0
IsGrid (Two message) number (Some grid) = grids.Spelled grid (part_octets message number 3)
IsGrid (Two message) number None = is_opaque_grid (part_octets message number 3) ≡ true
IsGrid (One message) number (Some grid) = ⊥
IsGrid (One message) number None = Unit {0}

-- the grid is what Section 3 says; an opaque grid and edition 1 have none of these
abbrev pub IsGridOf : FieldOf → Option GridSection → Type 0
IsGridOf field grid = IsGrid field.message field.number grid

abbrev pub IsProduct : Held → ℕ → Option ProductSection → Type 0
IsProduct (Two message) number (Some product) = products.Spelled product (part_octets message number 4)
IsProduct (Two message) number None = is_opaque_product (part_octets message number 4) ≡ true
IsProduct (One message) number (Some product) = ⊥
IsProduct (One message) number None = Unit {0}

-- the product is what Section 4 says; an opaque product and edition 1 have none of these
abbrev pub IsProductOf : FieldOf → Option ProductSection → Type 0
IsProductOf field product = IsProduct field.message field.number product

abbrev pub point_count_of : Held → ℕ → ℕ
point_count_of (One message) number = points_of message
point_count_of (Two message) number = grid_points (part_octets message number 3)

-- how many points its grid has
abbrev pub point_count_in : FieldOf → ℕ
point_count_in field = point_count_of field.message field.number

abbrev pub column_at : Held → ℕ → Column
column_at (One message) number = column1_of message
column_at (Two message) number = column_of message number

abbrev pub column_in : FieldOf → Column
column_in field = column_at field.message field.number

-- the reference value of a column, reduced: a word of the IBM form in edition 1, of the IEEE form in edition 2
abbrev pub reference_by : Held → ℕ → Binary
reference_by (One message) word = reduced (ibm word)
reference_by (Two message) word = reduced (ieee word)

-- the value of each point, none where it is missing
abbrev pub values_in : FieldOf → List (Option Exact)
values_in field = let column = column_in field in values_of (reference_by field.message column.reference) column column.points

abbrev pub extract_of : Held → ℕ → List ℕ
extract_of (One message) number = message
extract_of (Two message) number = single_of message number

-- the field as a message of its own
abbrev pub extracted : FieldOf → List ℕ
extracted field = extract_of field.message field.number
