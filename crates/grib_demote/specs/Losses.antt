-- What of a field of edition 2 has no place in edition 1: the losses in their order. Which are losses is our own
-- choice.
use Rattle.std.specs.Prelude.{ℕ, ◌+◌, Bool, not, cond, ◌&&◌, ◌||◌, Option, Some, None, is_none, option_map, List, [], ◌∷◌, ◌++◌, ◌==◌}
use Rattle.grib_bits.specs.Octets.{octets}
use Rattle.grib_params.specs.declared.matching.TableMatch.{TableMatch}
use Rattle.grib_params.specs.Table.{Entries}
use Rattle.grib2_sections.specs.Head.{discipline}
use Rattle.grib2_grids.specs.Grid.{grid_template}
use Rattle.grib2_grids.specs.Opaque.{is_opaque_grid}
use Rattle.grib2_products.specs.Product.{product_template}
use Rattle.grib2_products.specs.Spelled.{coordinate_list}
use Rattle.grib_packing.specs.Misfits as packing
use Rattle.grib_packing.specs.Misfits.{Misfit, ToSimple, first_misfit}
use Rattle.grib_packing.specs.Packing.{reference_word}
use Rattle.grib_packing.specs.declared.column.Point.{Point}
use Rattle.grib2_message.specs.Fields.{part_octets, column_of}
use Rattle.grib_reasons.specs.declared.demotion.Demotion.{Demotion}
use Rattle.grib_reasons.specs.declared.demotion.Demotion.TheVariants as losses
use Rattle.grib_demote.specs.Words.{ibm_of}
use Rattle.grib_demote.specs.Levels.{level_of}
use Rattle.grib_demote.specs.Times.{unit_of, has_process, loses_interval}
use Rattle.grib_demote.specs.Dates.{loses_date}
use Rattle.grib_demote.specs.Grids.{type_of, loses_flags, loses_rows, grid_loss}
use Rattle.grib_demote.specs.Products.{loses_centre, pair_in, has_local}

abbrev pub lost_where : Bool → Demotion → Option Demotion
lost_where is_lost loss = cond is_lost (Some loss) None

-- the first loss of some
abbrev pub first_of : List (Option Demotion) → Option Demotion
first_of [] = None
first_of (Some loss ∷ later) = Some loss
first_of (None ∷ later) = first_of later

-- templates 4.0 and 4.8
abbrev pub loses_product : List ℕ → Bool
loses_product s4 = not ((product_template s4 == 0) || (product_template s4 == 8))

-- a grid that is opaque, or by a template without a type of grid
abbrev pub loses_grid : List ℕ → Bool
loses_grid s3 = is_opaque_grid s3 || is_none (type_of (grid_template s3))

-- an earth that is not one of the two of edition 1
abbrev pub loses_shape : Bool → List ℕ → Bool
loses_shape any_earth s3 = not ((octets s3 15 15 == 0) || (octets s3 15 15 == 2)) && not any_earth

-- a vertical coordinate without an IBM word, or beyond the 255 that one octet counts
abbrev pub is_lost : ℕ → ℕ → Bool
is_lost word i = is_none (ibm_of word) || (i == 256)

-- the first of some, counted from i
abbrev pub coordinate_loss_from : ℕ → List ℕ → Option Demotion
coordinate_loss_from i [] = None
coordinate_loss_from i (word ∷ words) =
    cond (is_lost word i) (Some (losses.Coordinate i)) (coordinate_loss_from (i + 1) words)

abbrev pub coordinate_loss : List ℕ → Option Demotion
coordinate_loss words = coordinate_loss_from 1 words

-- a point that simple packing has no place for
abbrev pub loss_of : Misfit → Demotion
loss_of (packing.SecondaryMissing point) = losses.SecondaryMissing point
loss_of (packing.OutOfRange point) = losses.OutOfRange point
loss_of packing.DifferenceRange = losses.OutOfRange 0

abbrev pub column_loss : List Point → Option Demotion
column_loss points = option_map loss_of (first_misfit ToSimple points)

-- the losses of the templates, the parameter and the level
abbrev pub parameter_losses : Entries → TableMatch → ℕ → List ℕ → List ℕ → List ℕ → List (Option Demotion)
parameter_losses table matching discipline s1 s3 s4 =
    lost_where (loses_product s4) losses.Product
    ∷ lost_where (loses_grid s3) losses.GridTemplate
    ∷ lost_where (loses_centre s1) losses.Centre
    ∷ lost_where (is_none (pair_in table matching discipline s1 s4)) losses.Parameter
    ∷ lost_where (is_none (level_of s4)) losses.Level
    ∷ []

-- those of the times
abbrev pub time_losses : List ℕ → List ℕ → List (Option Demotion)
time_losses s1 s4 =
    lost_where (is_none (unit_of s4)) losses.TimeUnit
    ∷ lost_where (not (has_process s4)) losses.Process
    ∷ lost_where (loses_date s1) losses.Date
    ∷ lost_where (loses_interval s1 s4) losses.Interval
    ∷ []

abbrev pub product_losses : Entries → TableMatch → ℕ → List ℕ → List ℕ → List ℕ → List (Option Demotion)
product_losses table matching discipline s1 s3 s4 = parameter_losses table matching discipline s1 s3 s4 ++ time_losses s1 s4

-- those of Section 2, and of the earth, the flags and the list of rows of Section 3
abbrev pub form_losses : Bool → Bool → List ℕ → List ℕ → List (Option Demotion)
form_losses keep_local any_earth s2 s3 =
    lost_where (has_local s2 && not keep_local) losses.LocalUse
    ∷ lost_where (loses_shape any_earth s3) losses.EarthShape
    ∷ lost_where (loses_flags s3) losses.GridFlags
    ∷ lost_where (loses_rows s3) losses.RowList
    ∷ []

-- those of the numbers of Section 3 and of the vertical coordinates
abbrev pub number_losses : List ℕ → List ℕ → List (Option Demotion)
number_losses s3 s4 = grid_loss s3 ∷ coordinate_loss (coordinate_list s4) ∷ []

-- those of the values
abbrev pub loses_reference : List ℕ → Bool
loses_reference s5 = is_none (ibm_of (reference_word s5))

abbrev pub reference_loss : List ℕ → Option Demotion
reference_loss s5 = lost_where (loses_reference s5) losses.Reference

-- The losses of field i, but for the length of its message.
abbrev pub shape_losses : Bool → Bool → List ℕ → ℕ → List (Option Demotion)
shape_losses keep_local any_earth message i =
    form_losses keep_local any_earth (part_octets message i 2) (part_octets message i 3)
    ++ number_losses (part_octets message i 3) (part_octets message i 4)

abbrev pub value_losses : List ℕ → ℕ → List (Option Demotion)
value_losses message i = reference_loss (part_octets message i 5) ∷ column_loss (column_of message i).points ∷ []

abbrev pub field_losses : Entries → TableMatch → Bool → Bool → List ℕ → ℕ → List (Option Demotion)
field_losses table matching keep_local any_earth message i =
    product_losses table matching (discipline message) (part_octets message i 1) (part_octets message i 3) (part_octets message i 4)
    ++ (shape_losses keep_local any_earth message i ++ value_losses message i)
