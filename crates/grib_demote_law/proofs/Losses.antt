-- Where there is no first loss, nothing is lost.
use Rattle.std.proofs.Common.{◌≡◌, ℕ, ◌≤◌, Bool, true, false, not, ◌&&◌, Option, Some, None, List, [], ◌∷◌, ◌++◌, length, nat_lt, refl}
use Rattle.std.specs.Prelude.{is_none, option_map}
use Rattle.std.proofs.lemmas.Bool.{ltb-false}
use Rattle.grib_base.proofs.Firsts.{none_later}
use Rattle.grib2_sections.specs.Head.{discipline}
use Rattle.grib2_grids.specs.Grid.{grid_template}
use Rattle.grib2_grids.specs.Opaque.{is_opaque_grid}
use Rattle.grib2_products.specs.Spelled.{coordinate_list}
use Rattle.grib_packing.specs.Misfits.{ToSimple, Misfit, first_misfit}
use Rattle.grib_params.specs.declared.matching.TableMatch.{TableMatch}
use Rattle.grib_params.specs.Table.{Entries}
use Rattle.grib2_message.specs.Fields.{part_octets, column_of}
use Rattle.grib_reasons.specs.declared.demotion.Demotion.{Demotion}
use Rattle.grib_reasons.specs.declared.demotion.Demotion.TheVariants.{LocalUse, EarthShape, GridFlags, RowList, Reference, TooLong}
use Rattle.grib_demote.specs.Losses.{first_of, lost_where, loss_of, column_loss, field_losses, parameter_losses, time_losses, product_losses, form_losses, number_losses, shape_losses, value_losses, loses_product, loses_shape, loses_reference, reference_loss, coordinate_loss}
use Rattle.grib_demote.proofs.Joining.{stated_grid, typed_grid}
use Rattle.grib_demote.specs.Levels.{level_of}
use Rattle.grib_demote.specs.Times.{unit_of, has_process, loses_interval}
use Rattle.grib_demote.specs.Dates.{loses_date}
use Rattle.grib_demote.specs.Grids.{type_of, loses_flags, loses_rows, grid_loss}
use Rattle.grib_demote.specs.Products.{loses_centre, pair_in, has_local}
use Rattle.grib_demote.specs.Demoted.{demoted, first_loss, length_loss}

parts_none : (xs ys : List (Option Demotion)) → first_of (xs ++ ys) ≡ None → (first_of xs ≡ None) × (first_of ys ≡ None)
parts_none [] ys e = (refl, e)
parts_none (Some loss ∷ xs) ys e = let no : ⊥ = cc in absurd no
parts_none (None ∷ xs) ys e = parts_none xs ys e

head_none : (a : Option Demotion) (xs : List (Option Demotion)) → first_of (a ∷ xs) ≡ None → (a ≡ None) × (first_of xs ≡ None)
head_none None xs e = (refl, e)
head_none (Some loss) xs e = let no : ⊥ = cc in absurd no

not_lost : (b : Bool) (loss : Demotion) → lost_where b loss ≡ None → b ≡ false
not_lost false loss e = refl
not_lost true loss e = let no : ⊥ = cc in absurd no

no_misfit : (o : Option Misfit) → option_map loss_of o ≡ None → o ≡ None
no_misfit None e = refl
no_misfit (Some misfit) e = let no : ⊥ = cc in absurd no

-- nothing of the templates, the parameter and the level
pub record ParameterKept (table : Entries) (matching : TableMatch) (d : ℕ) (s1 s3 s4 : List ℕ) : Type 0 where
  pub product : loses_product s4 ≡ false
  pub stated : is_opaque_grid s3 ≡ false
  pub template : is_none (type_of (grid_template s3)) ≡ false
  pub centre : loses_centre s1 ≡ false
  pub parameter : is_none (pair_in table matching d s1 s4) ≡ false
  pub level : is_none (level_of s4) ≡ false

parameter_kept : (table : Entries) (matching : TableMatch) (d : ℕ) (s1 s3 s4 : List ℕ) → first_of (parameter_losses table matching d s1 s3 s4) ≡ None → ParameterKept table matching d s1 s3 s4
parameter_kept table matching d s1 s3 s4 e =
    let a = head_none _ _ e in
    let b = head_none _ _ a.1 in
    let c = head_none _ _ b.1 in
    let p = head_none _ _ c.1 in
    let l = head_none _ _ p.1 in
    record { product = not_lost _ _ a.0; stated = stated_grid s3 (not_lost _ _ b.0); template = typed_grid s3 (not_lost _ _ b.0); centre = not_lost _ _ c.0; parameter = not_lost _ _ p.0; level = not_lost _ _ l.0 }

-- nothing of the times
pub record TimesKept (s1 s4 : List ℕ) : Type 0 where
  pub unit : is_none (unit_of s4) ≡ false
  pub process : not (has_process s4) ≡ false
  pub date : loses_date s1 ≡ false
  pub interval : loses_interval s1 s4 ≡ false

times_kept : (s1 s4 : List ℕ) → first_of (time_losses s1 s4) ≡ None → TimesKept s1 s4
times_kept s1 s4 e =
    let a = head_none _ _ e in
    let b = head_none _ _ a.1 in
    let c = head_none _ _ b.1 in
    let d = head_none _ _ c.1 in
    record { unit = not_lost _ _ a.0; process = not_lost _ _ b.0; date = not_lost _ _ c.0; interval = not_lost _ _ d.0 }

-- nothing of the form of the grid and of its numbers
pub record ShapeKept (keep any : Bool) (s2 s3 s4 : List ℕ) : Type 0 where
  pub flags : loses_flags s3 ≡ false
  pub rows : loses_rows s3 ≡ false
  pub numbers : grid_loss s3 ≡ None
  pub coordinates : coordinate_loss (coordinate_list s4) ≡ None

form_kept : (keep any : Bool) (s2 s3 : List ℕ) → first_of (form_losses keep any s2 s3) ≡ None → (loses_flags s3 ≡ false) × (loses_rows s3 ≡ false)
form_kept keep any s2 s3 e =
    let flags = lost_where (loses_flags s3) GridFlags in
    let rows = lost_where (loses_rows s3) RowList in
    let a = head_none (lost_where (has_local s2 && not keep) LocalUse) (lost_where (loses_shape any s3) EarthShape ∷ flags ∷ rows ∷ []) e in
    let b = head_none (lost_where (loses_shape any s3) EarthShape) (flags ∷ rows ∷ []) a.1 in
    let c = head_none flags (rows ∷ []) b.1 in
    let d = head_none rows [] c.1 in
    (not_lost (loses_flags s3) GridFlags c.0, not_lost (loses_rows s3) RowList d.0)

numbers_kept : (s3 s4 : List ℕ) → first_of (number_losses s3 s4) ≡ None → (grid_loss s3 ≡ None) × (coordinate_loss (coordinate_list s4) ≡ None)
numbers_kept s3 s4 e =
    let n = head_none (grid_loss s3) (coordinate_loss (coordinate_list s4) ∷ []) e in
    let o = head_none (coordinate_loss (coordinate_list s4)) [] n.1 in
    (n.0, o.0)

shape_kept : (keep any : Bool) (s2 s3 s4 : List ℕ) → first_of (form_losses keep any s2 s3 ++ number_losses s3 s4) ≡ None → ShapeKept keep any s2 s3 s4
shape_kept keep any s2 s3 s4 e =
    let both = parts_none (form_losses keep any s2 s3) (number_losses s3 s4) e in
    let form = form_kept keep any s2 s3 both.0 in
    let numbers = numbers_kept s3 s4 both.1 in
    record { flags = form.0; rows = form.1; numbers = numbers.0; coordinates = numbers.1 }

-- nothing of a field
pub record Kept (table : Entries) (matching : TableMatch) (keep any : Bool) (message : List ℕ) (i : ℕ) : Type 0 where
  pub product : ParameterKept table matching (discipline message) (part_octets message i 1) (part_octets message i 3) (part_octets message i 4)
  pub times : TimesKept (part_octets message i 1) (part_octets message i 4)
  pub shape : ShapeKept keep any (part_octets message i 2) (part_octets message i 3) (part_octets message i 4)
  pub reference : loses_reference (part_octets message i 5) ≡ false
  pub column : first_misfit ToSimple (column_of message i).points ≡ None
  pub short : length (demoted table matching keep message i) ≤ 16777215

pub all_kept : (table : Entries) (matching : TableMatch) (keep any : Bool) (message : List ℕ) (i : ℕ) → first_loss table matching keep any message i ≡ None → Kept table matching keep any message i
all_kept table matching keep any message i e =
    let s1 = part_octets message i 1 in
    let s3 = part_octets message i 3 in
    let s4 = part_octets message i 4 in
    let both = none_later (first_of (field_losses table matching keep any message i)) (λ _. length_loss (length (demoted table matching keep message i))) e in
    let outer = parts_none (product_losses table matching (discipline message) s1 s3 s4) (shape_losses keep any message i ++ value_losses message i) both.0 in
    let front = parts_none (parameter_losses table matching (discipline message) s1 s3 s4) (time_losses s1 s4) outer.0 in
    let inner = parts_none (shape_losses keep any message i) (value_losses message i) outer.1 in
    let s5 = part_octets message i 5 in
    let points = (column_of message i).points in
    let r = head_none (reference_loss s5) (column_loss points ∷ []) inner.1 in
    let c = head_none (column_loss points) [] r.1 in
    record {
      product = parameter_kept table matching (discipline message) s1 s3 s4 front.0;
      times = times_kept s1 s4 front.1;
      shape = shape_kept keep any (part_octets message i 2) s3 s4 inner.0;
      reference = not_lost (loses_reference s5) Reference r.0;
      column = no_misfit (first_misfit ToSimple (column_of message i).points) c.0;
      short = ltb-false 16777215 (length (demoted table matching keep message i)) (not_lost (nat_lt 16777215 (length (demoted table matching keep message i))) (TooLong (length (demoted table matching keep message i))) both.1);
    }
