-- What is packed simply unpacks to the same column.
use Rattle.std.proofs.Common.{◌≡◌, ℕ, ◌+◌, ◌-◌, ◌*◌, ◌^◌, ◌≤◌, ◌==◌, Bool, true, false, not, cond, Some, None, ℤ, pos, nat_lt, List, [], ◌∷◌, ◌++◌, length, drop, map, refl, sym, ap, ap₂, ◌∙◌, arith, le-ltb}
use Rattle.std.specs.List.{list_any}
use Rattle.std.proofs.lemmas.List.{length-drop, append-nil}
use Rattle.grib_bits.specs.Binary32.{ieee_exponent}
use Rattle.grib_bits.specs.Bits.{bits}
use Rattle.grib_bits.specs.Plain.{plain}
use Rattle.grib_bits.proofs.OctetBits.{length-bits}
use Rattle.grib_base.specs.declared.fault.Fault.{Fault}
use Rattle.grib_base.specs.Rules.{first_fault}
use Rattle.grib_packing.specs.declared.column.Column.{Column}
use Rattle.grib_packing.specs.declared.column.Point.{Point}
use Rattle.grib_packing.specs.declared.column.Point.TheVariants.{Scaled, Missing, Missing2}
use Rattle.grib_packing.specs.Column.{points_with_mask}
use Rattle.grib_packing.specs.Entries.{is_packing, packing_of, packing_rules, packing_fault, data_fault, entries_of, column_from}
use Rattle.grib_packing.specs.Misfits.{ToSimple, first_misfit, is_missing2, is_scaled_outside}
use Rattle.grib_packing.specs.Packed.{HasNumbers, IsSimple, fields, padded, present_bits, simple_numbers, simple_width}
use Rattle.grib_packing.specs.Packing.{value_count, bit_width}
use Rattle.grib_packing.specs.Simple.{plain_bits}
use Rattle.grib_packing.proofs.Fields.{length-fields, length-padded8, plain-padded}
use Rattle.grib_packing.specs.Written.{MayBePacked}
use Rattle.grib_packing.proofs.Packings.{data_fault-simple, entries_of-simple, packing_fault-simple}
use Rattle.grib_simple_reading.proofs.Accepted.{same_column}
use Rattle.grib_simple.proofs.Fitting.{few_numbers, none_fail, number_back, parts_false, width_few, width_fits}

-- ---- the rules of Section 5

none_of_six : (a b c d e f : Bool) (fa fb fc fd fe ff : Fault) → a ≡ false → b ≡ false → c ≡ false → d ≡ false → e ≡ false → f ≡ false
    → cond a (Some fa) (cond b (Some fb) (cond c (Some fc) (cond d (Some fd) (cond e (Some fe) (cond f (Some ff) None))))) ≡ None
none_of_six a b c d e f fa fb fc fd fe ff ea eb ec ed ee ef = rw (ea, eb, ec, ed, ee, ef) refl

one_passes : (a : Bool) (fault : Fault) → a ≡ false → cond a (Some fault) None ≡ None
one_passes a fault e = rw e refl

-- a Section 5 of a template of the profile, as it is written, passes the rules of all templates
pub shared_rules : (s : List ℕ) (column : Column) (points values template bit_width kind : ℕ) → HasNumbers s column values template bit_width kind
    → is_packing template ≡ true → (packing_of template).least ≤ length s → 11 ≤ length s → values ≤ points
    → (ieee_exponent column.reference == 255) ≡ false → bit_width ≤ (packing_of template).most → first_fault (packing_rules s points) ≡ None
shared_rules s column points values template width kind h known least long few finite narrow =
    let t = h.template_stands in
    none_of_six _ _ _ _ _ _ _ _ _ _ _ _ (le-ltb (length s) 11 long) (ap (λ t. not (is_packing t)) t ∙ ap not known)
    (ap (λ t. nat_lt (length s) (packing_of t).least) t ∙ le-ltb (length s) (packing_of template).least least)
    (ap (nat_lt points) h.values_stand ∙ le-ltb points values few)
    (ap (λ r. ieee_exponent r == 255) h.reference_stands ∙ finite)
    (ap₂ (λ t w. nat_lt (packing_of t).most w) t h.bit_width_stands ∙ le-ltb (packing_of template).most width narrow)

-- ---- the points

-- the numbers of the points that are present, and missing points by the bitmap
pub points_again : (m : ℕ) (points : List Point) → list_any is_missing2 points ≡ false → list_any (is_scaled_outside m) points ≡ false
    → points_with_mask (present_bits points) (map (λ x. Scaled (pos x)) (simple_numbers points)) ≡ points
points_again m [] marks fits = refl
points_again m (Scaled x ∷ points) marks fits =
    let both = parts_false (is_scaled_outside m (Scaled x)) (list_any (is_scaled_outside m) points) fits in
    ap₂ (λ (z : ℤ) (ps : List Point). Scaled z ∷ ps) (number_back m x both.0) (points_again m points marks both.1)
points_again m (Missing ∷ points) marks fits = ap (λ (ps : List Point). Missing ∷ ps) (points_again m points marks fits)
points_again m (Missing2 ∷ points) marks fits = absurd (cc)

pub points_back : (points : List Point) → list_any is_missing2 points ≡ false → list_any (is_scaled_outside (2 ^ 48 - 1)) points ≡ false
    → points_with_mask (present_bits points) (map (λ x. Scaled (pos x)) (simple_numbers points)) ≡ points
points_back points marks fits = points_again (2 ^ 48 - 1) points marks fits

module _ (column : Column) (kind : ℕ) (s5 s6 s7 : List ℕ) (may : MayBePacked column) (none : first_misfit ToSimple column.points ≡ None) (h : IsSimple column kind s5 s6 s7) where
  pub accepted : packing_fault s5 (length column.points) ≡ None
  accepted =
      let shared = shared_rules s5 column (length column.points) (length (simple_numbers column.points)) 0 (simple_width column.points) kind h.numbers
      refl (omega (arith, h.as_long)) (omega (arith, h.as_long)) (few_numbers column.points) may.finite (width_few column.points none) in
      packing_fault-simple s5 (length column.points) shared h.numbers.template_stands

  -- ---- Section 7

  long_enough : plain_bits s5 + 40 ≤ 8 * length s7
  long_enough =
      let numbers = simple_numbers column.points in
      let w = simple_width column.points in
      let contents = fields w numbers in
      let product : plain_bits s5 ≡ length numbers * w = ap₂ (λ (m n : ℕ). m * n) h.numbers.values_stand h.numbers.bit_width_stands in
      omega (arith, product, length-fields w numbers, length-padded8 contents, ap length h.values.contents_stand, length-bits (drop 5 s7), length-drop 5 s7, h.values.itself.least)

  pub values_pass : data_fault s5 s7 ≡ None
  values_pass =
      data_fault-simple s5 s7 h.numbers.template_stands
      ∙ one_passes _ _ (le-ltb (8 * length s7) (plain_bits s5 + 40) long_enough)

  -- the numbers that are read
  read_again : plain (bits (drop 5 s7)) (bit_width s5) (value_count s5) ≡ simple_numbers column.points
  read_again =
      let numbers = simple_numbers column.points in
      let w = simple_width column.points in
      let stand : bits (drop 5 s7) ≡ padded (fields w numbers) ++ [] = h.values.contents_stand ∙ sym (append-nil (padded (fields w numbers))) in
      ap₂ (λ (v n : ℕ). plain (bits (drop 5 s7)) v n) h.numbers.bit_width_stands h.numbers.values_stand
      ∙ ap (λ (xs : List Bool). plain xs w (length numbers)) stand
      ∙ plain-padded w (length numbers) numbers [] refl (width_fits column.points none)

  pub column_back : (mask : List Bool) → mask ≡ present_bits column.points → column_from s5 mask s7 ≡ column
  column_back mask is =
      let marks = none_fail column.points none in
      let entries : entries_of s5 s7 ≡ map (λ x. Scaled (pos x)) (simple_numbers column.points) =
      entries_of-simple s5 s7 h.numbers.template_stands ∙ ap (map (λ x. Scaled (pos x))) read_again in
      let points : points_with_mask mask (entries_of s5 s7) ≡ column.points =
      ap₂ points_with_mask is entries ∙ points_back column.points marks.0 marks.1 in
      sym (same_column s5 column.reference column.e column.d column.points (points_with_mask mask (entries_of s5 s7))
      (sym h.numbers.reference_stands) (sym h.numbers.binary_scale_stands) (sym h.numbers.decimal_scale_stands) (sym points))
