-- What simple packing writes.
use Rattle.std.proofs.Common.{◌≡◌, ℕ, ◌-◌, ◌^◌, ◌≤◌, Bool, true, false, cond, Some, None, List, [], ◌∷◌, ◌++◌, length, drop, sym, ap, ap₂, ◌∙◌, arith, length-append, length-drop}
use Rattle.std.specs.Prelude.{option_map, replicate}
use Rattle.std.specs.List.{list_any}
use Rattle.grib_bits.specs.Bits.{bits, bits_of}
use Rattle.grib_bits.specs.Written.{padding}
use Rattle.grib_bits.proofs.OctetBits.{length-bits}
use Rattle.grib_bits.proofs.Numbers.{length-bits_of}
use Rattle.grib_base.specs.Rules.{first_place}
use Rattle.grib_packing.specs.declared.column.Column.{Column}
use Rattle.grib_packing.specs.Misfits as misfits
use Rattle.grib_packing.specs.Misfits.{ToSimple, SecondaryMissing, OutOfRange, DifferenceRange, first_misfit, is_missing, is_missing2, is_scaled_outside}
use Rattle.grib_packing.specs.declared.column.Point.{Point}
use Rattle.grib_packing.specs.Packed.{Packed as HasPacked, padded, present_bits}
use Rattle.grib_packing.specs.declared.written.Packed.{Packed}
use Rattle.grib_packed.specs.Written.{packed}
use Rattle.grib2_message.specs.Fields.{part_octets, column_of}
use Rattle.grib_repack.specs.Repacked.{kind_of, packed_field}
use Rattle.grib_repack.proofs.Packing.{IsOnly}
use Rattle.grib_reasons.specs.declared.demotion.Demotion.TheVariants.{Reference}
use Rattle.grib_demote.specs.Losses.{first_of, loss_of, column_loss, loses_reference, reference_loss, value_losses}
use Rattle.grib_demote.specs.Held.{HoldsPacked}
use Rattle.grib_demote.proofs.Joining.{not_here}

long_by : (xs : List Bool) (s6 : List ℕ) → 8 ≤ length xs → bits (drop 5 s6) ≡ padded xs → 6 ≤ length s6
long_by xs s6 some e =
    let same = sym (length-bits (drop 5 s6)) ∙ ap length e ∙ length-append xs (replicate (padding xs) false) in
    omega (arith, same, length-drop 5 s6)

bitmap_long : (b : Bool) (xs : List Bool) (s6 : List ℕ) → bits (drop 5 s6) ≡ padded (cond b (bits_of 8 0 ++ xs) (bits_of 8 255)) → 6 ≤ length s6
bitmap_long true xs s6 e = long_by (bits_of 8 0 ++ xs) s6 (omega (arith, length-append (bits_of 8 0) xs, length-bits_of 8 0)) e
bitmap_long false xs s6 e = long_by (bits_of 8 255) s6 (omega (arith, length-bits_of 8 255)) e

same_parts : (p q : Packed) → (p.section5 ≡ q.section5) × (p.section6 ≡ q.section6) × (p.section7 ≡ q.section7) → p ≡ q
same_parts p q e = λ i. record { section5 = e.0 i; section6 = e.1 i; section7 = e.2 i }

pub packed_found : (message : List ℕ) (i : ℕ) (column : Column) → column ≡ column_of message i → IsOnly → (kind : ℕ) (p : Packed) → kind ≡ kind_of message i
    → loses_reference (part_octets message i 5) ≡ false
    → (first_misfit ToSimple column.points ≡ None) × HasPacked ToSimple column kind p.section5 p.section6 p.section7
    → (first_of (value_losses message i) ≡ None) × (p ≡ packed_field ToSimple message i) × HoldsPacked p
packed_found message i column is only kind p kind_is there h =
    let s5 = part_octets message i 5 in
    let no_reference : reference_loss s5 ≡ None = ap (λ b. cond b (Some Reference) None) there in
    let no_misfit : column_loss (column_of message i).points ≡ None = sym (ap (λ (x : Column). column_loss x.points) is) ∙ ap (option_map loss_of) h.0 in (
      not_here (reference_loss s5) (column_loss (column_of message i).points ∷ []) no_reference ∙ not_here (column_loss (column_of message i).points) [] no_misfit,
      same_parts p (packed ToSimple column kind) (only ToSimple column kind p.section5 p.section6 p.section7 h.1) ∙ ap₂ (packed ToSimple) is kind_is,
      record {
        numbers = omega (arith, h.1.as_long);
        bitmap = bitmap_long (list_any is_missing column.points) (present_bits column.points) p.section6 h.1.bitmap.contents_stand;
        values = h.1.values.itself.least;
      },
    )

-- simple packing has no differences that could be out of range
no_differences : (a b : Bool) (x y : ℕ) → misfits.first_of (cond a (Some (SecondaryMissing x)) None) (cond b (Some (OutOfRange y)) None) ≡ Some DifferenceRange → ⊥
no_differences true b x y e = let bad : Some (SecondaryMissing x) ≡ Some DifferenceRange = e in cc
no_differences false true x y e = let bad : Some (OutOfRange y) ≡ Some DifferenceRange = e in cc
no_differences false false x y e = let bad : None ≡ Some DifferenceRange = e in cc

pub not_by_differences : (points : List Point) → first_misfit ToSimple points ≡ Some DifferenceRange → ⊥
not_by_differences points e =
    no_differences (list_any is_missing2 points) (list_any (is_scaled_outside (2 ^ 48 - 1)) points) (first_place is_missing2 points) (first_place (is_scaled_outside (2 ^ 48 - 1)) points) e
