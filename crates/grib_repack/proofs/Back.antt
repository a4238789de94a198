-- What is packed may be unpacked, and gives the same column.
use Rattle.std.proofs.Common.{◌≡◌, ◌≢◌, ◌⊎◌, inl, inr, ℕ, ◌<◌, Bool, Option, Some, None, Ok, Err, MatchResult, List, length, refl, sym, ap, ◌∙◌, arith}
use Rattle.std.specs.declared.result.Result.{Result}
use Rattle.grib_base.specs.declared.fault.ReadFault.{ReadFault}
use Rattle.grib_base.specs.declared.fault.ReadFault.TheVariants.{Refused, Memory}
use Rattle.grib_base.specs.Rules.{located}
use Rattle.grib_bitmap.specs.Mask.{bitmap_indicator, mask_of}
use Rattle.grib_packing.specs.declared.column.Column.{Column}
use Rattle.grib_packing.specs.Entries.{data_fault, packing_fault}
use Rattle.grib_packing.specs.Laws.{UnpackTo}
use Rattle.grib_packing.specs.Misfits.{Target, template_of}
use Rattle.grib_packing.specs.Packed.{Packed as HasPacked}
use Rattle.grib_packing.specs.Packing.{packing_template, value_count}
use Rattle.grib_packing.specs.Unpacked.{IsUnpacked, MayBeUnpacked}
use Rattle.grib_packing.specs.Written.{MayBePacked}
use Rattle.grib2_message.proofs.Masks.{long_alone, present_of}
use Rattle.grib_repack.proofs.Sections.{are_written, template_stands}

own_or_none : (i : ℕ) → (i ≡ 0) ⊎ (i ≡ 255) → (i < 256) × (i ≢ 254)
own_or_none i (inl own) = (omega (arith, own), λ e. omega (arith, own, e))
own_or_none i (inr all) = (omega (arith, all), λ e. omega (arith, all, e))

module _ (target : Target) (column : Column) (kind : ℕ) (s5 s6 s7 : List ℕ) (may : MayBePacked column) (has : HasPacked target column kind s5 s6 s7)
    (back : UnpackTo column s5 s6 s7) (earlier : Option (List Bool)) where
  long : length (mask_of s6 (length column.points) earlier) ≡ length column.points
  long =
      let i = own_or_none (bitmap_indicator s6) (are_written target column kind s5 s6 s7 has).alone in
      long_alone s6 (length column.points) (value_count s5) earlier i.0 i.1 (back.bitmap earlier)

  pub may_be_unpacked : (template : ℕ) → template ≡ template_of target → MayBeUnpacked template s5 (mask_of s6 (length column.points) earlier)
  may_be_unpacked template is = record {
    some = omega (arith, long, may.some);
    few = omega (arith, long, may.few);
    accepted = ap (packing_fault s5) long ∙ back.representation;
    is_template = template_stands target column kind s5 s6 s7 has ∙ sym is;
    values = present_of s6 (length column.points) (value_count s5) earlier (back.bitmap earlier);
  }

  pub same_column : (start : ℕ) (answer : Result Column ReadFault) → IsUnpacked s5 (mask_of s6 (length column.points) earlier) start s7 answer
      → MatchResult answer (λ again. again ≡ column) (λ fault. fault ≡ Memory)
  same_column start (Ok again) is = is.1 ∙ back.column_stands earlier
  same_column start (Err Memory) is = refl
  same_column start (Err (Refused fault)) is =
      let none : located start (data_fault s5 s7) ≡ None = ap (located start) back.values in
      absurd (let e : Some fault ≡ None = sym is ∙ none in cc)
