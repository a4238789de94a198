-- Lemmas on a field that is packed.
use Rattle.std.proofs.Common.{◌≡◌, ℕ, ◌+◌, Option, None, option_map, List, [], ◌∷◌, ◌++◌, map, All, sym, ap, ap₂, ◌∙◌, subst, arith}
use Rattle.std.specs.List.{range_with_len}
use Rattle.std.proofs.lemmas.List.Elements.{All-nil, All-cons, All-append}
use Rattle.std.proofs.lemmas.List.FromFn.{map-range_with_len_more}
use Rattle.grib_packing.specs.declared.column.Column.{Column}
use Rattle.grib_packing.specs.Misfits.{Target, Misfit, first_misfit}
use Rattle.grib_packing.specs.Packed.{Packed as HasPacked}
use Rattle.grib_packing.specs.declared.written.Packed.{Packed}
use Rattle.grib_packing.specs.declared.written.PackFault.{PackFault}
use Rattle.std.specs.Prelude.{Result, IsErrAnd}
use Rattle.grib_base.proofs.Passing.{carried}
use Rattle.grib_packing.specs.declared.written.PackFault.TheVariants.{Memory}
use Rattle.grib_packing.specs.Written.{IsPackFault, IsPacked}
use Rattle.grib_packed.specs.Written.{packed}
use Rattle.grib_packing.specs.Below.{IsBelowOrNone, IsPackedBelow}
use Rattle.grib2_message.specs.Fields.{column_of}
use Rattle.grib2_message.specs.Assembled.{IsShort}
use Rattle.grib_repack.specs.Repacked.{RepackMisfit, kind_of, packed_field, field_misfit, in_field}
use Rattle.grib_repack.specs.Faults.{IsRepackFault}
use Rattle.grib_repack.specs.declared.fault.RepackFault.{RepackFault}
use Rattle.grib_repack.proofs.Sections.{are_written}

-- the parts of one more field
pub parts_more : (f : ℕ → Packed) (n : ℕ) (items new : List Packed) (p : Packed) → items ≡ map f (range_with_len 1 n) → p ≡ f (n + 1) → new ≡ items ++ p ∷ []
    → new ≡ map f (range_with_len 1 (n + 1))
parts_more f n items new p before here is =
    is ∙ ap₂ (λ (xs : List Packed) (x : Packed). xs ++ x ∷ []) before here ∙ sym (map-range_with_len_more f 1 n (n + 1) (omega arith))

pub short_more : (items new : List Packed) (p : Packed) → All IsShort items → IsShort p → new ≡ items ++ p ∷ [] → All IsShort new
short_more items new p before here is =
    subst (λ (xs : List Packed). All IsShort xs) (sym is)
    (All-append IsShort items (p ∷ []) before (All-cons IsShort p [] here (All-nil IsShort)))

-- no other sections are written
abbrev pub IsOnly : Type 0
IsOnly =
    (target : Target) (column : Column) (kind : ℕ) (s5 s6 s7 : List ℕ) → HasPacked target column kind s5 s6 s7
    → let p = packed target column kind in (s5 ≡ p.section5) × (s6 ≡ p.section6) × (s7 ≡ p.section7)

same_parts : (p q : Packed) → (p.section5 ≡ q.section5) × (p.section6 ≡ q.section6) × (p.section7 ≡ q.section7) → p ≡ q
same_parts p q e = λ i. record { section5 = e.0 i; section6 = e.1 i; section7 = e.2 i }

module _ (target : Target) (message : List ℕ) (i : ℕ) (column : Column) (is : column ≡ column_of message i) where
  -- the misfit of the column is that of the field
  misfit_is : option_map (in_field i) (first_misfit target column.points) ≡ field_misfit target message i
  misfit_is = ap (λ (x : Column). option_map (in_field i) (first_misfit target x.points)) is

  pub field_packed : IsOnly → (kind : ℕ) (p : Packed) → kind ≡ kind_of message i → (first_misfit target column.points ≡ None) × HasPacked target column kind p.section5 p.section6 p.section7
      → (field_misfit target message i ≡ None) × (p ≡ packed_field target message i) × IsShort p
  field_packed only kind p kind_is h =
      let written = are_written target column kind p.section5 p.section6 p.section7 h.1 in (
        sym misfit_is ∙ ap (option_map (in_field i)) h.0,
        same_parts p (packed target column kind) (only target column kind p.section5 p.section6 p.section7 h.1) ∙ ap₂ (packed target) is kind_is,
        record { short_5 = written.short_5; short_6 = written.short_6; short_7 = written.short_7 },
      )

  pub field_fault : (fault : PackFault) (result : RepackFault) → IsPackFault (first_misfit target column.points) fault
      → ((expected : Option Misfit) → IsPackFault expected fault → IsRepackFault (option_map (in_field i) expected) result) → IsRepackFault (field_misfit target message i) result
  field_fault fault result h told =
      subst (λ (o : Option RepackMisfit). IsRepackFault o result) misfit_is (told (first_misfit target column.points) h)

-- where there is no memory, nothing is said of the column
pub out_of_memory : (target : Target) (column : Column) (kind : ℕ) (result : Result Packed PackFault) → IsErrAnd result (λ fault. fault ≡ Memory) → IsPacked target column kind result
out_of_memory target column kind result is =
    let Fits : Packed → Type 0 = (λ p. (first_misfit target column.points ≡ None) × HasPacked target column kind p.section5 p.section6 p.section7) in
    let Fault : PackFault → Type 0 = IsPackFault (first_misfit target column.points) in
    carried Fits Fault result Memory is tt

pub none_below : (target : Target) (column : Column) (kind : ℕ) (below : Option ℕ) (result : Result (Option Packed) PackFault) → IsErrAnd result (λ fault. fault ≡ Memory)
    → IsPackedBelow target column kind below result
none_below target column kind below result is =
    let Fits : Option Packed → Type 0 = (λ found. (first_misfit target column.points ≡ None) × IsBelowOrNone target column kind below found) in
    let Fault : PackFault → Type 0 = IsPackFault (first_misfit target column.points) in
    carried Fits Fault result Memory is tt
