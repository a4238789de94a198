-- Lemmas on the form that is chosen.
use Rattle.std.proofs.Common.{◌≡◌, ℕ, ◌+◌, ◌≤◌, ◌<◌, min, Option, Some, None, List, [], ◌∷◌, length, inl, inr, refl, sym, ap, ◌∙◌, arith, subst}
use Rattle.std.specs.List.{filter_map}
use Rattle.grib_base.specs.declared.profile.Profile.{Profile}
use Rattle.grib_packing.specs.declared.column.Column.{Column}
use Rattle.grib_base.specs.declared.profile.Profile.TheVariants.{Stated, Open}
use Rattle.grib_packing.specs.Misfits.{Target, Misfit, first_misfit}
use Rattle.grib_packing.specs.Packed.{Packed as HasPacked}
use Rattle.grib_packing.specs.declared.written.Packed.{Packed}
use Rattle.grib_packing.specs.declared.written.PackFault.{PackFault}
use Rattle.grib_packing.specs.declared.written.PackFault.TheVariants.{SecondaryMissing, OutOfRange, DifferenceRange, Memory}
use Rattle.grib_packing.specs.Written.{IsPackFault, IsTarget, MayBePacked}
use Rattle.grib_packed.specs.Written.{HasWords, packed}
use Rattle.grib2_message.specs.Assembled.{IsShort, IsAssembleFault}
use Rattle.grib2_message.specs.declared.fault.AssembleFault.{AssembleFault}
use Rattle.grib2_message.specs.declared.fault.AssembleFault.TheVariants.{TooLong}
use Rattle.grib2_message.specs.Fields.{field_count, column_of}
use Rattle.grib2_message.specs.Message.{IsMessageUnder}
use Rattle.grib_select.proofs.Alone.{part_short}
use Rattle.grib_packing.specs.declared.target.RepackTarget.{RepackTarget}
use Rattle.grib_packing.specs.Targets.{target_of}
use Rattle.grib_repack.specs.Repacked.{kind_of}
use Rattle.grib_repack.proofs.Kept.{IsWritten}
use Rattle.grib_repack.proofs.Packing.{IsOnly}
use Rattle.grib_repack.proofs.Sections.{are_written}
use Rattle.grib_least.specs.Least.{own_form, unless_misfit, form_of, least_form, size_of, smallest, targets}
use Rattle.grib_least.specs.Earlier.{or_earlier, or_form, trials}
use Rattle.grib_least.proofs.Smallest.{of_blocks, smallest_from_last, left_out, that_fits}

same_parts : (p q : Packed) → (p.section5 ≡ q.section5) × (p.section6 ≡ q.section6) × (p.section7 ≡ q.section7) → p ≡ q
same_parts p q e = λ i. record { section5 = e.0 i; section6 = e.1 i; section7 = e.2 i }

-- the sections of a field are short
pub own_short : (profile : Profile) (message : List ℕ) (i : ℕ) → IsMessageUnder profile message → 1 ≤ i → i ≤ field_count message → IsShort (own_form message i)
own_short profile message i accepted low high = record {
  short_5 = omega (arith, part_short profile message i 5 accepted low high);
  short_6 = omega (arith, part_short profile message i 6 accepted low high);
  short_7 = omega (arith, part_short profile message i 7 accepted low high);
}

-- what was packed is short
pub packed_short : (target : Target) (column : Column) (kind : ℕ) (p : Packed) → HasPacked target column kind p.section5 p.section6 p.section7 → IsShort p
packed_short target column kind p has =
    let written = are_written target column kind p.section5 p.section6 p.section7 has in
    record { short_5 = written.short_5; short_6 = written.short_6; short_7 = written.short_7 }

-- a form that was packed
pub with_packed : IsOnly → (target : Target) (column : Column) (kind limit : ℕ) (best p : Packed) → first_misfit target column.points ≡ None → HasPacked target column kind p.section5 p.section6 p.section7
    → or_earlier limit p best ≡ or_form limit (form_of column kind target) best
with_packed only target column kind limit best p none has =
    ap (λ (x : Packed). or_earlier limit x best) (same_parts p (packed target column kind) (only target column kind p.section5 p.section6 p.section7 has))
    ∙ sym (ap (λ (o : Option Packed). or_form limit o best) (that_fits (first_misfit target column.points) (packed target column kind) none))

-- one that was left out, since it has too many octets
pub with_many : IsWritten → (target : Target) (column : Column) (kind limit most : ℕ) (best : Packed)
    → MayBePacked column → HasWords column → IsTarget target → kind < 256 → first_misfit target column.points ≡ None
    → most ≡ min limit (size_of best + 1)
    → ((s5 s6 s7 : List ℕ) → HasPacked target column kind s5 s6 s7 → most ≤ length s5 + length s6 + length s7)
    → best ≡ or_form limit (form_of column kind target) best
with_many written target column kind limit most best may words is small none most_is many =
    let p = packed target column kind in
    let least = many p.section5 p.section6 p.section7 (written target column kind may words is small none) in
    sym (ap (λ (o : Option Packed). or_form limit o best) (that_fits (first_misfit target column.points) p none)
    ∙ left_out limit p best (omega (arith, most_is, least)))

-- the best alone, where something does not fit
misfit_there : (misfit : Option Misfit) (limit : ℕ) (form best : Packed) (fault : PackFault) → IsPackFault misfit fault → (fault ≡ Memory → ⊥)
    → best ≡ or_form limit (unless_misfit misfit form) best
misfit_there (Some misfit) limit form best fault is other = refl
misfit_there None limit form best (SecondaryMissing point) is other = absurd (cc)
misfit_there None limit form best (OutOfRange point) is other = absurd (cc)
misfit_there None limit form best DifferenceRange is other = absurd (cc)
misfit_there None limit form best Memory is other = absurd (other refl)

pub without_packed : (target : Target) (column : Column) (kind limit : ℕ) (best : Packed) (fault : PackFault) → IsPackFault (first_misfit target column.points) fault → (fault ≡ Memory → ⊥)
    → best ≡ or_form limit (form_of column kind target) best
without_packed target column kind limit best fault is other = misfit_there (first_misfit target column.points) limit (packed target column kind) best fault is other

-- ---- one packing after another, from the last to the first

abbrev pub tried : (Target → Option Packed) → ℕ → List RepackTarget → Packed → Packed
tried f limit [] best = best
tried f limit (trial ∷ later) best = tried f limit later (or_form limit (f (target_of trial)) best)

abbrev pub AreTrials : List RepackTarget → Type 0
AreTrials [] = Unit {0}
AreTrials (trial ∷ later) = IsTarget (target_of trial) × AreTrials later

pub are_trials : (profile : Profile) → AreTrials (trials profile)
are_trials Stated = (inr refl, (inl refl, (tt, (tt, tt))))
are_trials Open = (
  of_blocks 64 (inr (inr (inr refl))),
  (
    of_blocks 32 (inr (inr (inl refl))),
    (
      of_blocks 16 (inr (inl refl)),
      (
        of_blocks 8 (inl refl),
        (inr refl, (inl refl, (tt, (tt, tt)))),
      ),
    ),
  ),
)

all_tried : (profile : Profile) (f : Target → Option Packed) (own : Packed) → tried f (size_of own) (trials profile) own ≡ smallest own (filter_map f (targets profile))
all_tried Stated f own = sym (smallest_from_last f own (targets Stated))
all_tried Open f own = sym (smallest_from_last f own (targets Open))

pub form_is : (profile : Profile) (message : List ℕ) (i limit : ℕ) (own : Packed) → own ≡ own_form message i → limit ≡ size_of own
    → tried (form_of (column_of message i) (kind_of message i)) limit (trials profile) own ≡ least_form profile message i
form_is profile message i limit own own_is limit_is =
    let f = form_of (column_of message i) (kind_of message i) in
    ap (λ (n : ℕ). tried f n (trials profile) own) limit_is
    ∙ all_tried profile f own
    ∙ ap (λ (p : Packed). smallest p (filter_map f (targets profile))) own_is

-- a message that is not put together, since it would be too long
pub long_by : (total n : ℕ) (fault : AssembleFault) → fault ≡ TooLong n → IsAssembleFault total fault → 268435456 < total
long_by total n fault is told = let h : IsAssembleFault total (TooLong n) = subst (IsAssembleFault total) is told in omega (arith, h.0, h.1)
