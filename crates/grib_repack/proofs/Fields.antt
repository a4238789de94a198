-- Lemmas on fields that are tried one after another.
use Rattle.std.proofs.Common.{◌≡◌, ℕ, suc, ◌+◌, ◌-◌, ◌<◌, ◌≤◌, Bool, cond, Option, Some, None, List, [], ◌∷◌, ◌++◌, length, sym, ap, ◌∙◌, arith, subst, lt-ltb}
use Rattle.std.specs.List.{range_with_len}
use Rattle.grib_bits.proofs.Arithmetic.{range_append}
use Rattle.grib_base.proofs.Firsts.{none_each, first_split}
use Rattle.grib_base.specs.Rules.{or_later, first_among}
use Rattle.grib_packing.specs.Misfits.{Target}
use Rattle.grib2_message.specs.Fields.{field_count}
use Rattle.grib_repack.specs.Repacked as misfits
use Rattle.grib_repack.specs.Repacked.{RepackMisfit, repacked, field_misfit, length_misfit, repack_misfit}
use Rattle.grib_repack.specs.Faults.{IsRepackFault}
use Rattle.grib_repack.specs.declared.fault.RepackFault.{RepackFault}
use Rattle.grib_repack.specs.declared.fault.RepackFault.TheVariants.{SecondaryMissing, OutOfRange, DifferenceRange, OutputTooLong, Memory}

-- those before one of them, that one, and those after it
pub range-at : (n count : ℕ) → n < count → range_with_len 1 count ≡ range_with_len 1 n ++ (n + 1) ∷ range_with_len (n + 2) (count - n - 1)
range-at n count low =
    let whole : count ≡ n + suc (count - n - 1) = omega arith in
    let here : 1 + n ≡ n + 1 = omega arith in
    let behind : n + 1 + 1 ≡ n + 2 = omega arith in
    ap (range_with_len 1) whole ∙ range_append 1 n (suc (count - n - 1))
    ∙ ap (λ (a : ℕ). range_with_len 1 n ++ range_with_len a (suc (count - n - 1))) here
    ∙ ap (λ (a : ℕ). range_with_len 1 n ++ (n + 1) ∷ range_with_len a (count - n - 1)) behind

pub range-more : (n : ℕ) → range_with_len 1 (n + 1) ≡ range_with_len 1 n ++ (n + 1) ∷ []
range-more n =
    let here : 1 + n ≡ n + 1 = omega arith in
    range_append 1 n 1 ∙ ap (λ (a : ℕ). range_with_len 1 n ++ a ∷ []) here

-- ---- causes one after another

pub fault_later : (cause : Option RepackMisfit) (later : Unit {0} → Option RepackMisfit) (fault : RepackFault) → IsRepackFault cause fault → IsRepackFault (or_later cause later) fault
fault_later (Some misfit) later fault is = is
fault_later None later (SecondaryMissing field point) is = absurd (cc)
fault_later None later (OutOfRange field point) is = absurd (cc)
fault_later None later (DifferenceRange field) is = absurd (cc)
fault_later None later (OutputTooLong total) is = absurd (cc)
fault_later None later Memory is = tt

-- where nothing failed earlier, the later cause is the first
pub fault_after : (cause : Option RepackMisfit) (later : Unit {0} → Option RepackMisfit) (fault : RepackFault) → cause ≡ None → IsRepackFault (later tt) fault → IsRepackFault (or_later cause later) fault
fault_after cause later fault none is = subst (λ (o : Option RepackMisfit). IsRepackFault (or_later o later) fault) (sym none) is

module _ (target : Target) (message : List ℕ) where
  pub each_fits : (n i : ℕ) → first_among (field_misfit target message) n 1 ≡ None → 1 ≤ i → i ≤ n → field_misfit target message i ≡ None
  each_fits n i none low high = none_each (field_misfit target message) 1 n i none low (omega arith)

  -- the first field that fails is the misfit of the message
  pub fault_in : (n : ℕ) (fault : RepackFault) → n < field_count message → first_among (field_misfit target message) n 1 ≡ None
      → IsRepackFault (field_misfit target message (n + 1)) fault → IsRepackFault (repack_misfit target message) fault
  fault_in n fault low none is =
      let each = field_misfit target message in
      let place : n + 1 ≡ 1 + n = omega arith in
      fault_later (first_among each (field_count message) 1) (λ _. length_misfit (length (repacked target message))) fault
      (subst (λ (o : Option RepackMisfit). IsRepackFault o fault) (sym (first_split each 1 n (field_count message) (n + 1) place low none))
      (fault_later (each (n + 1)) (λ _. first_among each (field_count message - n - 1) (n + 1 + 1)) fault is))

  -- where no field fails, that it would be too long
  pub fault_long : (total : ℕ) → first_among (field_misfit target message) (field_count message) 1 ≡ None → total ≡ length (repacked target message) → 268435456 < total
      → repack_misfit target message ≡ Some (misfits.OutputTooLong total)
  fault_long total none is long =
      ap (λ (o : Option RepackMisfit). or_later o (λ _. length_misfit (length (repacked target message)))) none
      ∙ ap length_misfit (sym is)
      ∙ ap (λ (b : Bool). cond b (Some (misfits.OutputTooLong total)) None) (lt-ltb 268435456 total long)
