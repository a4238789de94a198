-- What comes of a message that is kept by its cause, or for which there is no memory.
use Rattle.std.proofs.Common.{◌≡◌, ℕ, Bool, Option, Some, None, option_map, List, [], refl, sym, ap, subst}
use Rattle.grib_reasons.specs.declared.cause.Cause.{Cause}
use Rattle.grib_reasons.specs.declared.cause.Cause.TheVariants.{Lost, Demoted, KeyRange1}
use Rattle.grib_reasons.specs.declared.demotion.Demotion.{Demotion}
use Rattle.grib_reasons.specs.declared.loss.Loss.{Loss}
use Rattle.grib_demote.specs.Answered.{IsDemoteFault}
use Rattle.grib_demote.specs.declared.demotion.DemoteFault.{DemoteFault}
use Rattle.grib_demote.specs.declared.demotion.DemoteFault.TheVariants as undemoted
use Rattle.grib_migrate.specs.Answered.{IsMigrateFault}
use Rattle.grib_migrate.specs.declared.loss.MigrateFault.{MigrateFault}
use Rattle.grib_migrate.specs.declared.loss.MigrateFault.TheVariants as unmigrated
use Rattle.grib_repack.specs.Faults.{IsRepackFault}
use Rattle.grib_repack.specs.Repacked.{RepackMisfit}
use Rattle.grib_repack.specs.declared.fault.RepackFault.{RepackFault}
use Rattle.grib_repack.specs.declared.fault.RepackFault.TheVariants as unpacked
use Rattle.grib_reorder.specs.Faults.{IsRescanFault}
use Rattle.grib_reorder.specs.Rescanned.{EditMisfit}
use Rattle.grib_reorder.specs.declared.fault.RescanFault.{RescanFault}
use Rattle.grib_reorder.specs.declared.fault.RescanFault.TheVariants as unedited
use Rattle.grib_select.specs.Changed.{IsSetFault}
use Rattle.grib_select.specs.declared.changing.SetFault.{SetFault}
use Rattle.grib_select.specs.declared.changing.SetFault.TheVariants as unset
use Rattle.std.specs.Option.{option_or}
use Rattle.grib_keys.specs.declared.key1.Key1.{Key1}
use Rattle.grib1_select.specs.Changed.{IsSetFault1}
use Rattle.grib1_select.specs.declared.changing.SetFault1.{SetFault1}
use Rattle.grib1_select.specs.declared.changing.SetFault1.TheVariants as unset1
use Rattle.grib_stream.specs.Acts.{world}
use Rattle.grib_stream.proofs.Worlds.{did_none}
use Rattle.grib_command.specs.declared.answered.Answered.{Answered}
use Rattle.grib_command.specs.declared.answered.Answered.TheVariants.{Whole, Kept, WriteFault, ShelfFault, Memory}
use Rattle.grib_command.specs.Answering.{AnswersByOutput, acts_given}
use Rattle.grib_edit.specs.Unchanged.{answered_by, answered_unset, answered_unset1, answered_lost, answered_undemoted, IsKept}
use Rattle.grib_command.specs.Command.{given_unless}
use Rattle.grib_edit.specs.Repacking.{cause_of}
use Rattle.grib_edit.specs.Rescanning.{edit_cause, answered_unedited}
use Rattle.grib_edit.specs.Setting.{set_cause}

-- ---- the faults of what changes messages

pub not_repacked : (misfit : Option RepackMisfit) (fault : RepackFault) → IsRepackFault misfit fault → IsKept (option_map cause_of misfit) (answered_by fault)
not_repacked misfit (unpacked.SecondaryMissing field point) is = ap (option_map cause_of) is
not_repacked misfit (unpacked.OutOfRange field point) is = ap (option_map cause_of) is
not_repacked misfit (unpacked.DifferenceRange field) is = ap (option_map cause_of) is
not_repacked misfit (unpacked.OutputTooLong length) is = ap (option_map cause_of) is
not_repacked misfit unpacked.Memory is = tt

pub not_set : (found : Option SetFault) (fault : SetFault) → IsSetFault found fault → IsKept (set_cause found) (answered_unset fault)
not_set found (unset.KeyRange key) is = ap set_cause is
not_set found (unset.KeyAbsent field key) is = ap set_cause is
not_set found unset.Memory is = tt

pub not_edited : (misfit : Option EditMisfit) (fault : RescanFault) → IsRescanFault misfit fault → IsKept (option_map edit_cause misfit) (answered_unedited fault)
not_edited misfit (unedited.GridKind field) is = ap (option_map edit_cause) is
not_edited misfit (unedited.ScanMode field) is = ap (option_map edit_cause) is
not_edited misfit (unedited.OutsideBox field) is = ap (option_map edit_cause) is
not_edited misfit (unedited.Increments field) is = ap (option_map edit_cause) is
not_edited misfit (unedited.OutOfRange field point) is = ap (option_map edit_cause) is
not_edited misfit (unedited.DifferenceRange field) is = ap (option_map edit_cause) is
not_edited misfit (unedited.OutputTooLong length) is = ap (option_map edit_cause) is
not_edited misfit unedited.Memory is = tt

pub not_migrated : (loss : Option Loss) (fault : MigrateFault) → IsMigrateFault loss fault → IsKept (option_map Lost loss) (answered_lost fault)
not_migrated loss (unmigrated.Lost own) is = ap (option_map Lost) is
not_migrated loss unmigrated.Memory is = tt

pub not_demoted : (field : ℕ) (loss : Option Demotion) (fault : DemoteFault) → IsDemoteFault loss fault → IsKept (option_map (Demoted field) loss) (answered_undemoted field fault)
not_demoted field loss (undemoted.Lost own) is = ap (option_map (Demoted field)) is
not_demoted field loss undemoted.Memory is = tt

-- ---- by the output alone, which stays as it is

module _ {Sink : Type 0} (contents : Sink → Option (List ℕ)) (faults : Sink → ℕ) (settled : Sink → Bool) where
  pub kept : (answered : Answered) (cause : Option Cause) (m : ℕ) (octets : List ℕ) (a : Sink) → IsKept cause answered
      → AnswersByOutput contents faults settled answered m (given_unless cause m octets) a a
  kept (Whole written) cause m octets a is = absurd is
  kept (Kept own) cause m octets a is = record {
    answers = λ names. (ap (λ c. given_unless c m octets) is, did_none (world (contents a) names));
    write_fault = λ no. absurd (cc no);
    write_stays = λ other. refl;
    unfinished = λ all. all;
    unshelved = λ no. cc;
  }
  kept WriteFault cause m octets a is = absurd is
  kept ShelfFault cause m octets a is = absurd is
  kept Memory cause m octets a is = record {
    answers = λ names. ([], acts_given (given_unless cause m octets), refl, did_none (world (contents a) names));
    write_fault = λ no. absurd (cc no);
    write_stays = λ other. refl;
    unfinished = λ all. all;
    unshelved = λ no. cc;
  }

  pub by_cause : (answered own : Answered) (cause : Option Cause) (m : ℕ) (octets : List ℕ) (a : Sink) → answered ≡ own → IsKept cause own
      → AnswersByOutput contents faults settled answered m (given_unless cause m octets) a a
  by_cause answered own cause m octets a same is =
      subst (λ r. AnswersByOutput contents faults settled r m (given_unless cause m octets) a a) (sym same) (kept own cause m octets a is)

-- ---- a fault of a change, before a date

pub fault_first : (first : Option Cause) (later : Option Cause) (answered : Answered) → IsKept first answered → IsKept (option_or first later) answered
fault_first (Some cause) later answered is = is
fault_first None later (Whole written) is = absurd is
fault_first None later (Kept own) is = let no : ⊥ = cc in absurd no
fault_first None later WriteFault is = absurd is
fault_first None later ShelfFault is = absurd is
fault_first None later Memory is = tt

pub not_set1 : (found : Option Key1) (fault : SetFault1) → IsSetFault1 found fault → IsKept (option_map KeyRange1 found) (answered_unset1 fault)
not_set1 found (unset1.KeyRange key) is = ap (option_map KeyRange1) is
not_set1 found unset1.Memory is = tt
