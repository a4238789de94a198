-- What was read under a name, as a table or as the refusal of one.
use Rattle.std.proofs.Common.{◌≡◌, ℕ, ◌<◌, ◌≤◌, ⊎_elim, List, [], length, take, Option, Some, None, Ok, Err, if◌then◌else◌, refl, sym, ap, ◌∙◌, arith, lt-ltb, length-take-le}
use Rattle.std.specs.declared.result.Result.{Result}
use Rattle.std.specs.Prelude.{IsErrAnd}
use Rattle.std.proofs.lemmas.Bool.{cases_lt}
use Rattle.std.proofs.lemmas.List.{take_all}
use Rattle.grib_reasons.specs.declared.table.TableRefusal.TheVariants as refusals
use Rattle.grib_io.specs.Shelves.{Held, Stood, Tells}
use Rattle.grib_io.specs.Reading.{IsFirst, StopsAt}
use Rattle.grib_io.specs.declared.reading.ReadStop.{ReadStop}
use Rattle.grib_io.specs.declared.reading.ReadStop.TheVariants as reads
use Rattle.grib_params.specs.declared.fault.TableFault.{TableFault}
use Rattle.grib_params.specs.declared.fault.TableFault.TheVariants as faults
use Rattle.grib_params.specs.Fields.{records_of}
use Rattle.grib_params.specs.Table as verdicts
use Rattle.grib_params.specs.Table.{Entries, Verdict, table_verdict, verdict_from, IsFault}
use Rattle.grib_params.specs.Surfaces as surfaces
use Rattle.grib_params.specs.Surfaces.{SurfaceEntries, SurfaceVerdict, surface_verdict, surface_verdict_from, IsSurfaceFault}
use Rattle.grib_params.specs.declared.table.TheConstants.{MOST_OCTETS}
use Rattle.grib_names.specs.Table as names
use Rattle.grib_names.specs.Table.{NameEntries, NameVerdict, names_verdict, names_verdict_from, IsNamesFault}
use Rattle.grib_table.specs.Taken.{Takes}
use Rattle.grib_table.specs.Together.{ReadsWhere}
use Rattle.grib_table.specs.Tabled.{Tabled, Good, Refused, tabled, tabled_by, surfaces_by, names_by, parameters_of, surfaces_of, names_of, stop_of_read, stop_of_fault}
use Rattle.grib_table.specs.declared.stop.TableStop.{TableStop}
use Rattle.grib_table.specs.declared.stop.TableStop.TheVariants.{Refused as Refuses, ShelfFault, Memory}
use Rattle.grib_table.specs.declared.reading.TheConstants.{MOST}

-- a text that is no table, and why it is none
abbrev pub IsNone : {T : Type 0} → Tabled T → TableFault → Type 0
IsNone found faults.TooLarge = found ≡ Refused refusals.TooLarge
IsNone found (faults.Row number) = found ≡ Refused (refusals.Row number)
IsNone found (faults.Duplicate number) = found ≡ Refused (refusals.Duplicate number)
IsNone found faults.Memory = Unit {0}

none_by : (verdict : Verdict) (fault : TableFault) → IsFault verdict fault → IsNone (tabled_by verdict) fault
none_by verdict faults.TooLarge is = ap tabled_by is
none_by verdict (faults.Row number) is = ap tabled_by is
none_by verdict (faults.Duplicate number) is = ap tabled_by is
none_by verdict faults.Memory is = tt

no_surfaces_by : (verdict : SurfaceVerdict) (fault : TableFault) → IsSurfaceFault verdict fault → IsNone (surfaces_by verdict) fault
no_surfaces_by verdict faults.TooLarge is = ap surfaces_by is
no_surfaces_by verdict (faults.Row number) is = ap surfaces_by is
no_surfaces_by verdict (faults.Duplicate number) is = ap surfaces_by is
no_surfaces_by verdict faults.Memory is = tt

no_names_by : (verdict : NameVerdict) (fault : TableFault) → IsNamesFault verdict fault → IsNone (names_by verdict) fault
no_names_by verdict faults.TooLarge is = ap names_by is
no_names_by verdict (faults.Row number) is = ap names_by is
no_names_by verdict (faults.Duplicate number) is = ap names_by is
no_names_by verdict faults.Memory is = tt

-- texts of more octets than a table may have are none, whatever stands in them
abbrev pub IsFew : {T : Type 0} → (List ℕ → Tabled T) → Type 0
IsFew table_of = (text : List ℕ) → MOST_OCTETS < length text → table_of text ≡ Refused refusals.TooLarge

few_parameters : IsFew parameters_of
few_parameters text long = ap (λ b. tabled_by (if b then verdicts.TooLarge else verdict_from 0 [] (records_of text))) (lt-ltb MOST_OCTETS (length text) long)

few_surfaces : IsFew surfaces_of
few_surfaces text long =
    ap (λ b. surfaces_by (if b then surfaces.TooLarge else surface_verdict_from 0 [] (records_of text))) (lt-ltb MOST_OCTETS (length text) long)

few_names : IsFew names_of
few_names text long =
    ap (λ b. names_by (if b then names.TooLarge else names_verdict_from 0 [] (records_of text))) (lt-ltb MOST_OCTETS (length text) long)

module _ {T V : Type 0} (none : T) (good : T → V) (IsFault : V → TableFault → Type 0) (verdict : List ℕ → V) where
  -- nothing was read
  stopped : (shelf : Option Held) (name : List ℕ) (stop : ReadStop) → Tells shelf name (StopsAt stop) → Takes none good IsFault verdict (Err (stop_of_read stop)) shelf (Some name)
  stopped shelf name reads.Absent told = told
  stopped shelf name reads.Failed told = tt
  stopped shelf name reads.Memory told = tt

  pub by_stop : (result : Result T TableStop) (shelf : Option Held) (name : List ℕ) (stop : ReadStop) → Tells shelf name (StopsAt stop)
      → IsErrAnd result (λ e. e ≡ stop_of_read stop) → Takes none good IsFault verdict result shelf (Some name)
  by_stop (Ok table) shelf name stop told err = absurd err
  by_stop (Err e) shelf name stop told err = rw err (stopped shelf name stop told)

  -- what was read is no table
  refused : (shelf : Option Held) (name octets : List ℕ) (fault : TableFault) → Tells shelf name (IsFirst (Some MOST) octets) → IsFault (verdict octets) fault
      → Takes none good IsFault verdict (Err (stop_of_fault fault)) shelf (Some name)
  refused shelf name octets faults.TooLarge told is = (octets, told, is)
  refused shelf name octets (faults.Row number) told is = (octets, told, is)
  refused shelf name octets (faults.Duplicate number) told is = (octets, told, is)
  refused shelf name octets faults.Memory told is = tt

  pub by_fault : (result : Result T TableStop) (shelf : Option Held) (name octets : List ℕ) (fault : TableFault) → Tells shelf name (IsFirst (Some MOST) octets)
      → IsFault (verdict octets) fault → IsErrAnd result (λ stop. stop ≡ stop_of_fault fault) → Takes none good IsFault verdict result shelf (Some name)
  by_fault (Ok table) shelf name octets fault told is err = absurd err
  by_fault (Err stop) shelf name octets fault told is err = rw err (refused shelf name octets fault told is)

absent_table : {T : Type 0} (table_of : List ℕ → Tabled T) (shelf : Option Held) (name : List ℕ) → Tells shelf name (λ text. text ≡ None)
    → (text : Option (List ℕ)) × Stood shelf name text × (tabled table_of text ≡ Refused refusals.Absent)
absent_table table_of None name told = (None, tt, refl)
absent_table table_of (Some held) name told = (None, sym told, refl)

module _ {X V : Type 0} (table_of : List ℕ → Tabled (List X)) (few : IsFew table_of) (good : List X → V) (IsFault : V → TableFault → Type 0) (verdict : List ℕ → V) (is_table : (text : List ℕ) (table : List X) → verdict text ≡ good table → table_of text ≡ Good table) (is_none : (text : List ℕ) (fault : TableFault) → IsFault (verdict text) fault → IsNone (table_of text) fault) where
  -- one octet more than a table may have decides like the whole text
  same_table : (text : List ℕ) → table_of (take MOST text) ≡ table_of text
  same_table text =
      ⊎_elim
      (λ (short : length text < MOST). ap table_of (take_all MOST text (omega arith)))
      (λ (long : MOST ≤ length text).
      few (take MOST text) (omega (arith, length-take-le MOST text long)) ∙ sym (few text (omega arith)))
      (cases_lt (length text) MOST)

  -- what was read is what stands there, as far as tables go
  taken_table : (octets : List ℕ) (text : Option (List ℕ)) → IsFirst (Some MOST) octets text → tabled table_of text ≡ table_of octets
  taken_table octets None is = absurd is
  taken_table octets (Some all) is = sym (ap table_of is ∙ same_table all)

  told_table : (shelf : Option Held) (name octets : List ℕ) (what : Tabled (List X)) → Tells shelf name (IsFirst (Some MOST) octets) → table_of octets ≡ what
      → (text : Option (List ℕ)) × Stood shelf name text × (tabled table_of text ≡ what)
  told_table None name octets what told is = (Some octets, tt, is)
  told_table (Some held) name octets what told is = (held name, refl, taken_table octets (held name) told ∙ is)

  pub stands_where : (result : Result (List X) TableStop) (shelf : Option Held) (name : Option (List ℕ)) → Takes [] good IsFault verdict result shelf name → ReadsWhere table_of result shelf name
  stands_where result shelf None is = is
  stands_where (Ok table) shelf (Some name) (octets, told, is) = told_table shelf name octets (Good table) told (is_table octets table is)
  stands_where (Err (Refuses refusals.Absent)) shelf (Some name) told = absent_table table_of shelf name told
  stands_where (Err (Refuses refusals.TooLarge)) shelf (Some name) (octets, told, is) = told_table shelf name octets (Refused refusals.TooLarge) told (is_none octets faults.TooLarge is)
  stands_where (Err (Refuses (refusals.Row number))) shelf (Some name) (octets, told, is) = told_table shelf name octets (Refused (refusals.Row number)) told (is_none octets (faults.Row number) is)
  stands_where (Err (Refuses (refusals.Duplicate number))) shelf (Some name) (octets, told, is) =
      told_table shelf name octets (Refused (refusals.Duplicate number)) told (is_none octets (faults.Duplicate number) is)
  stands_where (Err ShelfFault) shelf (Some name) told = tt
  stands_where (Err Memory) shelf (Some name) told = tt

-- ---- of each table

pub parameters_stand : (result : Result Entries TableStop) (shelf : Option Held) (name : Option (List ℕ)) → Takes [] verdicts.Good IsFault table_verdict result shelf name
    → ReadsWhere parameters_of result shelf name
parameters_stand result shelf name took =
    stands_where parameters_of few_parameters verdicts.Good IsFault table_verdict (λ text table is. ap tabled_by is) (λ text fault is. none_by (table_verdict text) fault is) result shelf name took

pub surfaces_stand : (result : Result SurfaceEntries TableStop) (shelf : Option Held) (name : Option (List ℕ)) → Takes [] surfaces.Good IsSurfaceFault surface_verdict result shelf name
    → ReadsWhere surfaces_of result shelf name
surfaces_stand result shelf name took =
    stands_where surfaces_of few_surfaces surfaces.Good IsSurfaceFault surface_verdict (λ text table is. ap surfaces_by is) (λ text fault is. no_surfaces_by (surface_verdict text) fault is) result shelf name
    took

pub names_stand : (result : Result NameEntries TableStop) (shelf : Option Held) (name : Option (List ℕ)) → Takes [] names.Good IsNamesFault names_verdict result shelf name
    → ReadsWhere names_of result shelf name
names_stand result shelf name took =
    stands_where names_of few_names names.Good IsNamesFault names_verdict (λ text table is. ap names_by is) (λ text fault is. no_names_by (names_verdict text) fault is) result shelf name took
