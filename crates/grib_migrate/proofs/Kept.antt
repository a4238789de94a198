-- When nothing of Section 1 and of the flags of Section 2 is lost.
use Rattle.std.proofs.Common.{◌≡◌, ℕ, ◌≤◌, ◌⊎◌, ◌&&◌, ◌||◌, Bool, true, false, not, Some, None, List, [], ◌∷◌, nat_lt, refl, sym, ap, ◌∙◌, inl, inr}
use Rattle.std.specs.Prelude.{is_none}
use Rattle.std.proofs.lemmas.Bool.{ltb-false}
use Rattle.grib_params.specs.Surfaces.{SurfaceEntries}
use Rattle.grib_params.specs.Table.{Entries}
use Rattle.grib_params.specs.declared.row.Target.{Target}
use Rattle.grib1_sections.specs.Keys.{key_in}
use Rattle.grib_keys.specs.declared.key1.Key1.TheVariants.{P1, P2, TimeRange}
use Rattle.grib_reasons.specs.declared.loss.Loss.TheVariants as losses
use Rattle.grib_migrate.specs.declared.level.Surfaces.{Surfaces}
use Rattle.grib_migrate.specs.declared.time.Unit.{Unit as UnitOfTime}
use Rattle.grib_migrate.specs.declared.labels.Local.{Local}
use Rattle.grib_migrate.specs.Chosen.{named_in, surfaces_by, target_by}
use Rattle.grib_migrate.specs.Labels.{loses_local}
use Rattle.grib_migrate.specs.Times.{unit_of, loses_range, is_instant, is_interval}
use Rattle.grib_migrate.specs.Grids.{has_other_flags}
use Rattle.grib_migrate.specs.Losses.{lost_where, first_of, chosen_losses, loses_date, loses_average}

eight : (a b c d e f g h : Bool) → a ≡ false → b ≡ false → c ≡ false → d ≡ false → e ≡ false → f ≡ false → g ≡ false → h ≡ false
    → first_of (lost_where a losses.Parameter ∷ lost_where b losses.LevelType ∷ lost_where c losses.TimeUnit ∷ lost_where d losses.TimeRange ∷ lost_where e losses.Date ∷ lost_where f losses.AverageCount
    ∷ lost_where g losses.LocalUse ∷ lost_where h losses.GridFlags ∷ []) ≡ None
eight a b c d e f g h ea eb ec ed ee ef eg eh = rw (ea, eb, ec, ed, ee, ef, eg, eh) refl

pub nothing_lost : (table : Entries) (tops : SurfaceEntries) (local : Local) (s1 s2 : List ℕ) (target : Target) (surfaces : Surfaces) (unit : UnitOfTime)
    → target_by table (named_in tops s1) s1 ≡ Some target → surfaces_by (named_in tops s1) s1 ≡ Some surfaces → unit_of s1 ≡ Some unit
    → loses_range s1 ≡ false → loses_date s1 ≡ false → loses_average s1 ≡ false → loses_local local s1 ≡ false → has_other_flags s2 ≡ false
    → first_of (chosen_losses table tops local s1 s2) ≡ None
nothing_lost table tops local s1 s2 target surfaces unit t s u range date average own other =
    eight (is_none (target_by table (named_in tops s1) s1)) (is_none (surfaces_by (named_in tops s1) s1)) (is_none (unit_of s1)) (loses_range s1) (loses_date s1) (loses_average s1) (loses_local local s1)
    (has_other_flags s2) (ap is_none t) (ap is_none s) (ap is_none u) range date average own other

ordered_by : (instant interval less : Bool) → (not (instant || interval) || (interval && less)) ≡ false → interval ≡ true → less ≡ false
ordered_by true true less e is = e
ordered_by true false less e is = cc
ordered_by false true less e is = e
ordered_by false false less e is = cc

pub ordered : (s1 : List ℕ) → loses_range s1 ≡ false → is_interval (key_in s1 TimeRange) ≡ true → key_in s1 P1 ≤ key_in s1 P2
ordered s1 e is =
    ltb-false (key_in s1 P2) (key_in s1 P1)
    (ordered_by (is_instant (key_in s1 TimeRange)) (is_interval (key_in s1 TimeRange)) (nat_lt (key_in s1 P2) (key_in s1 P1)) e is)
