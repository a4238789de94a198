-- With no table of surfaces, and local use preserved or refused, the choices are those of
-- `migrate`.
use Rattle.std.proofs.Common.{◌≡◌, ℕ, ◌&&◌, Bool, true, false, not, List, [], ◌++◌, Option, None, refl, sym, ap, ap₂, ◌∙◌, subst, unwrap_or}
use Rattle.std.specs.Prelude.{Result, Ok, Err, MatchResult}
use Rattle.grib_params.specs.Surfaces.{SurfaceEntries}
use Rattle.grib_params.specs.Table.{Entries}
use Rattle.grib1_sections.specs.Acceptance.{identification, grid, data_section}
use Rattle.grib_reasons.specs.declared.loss.Loss.{Loss}
use Rattle.grib_migrate.specs.declared.labels.Local.{Local}
use Rattle.grib_migrate.specs.declared.labels.Member.{Member}
use Rattle.grib_migrate.specs.declared.loss.MigrateFault.{MigrateFault}
use Rattle.grib_migrate.specs.Answered.{IsMigrateFault}
use Rattle.grib_migrate.specs.Source.{has_local, target_in, target_of}
use Rattle.grib_migrate.specs.Levels.{surfaces_of}
use Rattle.grib_migrate.specs.Labels.{kept_where, local_section_by, loses_local, member_by}
use Rattle.grib_migrate.specs.Losses.{first_loss, first_loss_with, first_of, front_losses_by, number_losses}
use Rattle.grib_migrate.specs.Migrated.{local_section, migrated, migrated_by, migrated_with, no_surfaces}

plain_local : (keep : Bool) (s1 : List ℕ) → loses_local (kept_where keep) s1 ≡ (has_local s1 && not keep)
plain_local true s1 = by (has_local s1)
  where
    by : (has : Bool) → (has && not has) ≡ (has && false)
    by true = refl
    by false = refl
plain_local false s1 = refl

plain_section : (keep : Bool) (s1 : List ℕ) → local_section_by (kept_where keep) s1 ≡ local_section keep s1
plain_section true s1 = refl
plain_section false s1 = refl

plain_member : (keep : Bool) (s1 : List ℕ) → member_by (kept_where keep) s1 ≡ None
plain_member true s1 = refl
plain_member false s1 = refl

pub plain_loss : (table : Entries) (keep : Bool) (m : List ℕ) → first_loss_with table [] (kept_where keep) m ≡ first_loss table keep m
plain_loss table keep m =
    let s1 = identification m in
    let s2 = grid m in
    ap (λ (lost : Bool). first_of (front_losses_by (target_in table s1) (surfaces_of s1) lost s1 s2 ++ number_losses s2 (data_section m))) (plain_local keep s1)

pub plain_migrated : (table : Entries) (keep : Bool) (m : List ℕ) → migrated_with table [] (kept_where keep) m ≡ migrated table keep m
plain_migrated table keep m =
    let s1 = identification m in
    ap₂ (λ (member : Option Member) (section_2 : List ℕ). migrated_by (target_of table s1) (unwrap_or (surfaces_of s1) no_surfaces) member section_2 m) (plain_member keep s1) (plain_section keep s1)

-- what is answered with these choices
pub plain_answer : {A : Type 0} (items : A → List ℕ) (result : Result A MigrateFault) (table : Entries) (none : SurfaceEntries) (local : Local) (keep : Bool) (m : List ℕ)
    → none ≡ [] → local ≡ kept_where keep
    → MatchResult result (λ octets. (first_loss_with table none local m ≡ None) × (items octets ≡ migrated_with table none local m)) (IsMigrateFault (first_loss_with table none local m))
    → MatchResult result (λ octets. (first_loss table keep m ≡ None) × (items octets ≡ migrated table keep m)) (IsMigrateFault (first_loss table keep m))
plain_answer items result table none local keep m empty chosen answer = by result answer
  where
    loss_is : first_loss_with table none local m ≡ first_loss table keep m
    loss_is = ap₂ (λ (x : SurfaceEntries) (y : Local). first_loss_with table x y m) empty chosen ∙ plain_loss table keep m

    octets_are : migrated_with table none local m ≡ migrated table keep m
    octets_are = ap₂ (λ (x : SurfaceEntries) (y : Local). migrated_with table x y m) empty chosen ∙ plain_migrated table keep m

    by : (result : Result _ MigrateFault)
        → MatchResult result (λ octets. (first_loss_with table none local m ≡ None) × (items octets ≡ migrated_with table none local m)) (IsMigrateFault (first_loss_with table none local m))
        → MatchResult result (λ octets. (first_loss table keep m ≡ None) × (items octets ≡ migrated table keep m)) (IsMigrateFault (first_loss table keep m))
    by (Ok octets) answer = (sym loss_is ∙ answer.0, answer.1 ∙ octets_are)
    by (Err fault) answer = subst (λ (loss : Option Loss). IsMigrateFault loss fault) loss_is answer
