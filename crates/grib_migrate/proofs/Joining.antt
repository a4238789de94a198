-- Sections 1 to 5 one after another, and the losses of the numbers.
use Rattle.std.proofs.Common.{◌≡◌, ℕ, ◌+◌, ◌<◌, ◌≤◌, Bool, true, false, cond, Option, Some, None, List, [], ◌∷◌, ◌++◌, length, refl, sym, ap, ◌∙◌, arith, append_assoc}
use Rattle.std.specs.Prelude.{Result, Ok, Err, MatchResult, IsErr, ◌&&◌, ◌^◌, ◌<◌, drop, unwrap_or}
use Rattle.std.specs.Result.{IsErrAnd}
use Rattle.std.proofs.Common.{subst}
use Rattle.grib_bits.proofs.Listed.{length-numbers_at}
use Rattle.grib1_sections.specs.Grid.{nv, list_place, has_list}
use Rattle.grib1_sections.specs.Coordinates.{coordinate_count, coordinate_list}
use Rattle.grib_reasons.specs.declared.loss.Loss.{Loss}
use Rattle.grib_migrate.specs.declared.loss.MigrateFault.{MigrateFault}
use Rattle.grib_migrate.specs.declared.loss.MigrateFault.TheVariants.{Lost, Memory}
use Rattle.grib_migrate.specs.Answered.{IsMigrateFault}
use Rattle.grib_migrate.specs.Losses.{first_of, first_loss_with, chosen_losses, number_losses, coordinate_loss}
use Rattle.std.proofs.lemmas.List.{length-append, length-drop}
use Rattle.grib_bits.specs.Encoding.{octets_of, section_of, all_octets}
use Rattle.grib_bits.proofs.Encoding.{length-octets_of}
use Rattle.grib_params.specs.Surfaces.{SurfaceEntries}
use Rattle.grib_params.specs.Table.{Entries}
use Rattle.grib_params.specs.declared.row.Target.{Target}
use Rattle.grib1_sections.specs.Acceptance.{identification, grid, bitmap, data_section, points_of, values_of}
use Rattle.grib_migrate.specs.declared.checking.Product.{Product}
use Rattle.grib_migrate.specs.declared.labels.Local.{Local}
use Rattle.grib_migrate.specs.declared.labels.Local.TheVariants.{Refuse, Keep, Ecmwf}
use Rattle.grib_migrate.specs.declared.labels.Member.{Member}
use Rattle.grib_migrate.specs.declared.level.Surfaces.{Surfaces}
use Rattle.grib_migrate.specs.declared.time.Unit.{Unit as UnitOfTime}
use Rattle.grib_migrate.specs.Checked.{IsProduct}
use Rattle.grib_migrate.specs.Held.{Holds}
use Rattle.grib_migrate.specs.Source.{has_local, local_octets, no_target}
use Rattle.grib_migrate.specs.Chosen.{named_in, surfaces_by, target_by}
use Rattle.grib_migrate.specs.Labels.{has_labels, label_numbers, local_section_by, member_by}
use Rattle.grib_migrate.specs.Times.{unit_of}
use Rattle.grib_migrate.specs.Migrated.{front_sections, whole_message, migrated_with, no_unit, no_surfaces}

second_lost : (g c r : Option Loss) (fault : MigrateFault) → g ≡ None → IsMigrateFault c fault → IsMigrateFault (first_of (g ∷ c ∷ r ∷ [])) fault
second_lost g c r (Lost loss) none is = ap (λ o. first_of (o ∷ c ∷ r ∷ [])) none ∙ ap (λ o. first_of (None ∷ o ∷ r ∷ [])) is
second_lost g c r Memory none is = tt

pub second_lost_at : (g r : Option Loss) (words coordinates : List ℕ) (fault : MigrateFault) → g ≡ None → coordinates ≡ words → IsMigrateFault (coordinate_loss coordinates) fault
    → IsMigrateFault (first_of (g ∷ coordinate_loss words ∷ r ∷ [])) fault
second_lost_at g r words coordinates fault none same is =
    second_lost g (coordinate_loss words) r fault none (subst (λ (xs : List ℕ). IsMigrateFault (coordinate_loss xs) fault) same is)

pub third_lost : (g c r : Option Loss) (fault : MigrateFault) → g ≡ None → c ≡ None → IsMigrateFault r fault → IsMigrateFault (first_of (g ∷ c ∷ r ∷ [])) fault
third_lost g c r (Lost loss) none none' is = ap (λ o. first_of (o ∷ c ∷ r ∷ [])) none ∙ ap (λ o. first_of (None ∷ o ∷ r ∷ [])) none' ∙ ap (λ o. first_of (None ∷ None ∷ o ∷ [])) is
third_lost g c r Memory none none' is = tt

pub none_lost : (g c r : Option Loss) → g ≡ None → c ≡ None → r ≡ None → first_of (g ∷ c ∷ r ∷ []) ≡ None
none_lost g c r e f h = ap (λ o. first_of (o ∷ c ∷ r ∷ [])) e ∙ ap (λ o. first_of (None ∷ o ∷ r ∷ [])) f ∙ ap (λ o. first_of (None ∷ None ∷ o ∷ [])) h

few_by : (b : Bool) (n : ℕ) → n ≤ 255 → cond b n 0 ≤ 255
few_by true n few = few
few_by false n few = omega arith

pub few_words : (s : List ℕ) → nv s ≤ 255 → length (coordinate_list s) ≤ 255
few_words s few =
    let long = length-numbers_at s (list_place s) 4 (coordinate_count s) in
    let bound = few_by (has_list s) (nv s) few in
    omega (arith, long, bound)

pub five_joined : (s1 s2 s3 s4 s5 a b c d e f : List ℕ) → a ≡ [] → b ≡ a ++ s1 → c ≡ b ++ s2 → d ≡ c ++ s3 → e ≡ d ++ s4 → f ≡ e ++ s5 → f ≡ s1 ++ (s2 ++ (s3 ++ (s4 ++ s5)))
five_joined s1 s2 s3 s4 s5 a b c d e f e0 e1 e2 e3 e4 e5 =
    let b_is : b ≡ s1 = e1 ∙ ap (λ (zs : List ℕ). zs ++ s1) e0 in
    let c_is : c ≡ s1 ++ s2 = e2 ∙ ap (λ (zs : List ℕ). zs ++ s2) b_is in
    let d_is : d ≡ s1 ++ (s2 ++ s3) = e3 ∙ ap (λ (zs : List ℕ). zs ++ s3) c_is ∙ append_assoc s1 s2 s3 in
    let e_is : e ≡ s1 ++ (s2 ++ (s3 ++ s4)) =
    e4 ∙ ap (λ (zs : List ℕ). zs ++ s4) d_is ∙ append_assoc s1 (s2 ++ s3) s4 ∙ ap (λ (zs : List ℕ). s1 ++ zs) (append_assoc s2 s3 s4) in
    e5 ∙ ap (λ (zs : List ℕ). zs ++ s5) e_is ∙ append_assoc s1 (s2 ++ (s3 ++ s4)) s5
    ∙ ap (λ (zs : List ℕ). s1 ++ zs) (append_assoc s2 (s3 ++ s4) s5 ∙ ap (λ (zs : List ℕ). s2 ++ zs) (append_assoc s3 s4 s5))

pub memory_lost : {A : Type 0} (result : Result A MigrateFault) (P : A → Type 0) (expected : Option Loss) → IsErr result × IsErrAnd result (λ e. e ≡ Memory) → MatchResult result P (IsMigrateFault expected)
memory_lost (Ok x) P expected is = cc
memory_lost (Err e) P expected is = subst (λ f. IsMigrateFault expected f) (sym is.1) tt

-- ---- how long Sections 1 to 5 are

length-section : (number : ℕ) (contents : List ℕ) → length (section_of number contents) ≡ 5 + length contents
length-section number contents =
    omega (arith, length-append (octets_of 4 (5 + length contents)) (number ∷ contents), length-octets_of 4 (5 + length contents))

pub section_short : (number most : ℕ) (contents same : List ℕ) → contents ≡ same → length contents ≤ most → length (section_of number same) ≤ most + 5
section_short number most contents same e few = omega (arith, length-section number same, ap length e, few)

local_by : (b : Bool) (contents : List ℕ) → length contents ≤ 2 ^ 24 → length (cond b (section_of 2 contents) []) ≤ 2 ^ 25
local_by true contents few = omega (arith, length-section 2 contents, few)
local_by false contents few = omega arith

pub local_short : (local : Local) (s1 : List ℕ) → length s1 < 2 ^ 24 → length (local_section_by local s1) ≤ 2 ^ 25
local_short Refuse s1 few = omega arith
local_short Keep s1 few = local_by (has_local s1) (local_octets s1) (omega (arith, length-drop 40 s1, few))
local_short Ecmwf s1 few = local_by (has_labels s1) (all_octets (label_numbers s1)) (omega arith)

pub five_short : (s1 s2 s3 s4 s5 f : List ℕ) → f ≡ s1 ++ (s2 ++ (s3 ++ (s4 ++ s5))) → length s1 ≤ 100 + 5 → length s2 ≤ 2 ^ 25 → length s3 ≤ 131500 + 5 → length s4 ≤ 2000 + 5
    → length s5 ≤ 100 + 5 → length f ≤ 2 ^ 30
five_short s1 s2 s3 s4 s5 f e a b c d g =
    let x = length-append s1 (s2 ++ (s3 ++ (s4 ++ s5))) in
    let y = length-append s2 (s3 ++ (s4 ++ s5)) in
    let z = length-append s3 (s4 ++ s5) in
    omega (arith, ap length e, x, y, z, length-append s4 s5, a, b, c, d, g)

-- ---- the losses of Section 1 and of the flags before those of the numbers

lost_before : (xs ys : List (Option Loss)) (loss : Loss) → first_of xs ≡ Some loss → first_of (xs ++ ys) ≡ Some loss
lost_before [] ys loss e = cc
lost_before (Some x ∷ xs) ys loss e = e
lost_before (None ∷ xs) ys loss e = lost_before xs ys loss e

lost_behind : (xs ys : List (Option Loss)) → first_of xs ≡ None → first_of (xs ++ ys) ≡ first_of ys
lost_behind [] ys e = refl
lost_behind (Some x ∷ xs) ys e = cc
lost_behind (None ∷ xs) ys e = lost_behind xs ys e

module _ (table : Entries) (tops : SurfaceEntries) (local : Local) (m s1 s2 s4 : List ℕ) (e1 : s1 ≡ identification m) (e2 : s2 ≡ grid m) (e4 : s4 ≡ data_section m) where
  of_message : first_of (chosen_losses table tops local s1 s2 ++ number_losses s2 s4) ≡ first_loss_with table tops local m
  of_message =
      ap (λ (x : List ℕ). first_of (chosen_losses table tops local x s2 ++ number_losses s2 s4)) e1
      ∙ ap (λ (x : List ℕ). first_of (chosen_losses table tops local (identification m) x ++ number_losses x s4)) e2
      ∙ ap (λ (x : List ℕ). first_of (chosen_losses table tops local (identification m) (grid m) ++ number_losses (grid m) x)) e4

  pub front_lost : (loss : Loss) → first_of (chosen_losses table tops local s1 s2) ≡ Some loss → first_loss_with table tops local m ≡ Some loss
  front_lost loss e = sym of_message ∙ lost_before (chosen_losses table tops local s1 s2) (number_losses s2 s4) loss e

  pub numbers_lost : first_of (chosen_losses table tops local s1 s2) ≡ None → first_of (number_losses s2 s4) ≡ first_loss_with table tops local m
  numbers_lost e = sym (lost_behind (chosen_losses table tops local s1 s2) (number_losses s2 s4) e) ∙ of_message

-- what `?` carries out of a call
pub loss_carried : {A : Type 0} (P : A → Type 0) (expected : Option Loss) (result : Result A MigrateFault) (loss : Loss)
    → IsErrAnd result (λ fault. fault ≡ Lost loss) → expected ≡ Some loss → MatchResult result P (IsMigrateFault expected)
loss_carried P expected (Ok value) loss is known = absurd is
loss_carried P expected (Err fault) loss is known = subst (λ f. IsMigrateFault expected f) (sym is) known

pub fault_carried : {A : Type 0} (P : A → Type 0) (first expected : Option Loss) (result : Result A MigrateFault) (fault : MigrateFault)
    → IsErrAnd result (λ carried. carried ≡ fault) → first ≡ expected → IsMigrateFault first fault → MatchResult result P (IsMigrateFault expected)
fault_carried P first expected (Ok value) fault is same known = absurd is
fault_carried P first expected (Err carried) fault is same known =
    subst (λ f. IsMigrateFault expected f) (sym is) (subst (λ o. IsMigrateFault o fault) same known)

-- ---- the whole

pub holds_same : (a a' b b' : List ℕ) (o o' : Option (List ℕ)) (d d' : List ℕ) (points values : ℕ) → a ≡ a' → b ≡ b' → o ≡ o' → d ≡ d' → Holds a' b' o' d' points values → Holds a b o d points values
holds_same a a' b b' o o' d d' points values e1 e2 e3 e4 holds =
    subst (λ (x : List ℕ). Holds x b o d points values) (sym e1)
    (subst (λ (x : List ℕ). Holds a' x o d points values) (sym e2)
    (subst (λ (x : Option (List ℕ)). Holds a' b' x d points values) (sym e3) (subst (λ (x : List ℕ). Holds a' b' o' x points values) (sym e4) holds)))

-- a message by what Section 1 gives, and by the sections
abbrev message_by : Target → UnitOfTime → Surfaces → Option Member → List ℕ → List ℕ → List ℕ → Option (List ℕ) → List ℕ → ℕ → ℕ → List ℕ
message_by target unit surfaces member own s1 s2 s3 s4 points values =
    whole_message target.discipline (front_sections target unit surfaces member own s1 s2 s4 points values) s3 s4 points values

abbrev from_sections : Entries → SurfaceEntries → Local → List ℕ → List ℕ → Option (List ℕ) → List ℕ → ℕ → ℕ → List ℕ
from_sections table tops local s1 s2 s3 s4 points values =
    message_by (unwrap_or (target_by table (named_in tops s1) s1) no_target) (unwrap_or (unit_of s1) no_unit) (unwrap_or (surfaces_by (named_in tops s1) s1) no_surfaces) (member_by local s1)
    (local_section_by local s1) s1 s2 s3 s4 points values

by_product : (table : Entries) (tops : SurfaceEntries) (local : Local) (s1 s2 : List ℕ) (s3 : Option (List ℕ)) (s4 : List ℕ) (points values : ℕ) (p : Product) → IsProduct table tops local s1 p
    → message_by p.target p.unit p.surfaces p.member (local_section_by local s1) s1 s2 s3 s4 points values ≡ from_sections table tops local s1 s2 s3 s4 points values
by_product table tops local s1 s2 s3 s4 points values p is =
    let own = local_section_by local s1 in
    let found = unwrap_or (surfaces_by (named_in tops s1) s1) no_surfaces in
    let target : unwrap_or (target_by table (named_in tops s1) s1) no_target ≡ p.target = ap (λ o. unwrap_or o no_target) is.target in
    let unit : unwrap_or (unit_of s1) no_unit ≡ p.unit = ap (λ o. unwrap_or o no_unit) is.unit in
    let surfaces : found ≡ p.surfaces = ap (λ o. unwrap_or o no_surfaces) is.surfaces_are in
    let whole =
    ap (λ (t : Target). message_by t (unwrap_or (unit_of s1) no_unit) found (member_by local s1) own s1 s2 s3 s4 points values) target
    ∙ ap (λ (u : UnitOfTime). message_by p.target u found (member_by local s1) own s1 s2 s3 s4 points values) unit
    ∙ ap (λ (x : Surfaces). message_by p.target p.unit x (member_by local s1) own s1 s2 s3 s4 points values) surfaces
    ∙ ap (λ (x : Option Member). message_by p.target p.unit p.surfaces x own s1 s2 s3 s4 points values) (sym is.member) in
    sym whole

pub migrated_whole : (table : Entries) (tops : SurfaceEntries) (local : Local) (m s1 s2 : List ℕ) (s3 : Option (List ℕ)) (s4 : List ℕ) (points values : ℕ) (p : Product) (front octets : List ℕ)
    → IsProduct table tops local s1 p → s1 ≡ identification m → s2 ≡ grid m → s3 ≡ bitmap m → s4 ≡ data_section m → points ≡ points_of m → values ≡ values_of m
    → front ≡ front_sections p.target p.unit p.surfaces p.member (local_section_by local s1) s1 s2 s4 points values → octets ≡ whole_message p.target.discipline front s3 s4 points values
    → octets ≡ migrated_with table tops local m
migrated_whole table tops local m s1 s2 s3 s4 points values p front octets is e1 e2 e3 e4 e5 e6 front_is octets_are =
    octets_are ∙ ap (λ (x : List ℕ). whole_message p.target.discipline x s3 s4 points values) front_is
    ∙ by_product table tops local s1 s2 s3 s4 points values p is
    ∙ ap (λ (x : List ℕ). from_sections table tops local x s2 s3 s4 points values) e1
    ∙ ap (λ (x : List ℕ). from_sections table tops local (identification m) x s3 s4 points values) e2
    ∙ ap (λ (x : Option (List ℕ)). from_sections table tops local (identification m) (grid m) x s4 points values) e3
    ∙ ap (λ (x : List ℕ). from_sections table tops local (identification m) (grid m) (bitmap m) x points values) e4
    ∙ ap (λ (x : ℕ). from_sections table tops local (identification m) (grid m) (bitmap m) (data_section m) x values) e5
    ∙ ap (λ (x : ℕ). from_sections table tops local (identification m) (grid m) (bitmap m) (data_section m) (points_of m) x) e6
