-- Losses and octets one after another.
use Rattle.std.proofs.Common.{◌≡◌, ℕ, ◌==◌, ◌&&◌, ◌||◌, not, Bool, true, false, Option, Some, None, List, [], ◌∷◌, ◌++◌, nat_lt, refl, sym, ap, ◌∙◌, subst, append_assoc, arith, ltb-true}
use Rattle.std.specs.Prelude.{Result, Ok, Err, MatchResult, IfOk, is_none, option_map, unwrap_or}
use Rattle.std.specs.Result.{IsErrAnd}
use Rattle.std.proofs.lemmas.Bool.Decides.{nat_tests}
use Rattle.grib_bits.proofs.Logic.{left_false, right_false}
use Rattle.grib_base.specs.Rules.{choose}
use Rattle.grib2_sections.specs.Template.{is_template}
use Rattle.grib2_grids.specs.Grid.{grid_template}
use Rattle.grib2_grids.specs.Opaque.{is_opaque_grid}
use Rattle.grib2_products.specs.Product.{product_template, product_templates}
use Rattle.grib2_products.specs.Opaque.{is_opaque_product}
use Rattle.grib_params.specs.declared.matching.TableMatch.{TableMatch}
use Rattle.grib_params.specs.Table.{Entries}
use Rattle.grib_params.specs.Pairs.{Pair}
use Rattle.grib_migrate.specs.Dates.{is_civil}
use Rattle.grib_migrate.proofs.Later.{civil_parts}
use Rattle.grib_reasons.specs.declared.demotion.Demotion.{Demotion}
use Rattle.grib_demote.specs.declared.demotion.DemoteFault.{DemoteFault}
use Rattle.grib_demote.specs.declared.demotion.DemoteFault.TheVariants.{Lost, Memory}
use Rattle.grib_demote.specs.declared.level.Level.{Level}
use Rattle.grib_demote.specs.declared.product.Told.{Told}
use Rattle.grib_demote.specs.declared.field.Field.{Field}
use Rattle.grib_demote.specs.Answered.{IsDemoteFault}
use Rattle.grib_demote.specs.Dates.{reference_time}
use Rattle.grib_demote.specs.Levels.{level, level_of}
use Rattle.grib_demote.specs.Times.{unit_of, is_interval, has_range, has_end}
use Rattle.grib_demote.specs.Products.{centre, sub_centre, pair_in}
use Rattle.grib_demote.specs.Losses.{first_of, loses_product, loses_grid}
use Rattle.grib_demote.specs.Grids.{type_of}
use Rattle.grib_demote.specs.Demoted.{told_in}
use Rattle.grib_demote.specs.Held.{Holds, IsDemoted, IsParameter, AreTimes}

-- ---- the first loss of some and of others

pub first_lost : (xs ys : List (Option Demotion)) (loss : Demotion) → first_of xs ≡ Some loss → first_of (xs ++ ys) ≡ Some loss
first_lost [] ys loss e = cc e
first_lost (Some x ∷ xs) ys loss e = e
first_lost (None ∷ xs) ys loss e = first_lost xs ys loss e

pub later_lost : (xs ys : List (Option Demotion)) → first_of xs ≡ None → first_of (xs ++ ys) ≡ first_of ys
later_lost [] ys e = refl
later_lost (Some x ∷ xs) ys e = cc e
later_lost (None ∷ xs) ys e = later_lost xs ys e

pub here_lost : (a : Option Demotion) (xs : List (Option Demotion)) (loss : Demotion) → a ≡ Some loss → first_of (a ∷ xs) ≡ Some loss
here_lost a xs loss e = ap (λ o. first_of (o ∷ xs)) e

pub not_here : (a : Option Demotion) (xs : List (Option Demotion)) → a ≡ None → first_of (a ∷ xs) ≡ first_of xs
not_here a xs e = ap (λ o. first_of (o ∷ xs)) e

-- ---- what a `?` carries

pub loss_carried : {A : Type 0} (P : A → Type 0) (expected : Option Demotion) (result : Result A Demotion) (loss : Demotion)
    → IsErrAnd result (λ e. e ≡ loss) → expected ≡ Some loss → MatchResult result P (λ l. expected ≡ Some l)
loss_carried P expected (Ok value) loss is known = absurd is
loss_carried P expected (Err e) loss is known = known ∙ ap Some (sym is)

pub lost_carried : {A : Type 0} (P : A → Type 0) (expected : Option Demotion) (result : Result A DemoteFault) (loss : Demotion)
    → IsErrAnd result (λ fault. fault ≡ Lost loss) → expected ≡ Some loss → MatchResult result P (IsDemoteFault expected)
lost_carried P expected (Ok value) loss is known = absurd is
lost_carried P expected (Err fault) loss is known = subst (λ f. IsDemoteFault expected f) (sym is) known

pub fault_carried : {A : Type 0} (P : A → Type 0) (first expected : Option Demotion) (result : Result A DemoteFault) (fault : DemoteFault)
    → IsErrAnd result (λ carried. carried ≡ fault) → ((loss : Demotion) → first ≡ Some loss → expected ≡ Some loss) → IsDemoteFault first fault → MatchResult result P (IsDemoteFault expected)
fault_carried P first expected (Ok value) fault is goes known = absurd is
fault_carried P first expected (Err carried) (Lost loss) is goes known = subst (λ f. IsDemoteFault expected f) (sym is) (goes loss known)
fault_carried P first expected (Err carried) Memory is goes known = subst (λ f. IsDemoteFault expected f) (sym is) tt

pub memory_carried : {A : Type 0} (P : A → Type 0) (expected : Option Demotion) (result : Result A DemoteFault) → IsErrAnd result (λ e. e ≡ Memory) → MatchResult result P (IsDemoteFault expected)
memory_carried P expected (Ok x) is = absurd is
memory_carried P expected (Err e) is = subst (λ f. IsDemoteFault expected f) (sym is) tt

pub none_carried : {A E : Type 0} (P : A → Type 0) (Q : E → Type 0) (result : Result A E) → IsErrAnd result Q → IfOk result P
none_carried P Q (Ok x) is = absurd is
none_carried P Q (Err e) is = tt

-- ---- octets

pub four_joined : (x1 x2 x3 x4 a b c d e : List ℕ) → a ≡ [] → b ≡ a ++ x1 → c ≡ b ++ x2 → d ≡ c ++ x3 → e ≡ d ++ x4 → e ≡ x1 ++ (x2 ++ (x3 ++ x4))
four_joined x1 x2 x3 x4 a b c d e at_0 at_1 at_2 at_3 at_4 =
    at_4 ∙ ap (λ (xs : List ℕ). xs ++ x4) (at_3 ∙ ap (λ (xs : List ℕ). xs ++ x3) (at_2 ∙ ap (λ (xs : List ℕ). xs ++ x2) (at_1 ∙ ap (λ (xs : List ℕ). xs ++ x1) at_0)))
    ∙ append_assoc (x1 ++ x2) x3 x4 ∙ append_assoc x1 x2 (x3 ++ x4)

-- ---- the product

told_by : Option Pair → Option Level → Option ℕ → Told
told_by pair number unit = record {
  version = (unwrap_or pair (0, 0)).0;
  parameter = (unwrap_or pair (0, 0)).1;
  level = unwrap_or number (level 0 0);
  unit = unwrap_or unit 0;
}

pub told_is : (table : Entries) (matching : TableMatch) (discipline : ℕ) (s1 s4 : List ℕ) (version parameter : ℕ) (number : Level) (unit : ℕ) → pair_in table matching discipline s1 s4 ≡ Some (version, parameter)
    → level_of s4 ≡ Some number → option_map (λ row. row.old) (unit_of s4) ≡ Some unit
    → record { version = version; parameter = parameter; level = number; unit = unit } ≡ told_in table matching discipline s1 s4
unfolding told_by
told_is table matching discipline s1 s4 version parameter number unit pair_is level_is unit_is =
    sym (
    ap (λ o. told_by o (level_of s4) (option_map (λ row. row.old) (unit_of s4))) pair_is
    ∙ ap (λ o. told_by (Some (version, parameter)) o (option_map (λ row. row.old) (unit_of s4))) level_is
    ∙ ap (λ o. told_by (Some (version, parameter)) (Some number) o) unit_is
    )

by_template : (t : ℕ) → not ((t == 0) || (t == 8)) ≡ false → not (is_template product_templates t) ≡ false
by_template t known = grind (arith, nat_tests)

both_true : (a b : Bool) → not (a && b) ≡ false → (a ≡ true) × (b ≡ true)
both_true true true e = (refl, refl)
both_true true false e = cc e
both_true false b e = cc e

first_true : (a b : Bool) → (not a || b) ≡ false → a ≡ true
first_true true b e = refl
first_true false b e = cc e

ranged : (interval range end : Bool) → choose interval (λ _. choose range (λ _. not end) (λ _. true)) (λ _. false) ≡ false → interval ≡ true → range ≡ true
ranged true true end e is = refl
ranged true false end e is = cc e
ranged false range end e is = cc is

-- a product that is not lost is not opaque
pub stated_product : (s4 : List ℕ) → loses_product s4 ≡ false → is_opaque_product s4 ≡ false
stated_product s4 known = by_template (product_template s4) known

-- nor is such a grid
pub stated_grid : (s3 : List ℕ) → loses_grid s3 ≡ false → is_opaque_grid s3 ≡ false
stated_grid s3 known = left_false (is_opaque_grid s3) (is_none (type_of (grid_template s3))) known

-- and its template has a type of grid
pub typed_grid : (s3 : List ℕ) → loses_grid s3 ≡ false → is_none (type_of (grid_template s3)) ≡ false
typed_grid s3 known = right_false (is_opaque_grid s3) (is_none (type_of (grid_template s3))) known

pub demoted_holds : (table : Entries) (matching : TableMatch) (field : Field) (found : ℕ × ℕ × Level) (unit : ℕ) → Holds field.identification.now field.grid.now field.product.now field.packing.now
    → IsParameter table matching field found → AreTimes field.identification.now field.product.now unit → IsDemoted field
demoted_holds table matching field found unit holds parameter times =
    let s1 = field.identification.now in
    let s4 = field.product.now in
    let grid_stated = stated_grid field.grid.now parameter.grid in
    let product_stated = stated_product s4 parameter.product in
    let centres = both_true (nat_lt (centre s1) 256) (nat_lt (sub_centre s1) 256) parameter.centre_fits in
    let civil = civil_parts (reference_time s1) (first_true (is_civil (reference_time s1)) (not ((reference_time s1).second == 0)) times.date) in
    record {
      identification = holds.identification;
      packing = holds.packing;
      grid_stated = grid_stated;
      grid = holds.grid grid_stated;
      product_stated = product_stated;
      product = holds.product product_stated;
      centre_fits = ltb-true (centre s1) 256 centres.0;
      sub_centre_fits = ltb-true (sub_centre s1) 256 centres.1;
      year = civil.1;
      process = times.process;
      range = ranged (is_interval s4) (has_range s4) (has_end s1 s4) times.interval;
    }

pub two_joined : (x1 x2 a b c : List ℕ) → a ≡ [] → b ≡ a ++ x1 → c ≡ b ++ x2 → c ≡ x1 ++ x2
two_joined x1 x2 a b c at_0 at_1 at_2 = at_2 ∙ ap (λ (xs : List ℕ). xs ++ x2) (at_1 ∙ ap (λ (xs : List ℕ). xs ++ x1) at_0)
