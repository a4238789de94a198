-- The message of edition 1 as a whole, and the first loss of a field.
use Rattle.std.proofs.Common.{◌≡◌, ℕ, Bool, Option, Some, None, List, ◌++◌, length, sym, ap, subst, ◌∙◌}
use Rattle.std.specs.Prelude.{Result, Ok, Err, MatchResult}
use Rattle.grib_base.specs.Rules.{or_later}
use Rattle.grib2_sections.specs.Head.{discipline}
use Rattle.grib2_grids.specs.Grid.{grid_points}
use Rattle.grib2_products.specs.Spelled.{coordinate_list}
use Rattle.grib_packing.specs.Misfits.{ToSimple}
use Rattle.grib_packing.specs.declared.written.Packed.{Packed}
use Rattle.grib2_message.specs.Fields.{part_octets}
use Rattle.grib_params.specs.declared.matching.TableMatch.{TableMatch}
use Rattle.grib_params.specs.Table.{Entries}
use Rattle.grib_repack.specs.Repacked.{packed_field}
use Rattle.grib_reasons.specs.declared.demotion.Demotion.{Demotion}
use Rattle.grib_demote.specs.declared.demotion.DemoteFault.{DemoteFault}
use Rattle.grib_demote.specs.declared.product.Told.{Told}
use Rattle.grib_demote.specs.Answered.{IsDemoteFault}
use Rattle.grib_demote.specs.Losses.{first_of, product_losses}
use Rattle.grib_demote.specs.Demoted.{told_in, grid_octets, all_sections, demoted_sections, message_with, length_loss}
use Rattle.grib_demote.proofs.Joining.{first_lost, later_lost}

module _ (xs ys zs : List (Option Demotion)) (later : Unit {0} → Option Demotion) where
  pub front_lost : (loss : Demotion) → first_of xs ≡ Some loss → or_later (first_of (xs ++ (ys ++ zs))) later ≡ Some loss
  front_lost loss e = ap (λ o. or_later o later) (first_lost xs (ys ++ zs) loss e)

  pub middle_lost : (loss : Demotion) → first_of xs ≡ None → first_of ys ≡ Some loss → or_later (first_of (xs ++ (ys ++ zs))) later ≡ Some loss
  middle_lost loss none e = ap (λ o. or_later o later) (later_lost xs (ys ++ zs) none ∙ first_lost ys zs loss e)

  pub last_lost : (loss : Demotion) → first_of xs ≡ None → first_of ys ≡ None → first_of zs ≡ Some loss → or_later (first_of (xs ++ (ys ++ zs))) later ≡ Some loss
  last_lost loss none nor e = ap (λ o. or_later o later) (later_lost xs (ys ++ zs) none ∙ later_lost ys zs nor ∙ e)

  pub none_lost : first_of xs ≡ None → first_of ys ≡ None → first_of zs ≡ None → or_later (first_of (xs ++ (ys ++ zs))) later ≡ later tt
  none_lost none nor neither = ap (λ o. or_later o later) (later_lost xs (ys ++ zs) none ∙ later_lost ys zs nor ∙ neither)

pub product_is : (table : Entries) (matching : TableMatch) (d e : ℕ) (s1 t1 s3 t3 s4 t4 : List ℕ) → d ≡ e → s1 ≡ t1 → s3 ≡ t3 → s4 ≡ t4
    → first_of (product_losses table matching d s1 s3 s4) ≡ first_of (product_losses table matching e t1 t3 t4)
product_is table matching d e s1 t1 s3 t3 s4 t4 ed e1 e3 e4 =
    ap (λ x. first_of (product_losses table matching x s1 s3 s4)) ed ∙ ap (λ x. first_of (product_losses table matching e x s3 s4)) e1
    ∙ ap (λ x. first_of (product_losses table matching e t1 x s4)) e3 ∙ ap (λ x. first_of (product_losses table matching e t1 t3 x)) e4

pub sections_are : (table : Entries) (matching : TableMatch) (keep : Bool) (m : List ℕ) (i : ℕ) (told : Told) (d : ℕ) (s1 s2 s4 s5 grid : List ℕ) (p : Packed) (points : ℕ)
    → d ≡ discipline m → s1 ≡ part_octets m i 1 → s2 ≡ part_octets m i 2 → s4 ≡ part_octets m i 4 → s5 ≡ part_octets m i 5 → told ≡ told_in table matching d s1 s4
    → grid ≡ grid_octets (coordinate_list (part_octets m i 4)) (part_octets m i 3) → p ≡ packed_field ToSimple m i → points ≡ grid_points (part_octets m i 3)
    → all_sections told keep s1 s2 s4 s5 grid p points ≡ demoted_sections table matching keep m i
sections_are table matching keep m i told d s1 s2 s4 s5 grid p points ed e1 e2 e4 e5 et eg ep en =
    let t1 = part_octets m i 1 in
    let t2 = part_octets m i 2 in
    let t4 = part_octets m i 4 in
    let t5 = part_octets m i 5 in
    let new = told_in table matching (discipline m) t1 t4 in
    let told_same : told ≡ new =
    et ∙ ap (λ x. told_in table matching x s1 s4) ed ∙ ap (λ x. told_in table matching (discipline m) x s4) e1 ∙ ap (λ x. told_in table matching (discipline m) t1 x) e4 in
    let octets = grid_octets (coordinate_list t4) (part_octets m i 3) in
    ap (λ x. all_sections x keep s1 s2 s4 s5 grid p points) told_same ∙ ap (λ x. all_sections new keep x s2 s4 s5 grid p points) e1
    ∙ ap (λ x. all_sections new keep t1 x s4 s5 grid p points) e2 ∙ ap (λ x. all_sections new keep t1 t2 x s5 grid p points) e4
    ∙ ap (λ x. all_sections new keep t1 t2 t4 x grid p points) e5 ∙ ap (λ x. all_sections new keep t1 t2 t4 t5 x p points) eg
    ∙ ap (λ x. all_sections new keep t1 t2 t4 t5 octets x points) ep ∙ ap (λ x. all_sections new keep t1 t2 t4 t5 octets (packed_field ToSimple m i) x) en

pub whole_carried : {A : Type 0} (items : A → List ℕ) (result : Result A DemoteFault) (sections target : List ℕ) (expected : Option Demotion) → sections ≡ target
    → expected ≡ length_loss (length (message_with target))
    → MatchResult result (λ v. (length_loss (length (message_with sections)) ≡ None) × (items v ≡ message_with sections)) (IsDemoteFault (length_loss (length (message_with sections))))
    → MatchResult result (λ v. (expected ≡ None) × (items v ≡ message_with target)) (IsDemoteFault expected)
whole_carried items (Ok v) sections target expected e is h =
    (is ∙ sym (ap (λ (x : List ℕ). length_loss (length (message_with x))) e) ∙ h.0, h.1 ∙ ap message_with e)
whole_carried items (Err fault) sections target expected e is h =
    subst (λ o. IsDemoteFault o fault) (ap (λ (x : List ℕ). length_loss (length (message_with x))) e ∙ sym is) h
