-- Lemmas on the numbers of a product.
use Rattle.std.proofs.Common.{◌≡◌, ℕ, ◌+◌, ◌-◌, ◌<◌, ◌≤◌, Bool, true, false, cond, Option, Some, None, List, [], ◌∷◌, ◌++◌, length, take, drop, get_or, sym, ap, ◌∙◌, arith, append_assoc}
use Rattle.std.proofs.lemmas.List.{length-append, length-map, take_more}
use Rattle.grib_params.specs.declared.row.Target.{Target}
use Rattle.grib1_sections.specs.Keys.{key_in}
use Rattle.grib_keys.specs.declared.key1.Key1.TheVariants.{P1, P2, TimeRange, AverageMissing}
use Rattle.grib_bits.specs.declared.adding.Number.TheVariants.{One, Two, Four}
use Rattle.grib_migrate.specs.declared.date.Moment.{Moment}
use Rattle.grib_migrate.specs.declared.level.Surfaces.{Surfaces}
use Rattle.grib_migrate.specs.declared.time.Unit.{Unit as UnitOfTime}
use Rattle.grib_bits.specs.Encoding.{all_octets}
use Rattle.grib_migrate.specs.Times.{is_interval, statistic}
use Rattle.grib_migrate.specs.Dates.{end_of}
use Rattle.grib_migrate.specs.Products.{interval_numbers, end_numbers, instant_with, template_by, coordinate_numbers, product_octets_by}
use Rattle.grib_migrate.specs.declared.labels.Member.{Member}
use Rattle.grib_migrate.specs.Labels.{member_numbers}
use Rattle.grib_reasons.specs.declared.loss.Loss.TheVariants.{Coordinate}
use Rattle.grib_migrate.specs.Losses.{coordinate_loss, coordinate_loss_from}
use Rattle.grib_migrate.specs.References.{binary32_of}
use Rattle.grib_bits.proofs.AllOctets.{all_octets-append, length-all_octets}
use Rattle.std.specs.Option.{option_map_or}
use Rattle.std.specs.Prelude.{is_none, suc}
use Rattle.std.proofs.Math.Seq.{take-length, drop-length, drop-cons}
use Rattle.std.proofs.lemmas.List.{map-append}

-- an interval by its parts
pub interval_same : (s1 : List ℕ) (unit : UnitOfTime) (end : Moment) (year missing statistic_is length_is p2 p1 : ℕ) → end ≡ end_of s1 unit.seconds → year ≡ end.year → missing ≡ key_in s1 AverageMissing
    → statistic_is ≡ statistic (key_in s1 TimeRange) → length_is ≡ p2 - p1 → p2 ≡ key_in s1 P2 → p1 ≡ key_in s1 P1
    → (Two year ∷ One end.month ∷ One end.day ∷ One end.hour ∷ One end.minute ∷ One end.second ∷ One 1 ∷ Four missing ∷ One statistic_is ∷ One 2 ∷ One unit.code ∷ Four length_is ∷ One unit.code ∷ Four 0 ∷ [])
    ≡ interval_numbers s1 unit
interval_same s1 unit end year missing statistic_is length_is p2 p1 e1 e2 e3 e4 e5 e6 e7 = cc

-- ---- vertical coordinates

abbrev pub new_word : ℕ → ℕ
new_word word = option_map_or (λ w. w) (binary32_of word) 0

-- the losses from place k on, and what is written before it
pub record IsAtPlace (words : List ℕ) (k : ℕ) (old new : List ℕ) : Type 0 where
  pub loss : coordinate_loss words ≡ coordinate_loss_from (k + 1) (drop k words)
  pub written : new ≡ old ++ all_octets (coordinate_numbers (take k words))

loss_later : (i word new : ℕ) (rest : List ℕ) → binary32_of word ≡ Some new → coordinate_loss_from i (word ∷ rest) ≡ coordinate_loss_from (i + 1) rest
loss_later i word new rest e = ap (λ o. cond (is_none o) (Some (Coordinate i)) (coordinate_loss_from (i + 1) rest)) e

pub place_next : (words : List ℕ) (k word found : ℕ) (old before now : List ℕ) → IsAtPlace words k old before → k < length words → word ≡ get_or words k 0
    → binary32_of word ≡ Some found → now ≡ before ++ all_octets (Four found ∷ []) → IsAtPlace words (k + 1) old now
place_next words k word found old before now at within is some added =
    let next : (j : ℕ) → suc j ≡ j + 1 = λ j. omega arith in
    let e : binary32_of (get_or words k 0) ≡ Some found = ap binary32_of (sym is) ∙ some in
    let one : coordinate_numbers (get_or words k 0 ∷ []) ≡ Four found ∷ [] = ap (λ o. Four (option_map_or (λ w. w) o 0) ∷ []) e in
    let more : coordinate_numbers (take (k + 1) words) ≡ coordinate_numbers (take k words) ++ coordinate_numbers (get_or words k 0 ∷ []) =
    ap coordinate_numbers (take_more words k 0 within) ∙ map-append (λ word. Four (new_word word)) (take k words) (get_or words k 0 ∷ []) in
    record {
      loss = at.loss ∙ ap (λ xs. coordinate_loss_from (k + 1) xs) (drop-cons words k 0 within) ∙ loss_later (k + 1) (get_or words k 0) found (drop (suc k) words) e
          ∙ ap (λ j. coordinate_loss_from (k + 1 + 1) (drop j words)) (next k);
      written =
          added ∙ ap (λ xs. xs ++ all_octets (Four found ∷ [])) at.written
          ∙ append_assoc old (all_octets (coordinate_numbers (take k words))) (all_octets (Four found ∷ []))
          ∙ ap (λ xs. old ++ xs) (sym (all_octets-append (coordinate_numbers (take k words)) (Four found ∷ [])) ∙ ap (λ xs. all_octets (coordinate_numbers (take k words) ++ xs)) (sym one) ∙ ap all_octets (sym more));
    }

pub place_end : (words old new : List ℕ) (k : ℕ) → IsAtPlace words k old new → k ≡ length words → (coordinate_loss words ≡ None) × (new ≡ old ++ all_octets (coordinate_numbers words))
place_end words old new k at end = (
  at.loss ∙ ap (λ n. coordinate_loss_from (k + 1) (drop n words)) end ∙ ap (λ xs. coordinate_loss_from (k + 1) xs) (drop-length words),
  at.written ∙ ap (λ n. old ++ all_octets (coordinate_numbers (take n words))) end ∙ ap (λ xs. old ++ all_octets (coordinate_numbers xs)) (take-length words),
)

-- ---- the whole

few_ends : (s1 : List ℕ) (unit : UnitOfTime) (b : Bool) → length (cond b (interval_numbers s1 unit) []) ≤ 14
few_ends s1 unit true = omega arith
few_ends s1 unit false = omega arith

few_members : (member : Option Member) → length (member_numbers member) ≤ 3
few_members None = omega arith
few_members (Some member) = omega arith

pub product_whole : (member : Option Member) (target : Target) (s1 words : List ℕ) (unit : UnitOfTime) (surfaces : Surfaces) (a b c d e : List ℕ) → length words ≤ 255 → a ≡ []
    → b ≡ a ++ all_octets (instant_with (template_by member s1) target s1 unit surfaces (length words)) → c ≡ b ++ all_octets (member_numbers member)
    → d ≡ c ++ all_octets (end_numbers s1 unit) → e ≡ d ++ all_octets (coordinate_numbers words)
    → (e ≡ product_octets_by member target s1 words unit surfaces) × (length e ≤ 2000)
product_whole member target s1 words unit surfaces a b c d e few e0 e1 e2 e3 e4 =
    let w = all_octets (instant_with (template_by member s1) target s1 unit surfaces (length words)) in
    let x = all_octets (member_numbers member) in
    let y = all_octets (end_numbers s1 unit) in
    let z = all_octets (coordinate_numbers words) in
    let b_is : b ≡ w = e1 ∙ ap (λ (zs : List ℕ). zs ++ w) e0 in
    let c_is : c ≡ w ++ x = e2 ∙ ap (λ (zs : List ℕ). zs ++ x) b_is in
    let d_is : d ≡ w ++ (x ++ y) = e3 ∙ ap (λ (zs : List ℕ). zs ++ y) c_is ∙ append_assoc w x y in
    let whole : e ≡ w ++ (x ++ (y ++ z)) = e4 ∙ ap (λ (zs : List ℕ). zs ++ z) d_is ∙ append_assoc w (x ++ y) z ∙ ap (λ (zs : List ℕ). w ++ zs) (append_assoc x y z) in
    let end_few = few_ends s1 unit (is_interval (key_in s1 TimeRange)) in (
      whole,
      omega (
        arith,
        ap length whole,
        length-append w (x ++ (y ++ z)),
        length-append x (y ++ z),
        length-append y z,
        length-all_octets (instant_with (template_by member s1) target s1 unit surfaces (length words)),
        length-all_octets (member_numbers member),
        length-all_octets (end_numbers s1 unit),
        length-all_octets (coordinate_numbers words),
        few_members member,
        end_few,
        length-map words (λ word. Four (new_word word)),
      ),
    )
