-- Each key that a section has stands within the section, by the rules of the profile.
use Rattle.std.proofs.Common.{◌≡◌, ◌≢◌, ℕ, cond, ◌+◌, ◌*◌, ◌≤◌, Bool, true, false, not, ◌||◌, ◌&&◌, ◌==◌, Option, Some, None, List, [], ◌∷◌, length, ◌⊎◌, inl, inr, refl, sym, ap, ◌∙◌, arith, subst, ltb-false, eqb-true, ne_eqb}
use Rattle.std.specs.Option.{option_map_or}
use Rattle.std.proofs.lemmas.Bool.{not-false, cases_eq, eqb-false}
use Rattle.grib_base.specs.declared.profile.Profile.{Profile}
use Rattle.grib_base.specs.declared.profile.Profile.TheVariants.{Stated, Open}
use Rattle.grib_base.specs.Rules.{first_fault}
use Rattle.grib2_sections.specs.Template.{is_template, least_length}
use Rattle.grib2_sections.specs.Identification.{identification_rules}
use Rattle.grib2_grids.specs.Grid.{grid_rules, grid_points, grid_template, grid_templates}
use Rattle.grib2_grids.specs.Opaque.{is_opaque_grid, grid_rules_under}
use Rattle.grib2_grids.proofs.Under.{same_grid_rules, grid_accepted, grid_header_length}
use Rattle.grib2_message.specs.Message.{AnyFieldPasses}
use Rattle.grib2_message.specs.Fields.{part_octets}
use Rattle.grib2_products.specs.Product.{product_rules, product_template, product_templates, product_length, time_ranges}
use Rattle.grib2_products.specs.Opaque.{is_opaque_product, opaque_least, opaque_product_rules, product_rules_under}
use Rattle.grib2_sections.specs.Instant.{instant_shift}
use Rattle.grib2_products.proofs.Under.{same_product_rules, product_accepted}
use Rattle.grib_packing.specs.Entries.{packing_fault_under}
use Rattle.grib_packing.proofs.Packings.{packing_passes}
use Rattle.grib_packing.proofs.OpaquePackings.{passes_under, read_under}
use Rattle.grib_keys.specs.declared.key.Key.{Key}
use Rattle.grib_keys.specs.declared.table.Layout.{Layout}
use Rattle.grib_keys.specs.declared.table.Octets.{Octets}
use Rattle.grib_keys.specs.Keys.{row_of, key_place, is_of, is_by_angles}
use Rattle.grib2_message.proofs.Passed.{passes_from_none}
use Rattle.grib_select.specs.Values.{is_opaque, count_octet, layout_of, HasKeys, IsWithin}
use Rattle.grib_select.proofs.Places.{IsLong, IsLongProduct, header, stated_header, range_octets, key_within}

abbrev pub laid_out : ℕ → Bool → ℕ → Layout
laid_out template opaque ranges = record { template = template; is_opaque = opaque; ranges = ranges }

pub and_first : (a b : Bool) → (a && b) ≡ true → a ≡ true
and_first true b e = refl
and_first false b e = cc

pub and_second : (a b : Bool) → (a && b) ≡ true → b ≡ true
and_second true b e = e
and_second false b e = cc

-- ---- the templates of the profile

pub or_parts_true : (a b : Bool) → (a || b) ≡ true → (a ≡ true) ⊎ (b ≡ true)
or_parts_true true b e = inl refl
or_parts_true false b e = inr e

-- where what holds of the first template and of each later one is asked
pub by_template : (P : ℕ → Type 0) (n t : ℕ) (rest : Bool) → ((n == t) || rest) ≡ true → P n → (rest ≡ true → P t) → P t
by_template P n t rest e here later =
    elim (or_parts_true (n == t) rest e) [ inl same ↦ subst P (eqb-true n t same) here | inr other ↦ later other ]

-- how long a grid of a stated template is at least
record IsLongGrid (t : ℕ) : Type 0 where
  least : 65 ≤ least_length grid_templates t
  angles : is_by_angles t ≡ true → 72 ≤ least_length grid_templates t

grid_long : (t : ℕ) → is_template grid_templates t ≡ true → IsLongGrid t
grid_long t e =
    by_template IsLongGrid 0 t _ e (record { least = omega arith; angles = λ _. omega arith })
    (λ e1. by_template IsLongGrid 1 t _ e1 (record { least = omega arith; angles = λ _. omega arith })
    (λ e2. by_template IsLongGrid 10 t _ e2 (record { least = omega arith; angles = λ f. absurd (cc) })
    (λ e3. by_template IsLongGrid 20 t _ e3 (record { least = omega arith; angles = λ f. absurd (cc) })
    (λ e4. by_template IsLongGrid 30 t _ e4 (record { least = omega arith; angles = λ f. absurd (cc) })
    (λ e5. by_template IsLongGrid 40 t _ e5 (record { least = omega arith; angles = λ _. omega arith }) (λ e6. absurd (cc)))))))

-- how long a product of a stated template is at least, and where the number of its time ranges stands
record IsLongBefore (t : ℕ) : Type 0 where
  least : 34 ≤ least_length product_templates t
  instant : (k : ℕ) → instant_shift t ≡ Some k → 34 + k ≤ least_length product_templates t
  ensemble : is_of (1 ∷ 11 ∷ []) t ≡ true → 37 ≤ least_length product_templates t
  eight : (t == 8) ≡ true → 46 ≤ least_length product_templates t
  eleven : (t == 11) ≡ true → 49 ≤ least_length product_templates t
  count : count_octet t ≤ least_length product_templates t

-- templates of the profile shift nothing
unshifted : (k : ℕ) → Some 0 ≡ Some k → k ≡ 0
unshifted k e = cc

product_long : (t : ℕ) → is_template product_templates t ≡ true → IsLongBefore t
product_long t e =
    by_template IsLongBefore 0 t _ e (record {
      least = omega arith;
      instant = λ k f. omega (arith, unshifted k f);
      ensemble = λ f. absurd (cc);
      eight = λ f. absurd (cc);
      eleven = λ f. absurd (cc);
      count = omega arith;
    })
    (λ e1. by_template IsLongBefore 1 t _ e1 (record {
      least = omega arith;
      instant = λ k f. omega (arith, unshifted k f);
      ensemble = λ _. omega arith;
      eight = λ f. absurd (cc);
      eleven = λ f. absurd (cc);
      count = omega arith;
    })
    (λ e2. by_template IsLongBefore 8 t _ e2 (record {
      least = omega arith;
      instant = λ k f. omega (arith, unshifted k f);
      ensemble = λ f. absurd (cc);
      eight = λ _. omega arith;
      eleven = λ f. absurd (cc);
      count = omega arith;
    })
    (λ e3. by_template IsLongBefore 11 t _ e3 (record {
      least = omega arith;
      instant = λ k f. omega (arith, unshifted k f);
      ensemble = λ _. omega arith;
      eight = λ f. absurd (cc);
      eleven = λ _. omega arith;
      count = omega arith;
    }) (λ e4. absurd (cc)))))

-- ---- an opaque product: its template is none of those of ensembles and intervals

pub or_parts_false : (a b : Bool) → (a || b) ≡ false → (a ≡ false) × (b ≡ false)
or_parts_false true b e = absurd (cc)
or_parts_false false b e = (refl, e)

is_not_at : (t n : ℕ) → (n == t) ≡ false → (t == n) ≡ false
is_not_at t n e = ne_eqb t n (λ same. eqb-false n t e (sym same))

header_least : (o : Option ℕ) → 11 ≤ option_map_or (λ k. 34 + k) o 11
header_least None = omega arith
header_least (Some k) = omega arith

module _ (t : ℕ) (other : is_template product_templates t ≡ false) where
  not_1 : ((1 == t) ≡ false) × ((8 == t || (11 == t || false)) ≡ false)
  not_1 = or_parts_false (1 == t) (8 == t || (11 == t || false)) (or_parts_false (0 == t) (1 == t || (8 == t || (11 == t || false))) other).1

  not_8 : ((8 == t) ≡ false) × ((11 == t || false) ≡ false)
  not_8 = or_parts_false (8 == t) (11 == t || false) not_1.1

  not_11 : (11 == t) ≡ false
  not_11 = (or_parts_false (11 == t) false not_8.1).0

  no_count : count_octet t ≡ 0
  no_count = λ i. cond (is_not_at t 8 not_8.0 i) 42 (cond (is_not_at t 11 not_11 i) 45 0)

  opaque_long_product : (n : ℕ) → IsLongProduct (laid_out t true n) (opaque_least t)
  opaque_long_product n = record {
    instant = λ k e. (let same : opaque_least t ≡ 34 + k = ap (λ (o : Option ℕ). option_map_or (λ m. 34 + m) o 11) e in omega arith);
    ensemble = λ e. (let none : false ≡ true = sym (λ i. not_1.0 i || (not_11 i || false)) ∙ e in absurd (cc));
    eight = λ e. (let none : false ≡ true = sym (is_not_at t 8 not_8.0) ∙ e in absurd (cc));
    eleven = λ e. (let none : false ≡ true = sym (is_not_at t 11 not_11) ∙ e in absurd (cc));
  }

-- ---- sections that no rule refuses

-- each key of a section with this number and these octets stands within it, in 1 to 4 octets
abbrev pub KeysWithin : ℕ → List ℕ → Type 0
KeysWithin number s =
    (key : Key) (p : Octets) → (row_of key).section ≡ number → key_place key (layout_of number s) ≡ Some p → IsWithin (length s) p

-- where it is as long as its layout says
keys_within : (number : ℕ) (s : List ℕ) → IsLong number (layout_of number s) (length s) → KeysWithin number s
keys_within number s long key p section place =
    key_within key (layout_of number s) (length s) p (subst (λ (n : ℕ). IsLong n (layout_of number s) (length s)) (sym section) long) place

-- a section of another number than 3 and 4, which has no template or begins alike in each
plain_within : (number : ℕ) (s : List ℕ) → number ≢ 3 → number ≢ 4 → header number ≤ length s → (is_opaque number s ≡ false → stated_header number ≤ length s) → KeysWithin number s
plain_within number s not_3 not_4 long stated =
    keys_within number s (record { header = long; stated = stated; angles = λ three. absurd (not_3 three); product = λ four. absurd (not_4 four) })

pub head_within : (s : List ℕ) → 16 ≤ length s → KeysWithin 0 s
head_within s long = plain_within 0 s (λ e. omega (arith, e)) (λ e. omega (arith, e)) long (λ _. long)

pub identification_within : (s : List ℕ) → first_fault (identification_rules s) ≡ None → KeysWithin 1 s
identification_within s none =
    let rules = passes_from_none (identification_rules s) none in
    let long : 21 ≤ length s = ltb-false (length s) 21 rules.0 in
    plain_within 1 s (λ e. omega (arith, e)) (λ e. omega (arith, e)) long (λ _. long)

stated_grid_within : (s : List ℕ) → is_opaque_grid s ≡ false → first_fault (grid_rules s) ≡ None → KeysWithin 3 s
stated_grid_within s stated none =
    let rules = passes_from_none (grid_rules s) none in
    let t = grid_template s in
    let known = grid_long t (not-false (is_template grid_templates t) rules.1.1.0) in
    let long : least_length grid_templates t ≤ length s = ltb-false (length s) (least_length grid_templates t) rules.1.1.1.0 in
    keys_within 3 s (record {
      header = omega (arith, known.least);
      stated = λ _. omega (arith, known.least);
      angles = λ _ _ by. omega (arith, known.angles by);
      product = λ four. absurd (omega (arith, four));
    })

opaque_grid_within : (s : List ℕ) → is_opaque_grid s ≡ true → 14 ≤ length s → KeysWithin 3 s
opaque_grid_within s opaque long =
    let never : is_opaque_grid s ≡ false → ⊥ = λ e. cc in
    keys_within 3 s (record {
      header = long;
      stated = λ e. absurd (never e);
      angles = λ _ e _. absurd (never e);
      product = λ four. absurd (omega (arith, four));
    })

any_grid_within : (s : List ℕ) → first_fault (grid_rules_under Open s) ≡ None → KeysWithin 3 s
any_grid_within s none = go (is_opaque_grid s) refl where
  go : (opaque : Bool) → is_opaque_grid s ≡ opaque → KeysWithin 3 s
  go true is = opaque_grid_within s is (grid_header_length Open s none)
  go false is = stated_grid_within s is (ap first_fault (sym (same_grid_rules Open s is)) ∙ none)

pub grid_within : (profile : Profile) (s : List ℕ) → first_fault (grid_rules_under profile s) ≡ None → KeysWithin 3 s
grid_within Open s none = any_grid_within s none
grid_within Stated s none = any_grid_within s (grid_accepted Open s none)

-- the first time range is one of all
first_of_all : (n : ℕ) → range_octets (n == 0) ≤ 12 * n
first_of_all n = go (n == 0) refl where
  go : (none : Bool) → (n == 0) ≡ none → range_octets none ≤ 12 * n
  go true e = omega arith
  go false e = (let some = eqb-false n 0 e in omega arith)

stated_product : (s : List ℕ) (n : ℕ) → is_opaque_product s ≡ false → first_fault (product_rules s n) ≡ None → KeysWithin 4 s × (count_octet (product_template s) ≤ length s)
stated_product s n stated none =
    let rules = passes_from_none (product_rules s n) none in
    let t = product_template s in
    let known = product_long t (not-false (is_template product_templates t) rules.1.1.0) in
    let long : least_length product_templates t ≤ length s = ltb-false (length s) (least_length product_templates t) rules.1.1.1.0 in
    let whole : product_length s ≤ length s = ltb-false (length s) (product_length s) rules.1.1.1.1.0 in
    let range = first_of_all (time_ranges s) in (
      keys_within 4 s (record {
        header = omega (arith, known.least);
        stated = λ _. omega (arith, known.least);
        angles = λ three. absurd (omega (arith, three));
        product = λ _. record {
          instant = λ k e. omega (arith, known.instant k e);
          ensemble = λ e. omega (arith, known.ensemble e);
          eight = λ e. omega (arith, whole, range, known.eight e);
          eleven = λ e. omega (arith, whole, range, known.eleven e);
        };
      }),
      omega (arith, known.count),
    )

-- the template of an opaque product is not stated
not_stated : (s : List ℕ) → is_opaque_product s ≡ true → is_template product_templates (product_template s) ≡ false
not_stated s e = go (is_template product_templates (product_template s)) e where
  go : (b : Bool) → not b ≡ true → b ≡ false
  go true f = sym f
  go false f = refl

-- the rules of an opaque product
opaque_long : (s : List ℕ) (n : ℕ) → is_opaque_product s ≡ true → first_fault (product_rules_under Open s n) ≡ None → opaque_least (product_template s) ≤ length s
opaque_long s n opaque none =
    let rules = passes_from_none (opaque_product_rules s n) (ap (λ (b : Bool). first_fault (cond b (opaque_product_rules s n) (product_rules s n))) (sym opaque) ∙ none) in
    ltb-false (length s) (opaque_least (product_template s)) rules.1.1.0

opaque_product : (s : List ℕ) → is_opaque_product s ≡ true → opaque_least (product_template s) ≤ length s → KeysWithin 4 s × (count_octet (product_template s) ≤ length s)
opaque_product s opaque long =
    let t = product_template s in
    let other = not_stated s opaque in
    let product = opaque_long_product t other (time_ranges s) in (
      keys_within 4 s (record {
        header = omega (arith, header_least (instant_shift t));
        stated = λ e. absurd (let never : true ≡ false = sym opaque ∙ e in cc);
        angles = λ three. absurd (omega (arith, three));
        product = λ _. record {
          instant = λ k e. omega (arith, product.instant k e);
          ensemble = λ e. omega (arith, product.ensemble e);
          eight = λ e. omega (arith, product.eight e);
          eleven = λ e. omega (arith, product.eleven e);
        };
      }),
      omega (arith, no_count t other),
    )

any_product_has_keys : (s : List ℕ) (n : ℕ) → first_fault (product_rules_under Open s n) ≡ None → KeysWithin 4 s × (count_octet (product_template s) ≤ length s)
any_product_has_keys s n none = go (is_opaque_product s) refl where
  go : (opaque : Bool) → is_opaque_product s ≡ opaque → KeysWithin 4 s × (count_octet (product_template s) ≤ length s)
  go true is = opaque_product s is (opaque_long s n is none)
  go false is = stated_product s n is (ap first_fault (sym (same_product_rules Open s n is)) ∙ none)

pub packing_within : (profile : Profile) (s : List ℕ) (points : ℕ) → packing_fault_under profile s points ≡ None → KeysWithin 5 s
packing_within profile s points none =
    plain_within 5 s (λ e. omega (arith, e)) (λ e. omega (arith, e)) (passes_under profile s points none).long
    (λ stated. (packing_passes s points (read_under profile s points stated none)).long)

-- ---- the sections in force for a field

pub has_keys : (number : ℕ) (s : List ℕ) → KeysWithin number s → number ≢ 4 → HasKeys number s
has_keys number s h other = record { keys = λ key place section at. (h key place section at).high; counted = λ e. absurd (other e) }

any_product : (s : List ℕ) (n : ℕ) → first_fault (product_rules_under Open s n) ≡ None → HasKeys 4 s
any_product s n none =
    let has = any_product_has_keys s n none in
    record { keys = λ key place section at. (has.0 key place section at).high; counted = λ e. has.1 }

pub product_has_keys : (profile : Profile) (s : List ℕ) (n : ℕ) → first_fault (product_rules_under profile s n) ≡ None → HasKeys 4 s
product_has_keys Open s n none = any_product s n none
product_has_keys Stated s n none = any_product s n (product_accepted Open s n none)

pub part_keys : (m : List ℕ) (i number : ℕ) → AnyFieldPasses m i → number ≤ 5 → number ≢ 2 → number ≢ 0 → HasKeys number (part_octets m i number)
part_keys m i number h few not_2 not_0 =
    let P : ℕ → Type 0 = λ n. HasKeys n (part_octets m i n) in
    elim (cases_eq number 1) [
      | inl e ↦ subst P (sym e) (has_keys 1 (part_octets m i 1) (identification_within (part_octets m i 1) h.identification) (λ f. omega (arith, f)))
      | inr not_1 ↦ elim (cases_eq number 3) [
        | inl e ↦ subst P (sym e) (has_keys 3 (part_octets m i 3) (grid_within Open (part_octets m i 3) h.grid) (λ f. omega (arith, f)))
        | inr not_3 ↦ elim (cases_eq number 4) [
          | inl e ↦ subst P (sym e) (product_has_keys Open (part_octets m i 4) 1 h.product)
          | inr not_4 ↦
              let e : number ≡ 5 = omega arith in
              subst P (sym e) (has_keys 5 (part_octets m i 5) (packing_within Open (part_octets m i 5) (grid_points (part_octets m i 3)) h.packing) (λ f. omega (arith, f)))
        ]
      ]
    ]
