-- The keys of Section 4 come back.
use Rattle.std.proofs.Common.{◌≡◌, ℕ, ◌<◌, ◌^◌, ◌||◌, ◌==◌, Bool, true, false, not, cond, Option, Some, None, List, refl, sym, ap, ◌∙◌, arith, eqb-true}
use Rattle.std.specs.Prelude.{is_none, option_map, unwrap_or}
use Rattle.std.specs.Option.{option_map_or}
use Rattle.grib_bits.specs.Octets.{octets}
use Rattle.grib_bits.specs.Encoding.{section_of}
use Rattle.grib_bits.proofs.Encoding.{num_on-octets_of}
use Rattle.grib_params.specs.declared.row.Target.{Target}
use Rattle.grib2_products.specs.Product.{product_template}
use Rattle.grib1_sections.specs.Keys.{key_in}
use Rattle.grib_keys.specs.declared.key1.Key1.TheVariants.{Process, TimeRange, Level as LevelNumber}
use Rattle.grib_migrate.specs.declared.level.Surfaces.{Surfaces}
use Rattle.grib_migrate.specs.declared.time.Unit.{Unit as UnitOfTime}
use Rattle.grib_migrate.specs.Levels.{surfaces_of, surfaces_at}
use Rattle.grib_migrate.specs.Migrated.{no_unit, no_surfaces}
use Rattle.grib_migrate.specs.Products as migrate
use Rattle.grib_migrate.specs.Products.{product_octets}
use Rattle.grib_migrate.specs.Times as times
use Rattle.grib_demote.specs.declared.product.Told.{Told}
use Rattle.grib_demote.specs.Losses.{loses_product}
use Rattle.grib_demote.specs.Times.{unit_of, has_process, loses_interval}
use Rattle.grib_demote_law.proofs.Identification.{section_1}
use Rattle.grib_demote_law.proofs.Levels.{IsFound}
use Rattle.grib_demote_law.proofs.Front.{has_unit, unit_is, interval_here, surfaces_here}
use Rattle.grib_demote_law.proofs.Times.{process_back, forecast_back, unit_code}
use Rattle.grib_demote_law.proofs.Surfaces.{kind_of}
use Rattle.grib_demote_law.proofs.Keys1.{process_number}

-- templates 4.0 and 4.8
known_template : (t : ℕ) → not ((t == 0) || (t == 8)) ≡ false → cond (t == 8) 8 0 ≡ t
known_template t kept = by (t == 0) (t == 8) refl refl kept
  where
    by : (a b : Bool) → (t == 0) ≡ a → (t == 8) ≡ b → not (a || b) ≡ false → cond b 8 0 ≡ t
    by a true is_0 is_8 kept = sym (eqb-true t 8 is_8)
    by true false is_0 is_8 kept = sym (eqb-true t 0 is_0)
    by false false is_0 is_8 kept = let no : ⊥ = cc kept in absurd no

code_of : (o : Option UnitOfTime) → (unwrap_or o no_unit).code ≡ option_map_or (λ u. u.code) o 0
code_of None = refl
code_of (Some u) = refl

first_of : (o : Option Surfaces) → is_none o ≡ false → (unwrap_or o no_surfaces).first.kind ≡ kind_of o
first_of None some = let no : ⊥ = cc some in absurd no
first_of (Some s) some = refl

module _ (told : Told) (bitmapped : Bool) (s1 s4 s5 local words : List ℕ) (target : Target) (kept : loses_interval s1 s4 ≡ false) where
  abbrev a : List ℕ
  a = section_1 told bitmapped s1 s4 s5 local

  abbrev w : List ℕ
  w = section_of 4 (product_octets target a words (unwrap_or (times.unit_of a) no_unit) (unwrap_or (surfaces_of a) no_surfaces))

  pub template_back : loses_product s4 ≡ false → octets w 8 9 ≡ octets s4 8 9
  template_back known =
      let is : migrate.template_of a ≡ product_template s4 =
      ap (λ (b : Bool). cond b 8 0) (interval_here told bitmapped s1 s4 s5 local kept) ∙ known_template (product_template s4) known in
      num_on-octets_of 2 (migrate.template_of a) (few (times.is_interval (key_in a TimeRange))) ∙ is
    where
      few : (b : Bool) → cond b 8 0 < 256 ^ 2
      few true = omega arith
      few false = omega arith

  pub category_back : target.category ≡ octets s4 10 10 → octets s4 10 10 < 256 → octets w 10 10 ≡ octets s4 10 10
  category_back is few = num_on-octets_of 1 target.category (omega (arith, is, few)) ∙ is

  pub number_back : target.number ≡ octets s4 11 11 → octets s4 11 11 < 256 → octets w 11 11 ≡ octets s4 11 11
  number_back is few = num_on-octets_of 1 target.number (omega (arith, is, few)) ∙ is

  pub process_key : has_process s4 ≡ true → octets s4 12 12 < 256 → octets w 12 12 ≡ octets s4 12 12
  process_key has few =
      let is = process_back told bitmapped s1 s4 s5 local kept has in
      num_on-octets_of 1 (times.process_of a) (omega (arith, is, few)) ∙ is

  pub generator_back : octets s4 14 14 < 256 → octets w 14 14 ≡ octets s4 14 14
  generator_back few =
      let is = process_number told bitmapped s1 s4 s5 local target few in
      num_on-octets_of 1 (key_in a Process) (omega (arith, is, few)) ∙ is

  pub unit_back : is_none (unit_of s4) ≡ false → told.unit ≡ unwrap_or (option_map (λ r. r.old) (unit_of s4)) 0 → octets s4 18 18 < 256 → octets w 18 18 ≡ octets s4 18 18
  unit_back some here few =
      let known = has_unit s4 some in
      let small = known.small in
      let key = unit_is told bitmapped s1 s4 s5 local (omega (arith, here, small)) ∙ here in
      let is : (unwrap_or (times.unit_of a) no_unit).code ≡ octets s4 18 18 =
      code_of (times.unit_of a) ∙ ap (λ (n : ℕ). option_map_or (λ u. u.code) (times.unit_at n) 0) key ∙ known.code ∙ unit_code s4 some in
      num_on-octets_of 1 (unwrap_or (times.unit_of a) no_unit).code (omega (arith, is, few)) ∙ is

  pub forecast_is : has_process s4 ≡ true → times.forecast_time a ≡ octets s4 19 22
  forecast_is has = forecast_back told bitmapped s1 s4 s5 local kept has

  pub surface_back : IsFound told.level → ((l x y : ℕ) → kind_of (surfaces_at told.level.level_type l x y) ≡ octets s4 23 23) → octets s4 23 23 < 256 → octets w 23 23 ≡ octets s4 23 23
  surface_back found kind few =
      let here = surfaces_here told bitmapped s1 s4 s5 local found in
      let is : (unwrap_or (surfaces_of a) no_surfaces).first.kind ≡ octets s4 23 23 =
      first_of (surfaces_of a) (ap is_none here ∙ found.surfaces_there (key_in a LevelNumber) (octets a 11 11) (octets a 12 12))
      ∙ ap kind_of here ∙ kind (key_in a LevelNumber) (octets a 11 11) (octets a 12 12) in
      num_on-octets_of 1 (unwrap_or (surfaces_of a) no_surfaces).first.kind (omega (arith, is, few)) ∙ is
