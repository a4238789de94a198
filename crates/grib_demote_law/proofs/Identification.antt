-- Section 1 as it is written passes its rule.
use Rattle.std.proofs.Common.{◌≡◌, ℕ, ◌+◌, ◌≤◌, Bool, true, false, None, List, ◌++◌, length, refl, arith}
use Rattle.grib_base.specs.Rules.{first_fault}
use Rattle.grib1_sections.specs.Identification.{identification_rules, flags_bitmap}
use Rattle.grib1_sections.specs.Grammar.{IsSection}
use Rattle.grib_demote.specs.declared.product.Told.{Told}
use Rattle.grib_bits.specs.Encoding.{all_octets, section1_of}
use Rattle.grib_demote.specs.Products.{identification_numbers}
use Rattle.grib_demote_law.proofs.Joined.{stands}

abbrev pub section_1 : Told → Bool → List ℕ → List ℕ → List ℕ → List ℕ → List ℕ
section_1 told bitmapped s1 s4 s5 local = section1_of (all_octets (identification_numbers told bitmapped s1 s4 s5) ++ local)

module _ (told : Told) (s1 s4 s5 local : List ℕ) where
  pub length_1 : (b : Bool) → length (section_1 told b s1 s4 s5 local) ≡ 28 + length local
  length_1 b = omega arith

  rules_hold : (b : Bool) → first_fault (identification_rules (section_1 told b s1 s4 s5 local)) ≡ None
  rules_hold true = refl
  rules_hold false = refl

  pub flags_it : (b : Bool) → flags_bitmap (section_1 told b s1 s4 s5 local) ≡ b
  flags_it true = refl
  flags_it false = refl

  pub is_section_1 : (b : Bool) → length (section_1 told b s1 s4 s5 local) ≤ 16777215 → IsSection 28 identification_rules (section_1 told b s1 s4 s5 local)
  is_section_1 b short = record {
    length_stands = stands (all_octets (identification_numbers told b s1 s4 s5) ++ local) (omega (arith, short));
    long = omega (arith, length_1 b);
    rules_hold = rules_hold b;
  }
