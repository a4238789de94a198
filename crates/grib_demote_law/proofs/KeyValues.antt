-- Values of keys that stand at the octets of two sections.
use Rattle.std.proofs.Common.{◌≡◌, ◌⊎◌, ℕ, ◌+◌, ◌≤◌, Bool, false, Option, Some, None, ℤ, pos, cond, List, length, inl, inr, ap, sym, ◌∙◌, refl}
use Rattle.std.specs.Prelude.{option_map}
use Rattle.grib_bits.specs.Bits.{bits, bits_of, signed}
use Rattle.grib_bits.specs.Octets.{octets, octet_list, signed_octets}
use Rattle.grib_bits.specs.Encoding.{octets_of}
use Rattle.grib_bits.proofs.Encoding.{bits-octets_of}
use Rattle.grib_bits.proofs.OctetBits.{AreOctets}
use Rattle.grib_bits.proofs.OctetNumbers.{signed-octets}
use Rattle.grib_keys.specs.declared.condition.Value.TheVariants as value
use Rattle.grib_keys.specs.declared.table.Kind.{Kind}
use Rattle.grib_keys.specs.declared.table.Octets.{Octets}
use Rattle.grib_keys.specs.Keys.{unless_opaque, instant_place}
use Rattle.grib2_grids.specs.Opaque.{is_opaque_grid}
use Rattle.grib2_sections.specs.Instant.{instant_shift}
use Rattle.grib_select.specs.Values.{is_all_ones, layout_of, value_at}

-- a number without a sign
pub plain_key : (x w s : List ℕ) (first last : ℕ) → x ≡ w → octets w first last ≡ octets s first last
    → Some (value.Number (pos (octets x first last))) ≡ Some (value.Number (pos (octets s first last)))
plain_key x w s first last is same = ap (λ (n : ℕ). Some (value.Number (pos n))) (ap (λ (y : List ℕ). octets y first last) is ∙ same)

-- one of n octets that may be missing
pub missing_key : (n : ℕ) (x w s : List ℕ) (first last : ℕ) → x ≡ w → octets w first last ≡ octets s first last
    → Some (cond (is_all_ones n (octets x first last)) value.Missing (value.Number (pos (octets x first last))))
    ≡ Some (cond (is_all_ones n (octets s first last)) value.Missing (value.Number (pos (octets s first last))))
missing_key n x w s first last is same =
    ap (λ (m : ℕ). Some (cond (is_all_ones n m) value.Missing (value.Number (pos m)))) (ap (λ (y : List ℕ). octets y first last) is ∙ same)

-- one with a sign
pub signed_key : (x w s : List ℕ) (first last : ℕ) → x ≡ w → signed_octets w first last ≡ signed_octets s first last
    → Some (value.Number (signed_octets x first last)) ≡ Some (value.Number (signed_octets s first last))
signed_key x w s first last is same = ap (λ (z : ℤ). Some (value.Number z)) (ap (λ (y : List ℕ). signed_octets y first last) is ∙ same)

-- four octets with a sign that were written
pub signed_written : (w s : List ℕ) (first last v : ℕ) → AreOctets s → 1 ≤ first → first + 4 ≡ last + 1 → last ≤ length s → octet_list w first last ≡ octets_of 4 v
    → signed (bits_of 32 v) ≡ signed (bits_of 32 (octets s first last)) → signed_octets w first last ≡ signed_octets s first last
signed_written w s first last v small low count long written same =
    ap (λ (xs : List ℕ). signed (bits xs)) written ∙ ap signed (bits-octets_of 4 v) ∙ same ∙ signed-octets s first last 4 small low count long 32 refl

-- one of Section 3 that an opaque section does not have
pub stated_key : (kind : Kind) (x s : List ℕ) (place : Octets) → is_opaque_grid x ≡ false → is_opaque_grid s ≡ false → Some (value_at kind x place) ≡ Some (value_at kind s place)
    → option_map (value_at kind x) (unless_opaque (Some place) (layout_of 3 x)) ≡ option_map (value_at kind s) (unless_opaque (Some place) (layout_of 3 s))
stated_key kind x s place stated_x stated_s same =
    ap (λ (b : Bool). option_map (value_at kind x) (cond b None (Some place))) stated_x ∙ same
    ∙ sym (ap (λ (b : Bool). option_map (value_at kind s) (cond b None (Some place))) stated_s)

abbrev moved : ℕ → ℕ → ℕ → Octets
moved first last shift = record { first = first + shift; last = last + shift }

-- one of template 4.0 in a section with that template or 4.8
instant_at : (kind : Kind) (x : List ℕ) (first last t : ℕ) → octets x 8 9 ≡ t → (t ≡ 0) ⊎ (t ≡ 8)
    → option_map (value_at kind x) (instant_place first last (layout_of 4 x)) ≡ Some (value_at kind x (moved first last 0))
instant_at kind x first last t is which =
    elim which [
      | inl e ↦ ap (λ (m : ℕ). option_map (value_at kind x) (option_map (moved first last) (instant_shift m))) (is ∙ e)
      | inr e ↦ ap (λ (m : ℕ). option_map (value_at kind x) (option_map (moved first last) (instant_shift m))) (is ∙ e)
    ]

pub instant_key : (kind : Kind) (x s : List ℕ) (first last t : ℕ) → octets x 8 9 ≡ t → octets s 8 9 ≡ t → (t ≡ 0) ⊎ (t ≡ 8)
    → Some (value_at kind x (moved first last 0)) ≡ Some (value_at kind s (moved first last 0))
    → option_map (value_at kind x) (instant_place first last (layout_of 4 x)) ≡ option_map (value_at kind s) (instant_place first last (layout_of 4 s))
instant_key kind x s first last t is_x is_s which same = instant_at kind x first last t is_x which ∙ same ∙ sym (instant_at kind s first last t is_s which)
