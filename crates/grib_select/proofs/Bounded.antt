-- The values of keys are within 64 bits with sign.
use Rattle.std.proofs.Common.{◌≡◌, ◌≢◌, ℕ, zero, suc, ◌+◌, ◌-◌, ◌*◌, ◌^◌, ◌≤◌, ◌<◌, Bool, true, false, cond, ◌&&◌, ◌==◌, Option, Some, None, List, [], ◌∷◌, length, take, inl, inr, refl, sym, ap, ◌∙◌, arith, subst, ltb-true, ne_eqb, pow_mono, pow-suc, length-take-le, ℤ, pos, neg_ℤ, nat_abs}
use Rattle.std.specs.Prelude.{All, option_map, nat_lt, not}
use Rattle.std.specs.Option.{option_map_or}
use Rattle.std.proofs.lemmas.Bool.{cases_eq, cases_lt, eqb-false}
use Rattle.grib_bits.specs.Bits.{bits_of, signed, digit}
use Rattle.grib_bits.specs.Octets.{octets, signed_octets}
use Rattle.grib_bits.proofs.OctetBits.{AreOctets}
use Rattle.grib_bits.proofs.OctetNumbers.{AreOctets-take, AreOctets-octet_list, octets-lt, signed-octets}
use Rattle.grib_bits.proofs.Listed.{AreOctets-from_All}
use Rattle.grib_bits.proofs.Signs.{signed-clear, signed-set}
use Rattle.grib_base.specs.Rules.{choose}
use Rattle.grib_base.specs.declared.profile.Profile.{Profile}
use Rattle.grib2_sections.specs.Frame.{Placed, placed_at, ends_at, section_at}
use Rattle.grib2_message.specs.View.{is_numbered, section_in_force, octets_in_force}
use Rattle.grib2_message.specs.Fields.{sections_from, sections_of, sections_up_to_field, field_sections, field_count, part_octets}
use Rattle.grib2_message.specs.Message.{IsMessageUnder, FieldPassesUnder}
use Rattle.grib2_message.proofs.Opened.{field_opened}
use Rattle.grib2_message.proofs.Parted.{message_least}
use Rattle.grib_keys.specs.declared.key.Key.{Key}
use Rattle.grib_keys.specs.declared.key.Key.TheVariants.{Discipline}
use Rattle.grib_keys.specs.declared.condition.Value.{Value}
use Rattle.grib_keys.specs.declared.condition.Value.TheVariants.{Number, Missing}
use Rattle.grib_keys.specs.declared.table.Kind.{Kind}
use Rattle.grib_keys.specs.declared.table.Octets.{Octets}
use Rattle.grib_keys.specs.Keys.{row_of, key_place}
use Rattle.grib_select.specs.Values.{key_section, layout_of, octet_count, is_all_ones, value_at, key_value_of, HasKeys, IsWithin}
use Rattle.grib_select.proofs.Accepted.{field_up_to, sound_of}
use Rattle.grib_select.proofs.Places.{shape_tells}
use Rattle.grib_select.proofs.Within.{part_keys, has_keys, head_within, and_first, and_second}
use Rattle.grib_select.specs.Bounds.{IsWithin64}

-- ---- the sections of octets are octets

abbrev AllOctets : List Placed → Type 0
AllOctets [] = Unit {0}
AllOctets (s ∷ sections) = AreOctets s.octets × AllOctets sections

from_octets : (m : List ℕ) → AreOctets m → (turns q : ℕ) → AllOctets (sections_from turns m q)
from_octets m known zero q = tt
from_octets m known (suc turns) q =
    go (ends_at m q) (AreOctets-octet_list m q (q - 1 + octets m q (q + 3)) known, from_octets m known turns (q + length (section_at m q))) where
      go : (ends : Bool) → AllOctets (placed_at q (section_at m q) ∷ sections_from turns m (q + length (section_at m q)))
          → AllOctets (choose ends (λ _. []) (λ _. placed_at q (section_at m q) ∷ sections_from turns m (q + length (section_at m q))))
      go true more = tt
      go false more = more

up_to_octets : (i : ℕ) (before sections : List Placed) → AllOctets before → AllOctets sections → AllOctets (sections_up_to_field i before sections)
up_to_octets i before [] h k = h
up_to_octets i before (s ∷ sections) h k =
    let here : AllOctets (s ∷ before) = (k.0, h) in
    go (is_numbered 7 s && (i == 1)) here (up_to_octets (i - digit (is_numbered 7 s)) (s ∷ before) sections here k.1) where
      go : (ends : Bool) → AllOctets (s ∷ before) → AllOctets (sections_up_to_field (i - digit (is_numbered 7 s)) (s ∷ before) sections)
          → AllOctets (cond ends (s ∷ before) (sections_up_to_field (i - digit (is_numbered 7 s)) (s ∷ before) sections))
      go true here more = here
      go false here more = more

nothing_octets : AreOctets []
nothing_octets i = omega arith

in_force_octets : (n : ℕ) (before : List Placed) → AllOctets before → AreOctets (octets_in_force n before)
in_force_octets n [] h = nothing_octets
in_force_octets n (s ∷ before) h = go (is_numbered n s) h.0 (in_force_octets n before h.1) where
  go : (here : Bool) → AreOctets s.octets → AreOctets (octets_in_force n before)
      → AreOctets (option_map_or (λ p. p.octets) (cond here (Some s) (section_in_force n before)) [])
  go true first more = first
  go false first more = more

section_octets : (m : List ℕ) (i n : ℕ) → AreOctets m → AreOctets (key_section m i n)
section_octets m i n known = go (n == 0) where
  go : (first : Bool) → AreOctets (choose first (λ _. take 16 m) (λ _. part_octets m i n))
  go true = AreOctets-take 16 m known
  go false = in_force_octets n (field_sections m i) (up_to_octets i [] (sections_of m) tt (from_octets m known (length m) 17))

-- ---- a number of few octets

few_bits : (n : ℕ) → n ≤ 4 → 2 ^ (8 * n) ≤ 4294967296
few_bits n few = (let less : 8 * n ≤ 32 = omega arith in let power : 2 ^ (8 * n) ≤ 2 ^ 32 = pow_mono less in omega arith)

neg_small : (m : ℕ) → m < 4294967296 → nat_abs (neg_ℤ (pos m)) < 2 ^ 63
neg_small zero low = omega arith
neg_small (suc m) low = omega arith

signed_small : (k raw : ℕ) → raw < 2 ^ suc k → 2 ^ suc k ≤ 4294967296 → nat_abs (signed (bits_of (suc k) raw)) < 2 ^ 63
signed_small k raw low few = elim (cases_lt raw (2 ^ k)) [
  | inl clear ↦ subst (λ (z : ℤ). nat_abs z < 2 ^ 63) (sym (signed-clear k raw clear)) (omega arith)
  | inr set ↦
      let twice : 2 ^ suc k ≡ 2 ^ k * 2 = pow-suc 2 k in
      let whole : raw ≡ 2 ^ k + (raw - 2 ^ k) = omega arith in
      subst (λ (z : ℤ). nat_abs z < 2 ^ 63)
      (sym (ap (λ (n : ℕ). signed (bits_of (suc k) n)) whole ∙ signed-set k (raw - 2 ^ k) (omega arith)))
      (neg_small (raw - 2 ^ k) (omega arith))
]

module _ (s : List ℕ) (p : Octets) (known : AreOctets s) (within : IsWithin (length s) p) where
  low_raw : octets s p.first p.last < 2 ^ (8 * octet_count p)
  low_raw = octets-lt s p.first p.last (octet_count p) known within.low (omega (arith, within.low, within.some)) within.high

  few : octet_count p ≤ 4
  few = omega (arith, within.few)

  signed_within : nat_abs (signed_octets s p.first p.last) < 2 ^ 63
  signed_within =
      let n = octet_count p in
      let some : 1 ≤ n = omega (arith, within.some) in
      let width : 8 * n ≡ suc (8 * n - 1) = omega arith in
      subst (λ (z : ℤ). nat_abs z < 2 ^ 63)
      (signed-octets s p.first p.last n known within.low (omega (arith, within.low, within.some)) within.high (suc (8 * n - 1)) (sym width))
      (signed_small (8 * n - 1) (octets s p.first p.last) (subst (λ (w : ℕ). octets s p.first p.last < 2 ^ w) width low_raw) (subst (λ (w : ℕ). 2 ^ w ≤ 4294967296) width (few_bits n few)))

  value_within : (kind : Kind) → IsWithin64 (value_at kind s p)
  value_within kind = go (kind.may_be_missing && is_all_ones (octet_count p) (octets s p.first p.last)) kind.is_signed where
    go : (missing sign : Bool) → IsWithin64 (cond missing Missing (Number (cond sign (signed_octets s p.first p.last) (pos (octets s p.first p.last)))))
    go true sign = tt
    go false true = signed_within
    go false false = (let bits = few_bits (octet_count p) few in omega (arith, low_raw, bits))

-- ---- the value of a key

section_small : (key : Key) → (nat_lt (row_of key).section 6 && not ((row_of key).section == 2)) ≡ true
section_small Discipline = refl
section_small key = refl

not_there : (b : Bool) → not b ≡ true → b ≡ false
not_there true e = sym e
not_there false e = refl

keys_stand : (profile : Profile) (m : List ℕ) (i : ℕ) (key : Key) → IsMessageUnder profile m → 1 ≤ i → i ≤ field_count m → HasKeys (row_of key).section (key_section m i (row_of key).section)
keys_stand profile m i key h low high =
    let n = (row_of key).section in
    let small : n < 6 = ltb-true n 6 (and_first (nat_lt n 6) (not (n == 2)) (section_small key)) in
    let not_2 : n ≢ 2 = eqb-false n 2 (not_there (n == 2) (and_second (nat_lt n 6) (not (n == 2)) (section_small key))) in
    let up = field_up_to profile m i h low high in
    let sound = sound_of profile (field_sections m i) up.accepted in
    let passes : FieldPassesUnder profile m i = record {
      identification = sound.identification (omega (arith, up.ends));
      grid = sound.grid (omega (arith, up.ends));
      product = sound.product (omega (arith, up.ends));
      packing = sound.packing (omega (arith, up.ends));
      values = sound.values (omega (arith, up.ends));
    } in
    elim (cases_eq n 0) [
      | inl e ↦
          let least = message_least profile m h in
          subst (λ (k : ℕ). HasKeys k (key_section m i k)) (sym e)
          (has_keys 0 (take 16 m) (head_within (take 16 m) (omega (arith, length-take-le 16 m (omega arith)))) (λ f. omega (arith, f)))
      | inr not_0 ↦
          subst (λ (b : Bool). HasKeys n (choose b (λ _. take 16 m) (λ _. part_octets m i n))) (sym (ne_eqb n 0 not_0))
          (part_keys m i n (field_opened profile m i passes) (omega arith) not_2 not_0)
    ]

some_value : (kind : Kind) (s : List ℕ) (o : Option Octets) (value : Value) → option_map (value_at kind s) o ≡ Some value
    → ((p : Octets) → o ≡ Some p → IsWithin64 (value_at kind s p)) → IsWithin64 value
some_value kind s None value e each = absurd (cc)
some_value kind s (Some p) value e each = (let same : value_at kind s p ≡ value = cc in subst IsWithin64 same (each p refl))

pub values_within : (profile : Profile) (m : List ℕ) (i : ℕ) (key : Key) (value : Value) → IsMessageUnder profile m → All (λ octet. octet < 256) m → 1 ≤ i → i ≤ field_count m
    → key_value_of m i key ≡ Some value → IsWithin64 value
values_within profile m i key value h small low high has =
    let n = (row_of key).section in
    let s = key_section m i n in
    let known = section_octets m i n (AreOctets-from_All m small) in
    let stand = keys_stand profile m i key h low high in
    some_value (row_of key).kind s (key_place key (layout_of n s)) value has
    (λ p at.
    let shape = shape_tells key (layout_of n s) p at in
    value_within s p known (record { low = shape.low; high = stand.keys key p refl at; some = shape.some; few = shape.few }) (row_of key).kind)
