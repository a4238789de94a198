-- The flags of Section 2 as they are written lose nothing when they are migrated.
use Rattle.std.proofs.Common.{◌≡◌, ℕ, ◌+◌, ◌*◌, ◌/◌, ◌%◌, ◌^◌, ◌<◌, ◌||◌, ◌==◌, Bool, true, false, not, List, refl, ap, ap₂, ◌∙◌, arith, eqb-true, eq-eqb}
use Rattle.std.proofs.lemmas.Bool.{not-false, or_parts}
use Rattle.grib_bits.specs.Bits.{bit, digit}
use Rattle.grib_bits.specs.Octets.{octets}
use Rattle.grib_migrate.specs.Grids as migrate
use Rattle.grib_demote.specs.Grids.{flags, scanning, are_given, old_flags, loses_flags}

-- three flags of an octet
flag_octet : (a b c : Bool) → (let n = 2 ^ 7 * digit a + 2 ^ 6 * digit b + 2 ^ 3 * digit c in (n < 256) × (n / 2 ^ 4 % 2 ^ 2 ≡ 0) × (n % 2 ^ 3 ≡ 0))
flag_octet true true true = (omega arith, refl, refl)
flag_octet true true false = (omega arith, refl, refl)
flag_octet true false true = (omega arith, refl, refl)
flag_octet true false false = (omega arith, refl, refl)
flag_octet false true true = (omega arith, refl, refl)
flag_octet false true false = (omega arith, refl, refl)
flag_octet false false true = (omega arith, refl, refl)
flag_octet false false false = (omega arith, refl, refl)

pub old_flags_known : (s3 : List ℕ) → (old_flags s3 < 256) × (old_flags s3 / 2 ^ 4 % 2 ^ 2 ≡ 0) × (old_flags s3 % 2 ^ 3 ≡ 0)
old_flags_known s3 = flag_octet (are_given s3) (octets s3 15 15 == 2) (bit 5 (flags s3))

scanning_known : (s3 : List ℕ) → loses_flags s3 ≡ false → scanning s3 % 2 ^ 5 ≡ 0
scanning_known s3 kept =
    let last = (or_parts _ (not (scanning s3 % 2 ^ 5 == 0)) kept).1 in
    eqb-true (scanning s3 % 2 ^ 5) 0 (not-false (scanning s3 % 2 ^ 5 == 0) last)

-- a Section 2 with these flags and this scanning mode
pub no_flags : (s s3 : List ℕ) → loses_flags s3 ≡ false → migrate.flags s ≡ old_flags s3 → migrate.scanning s ≡ scanning s3 → migrate.has_other_flags s ≡ false
no_flags s s3 kept flags_are scanning_is =
    let known = old_flags_known s3 in
    ap₂ (λ f g. not (f / 2 ^ 4 % 2 ^ 2 == 0) || not (f % 2 ^ 3 == 0) || not (g % 2 ^ 5 == 0)) flags_are scanning_is
    ∙ ap₂ (λ (x y : Bool). not x || not y || not (scanning s3 % 2 ^ 5 == 0)) (eq-eqb (old_flags s3 / 2 ^ 4 % 2 ^ 2) 0 known.1) (eq-eqb (old_flags s3 % 2 ^ 3) 0 known.2)
    ∙ ap not (eq-eqb (scanning s3 % 2 ^ 5) 0 (scanning_known s3 kept))
