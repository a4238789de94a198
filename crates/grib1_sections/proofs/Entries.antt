-- Lemmas on numbers of a section.
use Rattle.std.proofs.Common.{ℕ, ◌+◌, ◌^◌, ◌<◌, ◌≤◌, List, length, arith, inl, inr}
use Rattle.std.proofs.lemmas.Bool.{cases_lt}
use Rattle.grib_bits.specs.Octets.{octets}
use Rattle.grib_bits.proofs.OctetBits.{AreOctets}
use Rattle.grib_bits.proofs.OctetNumbers.{octets-lt}

-- the number of one octet or two
pub octets-small : (s : List ℕ) (first last : ℕ) → AreOctets s → 1 ≤ first → first ≤ last → last ≤ first + 1 → last ≤ length s → octets s first last < 2 ^ 16
octets-small s first last known counted some few within = elim (cases_lt first last) [
  | inl two ↦ octets-lt s first last 2 known counted (omega arith) within
  | inr one ↦ omega (arith, octets-lt s first last 1 known counted (omega arith) within)
]
