-- A value that a section has which passes the rules can be written.
use Rattle.std.proofs.Common.{◌≡◌, ℕ, ◌≤◌, List, length, arith, ltb-false}
use Rattle.std.specs.Prelude.{None}
use Rattle.grib_bits.specs.Octets.{StatesItself}
use Rattle.grib_bits.proofs.OctetBits.{AreOctets}
use Rattle.grib_bits.proofs.OctetNumbers.{octets-lt}
use Rattle.grib_bits.proofs.Listed.{AreOctets-from_All, All-from_AreOctets}
use Rattle.grib_base.specs.Rules.{first_fault, first_fault_at}
use Rattle.grib_base.proofs.Passing.{passes_from_none, none-located}
use Rattle.grib2_products.specs.Product.{product_rules}
use Rattle.grib2_products.specs.Spelled.{IsSectionOf, Spelled}
use Rattle.grib2_products.specs.Writable.{IsWritable}
use Rattle.grib2_products.specs.declared.product.ProductSection.{ProductSection}
use Rattle.grib2_products.proofs.ByTemplate.{ranges_counted}

pub writable : (value : ProductSection) (s : List ℕ) → IsSectionOf value s → IsWritable value
writable value s is =
    let rules = passes_from_none (product_rules s 1) is.rules in
    let least : 9 ≤ length s = ltb-false (length s) 9 rules.0 in
    let below = octets-lt s 6 7 2 (AreOctets-from_All s is.small) (omega arith) (omega arith) (omega arith) in
    record {
      ranges = ranges_counted value.product s is.spelled.product;
      few = omega (arith, is.spelled.count);
    }

-- what `read_product` answers for octets is what they are a section of
pub IsSectionOf-read : (start : ℕ) (value : ProductSection) (s : List ℕ) → AreOctets s → StatesItself 4 s → first_fault_at start (product_rules s 1) ≡ None → Spelled value s → IsSectionOf value s
IsSectionOf-read start value s octets itself rules spelled = record {
  small = All-from_AreOctets s octets;
  itself = itself;
  rules = none-located start (first_fault (product_rules s 1)) rules;
  spelled = spelled;
}
