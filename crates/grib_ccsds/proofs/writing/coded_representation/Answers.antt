use Rattle.std.proofs.Common.{◌≡◌, ◌∷◌, ◌++◌, ℕ, List, length, ap, ◌∙◌, arith}
use Rattle.grib_bits.specs.Bits.{bits}
use Rattle.grib_bits.specs.Octets.{StatesItself, octets}
use Rattle.grib_bits.specs.Encoding.{octets_of, AddsOctets}
use Rattle.grib_bits.proofs.OctetBits.{same_from_bits}
use Rattle.grib_bits.proofs.Encoding.{AddsOctets-append}
use Rattle.grib_packing.specs.Sections.{number_octets}
use Rattle.grib_packing.proofs.Sections.{AreOctets-all, states_itself}
use Rattle.grib_ccsds.proofs.writing.coded_representation.Goals as goal

module _ (c : goal.After-octets_written) where
  abbrev front : List ℕ
  front = octets_of 4 25 ++ 5 ∷ number_octets c.args.column.now c.args.values 42 c.args.coding.now.bits c.args.kind

  abbrev back : List ℕ
  back = octets_of 1 c.args.coding.now.flags ++ octets_of 1 c.args.coding.now.block ++ octets_of 2 c.args.coding.now.interval

  added : AddsOctets c.args.room c.write_u16.new.out (front ++ back)
  added = AddsOctets-append (AddsOctets-append (AddsOctets-append (AddsOctets-append c.write_head.ensures c.write_numbers.ensures.octets) c.write_u8.ensures.octets) c.write_u8-2.ensures.octets) c.write_u16.ensures.octets

  is : c.octets_written.result ≡ front ++ back
  is = same_from_bits c.octets_written.result (front ++ back) (AreOctets-all c.octets_written.result c.octets_written.ensures.octets) (AreOctets-all (front ++ back) added.small)
      (c.octets_written.ensures.bits ∙ added.bits ∙ ap (λ xs. xs ++ bits (front ++ back)) c.requires.none)

  itself : StatesItself 5 c.octets_written.result
  itself = states_itself c.octets_written.result (number_octets c.args.column.now c.args.values 42 c.args.coding.now.bits c.args.kind ++ back) 5 25 is (ap length is) (omega arith)

pub returns-clause-length : goal.returns-clause-length
returns-clause-length c = ap length (is c)

pub returns-clause-numbers : goal.returns-clause-numbers
returns-clause-numbers c = c.write_numbers.ensures.numbers c.octets_written.result (back c) 25 (is c) (itself c) c.octets_written.ensures.octets

pub returns-clause-coding : goal.returns-clause-coding
returns-clause-coding c =
    let at = λ (first last : ℕ). ap (λ (s : List ℕ). octets s first last) (is c) in
    record {
      flags = at 22 22 ∙ c.write_u8.ensures.number;
      block = at 23 23 ∙ c.write_u8-2.ensures.number;
      interval = at 24 25 ∙ c.write_u16.ensures.number;
    }
