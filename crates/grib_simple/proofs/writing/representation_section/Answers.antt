use Rattle.std.proofs.Common.{◌≡◌, ◌∷◌, [], ◌++◌, ℕ, List, length, sym, ap, ◌∙◌, arith, append-nil}
use Rattle.grib_bits.specs.Bits.{bits}
use Rattle.grib_bits.proofs.OctetBits.{same_from_bits}
use Rattle.grib_bits.specs.Encoding.{octets_of, AddsOctets}
use Rattle.grib_bits.proofs.Encoding.{AddsOctets-append}
use Rattle.grib_packing.proofs.Sections.{AreOctets-all, states_itself}
use Rattle.grib_packing.specs.Sections.{number_octets}
use Rattle.grib_simple.proofs.writing.representation_section.Goals as goal

module _ (c : goal.After-octets_written) where
  abbrev all : List ℕ
  all = (octets_of 4 21 ++ 5 ∷ []) ++ number_octets c.args.column.now c.args.values 0 c.args.bits c.args.kind

  written : AddsOctets c.args.room c.write_numbers.new.out all
  written = AddsOctets-append c.write_head.ensures c.write_numbers.ensures.octets

  is : c.octets_written.result ≡ all
  is = same_from_bits c.octets_written.result all (AreOctets-all c.octets_written.result c.octets_written.ensures.octets) (AreOctets-all all written.small)
      (c.octets_written.ensures.bits ∙ written.bits ∙ ap (λ xs. xs ++ bits all) c.requires.none)

pub returns-clause-length : goal.returns-clause-length
returns-clause-length c = ap length (is c)

pub returns-clause-numbers : goal.returns-clause-numbers
returns-clause-numbers c =
    c.write_numbers.ensures.numbers c.octets_written.result [] 21 (is c ∙ sym (append-nil (all c)))
    (states_itself c.octets_written.result (number_octets c.args.column.now c.args.values 0 c.args.bits c.args.kind) 5 21 (is c) (ap length (is c)) (omega arith))
    c.octets_written.ensures.octets
