use Rattle.std.proofs.Common.{◌≡◌, ◌∷◌, ◌++◌, ℕ, List, length, ap, ◌∙◌, arith}
use Rattle.grib_bits.specs.Bits.{bits}
use Rattle.grib_bits.specs.Octets.{octets, StatesItself}
use Rattle.grib_bits.proofs.OctetBits.{same_from_bits}
use Rattle.grib_bits.specs.Encoding.{octets_of, AddsOctets}
use Rattle.grib_bits.proofs.Encoding.{AddsOctets-append}
use Rattle.grib_packing.specs.Packed.{HasNumbers}
use Rattle.grib_packing.proofs.Sections.{AreOctets-all, states_itself}
use Rattle.grib_packing.specs.Sections.{number_octets}
use Rattle.grib_complex.specs.Written.{layout_octets}
use Rattle.grib_complex.proofs.writing.spatial_representation.Goals as goal

module _ (c : goal.After-octets_written) where
  abbrev front : List ℕ
  front = octets_of 4 49 ++ 5 ∷ number_octets c.args.column.now c.args.values 3 c.args.layout.now.reference_bits c.args.kind

  abbrev ends : List ℕ
  ends = octets_of 1 c.args.differencing.order ++ octets_of 1 c.args.differencing.size

  abbrev all : List ℕ
  all = front ++ layout_octets c.args.layout.now ++ ends

  added : AddsOctets c.args.room c.write_u8-2.new.out all
  added = AddsOctets-append (AddsOctets-append (AddsOctets-append (AddsOctets-append c.write_head.ensures c.write_numbers.ensures.octets) c.write_layout.ensures.octets) c.write_u8.ensures.octets) c.write_u8-2.ensures.octets

  is : c.octets_written.result ≡ all
  is = same_from_bits c.octets_written.result all (AreOctets-all c.octets_written.result c.octets_written.ensures.octets) (AreOctets-all all added.small)
      (c.octets_written.ensures.bits ∙ added.bits ∙ ap (λ xs. xs ++ bits all) c.requires.none)

  itself : StatesItself 5 c.octets_written.result
  itself = states_itself c.octets_written.result (number_octets c.args.column.now c.args.values 3 c.args.layout.now.reference_bits c.args.kind ++ layout_octets c.args.layout.now ++ ends) 5 49 is (ap length is) (omega arith)

  numbers : HasNumbers c.octets_written.result c.args.column.now c.args.values 3 c.args.layout.now.reference_bits c.args.kind
  numbers = c.write_numbers.ensures.numbers c.octets_written.result (layout_octets c.args.layout.now ++ ends) 49 is itself c.octets_written.ensures.octets

pub returns-clause-length : goal.returns-clause-length
returns-clause-length c = ap length (is c)

pub returns-clause-numbers : goal.returns-clause-numbers
returns-clause-numbers c = numbers c

pub returns-clause-layout : goal.returns-clause-layout
returns-clause-layout c =
    let has = numbers c in
    c.write_layout.ensures.layout c.octets_written.result (ends c) c.args.column.now 49 c.args.values 3 c.args.kind (is c) has.bit_width_stands

pub returns-clause-order : goal.returns-clause-order
returns-clause-order c = ap (λ (s : List ℕ). octets s 48 48) (is c) ∙ c.write_u8.ensures.number

pub returns-clause-size : goal.returns-clause-size
returns-clause-size c = ap (λ (s : List ℕ). octets s 49 49) (is c) ∙ c.write_u8-2.ensures.number
