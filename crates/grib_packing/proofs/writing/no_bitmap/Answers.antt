use Rattle.std.proofs.Common.{◌≡◌, ◌<◌, ◌++◌, ℕ, List, All, refl, sym, ap, ◌∙◌, subst, arith}
use Rattle.grib_bits.specs.Bits.{bits, bits_of}
use Rattle.grib_bits.proofs.OctetBits.{same_from_bits}
use Rattle.grib_bits.proofs.Encoding.{AddsOctets-append}
use Rattle.grib_packing.specs.Packed.{HasContents, no_bitmap_section}
use Rattle.grib_packing.proofs.Sections.{AreOctets-all}
use Rattle.grib_packing.proofs.writing.no_bitmap.Goals as goal

section_is : (c : goal.After-octets_written) → c.octets_written.result ≡ no_bitmap_section
section_is c =
    let written = AddsOctets-append c.write_head.ensures c.write_u8.ensures.octets in
    same_from_bits c.octets_written.result no_bitmap_section (AreOctets-all c.octets_written.result c.octets_written.ensures.octets) (AreOctets-all no_bitmap_section written.small)
    (c.octets_written.ensures.bits ∙ written.bits ∙ ap (λ xs. xs ++ bits no_bitmap_section) c.requires.none)

has : All (λ octet. octet < 256) no_bitmap_section → HasContents 6 no_bitmap_section (bits_of 8 255)
has each = record {
  itself = record { length_stands = refl; least = omega arith; number_stands = refl };
  are_octets = each;
  contents_stand = refl;
}

pub returns-clause-section : goal.returns-clause-section
returns-clause-section c = section_is c

pub returns-clause-has : goal.returns-clause-has
returns-clause-has c =
    let is = section_is c in
    subst (λ (s : List ℕ). HasContents 6 s (bits_of 8 255)) (sym is) (has (subst (λ (s : List ℕ). All (λ octet. octet < 256) s) is c.octets_written.ensures.octets))
