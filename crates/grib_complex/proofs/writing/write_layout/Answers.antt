use Rattle.std.proofs.Common.{◌≡◌, ℕ, List, ap, ◌∙◌}
use Rattle.grib_bits.specs.Octets.{octets}
use Rattle.grib_bits.proofs.Encoding.{AddsOctets-append}
use Rattle.grib_packing.specs.declared.layout.Layout.{Layout}
use Rattle.grib_packing.specs.Complex.{layout_of}
use Rattle.grib_complex.proofs.writing.write_layout.Goals as goal

pub returns-clause-octets : goal.returns-clause-octets
returns-clause-octets c =
    AddsOctets-append (AddsOctets-append (AddsOctets-append (AddsOctets-append (AddsOctets-append (AddsOctets-append (AddsOctets-append (AddsOctets-append (AddsOctets-append (AddsOctets-append
    c.write_u8.ensures.octets
    c.write_u8-2.ensures.octets)
    c.write_u32.ensures.octets)
    c.write_u32-2.ensures.octets)
    c.write_u32-3.ensures.octets)
    c.write_u8-3.ensures.octets)
    c.write_u8-4.ensures.octets)
    c.write_u32-4.ensures.octets)
    c.write_u8-5.ensures.octets)
    c.write_u32-5.ensures.octets)
    c.write_u8-6.ensures.octets

-- a layout by its numbers
same_layout : (s : List ℕ) (layout : Layout) → octets s 32 35 ≡ layout.groups → octets s 20 20 ≡ layout.reference_bits → octets s 36 36 ≡ layout.width_reference
    → octets s 37 37 ≡ layout.width_bits → octets s 38 41 ≡ layout.length_reference → octets s 42 42 ≡ layout.length_increment → octets s 43 46 ≡ layout.last_length
    → octets s 47 47 ≡ layout.length_bits → octets s 23 23 ≡ layout.management → layout_of s ≡ layout
same_layout s layout g r wr w lr li l lb m = λ i. record {
  groups = g i;
  reference_bits = r i;
  width_reference = wr i;
  width_bits = w i;
  length_reference = lr i;
  length_increment = li i;
  last_length = l i;
  length_bits = lb i;
  management = m i;
}

pub returns-clause-layout : goal.returns-clause-layout
returns-clause-layout c section rest column n values template kind is references =
    let at = λ (first last : ℕ). ap (λ (s : List ℕ). octets s first last) is in
    record {
      splitting = at 22 22 ∙ c.write_u8.ensures.number;
      primary = at 24 27 ∙ c.write_u32.ensures.number;
      secondary = at 28 31 ∙ c.write_u32-2.ensures.number;
      laid_out = same_layout section c.args.layout.now (at 32 35 ∙ c.write_u32-3.ensures.number) references (at 36 36 ∙ c.write_u8-3.ensures.number)
          (at 37 37 ∙ c.write_u8-4.ensures.number) (at 38 41 ∙ c.write_u32-4.ensures.number) (at 42 42 ∙ c.write_u8-5.ensures.number)
          (at 43 46 ∙ c.write_u32-5.ensures.number) (at 47 47 ∙ c.write_u8-6.ensures.number) (at 23 23 ∙ c.write_u8-2.ensures.number);
    }
