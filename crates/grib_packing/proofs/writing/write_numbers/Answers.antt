use Rattle.std.proofs.Common.{◌≡◌, ◌<◌, ◌∷◌, ◌++◌, ℕ, List, All, ap, ◌∙◌}
use Rattle.grib_bits.specs.Octets.{num_on, octets, StatesItself}
use Rattle.grib_bits.specs.Encoding.{octets_of}
use Rattle.grib_packing.specs.declared.column.Column.{Column}
use Rattle.grib_packing.specs.Packed.{HasNumbers}
use Rattle.grib_packing.specs.Sections.{number_octets}
use Rattle.grib_bits.proofs.Encoding.{AddsOctets-append}
use Rattle.grib_packing.proofs.writing.write_numbers.Goals as goal

pub returns-clause-octets : goal.returns-clause-octets
returns-clause-octets c =
    AddsOctets-append (AddsOctets-append (AddsOctets-append (AddsOctets-append (AddsOctets-append (AddsOctets-append
    c.write_u32.ensures.octets
    c.write_u16.ensures.octets)
    c.write_u32-2.ensures.octets)
    c.write_u16-2.ensures.octets)
    c.write_u16-3.ensures.octets)
    c.write_u8.ensures.octets)
    c.write_u8-2.ensures.octets

-- the numbers of a section, whatever follows them
spelled : (column : Column) (values template bits kind n : ℕ) (section rest : List ℕ) → section ≡ (octets_of 4 n ++ 5 ∷ number_octets column values template bits kind) ++ rest
    → num_on 0 (octets_of 4 values) ≡ values → num_on 0 (octets_of 2 template) ≡ template → num_on 0 (octets_of 4 column.reference) ≡ column.reference
    → num_on 0 (octets_of 2 column.e) ≡ column.e → num_on 0 (octets_of 2 column.d) ≡ column.d → num_on 0 (octets_of 1 bits) ≡ bits → num_on 0 (octets_of 1 kind) ≡ kind
    → StatesItself 5 section → All (λ octet. octet < 256) section → HasNumbers section column values template bits kind
spelled column values template bits kind n section rest is is_values is_template is_reference is_e is_d is_bits is_kind itself each = record {
  itself = itself;
  are_octets = each;
  values_stand = ap (λ (s : List ℕ). octets s 6 9) is ∙ is_values;
  template_stands = ap (λ (s : List ℕ). octets s 10 11) is ∙ is_template;
  reference_stands = ap (λ (s : List ℕ). octets s 12 15) is ∙ is_reference;
  binary_scale_stands = ap (λ (s : List ℕ). octets s 16 17) is ∙ is_e;
  decimal_scale_stands = ap (λ (s : List ℕ). octets s 18 19) is ∙ is_d;
  bit_width_stands = ap (λ (s : List ℕ). octets s 20 20) is ∙ is_bits;
  kind_stands = ap (λ (s : List ℕ). octets s 21 21) is ∙ is_kind;
}

pub returns-clause-numbers : goal.returns-clause-numbers
returns-clause-numbers c section rest n is itself each =
    spelled c.args.column.now c.args.values c.args.template c.args.bits c.args.kind n section rest is
    c.write_u32.ensures.number c.write_u16.ensures.number c.write_u32-2.ensures.number c.write_u16-2.ensures.number c.write_u16-3.ensures.number
    c.write_u8.ensures.number c.write_u8-2.ensures.number itself each
