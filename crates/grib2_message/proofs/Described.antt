-- What describes a field, after one more section.
use Rattle.std.proofs.Common.{◌≡◌, ◌≢◌, ℕ, List, ◌∷◌, sym, ap, ◌∙◌, arith}
use Rattle.grib_bits.specs.Octets.{octets as number_at}
use Rattle.grib_packing.specs.Packing.{packing_template, value_count}
use Rattle.grib2_grids.specs.Grid.{grid_points, grid_template}
use Rattle.grib2_products.specs.Product.{product_template}
use Rattle.grib2_sections.specs.Frame.{Placed, section_number}
use Rattle.grib2_message.specs.View.{octets_in_force}
use Rattle.grib2_message.specs.Summary.{bits_of_packing, identification_of, instant_octets, summary_by, summary_in_force}
use Rattle.grib2_message.specs.declared.summary.FieldSummary.{FieldSummary}
use Rattle.grib2_message.proofs.Latest.{octets_same, octets_other}

module _ (before : List Placed) (s : Placed) (number : ℕ) (numbered : section_number s.octets ≡ number) (d : ℕ) (line : FieldSummary) (is : line ≡ summary_in_force d before) where
  stays : (k : ℕ) → number ≢ k → octets_in_force k before ≡ octets_in_force k (s ∷ before)
  stays k other = sym (octets_other s before k (λ e. other (sym numbered ∙ e)))

  new : (k : ℕ) → number ≡ k → s.octets ≡ octets_in_force k (s ∷ before)
  new k same = sym (octets_same s before k (numbered ∙ same))

  pub line_other : number ≢ 1 → number ≢ 3 → number ≢ 4 → number ≢ 5 → line ≡ summary_in_force d (s ∷ before)
  line_other n1 n3 n4 n5 =
      let e1 = stays 1 n1 in
      let e3 = stays 3 n3 in
      let e4 = stays 4 n4 in
      let e5 = stays 5 n5 in
      is ∙ (λ i. summary_by d (identification_of (e1 i)) (e3 i) (e4 i) (e5 i))

  pub line_first : number ≡ 1 → (later : FieldSummary) → later ≡ record line { identification = identification_of s.octets } → later ≡ summary_in_force d (s ∷ before)
  line_first one later e =
      let e1 = new 1 one in
      let e3 = stays 3 (λ x. absurd (omega arith)) in
      let e4 = stays 4 (λ x. absurd (omega arith)) in
      let e5 = stays 5 (λ x. absurd (omega arith)) in
      e ∙ ap (λ (x : FieldSummary). record x { identification = identification_of s.octets }) is
      ∙ (λ i. summary_by d (identification_of (e1 i)) (e3 i) (e4 i) (e5 i))

  pub line_third : number ≡ 3 → (later : FieldSummary) → later ≡ record line { grid = grid_template s.octets; points = grid_points s.octets }
      → later ≡ summary_in_force d (s ∷ before)
  line_third three later e =
      let e1 = stays 1 (λ x. absurd (omega arith)) in
      let e3 = new 3 three in
      let e4 = stays 4 (λ x. absurd (omega arith)) in
      let e5 = stays 5 (λ x. absurd (omega arith)) in
      e ∙ ap (λ (x : FieldSummary). record x { grid = grid_template s.octets; points = grid_points s.octets }) is
      ∙ (λ i. summary_by d (identification_of (e1 i)) (e3 i) (e4 i) (e5 i))

  abbrev with_product : FieldSummary → FieldSummary
  with_product x = record x {
    product = product_template s.octets;
    category = number_at s.octets 10 10;
    number = number_at s.octets 11 11;
    unit = instant_octets s.octets 18 18;
    time = instant_octets s.octets 19 22;
    surface = instant_octets s.octets 23 23;
    scale = instant_octets s.octets 24 24;
    value = instant_octets s.octets 25 28;
  }

  pub line_fourth : number ≡ 4 → (later : FieldSummary) → later ≡ with_product line → later ≡ summary_in_force d (s ∷ before)
  line_fourth four later e =
      let e1 = stays 1 (λ x. absurd (omega arith)) in
      let e3 = stays 3 (λ x. absurd (omega arith)) in
      let e4 = new 4 four in
      let e5 = stays 5 (λ x. absurd (omega arith)) in
      e ∙ ap with_product is ∙ (λ i. summary_by d (identification_of (e1 i)) (e3 i) (e4 i) (e5 i))

  pub line_fifth : number ≡ 5 → (later : FieldSummary) → later ≡ record line { packing = packing_template s.octets; bits = bits_of_packing s.octets; values = value_count s.octets }
      → later ≡ summary_in_force d (s ∷ before)
  line_fifth five later e =
      let e1 = stays 1 (λ x. absurd (omega arith)) in
      let e3 = stays 3 (λ x. absurd (omega arith)) in
      let e4 = stays 4 (λ x. absurd (omega arith)) in
      let e5 = new 5 five in
      e ∙ ap (λ (x : FieldSummary). record x { packing = packing_template s.octets; bits = bits_of_packing s.octets; values = value_count s.octets }) is
      ∙ (λ i. summary_by d (identification_of (e1 i)) (e3 i) (e4 i) (e5 i))
