-- What the numbers of a column are coded by.
use Rattle.std.proofs.Common.{◌≡◌, ℕ, ◌+◌, ◌-◌, ◌/◌, ◌^◌, ◌<◌, ◌≤◌, Bool, None, List, [], length, All, sym, ap, ap₂, ◌∙◌, arith, subst, subst₂, refl}
use Rattle.std.proofs.lemmas.Bool.{cases_lt, eq-eqb}
use Rattle.std.proofs.Common.{inl, inr}
use Rattle.std.proofs.lemmas.List.Elements.{All-nil, All-weaker}
use Rattle.grib_coding.specs.declared.coding.Coding.{Coding}
use Rattle.grib_coding.specs.Coding.{Fits, greatest as greatest_coded}
use Rattle.grib_packing.specs.declared.column.Column.{Column}
use Rattle.grib_packing.specs.declared.column.Point.{Point}
use Rattle.grib_packing.specs.Groupings.{digits, greatest}
use Rattle.grib_packing.specs.Misfits.{plain_misfit}
use Rattle.grib_packing.specs.Packed.{HasCoding, HasContents, HasNumbers, IsBitmap, IsCoded, blocks_written, coding_to, simple_numbers, simple_width}
use Rattle.grib_packing.specs.Written.{IsBlocks}
use Rattle.grib_packing.proofs.Digits.{digits-most_64}
use Rattle.grib_simple.proofs.Fitting.{few_numbers, greatest_most, holds_each, nothing_fails, numbers_within}
use Rattle.grib_ccsds.specs.Numbers.{AreToCode}

-- how numbers up to this one are coded
abbrev pub coding_up_to : ℕ → ℕ → ℕ → Coding
coding_up_to most block interval = record { bits = digits most; flags = 14; block = block; interval = interval }

module _ (points : List Point) (none : plain_misfit (2 ^ 32 - 1) points ≡ None) where
  pub numbers_small : All (λ n. n < 2 ^ 32) (simple_numbers points)
  numbers_small =
      let both = nothing_fails (2 ^ 32 - 1) points none in
      All-weaker (λ n. n ≤ 2 ^ 32 - 1) (λ n. n < 2 ^ 32) (λ n h. omega (arith, h)) (simple_numbers points) (numbers_within (2 ^ 32 - 1) points both.1)

module _ (points : List Point) (none : plain_misfit (2 ^ 32 - 1) points ≡ None) where
  pub width_most : simple_width points ≤ 32
  width_most =
      let most = greatest_most (2 ^ 32 - 1) points none in
      digits-most_64 (greatest (simple_numbers points)) 32 (omega arith) (omega (arith, most))

  pub width_holds : All (λ n. n < 2 ^ simple_width points) (simple_numbers points)
  width_holds = let most = greatest_most (2 ^ 32 - 1) points none in holds_each (simple_numbers points) (omega (arith, most))

module _ (points : List Point) (none : plain_misfit (2 ^ 32 - 1) points ≡ None) (block interval : ℕ) (blocks : IsBlocks block interval) where
  -- numbers that have bits can be coded so
  pub column_fits : 1 ≤ simple_width points → Fits (coding_to block interval points)
  column_fits some = record {
    some_bits = some;
    most_bits = width_most points none;
    unsigned = refl;
    enforced = refl;
    seven_flags = omega arith;
    restricted = λ short. cc;
    block = blocks.0;
    some_blocks = blocks.1;
    most_blocks = blocks.2;
  }

  pub column_within : All (λ n. n ≤ greatest_coded (coding_to block interval points)) (simple_numbers points)
  column_within =
      All-weaker (λ n. n < 2 ^ simple_width points) (λ n. n ≤ 2 ^ simple_width points - 1) (λ n h. omega (arith, h)) (simple_numbers points) (width_holds points none)

module _ (points : List Point) (none : plain_misfit (2 ^ 32 - 1) points ≡ None) (block interval : ℕ) (blocks : IsBlocks block interval) (most : ℕ) (c : Coding) (numbers : List ℕ) (is_most : most ≡ greatest (simple_numbers points)) (is_coding : c ≡ coding_up_to most block interval) (are : AreToCode c.bits points numbers) where
  pub coding_is : c ≡ coding_to block interval points
  coding_is = is_coding ∙ ap (λ (n : ℕ). coding_up_to n block interval) is_most

  pub code_fits : 1 ≤ c.bits → Fits c
  code_fits some =
      let width : c.bits ≡ simple_width points = ap (λ (x : Coding). x.bits) coding_is in
      subst Fits (sym coding_is) (column_fits points none block interval blocks (omega (arith, some, width)))

  -- none, or those of the points that are not missing
  by_bits : (P : List ℕ → Type 0) → P [] → P (simple_numbers points) → P numbers
  by_bits P empty all = elim (cases_lt 0 c.bits) [
    | inl some ↦ subst P (sym (are.all some)) all
    | inr zero_bits ↦ subst P (sym (are.none (omega arith))) empty
  ]

  pub code_few : length points ≤ 33554432 → length numbers ≤ 33554432
  code_few few = by_bits (λ ns. length ns ≤ 33554432) (omega arith) (omega (arith, few, few_numbers points))

  pub code_within : All (λ n. n ≤ greatest_coded c) numbers
  code_within =
      subst (λ (x : Coding). All (λ n. n ≤ greatest_coded x) numbers) (sym coding_is)
      (by_bits (All (λ n. n ≤ greatest_coded (coding_to block interval points))) (All-nil (λ n. n ≤ greatest_coded (coding_to block interval points)))
      (column_within points none block interval blocks))

  -- numbers of no bits have no blocks
  pub same_blocks : blocks_written c numbers ≡ blocks_written (coding_to block interval points) (simple_numbers points)
  same_blocks = elim (cases_lt 0 c.bits) [
    | inl some ↦ ap₂ blocks_written coding_is (are.all some)
    | inr zero_bits ↦
        let nothing : c.bits ≡ 0 = omega arith in
        let width : c.bits ≡ simple_width points = ap (λ (x : Coding). x.bits) coding_is in
        no_blocks c numbers nothing ∙ sym (no_blocks (coding_to block interval points) (simple_numbers points) (sym width ∙ nothing))
  ] where
    no_blocks : (d : Coding) (ns : List ℕ) → d.bits ≡ 0 → blocks_written d ns ≡ []
    no_blocks d ns nothing = rw (eq-eqb d.bits 0 nothing) refl

  -- the octets of their Section 7
  pub blocks_long : (column : Column) (these : List ℕ) (octets : ℕ) → points ≡ column.points → these ≡ numbers
      → octets ≡ 5 + (length (blocks_written c these) + 7) / 8
      → octets ≡ 5 + (length (blocks_written (coding_to block interval column.points) (simple_numbers column.points)) + 7) / 8
  blocks_long column these octets same is_numbers is_octets =
      is_octets
      ∙ ap (λ (ns : List ℕ). 5 + (length (blocks_written c ns) + 7) / 8) is_numbers
      ∙ ap (λ (bs : List Bool). 5 + (length bs + 7) / 8) same_blocks
      ∙ ap (λ (ps : List Point). 5 + (length (blocks_written (coding_to block interval ps) (simple_numbers ps)) + 7) / 8) same

  pub packed_coded : (column : Column) (kind present : ℕ) (s5 s6 s7 : List ℕ) → points ≡ column.points → present ≡ length (simple_numbers points) → length s5 ≡ 25
      → HasNumbers s5 column present 42 c.bits kind → HasCoding s5 c → IsBitmap s6 points → HasContents 7 s7 (blocks_written c numbers)
      → IsCoded block interval column kind s5 s6 s7
  packed_coded column kind present s5 s6 s7 same is_present long has_numbers has_coding bitmap values = record {
    as_long = long;
    numbers = subst₂ (λ (n w : ℕ). HasNumbers s5 column n 42 w kind) (is_present ∙ ap (λ (ps : List Point). length (simple_numbers ps)) same)
        (ap (λ (x : Coding). x.bits) coding_is ∙ ap simple_width same) has_numbers;
    coding = subst (HasCoding s5) (coding_is ∙ ap (coding_to block interval) same) has_coding;
    bitmap = subst (IsBitmap s6) same bitmap;
    values = subst (HasContents 7 s7) (same_blocks ∙ ap (λ (ps : List Point). blocks_written (coding_to block interval ps) (simple_numbers ps)) same) values;
  }
