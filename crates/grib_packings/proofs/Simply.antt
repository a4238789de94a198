-- Lemmas on a Section 7 in simple packing.
use Rattle.std.proofs.Common.{◌≡◌, ℕ, ◌+◌, ◌-◌, ◌*◌, ◌^◌, ◌<◌, ◌≤◌, Bool, cond, Some, None, List, [], ◌++◌, length, take, drop, map, pos, refl, sym, ap, ap₂, ◌∙◌, arith, subst, subst₂, le-ltb}
use Rattle.std.proofs.lemmas.Bool.{lt-ltb}
use Rattle.grib_bits.specs.Bits.{bits}
use Rattle.grib_bits.specs.Plain.{plain}
use Rattle.grib_base.specs.declared.fault.Reason.TheVariants.{DataTooShort}
use Rattle.grib_base.specs.Rules.{located, refusal}
use Rattle.grib_packing.specs.declared.column.Point.{Point}
use Rattle.grib_packing.specs.declared.column.Point.TheVariants.{Scaled}
use Rattle.grib_packing.specs.Entries.{data_fault, entries_of}
use Rattle.grib_packing.specs.Groups.{codes_from}
use Rattle.grib_packing.specs.Packing.{packing_template, value_count, bit_width}
use Rattle.grib_packing.specs.Simple.{plain_bits}
use Rattle.grib_packing.proofs.Packings.{data_fault-simple, entries_of-simple}
use Rattle.grib_group_reading.specs.declared.feeding.Fed.{Fed}
use Rattle.grib_group_reading.specs.Feeding.{IsCaughtUp, IsFeedable, WasFed, no_marks, plain_groups}
use Rattle.grib_group_reading.specs.Table.{groups_in}
use Rattle.grib_group_reading.specs.Taking.{values_within}
use Rattle.grib_complex_reading.specs.declared.values.PlainValues.{PlainValues}
use Rattle.grib_complex_reading.specs.Feeding.{Continues, PassingAgrees, PlainAgrees}
use Rattle.grib_complex_reading.specs.Tells.{PlainTook}
use Rattle.grib_complex_reading.specs.Told.{Plainly, told}
use Rattle.grib_complex_reading.proofs.Arriving.{continues_from}
use Rattle.grib_complex_reading.proofs.Begun.{plain_more, told_count}
use Rattle.grib_complex_reading.proofs.SoFar.{plain_points}
use Rattle.grib_complex_reading.proofs.Starting.{plain_told, plain_values, starts_plain}
use Rattle.grib_packings.specs.Reading.{ReadingSimply, simply_so_far}

module _ (s5 : List ℕ) (zero_template : packing_template s5 ≡ 0) where
  pub plain_entries : (w count : ℕ) → w ≡ bit_width s5 → count ≡ value_count s5 → (s7 : List ℕ) → map (λ n. Scaled (pos n)) (plain (bits (drop 5 s7)) w count) ≡ entries_of s5 s7
  plain_entries w count is_w is_count s7 =
      ap₂ (λ (k n : ℕ). map (λ x. Scaled (pos x)) (plain (bits (drop 5 s7)) k n)) is_w is_count
      ∙ sym (entries_of-simple s5 s7 zero_template)

  pub plain_passes : (l w count : ℕ) → w ≡ bit_width s5 → count ≡ value_count s5 → count * w + 40 ≤ 8 * l → (s7 : List ℕ) → length s7 ≡ l → data_fault s5 s7 ≡ None
  plain_passes l w count is_w is_count enough s7 long =
      let room : plain_bits s5 + 40 ≤ 8 * length s7 = omega (arith, long, ap₂ (λ (n k : ℕ). n * k) is_count is_w) in
      data_fault-simple s5 s7 zero_template
      ∙ ap (λ (b : Bool). cond b (Some (refusal 1 DataTooShort (length s7))) None) (le-ltb (8 * length s7) (plain_bits s5 + 40) room)

  pub plain_refused : (start l w count : ℕ) → w ≡ bit_width s5 → count ≡ value_count s5 → 8 * l < count * w + 40 → (s7 : List ℕ) → length s7 ≡ l → located start (data_fault s5 s7) ≡ Some (refusal start DataTooShort l)
  plain_refused start l w count is_w is_count short s7 long =
      let over : 8 * length s7 < plain_bits s5 + 40 = omega (arith, long, ap₂ (λ (n k : ℕ). n * k) is_count is_w) in
      let origin : start + 0 ≡ start = omega arith in
      ap (located start) (data_fault-simple s5 s7 zero_template)
      ∙ ap (λ (b : Bool). located start (cond b (Some (refusal 1 DataTooShort (length s7))) None)) (lt-ltb (8 * length s7) (plain_bits s5 + 40) over)
      ∙ ap₂ (λ (o d : ℕ). Some (refusal o DataTooShort d)) origin long

  -- the points that the numbers of all values tell
  pub simply_told : (s7 : List ℕ) → told Plainly (codes_from no_marks (plain_groups (bit_width s5) (value_count s5)) (bits (drop 5 s7))) ≡ entries_of s5 s7
  simply_told s7 = plain_told (bit_width s5) (value_count s5) (bits (drop 5 s7)) ∙ plain_entries (bit_width s5) (value_count s5) refl refl s7

  pub simply_counted : (s7 : List ℕ) → length (entries_of s5 s7) ≡ value_count s5
  simply_counted s7 =
      told_count no_marks (plain_groups (bit_width s5) (value_count s5)) Plainly (bits (drop 5 s7)) (entries_of s5 s7) (value_count s5) (simply_told s7) (plain_values (bit_width s5) (value_count s5))

module _ {K : Type 0} (kept : K → List Point → K → Type 0) (s5 : List ℕ) (keeper : K) (l : ℕ) (octets : List ℕ) (fed : Fed (PlainValues K)) (zero_template : packing_template s5 ≡ 0)
    (reads : PlainAgrees kept keeper l octets no_marks (plain_groups (bit_width s5) (value_count s5)) 0 fed) where
  simply_points : (s7 : List ℕ) → Continues octets l s7 → kept keeper (simply_so_far s5 s7 octets) fed.taker.keeper
  simply_points s7 c =
      let groups = plain_groups (bit_width s5) (value_count s5) in
      let all : length octets - 0 ≡ length octets = omega arith in
      subst (λ (ps : List Point). kept keeper ps fed.taker.keeper)
      (ap₂ (λ (n : ℕ) (ps : List Point). take (values_within groups (8 * n)) ps) all (simply_told s5 zero_template s7))
      (plain_points kept keeper l octets no_marks groups 0 fed reads s7 c)

  reading_simply : ((s7 : List ℕ) → Continues octets l s7 → data_fault s5 s7 ≡ None) → groups_in fed.table ≡ [] → ReadingSimply kept s5 keeper l octets fed
  reading_simply passes none_listed = record {
    simple = zero_template;
    reads = reads;
    passes = passes;
    table = none_listed;
    points = simply_points;
  }

-- before the first octet
pub starts_simply : {K : Type 0} (kept : K → List Point → K → Type 0) (s5 : List ℕ) (keeper : K) (l w count : ℕ) (fed : Fed (PlainValues K)) → packing_template s5 ≡ 0 → IsFeedable (2 ^ 49) fed → IsCaughtUp fed → groups_in fed.table ≡ []
    → WasFed (PlainTook kept) no_marks (plain_groups w count) (record { keeper = keeper }) [] fed → w ≡ bit_width s5 → count ≡ value_count s5 → count * w + 40 ≤ 8 * l → ReadingSimply kept s5 keeper l [] fed
starts_simply kept s5 keeper l w count fed zero_template feedable caught_up none_listed fresh is_w is_count enough =
    let reads = starts_plain kept keeper l w count fed feedable caught_up fresh (omega (arith, enough)) in
    reading_simply kept s5 keeper l [] fed zero_template (subst₂ (λ (k n : ℕ). PlainAgrees kept keeper l [] no_marks (plain_groups k n) 0 fed) is_w is_count reads)
    (λ s7 c. plain_passes s5 zero_template l w count is_w is_count enough s7 c.long) none_listed

pub passes_simply : {K : Type 0} (kept : K → List Point → K → Type 0) (s5 : List ℕ) (keeper : K) (l w count : ℕ) → packing_template s5 ≡ 0 → ((points : List Point) → kept keeper points keeper) → w ≡ bit_width s5 → count ≡ value_count s5
    → count * w + 40 ≤ 8 * l → PassingAgrees kept s5 keeper l [] keeper
passes_simply kept s5 keeper l w count zero_template keeps is_w is_count enough = record {
  passes = λ s7 c. plain_passes s5 zero_template l w count is_w is_count enough s7 c.long;
  counted = λ s7 c. simply_counted s5 zero_template s7;
  keeps = keeps;
}

-- more octets came
pub simply_more : {K : Type 0} (kept : K → List Point → K → Type 0) (s5 : List ℕ) (keeper : K) (l : ℕ) (octets piece : List ℕ) (fed after : Fed (PlainValues K)) → IsFeedable (2 ^ 49) after → IsCaughtUp after → after.table ≡ fed.table
    → ((layout : _) (groups : _) (first : PlainValues K) (os : List ℕ) → WasFed (PlainTook kept) layout groups first os fed → WasFed (PlainTook kept) layout groups first (os ++ piece) after)
    → ReadingSimply kept s5 keeper l octets fed → ReadingSimply kept s5 keeper l (octets ++ piece) after
simply_more kept s5 keeper l octets piece fed after feedable caught_up same_table more reading =
    reading_simply kept s5 keeper l (octets ++ piece) after reading.simple
    (plain_more kept keeper l octets piece no_marks (plain_groups (bit_width s5) (value_count s5)) 0 fed after feedable caught_up more reading.reads)
    (λ s7 c. reading.passes s7 (continues_from octets piece l s7 c)) (ap groups_in same_table ∙ reading.table)
