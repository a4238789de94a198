-- Lemmas on a Section 7 in CCSDS packing.
use Rattle.std.proofs.Common.{◌≡◌, ℕ, ◌≤◌, Bool, List, [], length, map, replicate, refl, sym, ap, arith, subst}
use Rattle.std.proofs.lemmas.List.{length-map, length-take}
use Rattle.grib_bits.specs.Bits.{bits}
use Rattle.grib_coding.specs.Coding.{block_count}
use Rattle.grib_coding.specs.Numbers.{numbers_told}
use Rattle.grib_coding.proofs.Told.{found_again}
use Rattle.grib_coding.specs.Reading.{decoded, items_from}
use Rattle.grib_bitmap.specs.Mask.{present_count}
use Rattle.grib_block_feeding.specs.Feeding.{keeper_in}
use Rattle.grib_packing.specs.declared.column.Point.{Point}
use Rattle.grib_packing.specs.declared.keeping.Points.{Points}
use Rattle.grib_packing.specs.Kept.{ArePoints, PointsKept}
use Rattle.grib_packing.specs.Coded.{coding_of, point_of}
use Rattle.grib_packing.specs.Entries.{entries_of}
use Rattle.grib_packing.specs.Packing.{packing_template, value_count, bit_width}
use Rattle.grib_block_feeding.proofs.Values.{length-told-after, zeros_taken}
use Rattle.grib_packings.specs.declared.coded_reading.CodedReading.{CodedReading}
use Rattle.grib_packings.specs.declared.coded_reading.CodedReading.TheVariants.{Blocks, Same}
use Rattle.grib_packings.specs.Reading.{KeptAtOnce, CodedAgrees, CodedColumnAgrees, coded_in}

-- numbers of no bits are 0, whatever Section 7 holds
pub kept_at_once : {K : Type 0} (kept : K → List Point → K → Type 0) (s5 : List ℕ) (keeper after : K) → packing_template s5 ≡ 42 → bit_width s5 ≡ 0
    → kept keeper (replicate (value_count s5) (point_of 0)) after → KeptAtOnce kept s5 keeper after
kept_at_once kept s5 keeper after template none all =
    let taken = λ (s7 : List ℕ). zeros_taken kept s5 s7 (bit_width s5) (value_count s5) keeper after template refl none refl all in
    record {
      passes = λ s7. (taken s7).0;
      counted = λ s7. (taken s7).2;
      points = λ s7. (taken s7).1;
    }

-- ---- the column of the points that were kept

module _ (s5 : List ℕ) (mask : List Bool) (first : Points) (empty : ArePoints mask [] first) (counted : present_count mask ≡ value_count s5) where
  pub coded_column : (octets : List ℕ) (reading : CodedReading Points) → CodedAgrees PointsKept s5 first octets reading → CodedColumnAgrees s5 mask octets reading
  coded_column octets (Blocks fed) reading =
      let c = coding_of s5 in
      let read = decoded c (value_count s5) (bits octets) in
      let are = reading.agrees.kept_are in
      let all = items_from (block_count c (value_count s5)) c (value_count s5) 0 (bits octets) in
      let few : length (map point_of are.numbers) ≤ present_count mask =
      omega (arith, counted, length-map are.numbers point_of, ap length are.told.entries_stand, length-told-after c 0 0 are.numbers, length-take (value_count s5) all.entries) in
      subst (λ (ns : List ℕ). ArePoints mask (map point_of ns) (keeper_in fed)) (sym (found_again c read.entries are.numbers are.told))
      (are.passed.keeps mask [] (omega (arith, few)) empty)
  coded_column octets (Same after) reading = λ s7. (reading.points s7).keeps mask [] (omega (arith, counted, reading.counted s7)) empty

  pub coded_mask : (octets : List ℕ) (reading : CodedReading Points) → CodedAgrees PointsKept s5 first octets reading → (coded_in reading).mask.value ≡ mask
  coded_mask octets (Blocks fed) agrees = (coded_column octets (Blocks fed) agrees).mask_stays
  coded_mask octets (Same after) agrees = (coded_column octets (Same after) agrees []).mask_stays
