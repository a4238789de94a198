-- Lemmas on what was read of a Section 7.
use Rattle.std.proofs.Common.{◌≡◌, ℕ, ◌+◌, ◌*◌, ◌^◌, ◌≤◌, Bool, Option, Some, None, List, [], ◌++◌, length, sym, ap, ◌∙◌, arith, subst}
use Rattle.std.proofs.lemmas.List.{length-append, length-take}
use Rattle.grib_bits.specs.Bits.{bits}
use Rattle.grib_bitmap.specs.Mask.{present_count}
use Rattle.grib_packing.specs.declared.column.Point.{Point}
use Rattle.grib_packing.specs.declared.keeping.Points.{Points}
use Rattle.grib_packing.specs.Entries.{entries_of}
use Rattle.grib_packing.specs.Kept.{ArePoints, PointsKept}
use Rattle.grib_packing.specs.Packing.{bit_width, value_count}
use Rattle.grib_group_reading.specs.Feeding.{plain_groups}
use Rattle.grib_group_reading.specs.Taking.{IsEnd, values_within}
use Rattle.grib_complex_reading.specs.Feeding.{AreOctets}
use Rattle.grib_complex_reading.specs.Told.{Plainly}
use Rattle.grib_complex_reading.proofs.Begun.{both_octets, few_pending, none_pending, state_pends}
use Rattle.grib_complex_reading.proofs.SoFar.{state_column, state_mask}
use Rattle.grib_complex_reading.proofs.Starting.{plain_values}
use Rattle.grib_complex_reading.proofs.Told.{length-told}
use Rattle.grib_packings.specs.declared.feeding.Feeding.{Feeding}
use Rattle.grib_packings.specs.declared.reading.Reading.{Reading}
use Rattle.grib_packings.specs.declared.reading.Reading.TheVariants.{Simple, Complex, Coded}
use Rattle.grib_packings.specs.declared.simple_reading.SimpleReading.{SimpleReading}
use Rattle.grib_packings.specs.declared.simple_reading.SimpleReading.TheVariants.{Reads, Passes, Refused}
use Rattle.grib_packings.specs.Feeding.{Agrees, HasColumn, HasRead, HasReading, KeepsMask, octets_left}
use Rattle.grib_packings.specs.Reading.{ReadingAgrees, SimpleAgrees, SimpleColumnAgrees, pending_in, simply_in, simply_pending}
use Rattle.grib_packings.proofs.Coded.{coded_column, coded_mask}
use Rattle.grib_packings.proofs.Simply.{simply_counted}

-- ---- pending bits

pub record Pends (octets : List ℕ) (pending : List Bool) : Type 0 where
  pub few : length pending ≤ 64
  pub last : IsEnd pending (bits octets)

simply_pends : {K : Type 0} (kept : K → List Point → K → Type 0) (s5 : List ℕ) (keeper : K) (start l : ℕ) (octets : List ℕ) (reading : SimpleReading K) → SimpleAgrees kept s5 keeper start l octets reading → Pends octets (simply_pending reading)
simply_pends kept s5 keeper start l octets (Reads fed) agrees =
    let reads = agrees.reads in
    record { few = few_pending (2 ^ 49) fed reads.feedable; last = reads.so_far.went.taken.ends }
simply_pends kept s5 keeper start l octets (Passes after) agrees = record { few = omega arith; last = none_pending octets }
simply_pends kept s5 keeper start l octets (Refused fault after) agrees = record { few = omega arith; last = none_pending octets }

pub reading_pends : {K : Type 0} (kept : K → List Point → K → Type 0) (s5 : List ℕ) (keeper : K) (start l : ℕ) (octets : List ℕ) (reading : Reading K) → ReadingAgrees kept s5 keeper start l octets reading → Pends octets (pending_in reading)
reading_pends kept s5 keeper start l octets (Simple reading) agrees = simply_pends kept s5 keeper start l octets reading agrees
reading_pends kept s5 keeper start l octets (Complex reading) agrees =
    let pends = state_pends kept s5 keeper start l octets reading agrees in
    record { few = pends.few; last = pends.last }
reading_pends kept s5 keeper start l octets (Coded reading) agrees = record { few = omega arith; last = none_pending octets }

-- ---- a feeder

pub push_read : {K : Type 0} (kept : K → List Point → K → Type 0) (feeding : Feeding K) (state after : Reading K) (piece : List ℕ) (pushed : ℕ) → feeding.reading ≡ Some state → pushed ≡ feeding.pushed + length piece → length piece ≤ octets_left feeding
    → AreOctets piece
    → ((s5 : List ℕ) (keeper : K) (octets : List ℕ) → length octets ≡ feeding.pushed → AreOctets octets → ReadingAgrees kept s5 keeper feeding.start feeding.length octets state
    → ReadingAgrees kept s5 keeper feeding.start feeding.length (octets ++ piece) after)
    → (s5 : List ℕ) (keeper : K) (start l : ℕ) (octets : List ℕ) → HasRead kept s5 keeper start l octets feeding
    → HasRead kept s5 keeper start l (octets ++ piece) (record feeding { pushed = pushed; reading = Some after })
push_read {K} kept feeding state after piece pushed is_state is_pushed room octets_known step s5 keeper start l octets read =
    let before = subst (λ (o : Option (Reading K)). HasReading kept s5 keeper start l octets o) is_state read.reading in
    let at_start = subst (λ (n : ℕ). ReadingAgrees kept s5 keeper n l octets state) (sym read.start_is) before in
    let at_length = subst (λ (n : ℕ). ReadingAgrees kept s5 keeper feeding.start n octets state) (sym read.length_is) at_start in
    let next = step s5 keeper octets (sym read.pushed) read.known at_length in
    let back = subst (λ (n : ℕ). ReadingAgrees kept s5 keeper n feeding.length (octets ++ piece) after) read.start_is next in
    let now = subst (λ (n : ℕ). ReadingAgrees kept s5 keeper start n (octets ++ piece) after) read.length_is back in
    let pends = reading_pends kept s5 keeper start l (octets ++ piece) after now in
    record {
      spelled = read.spelled;
      start_is = read.start_is;
      low = read.low;
      high = read.high;
      length_is = read.length_is;
      pushed = omega (arith, is_pushed, read.pushed, length-append octets piece);
      within = omega (arith, room, read.pushed, read.within, read.length_is, length-append octets piece);
      known = both_octets octets piece read.known octets_known;
      few = pends.few;
      last = pends.last;
      reading = now;
    }

-- ---- the column of a feeder

module _ (s5 : List ℕ) (mask : List Bool) (start l : ℕ) (octets : List ℕ) (first : Points) (empty : ArePoints mask [] first) (counted : present_count mask ≡ value_count s5) where
  simple_mask : (reading : SimpleReading Points) → SimpleAgrees PointsKept s5 first start l octets reading → (simply_in reading).mask.value ≡ mask
  simple_mask (Reads fed) agrees =
      let went = agrees.reads.so_far.went in
      let are = went.passed.keeps mask [] (omega (arith, length-told Plainly went.codes, went.taken.counted, plain_values (bit_width s5) (value_count s5), counted)) empty in
      are.mask_stays
  simple_mask (Passes after) agrees = let added = agrees.keeps [] in let are = added.keeps mask [] (omega arith) empty in are.mask_stays
  simple_mask (Refused fault after) agrees = ap (λ (p : Points). p.mask.value) agrees.1 ∙ empty.mask_stays

  simple_column : (reading : SimpleReading Points) → SimpleAgrees PointsKept s5 first start l octets reading → SimpleColumnAgrees s5 mask l octets reading
  simple_column (Reads fed) agrees = λ s7 c.
      let added = agrees.points s7 c in
      let numbers = values_within (plain_groups (bit_width s5) (value_count s5)) (8 * length octets) in
      added.keeps mask [] (omega (arith, counted, simply_counted s5 agrees.simple s7, length-take numbers (entries_of s5 s7))) empty
  simple_column (Passes after) agrees = let added = agrees.keeps [] in added.keeps mask [] (omega arith) empty
  simple_column (Refused fault after) agrees = subst (λ (p : Points). ArePoints mask [] p) (sym agrees.1) empty

  mask_stays : (reading : Option (Reading Points)) → HasReading PointsKept s5 first start l octets reading → KeepsMask mask reading
  mask_stays None agrees = agrees
  mask_stays (Some (Simple reading)) agrees = simple_mask reading agrees
  mask_stays (Some (Complex reading)) agrees = state_mask s5 mask start l octets first empty counted reading agrees
  mask_stays (Some (Coded reading)) agrees = coded_mask s5 mask first empty counted octets reading agrees

  column_stands : (reading : Option (Reading Points)) → HasReading PointsKept s5 first start l octets reading → HasColumn s5 mask l octets reading
  column_stands None agrees = agrees
  column_stands (Some (Simple reading)) agrees = simple_column reading agrees
  column_stands (Some (Complex reading)) agrees = state_column s5 mask start l octets first empty counted reading agrees
  column_stands (Some (Coded reading)) agrees = coded_column s5 mask first empty counted octets reading agrees

  -- what was read agrees
  pub column_agrees : (feeder : Feeding Points) → HasRead PointsKept s5 first start l octets feeder → Agrees s5 mask start l octets feeder
  column_agrees feeder read = record {
    first = first;
    empty = empty;
    counted = counted;
    read = read;
    mask_stays = mask_stays feeder.reading read.reading;
    column = column_stands feeder.reading read.reading;
  }
