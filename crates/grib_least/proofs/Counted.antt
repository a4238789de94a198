-- How many octets the forms of fields have that are chosen one after another.
use Rattle.std.proofs.Common.{◌≡◌, ℕ, ◌+◌, ◌≤◌, List, length, map, sum_by, ap, arith}
use Rattle.std.specs.List.{range_with_len}
use Rattle.std.proofs.lemmas.List.Sums.{sum_by-take-le}
use Rattle.std.proofs.lemmas.List.FromFn.{length-map-range_with_len, take-map-range_with_len, sum_by-map-range_with_len_more}
use Rattle.grib_base.specs.declared.profile.Profile.{Profile}
use Rattle.grib_packing.specs.declared.written.Packed.{Packed}
use Rattle.grib2_message.specs.Fields.{field_count}
use Rattle.grib2_message.specs.Assembled.{assembled}
use Rattle.grib_repack.specs.Lengths.{packed_length}
use Rattle.grib_least.specs.Least.{least_form, least_forms, size_of}

module _ (profile : Profile) (m : List ℕ) where
  -- those of the first n fields
  abbrev pub chosen : ℕ → ℕ
  chosen n = sum_by size_of (map (least_form profile m) (range_with_len 1 n))

  pub chosen_more : (n : ℕ) → chosen (n + 1) ≡ chosen n + size_of (least_form profile m (n + 1))
  chosen_more n = sum_by-map-range_with_len_more size_of (least_form profile m) 1 n (n + 1) (omega arith)

  -- are no more than those of all
  pub chosen_first : (n : ℕ) → n ≤ field_count m → chosen n ≤ chosen (field_count m)
  chosen_first n low =
      let all = map (least_form profile m) (range_with_len 1 (field_count m)) in
      let front = take-map-range_with_len (least_form profile m) 1 (field_count m) n low in
      omega (arith, sum_by-take-le size_of all n, ap (sum_by size_of) front)

  -- and how long the message is with all of them
  pub least_long : (kept : ℕ) → ((parts : List Packed) → length parts ≡ field_count m → length (assembled m parts) ≡ kept + sum_by packed_length parts)
      → length (assembled m (least_forms profile m)) ≡ kept + chosen (field_count m)
  least_long kept whole = whole (least_forms profile m) (length-map-range_with_len (least_form profile m) 1 (field_count m))
