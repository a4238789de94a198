-- How many octets the fields of a message have, each as a message of its own.
use Rattle.std.proofs.Common.{◌≡◌, ℕ, zero, suc, ◌+◌, ◌*◌, ◌≤◌, List, length, ap, ◌∙◌, arith}
use Rattle.std.proofs.lemmas.List.FromFn.{sum_by-map-range_with_len_more}
use Rattle.grib_base.specs.declared.limits.TheConstants.{MOST_OCTETS}
use Rattle.grib2_message.specs.Fields.{field_count}
use Rattle.grib2_message.specs.Message.{IsAnyMessage}
use Rattle.grib_select.specs.Single.{single_of}
use Rattle.grib_edit.specs.FieldOctets.{single_most, twenty_each}
use Rattle.grib_edit.specs.Parts.{part_of, first_parts, parts_of, octets_within}

-- one field more
pub octets_more : (out : List ℕ) (before : ℕ) (message : List ℕ) (k i : ℕ) → 1 + k ≡ i
    → octets_within (first_parts out before message (k + 1)) ≡ octets_within (first_parts out before message k) + length (single_of message i)
octets_more out before message k i is = sum_by-map-range_with_len_more (λ part. length part.octets) (part_of out before message) 1 k i is

parts_most : (out : List ℕ) (before : ℕ) (message : List ℕ) (n : ℕ) → IsAnyMessage message → n ≤ field_count message
    → octets_within (first_parts out before message n) ≤ MOST_OCTETS * n
parts_most out before message zero h within = omega arith
parts_most out before message (suc n) h within =
    let first = parts_most out before message n h (omega arith) in
    let last = single_most message (1 + n) h (omega arith) (omega arith) in
    let e : suc n ≡ n + 1 = omega arith in
    let both = ap (λ k. octets_within (first_parts out before message k)) e ∙ octets_more out before message n (1 + n) (omega arith) in
    omega arith

pub parts_few : (out : List ℕ) (before : ℕ) (message : List ℕ) → IsAnyMessage message
    → 20 * octets_within (parts_of out before message) ≤ MOST_OCTETS * length message
parts_few out before message h =
    let most = parts_most out before message (field_count message) h (omega arith) in
    let each = twenty_each message h in
    omega arith
