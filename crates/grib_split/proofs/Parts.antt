-- The places of the runs in parts of 16, counted round 64 from the first part on.
use Rattle.std.proofs.Common.{Bool, ◌≡◌, ℕ, ◌+◌, ◌-◌, ◌*◌, ◌/◌, ◌%◌, ◌<◌, ◌≤◌, ◌⊎◌, inl, inr, min, max, ap, ◌∙◌, arith}
use Rattle.std.specs.Prelude.{slice_index, bit_or}
use Rattle.std.specs.Int.{bit_at}
use Rattle.std.proofs.lemmas.Nat.Bits.{bit_at_or}
use Rattle.grib_packing.specs.Groupings.{digits}
use Rattle.grib_split.specs.declared.slots.Slots.{Slots}
use Rattle.grib_split.specs.Runs.{Nested, Covers, Covered, Settled, Numbered, IsNarrow, StayAt, SameMarks}

below_or_not : (a b : ℕ) → (a < b) ⊎ (b ≤ a)
below_or_not a b = grind arith

-- how far a place is from the first part
abbrev pub behind : ℕ → ℕ → ℕ
behind first place = (place + 64 - first) % 64

-- the places that were seen have the number, the others stay
pub record Seen (narrow : Bool) (a b : Slots) (number first seen places : ℕ) : Type 0 where
  pub some : 16 ≤ seen
  pub most : seen ≤ 64
  pub whole : seen % 16 ≡ 0
  pub numbered : (place : ℕ) → place < 64 → behind first place < seen → Numbered narrow a b number places place
  pub stay : (place : ℕ) → place < 64 → seen ≤ behind first place → StayAt a b place
  pub marks : SameMarks a b
  pub limit : b.limit ≡ a.limit
  pub after : b.after ≡ a.after

-- ---- places

pub part_fits : (first seen : ℕ) → first % 16 ≡ 0 → seen % 16 ≡ 0 → (first + seen) % 64 + 16 ≤ 64
part_fits first seen a b = omega (arith, a, b)

in_part : (first seen place : ℕ) → first < 64 → seen < 64 → place < 64 → (first + seen) % 64 + 16 ≤ 64 → seen ≤ behind first place → behind first place < seen + 16
    → ((first + seen) % 64 ≤ place) × (place < (first + seen) % 64 + 16)
in_part first seen place a b within fits from to = (omega (arith, a, b, within, fits, from, to), omega (arith, a, b, within, fits, from, to))

seen_place : (first seen place : ℕ) → first + 16 ≤ 64 → seen + 16 ≤ 64 → place < 64 → (first + seen) % 64 + 16 ≤ 64 → (first + seen) % 64 ≤ place → place < (first + seen) % 64 + 16
    → (seen ≤ behind first place) × (behind first place < seen + 16)
seen_place first seen place a b within fits from to = (omega (arith, a, b, within, fits, from, to), omega (arith, a, b, within, fits, from, to))

out_of_part : (first seen place : ℕ) → first + 16 ≤ 64 → seen + 16 ≤ 64 → place < 64 → (first + seen) % 64 + 16 ≤ 64 → (behind first place < seen) ⊎ (seen + 16 ≤ behind first place)
    → (place < (first + seen) % 64) ⊎ ((first + seen) % 64 + 16 ≤ place)
out_of_part first seen place a b within fits out = elim (below_or_not place ((first + seen) % 64)) [
  | inl before ↦ inl before
  | inr from ↦ elim (below_or_not place ((first + seen) % 64 + 16)) [
    | inl to ↦ absurd (let in_it = seen_place first seen place a b within fits from to in elim out [
      | inl before ↦ omega (arith, before, in_it.0)
      | inr later ↦ omega (arith, later, in_it.1)
    ])
    | inr later ↦ inr later
  ]
]

-- ---- one part more

stay_stay : (a b c : Slots) (place : ℕ) → StayAt a b place → StayAt b c place → StayAt a c place
stay_stay a b c place s t = record { least = t.least ∙ s.least; greatest = t.greatest ∙ s.greatest; width = t.width ∙ s.width }

-- its width is settled by what stood there before
settled_after : (narrow : Bool) (a b c : Slots) (place : ℕ) → b.limit ≡ a.limit → StayAt a b place → Settled narrow b c place → Settled narrow a c place
settled_after narrow a b c place limit s (inl kept) = inl (record {
  less = omega (arith, kept.less, ap (λ xs. slice_index xs place) limit);
  width = kept.width ∙ s.width;
})
settled_after narrow a b c place limit s (inr anew) = inr (record { is = anew.is; width = anew.width })

-- and stays so
settled_stays : (narrow : Bool) (a b c : Slots) (place : ℕ) → StayAt b c place → Settled narrow a b place → Settled narrow a c place
settled_stays narrow a b c place s (inl kept) = inl (record { less = omega (arith, kept.less, s.least, s.greatest); width = s.width ∙ kept.width })
settled_stays narrow a b c place s (inr anew) =
    let same : slice_index b.greatest place - slice_index b.least place ≡ slice_index c.greatest place - slice_index c.least place = omega (arith, s.least, s.greatest) in
    inr (record { is = anew.is; width = s.width ∙ (anew.width ∙ ap digits same) })

stay_numbered : (narrow : Bool) (a b c : Slots) (number places part place : ℕ) → b.limit ≡ a.limit → StayAt a b place → Numbered narrow b c number part place
    → Numbered narrow a c number (bit_or places part) place
stay_numbered narrow a b c number places part place limit s n = record {
  least = n.least ∙ ap (λ x. min x number) s.least;
  greatest = n.greatest ∙ ap (λ x. max x number) s.greatest;
  settled = λ unset.
      let part_unset : bit_at part place ≡ 0 = omega (arith, unset, bit_at_or places part place) in
      settled_after narrow a b c place limit s (n.settled part_unset);
}

numbered_stay : (narrow : Bool) (a b c : Slots) (number places part place : ℕ) → Numbered narrow a b number places place → StayAt b c place
    → Numbered narrow a c number (bit_or places part) place
numbered_stay narrow a b c number places part place n s = record {
  least = s.least ∙ n.least;
  greatest = s.greatest ∙ n.greatest;
  settled = λ unset.
      let places_unset : bit_at places place ≡ 0 = omega (arith, unset, bit_at_or places part place) in
      settled_stays narrow a b c place s (n.settled places_unset);
}

pub seen_first : (narrow : Bool) (a b : Slots) (number first part : ℕ) → first + 16 ≤ 64
    → ((place : ℕ) → first ≤ place → place < first + 16 → Numbered narrow a b number part place)
    → ((place : ℕ) → (place < first) ⊎ (first + 16 ≤ place) → StayAt a b place)
    → SameMarks a b → b.limit ≡ a.limit → b.after ≡ a.after → Seen narrow a b number first 16 part
seen_first narrow a b number first part fits here others marks limit after = record {
  some = omega arith;
  most = omega arith;
  whole = omega arith;
  numbered = λ place within near. here place (omega (arith, fits, within, near)) (omega (arith, fits, within, near));
  stay = λ place within far. others place (elim (below_or_not place first) [
    | inl before ↦ inl before
    | inr from ↦ inr (omega (arith, fits, within, far, from))
  ]);
  marks = marks;
  limit = limit;
  after = after;
}

pub seen_more : (narrow : Bool) (a b c : Slots) (number first seen places part : ℕ) → first < 64 → first % 16 ≡ 0 → seen < 64 → Seen narrow a b number first seen places
    → ((place : ℕ) → (first + seen) % 64 ≤ place → place < (first + seen) % 64 + 16 → Numbered narrow b c number part place)
    → ((place : ℕ) → (place < (first + seen) % 64) ⊎ ((first + seen) % 64 + 16 ≤ place) → StayAt b c place)
    → SameMarks b c → c.limit ≡ b.limit → c.after ≡ b.after → Seen narrow a c number first (seen + 16) (bit_or places part)
seen_more narrow a b c number first seen places part low whole less s here others marks limit after =
    let fits = part_fits first seen whole s.whole in
    let first_fits : first + 16 ≤ 64 = omega (arith, low, whole) in
    let seen_fits : seen + 16 ≤ 64 = omega (arith, less, s.whole) in
    record {
      some = omega (arith, s.some);
      most = omega (arith, s.whole, less);
      whole = omega (arith, s.whole);
      numbered = λ place within near. elim (below_or_not (behind first place) seen) [
        | inl before ↦ numbered_stay narrow a b c number places part place (s.numbered place within before) (others place (out_of_part first seen place first_fits seen_fits within fits (inl before)))
        | inr from ↦
            let in_it = in_part first seen place low less within fits from near in
            stay_numbered narrow a b c number places part place s.limit (s.stay place within from) (here place in_it.0 in_it.1)
      ];
      stay = λ place within far.
          stay_stay a b c place (s.stay place within (omega (arith, far))) (others place (out_of_part first seen place first_fits seen_fits within fits (inr far)));
      marks = record { primary = marks.primary ∙ s.marks.primary; secondary = marks.secondary ∙ s.marks.secondary };
      limit = limit ∙ s.limit;
      after = after ∙ s.after;
    }

-- ---- numbers that are narrow

-- no run has a greater number than the longest one
pub narrow_all : (a : Slots) (number start : ℕ) → start < 64 → Nested a start
    → max (slice_index a.greatest ((start + 63) % 64)) number < 65536 → (place : ℕ) → place < 64 → IsNarrow a place number
narrow_all a number start low nested last place within =
    let j = (place + 64 - start) % 64 in
    let here : (start + j) % 64 ≡ place = omega (arith, low, within) in
    let same = ap (λ p. slice_index a.greatest p) here in
    omega (arith, last, same, nested.greatest j 63 (omega arith) (omega arith))

-- ---- the runs that are not looked at

-- the end of a run behind the first part, from the shortest on
far_place : (start first place : ℕ) → start < 64 → first ≡ start / 16 * 16 → place < 64 → 16 ≤ behind first place
    → (start + (behind first place - (start - first))) % 64 ≡ place
far_place start first place a is within far = omega (arith, a, is, within, far)

-- a number that a run covers is covered by each longer one
covers_longer : (a : Slots) (number start first seen place : ℕ) → start < 64 → first ≡ start / 16 * 16 → 16 ≤ seen → seen < 64 → place < 64
    → seen ≤ behind first place → Nested a start → Covers a ((first + seen) % 64) number → Covers a place number
covers_longer a number start first seen place low is some less within far nested covers =
    let r = start - first in
    let nearer : (start + (seen - r)) % 64 ≡ (first + seen) % 64 = omega (arith, low, is, some) in
    let farther = far_place start first place low is within (omega (arith, some, far)) in
    let order : seen - r ≤ behind first place - r = omega (arith, far) in
    let last : behind first place - r < 64 = omega arith in
    let least_near = ap (λ p. slice_index a.least p) nearer in
    let least_far = ap (λ p. slice_index a.least p) farther in
    let greatest_near = ap (λ p. slice_index a.greatest p) nearer in
    let greatest_far = ap (λ p. slice_index a.greatest p) farther in
    let falls = nested.least (seen - r) (behind first place - r) order last in
    let rises = nested.greatest (seen - r) (behind first place - r) order last in
    record {
      least = omega (arith, falls, least_near, least_far, covers.least);
      most = omega (arith, rises, greatest_near, greatest_far, covers.most);
    }

-- what holds of each run at the end
pub record Taken (narrow : Bool) (a b : Slots) (number places place : ℕ) : Type 0 where
  pub least : slice_index b.least place ≡ min (slice_index a.least place) number
  pub greatest : slice_index b.greatest place ≡ max (slice_index a.greatest place) number
  pub settled : bit_at places place ≡ 0 → Settled narrow a b place ⊎ Covered a b place number

taken_seen : (narrow : Bool) (a b : Slots) (number places place : ℕ) → Numbered narrow a b number places place → Taken narrow a b number places place
taken_seen narrow a b number places place n = record { least = n.least; greatest = n.greatest; settled = λ unset. inl (n.settled unset) }

taken_covered : (narrow : Bool) (a b : Slots) (number places place : ℕ) → StayAt a b place → Covers a place number → Taken narrow a b number places place
taken_covered narrow a b number places place s c = record {
  least = omega (arith, s.least, c.least);
  greatest = omega (arith, s.greatest, c.most);
  settled = λ unset. inr (record { covers = c; width = s.width });
}

-- the next place covers the number
pub taken_first : (narrow : Bool) (a b : Slots) (number start first seen places : ℕ) → start < 64 → first ≡ start / 16 * 16 → seen < 64 → Nested a start
    → Seen narrow a b number first seen places → Covers b ((first + seen) % 64) number → (place : ℕ) → place < 64 → Taken narrow a b number places place
taken_first narrow a b number start first seen places low is less nested s covers place within =
    let next = (first + seen) % 64 in
    let next_far : seen ≤ behind first next = omega (arith, low, is, less) in
    let stays = s.stay next (omega arith) next_far in
    let before : Covers a next number = record { least = omega (arith, covers.least, stays.least); most = omega (arith, covers.most, stays.greatest) } in
    elim (below_or_not (behind first place) seen) [
      | inl near ↦ taken_seen narrow a b number places place (s.numbered place within near)
      | inr far ↦ taken_covered narrow a b number places place (s.stay place within far) (covers_longer a number start first seen place low is s.some less within far nested before)
    ]
