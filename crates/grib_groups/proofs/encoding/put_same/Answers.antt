use Rattle.std.proofs.Common.{◌≡◌, ℕ, ◌+◌, ◌<◌, ◌≤◌, Bool, List, ◌++◌, length, drop, map, ap, arith}
use Rattle.grib_bits.specs.Bits.{bits_of}
use Rattle.grib_bits.specs.Written.{Written}
use Rattle.grib_bits.proofs.Numbers.{length-bits_of}
use Rattle.grib_packing.specs.Packed.{fields, padded}
use Rattle.grib_packing.proofs.Left.{Left, left_more, left_room, padded-more}
use Rattle.grib_groups.proofs.Parts.{drop-next}
use Rattle.grib_groups.proofs.encoding.put_same.Goals as goal

next_same : (b r : ℕ) (lengths : List ℕ) (i : ℕ) → i < length lengths
    → fields b (map (λ n. r) (drop i lengths)) ≡ bits_of b r ++ fields b (map (λ n. r) (drop (i + 1) lengths))
next_same b r lengths i within = ap (λ (ls : List ℕ). fields b (map (λ n. r) ls)) (drop-next lengths i within)

same_room : (start now : Written) (whole : List Bool) (b r : ℕ) (lengths : List ℕ) (i : ℕ) → i < length lengths
    → Left start now whole (fields b (map (λ n. r) (drop i lengths))) → length (padded whole) ≤ start.spare → b ≤ now.spare
same_room start now whole b r lengths i within so_far room =
    let enough : length whole ≤ start.spare = omega (arith, room, padded-more whole) in
    let next = left_room start now whole (bits_of b r) _ _ (next_same b r lengths i within) so_far enough in
    omega (arith, next, length-bits_of b r)

same_more : (start now after : Written) (whole : List Bool) (b r : ℕ) (lengths : List ℕ) (i : ℕ) → i < length lengths
    → Left start now whole (fields b (map (λ n. r) (drop i lengths))) → after.bits ≡ now.bits ++ bits_of b r → after.spare + b ≡ now.spare
    → Left start after whole (fields b (map (λ n. r) (drop (i + 1) lengths)))
same_more start now after whole b r lengths i within so_far bits spare =
    left_more start now after whole (bits_of b r) _ _ (next_same b r lengths i within) so_far bits (omega (arith, spare, length-bits_of b r))

pub put-requires-clause-room : goal.put-requires-clause-room
put-requires-clause-room c =
    same_room c.args.out.now c.loop-length.out _ c.args.bits c.args.reference c.args.lengths.now c.loop-length._length-index (omega arith) c.loop-length.invariant c.requires.room

pub loop-length-preserved : goal.loop-length-preserved
loop-length-preserved c =
    same_more c.args.out.now c.loop-length.out c.put.new.self _ c.args.bits c.args.reference c.args.lengths.now c.loop-length._length-index (omega arith) c.loop-length.invariant c.put.ensures.bits c.put.ensures.spare
