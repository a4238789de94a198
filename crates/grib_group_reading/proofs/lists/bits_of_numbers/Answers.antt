use Rattle.std.proofs.Common.{◌≡◌, ℕ, ◌+◌, ◌*◌, ◌≤◌, ◌<◌, ◌∷◌, List, length, drop, get_or, sym, ap, ap₂, ◌∙◌, arith, mul_comm, add-one}
use Rattle.std.proofs.lemmas.List.{drop_all}
use Rattle.grib_packing.specs.declared.group.Group.{Group}
use Rattle.grib_packing.specs.Groups.{packed_bits, groups_from}
use Rattle.grib_group_reading.proofs.Taken.{packed_bits-cons}
use Rattle.grib_group_reading.proofs.Listed.{drop-groups_from, length-groups_from, packed_bits-le}
use Rattle.grib_group_reading.proofs.lists.bits_of_numbers.Goals as goal

-- the bits of the group at an index and of those after it
bits_from : (rs ws ns : List ℕ) (i : ℕ) → i < length rs → i < length ws → i < length ns
    → packed_bits (drop i (groups_from rs ws ns)) ≡ get_or ws i 0 * get_or ns i 0 + packed_bits (drop (i + 1) (groups_from rs ws ns))
bits_from rs ws ns i in_rs in_ws in_ns =
    let group : Group = record { reference = get_or rs i 0; width = get_or ws i 0; count = get_or ns i 0 } in
    let rest = drop (i + 1) (groups_from rs ws ns) in
    ap packed_bits (drop-groups_from i rs ws ns in_rs in_ws in_ns ∙ ap (λ (k : ℕ). group ∷ drop k (groups_from rs ws ns)) (sym (add-one i)))
    ∙ packed_bits-cons group rest
    ∙ ap (λ (n : ℕ). n + packed_bits rest) (mul_comm (get_or ns i 0) (get_or ws i 0))

pub overflow_add-bits : goal.overflow_add-bits
overflow_add-bits c =
    let ws = c.args.widths.now in
    let ns = c.args.lengths.now in
    let i = c.loop-index.index in
    let product : c.from.result * c.from-in-loop-index.result ≡ get_or ws i 0 * get_or ns i 0 = ap₂ ◌*◌ c.from.ensures c.from-in-loop-index.ensures in
    let all = packed_bits-le ws ws ns c.requires.narrow in
    record { fits = omega (arith, product, all, c.loop-index.invariant ws (omega arith), bits_from ws ws ns i (omega arith) (omega arith) (omega arith)) }

pub loop-index-preserved : goal.loop-index-preserved
loop-index-preserved c = λ rs as_long.
    let ws = c.args.widths.now in
    let ns = c.args.lengths.now in
    let i = c.loop-index.index in
    let product : c.from.result * c.from-in-loop-index.result ≡ get_or ws i 0 * get_or ns i 0 = ap₂ ◌*◌ c.from.ensures c.from-in-loop-index.ensures in
    omega (arith, product, c.loop-index.invariant rs as_long, bits_from rs ws ns i (omega arith) (omega arith) (omega arith))

-- the whole sum, where the loop ended
whole : (rs ws ns : List ℕ) (i sum : ℕ) → length ns ≤ i → sum + packed_bits (drop i (groups_from rs ws ns)) ≡ packed_bits (groups_from rs ws ns) → sum ≡ packed_bits (groups_from rs ws ns)
whole rs ws ns i sum past so_far =
    let groups = groups_from rs ws ns in
    let none : packed_bits (drop i groups) ≡ 0 = ap packed_bits (drop_all i groups (omega (arith, length-groups_from rs ws ns))) in
    omega (arith, none, so_far)

pub returns-clause-bits : goal.returns-clause-bits
returns-clause-bits c = λ rs as_long. whole rs c.args.widths.now c.args.lengths.now c.loop-index.index c.loop-index.bits (omega arith) (c.loop-index.invariant rs as_long)

pub returns-clause-small : goal.returns-clause-small
returns-clause-small c =
    let ws = c.args.widths.now in
    let ns = c.args.lengths.now in
    omega (arith, whole ws ws ns c.loop-index.index c.loop-index.bits (omega arith) (c.loop-index.invariant ws (omega arith)), packed_bits-le ws ws ns c.requires.narrow)
