-- Lemmas on the groups of three lists.
use Rattle.std.proofs.Common.{◌≡◌, ℕ, zero, suc, ◌+◌, ◌<◌, ◌≤◌, List, [], ◌∷◌, length, drop, get_or, vec_len, sum, ◌*◌, refl, ap, ◌∙◌, arith, add-mul}
use Rattle.std.specs.List.{All}
use Rattle.std.proofs.lemmas.List.{drop_all}
use Rattle.std.proofs.lemmas.List.Elements.{All-get_or, All-tail}
use Rattle.std.proofs.lemmas.List.Sums.{sum_by-cons}
use Rattle.std.proofs.Math.Nat.{mul-le-mul_left}
use Rattle.grib_packing.specs.Groups.{groups_from, packed_bits}
use Rattle.grib_group_reading.specs.Taking.{values}
use Rattle.grib_group_reading.proofs.Taken.{values-cons, packed_bits-cons}
use Rattle.grib_group_reading.specs.declared.table.Table.{Table}
use Rattle.grib_group_reading.specs.Table.{groups_in, group_at, IsWhole, IsNarrow}

pub drop-groups_from : (i : ℕ) (rs ws ns : List ℕ) → i < length rs → i < length ws → i < length ns
    → drop i (groups_from rs ws ns) ≡ record { reference = get_or rs i 0; width = get_or ws i 0; count = get_or ns i 0 } ∷ drop (suc i) (groups_from rs ws ns)
drop-groups_from i [] ws ns in_rs in_ws in_ns = absurd (omega arith)
drop-groups_from i (r ∷ rs) [] ns in_rs in_ws in_ns = absurd (omega arith)
drop-groups_from i (r ∷ rs) (w ∷ ws) [] in_rs in_ws in_ns = absurd (omega arith)
drop-groups_from zero (r ∷ rs) (w ∷ ws) (n ∷ ns) in_rs in_ws in_ns = refl
drop-groups_from (suc i) (r ∷ rs) (w ∷ ws) (n ∷ ns) in_rs in_ws in_ns = drop-groups_from i rs ws ns (omega arith) (omega arith) (omega arith)

pub length-groups_from : (rs ws ns : List ℕ) → length (groups_from rs ws ns) ≤ length ns
length-groups_from [] ws ns = omega arith
length-groups_from (r ∷ rs) [] ns = omega arith
length-groups_from (r ∷ rs) (w ∷ ws) [] = omega arith
length-groups_from (r ∷ rs) (w ∷ ws) (n ∷ ns) = omega (arith, length-groups_from rs ws ns)

pub values-groups_from : (rs ws ns : List ℕ) → length rs ≡ length ns → length ws ≡ length ns → values (groups_from rs ws ns) ≡ sum ns
values-groups_from [] ws [] as_rs as_ws = refl
values-groups_from [] ws (n ∷ ns) as_rs as_ws = absurd (omega arith)
values-groups_from (r ∷ rs) [] [] as_rs as_ws = refl
values-groups_from (r ∷ rs) [] (n ∷ ns) as_rs as_ws = absurd (omega arith)
values-groups_from (r ∷ rs) (w ∷ ws) [] as_rs as_ws = refl
values-groups_from (r ∷ rs) (w ∷ ws) (n ∷ ns) as_rs as_ws =
    values-cons (record { reference = r; width = w; count = n }) (groups_from rs ws ns)
    ∙ omega (arith, values-groups_from rs ws ns (omega arith) (omega arith), sum_by-cons (λ (k : ℕ). k) n ns)

-- narrow numbers take at most 32 bits a value
pub packed_bits-le : (rs ws ns : List ℕ) → All (λ (w : ℕ). w ≤ 32) ws → packed_bits (groups_from rs ws ns) ≤ sum ns * 32
packed_bits-le [] ws ns narrow = omega arith
packed_bits-le (r ∷ rs) [] ns narrow = omega arith
packed_bits-le (r ∷ rs) (w ∷ ws) [] narrow = omega arith
packed_bits-le (r ∷ rs) (w ∷ ws) (n ∷ ns) narrow =
    let rest = packed_bits-le rs ws ns (All-tail (λ (k : ℕ). k ≤ 32) w ws narrow) in
    let first : n * w ≤ n * 32 = mul-le-mul_left n (narrow 0 0 (omega arith)) in
    omega (arith, rest, first, packed_bits-cons (record { reference = r; width = w; count = n }) (groups_from rs ws ns), sum_by-cons (λ (k : ℕ). k) n ns, add-mul n (sum ns) 32)

module _ (table : Table) (whole : IsWhole table) where
  -- the groups from one on
  pub groups_from_index : (i : ℕ) → i < vec_len table.lengths → drop i (groups_in table) ≡ group_at table i ∷ drop (i + 1) (groups_in table)
  groups_from_index i within =
      let next : suc i ≡ i + 1 = omega arith in
      drop-groups_from i table.references.items table.widths.items table.lengths.items (omega (arith, whole.references, table.references.ok.0, table.lengths.ok.0)) (omega (arith, whole.widths, table.widths.ok.0, table.lengths.ok.0)) (omega (arith, table.lengths.ok.0))
      ∙ ap (λ (k : ℕ). group_at table i ∷ drop k (groups_in table)) next

  -- none from the last on
  pub no_groups : (i : ℕ) → vec_len table.lengths ≤ i → drop i (groups_in table) ≡ []
  no_groups i past =
      drop_all i (groups_in table) (omega (arith, length-groups_from table.references.items table.widths.items table.lengths.items, table.lengths.ok.0))

  pub narrow_at : (i : ℕ) → IsNarrow table → i < vec_len table.lengths → get_or table.widths.items i 0 ≤ 32
  narrow_at i narrow within =
      All-get_or (λ (w : ℕ). w ≤ 32) table.widths.items i 0 (omega (arith, whole.widths, table.widths.ok.0)) narrow
