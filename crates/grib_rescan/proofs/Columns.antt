-- Points that stand column by column, and their rows.
use Rattle.std.proofs.Common.{◌≡◌, ℕ, zero, suc, ◌+◌, ◌*◌, ◌<◌, true, false, List, ◌∷◌, ◌++◌, map, refl, sym, ap, ap₂, ◌∙◌, arith}
use Rattle.std.specs.List.{range_with_len, flat_map}
use Rattle.grib_packing.specs.declared.column.Point.{Point}
use Rattle.grib_rescan.specs.declared.scanning.Scanning.{Scanning}
use Rattle.grib_rescan.specs.Scanning.{scanning_of, turned, point_at, exchanged}
use Rattle.grib_rescan.specs.Points.{point, row_of, rescanned_points}
use Rattle.grib_rescan.proofs.Turns.{turned-lt}
use Rattle.grib_rescan.proofs.Rows.{rescanned_at}

-- ---- rows that hold the same points

row_same : (p q : ℕ → Point) (a n : ℕ) → ((k : ℕ) → k < n → p (a + k) ≡ q (a + k)) → map p (range_with_len a n) ≡ map q (range_with_len a n)
row_same p q a zero each = refl
row_same p q a (suc n) each =
    let first : a ≡ a + 0 = omega arith in
    ap₂ (λ x xs. x ∷ xs) (ap p first ∙ each 0 (omega arith) ∙ ap q (sym first))
    (row_same p q (a + 1) n (λ k small. let next : a + 1 + k ≡ a + suc k = omega arith in ap p next ∙ each (suc k) (omega (arith, small)) ∙ ap q (sym next)))

rows_same : (f g : ℕ → List Point) (a b n : ℕ) → ((k : ℕ) → k < n → f (a + k) ≡ g (b + k)) → flat_map f (range_with_len a n) ≡ flat_map g (range_with_len b n)
rows_same f g a b zero each = refl
rows_same f g a b (suc n) each =
    let first : a ≡ a + 0 = omega arith in
    let second : b ≡ b + 0 = omega arith in
    ap₂ (λ xs ys. xs ++ ys) (ap f first ∙ each 0 (omega arith) ∙ ap g (sym second))
    (rows_same f g (a + 1) (b + 1) n
    (λ k small. let next : a + 1 + k ≡ a + suc k = omega arith in
    let after : b + 1 + k ≡ b + suc k = omega arith in
    ap f next ∙ each (suc k) (omega (arith, small)) ∙ ap g (sym after)))

pub range_joined : (a n m : ℕ) → range_with_len a n ++ range_with_len (a + n) m ≡ range_with_len a (n + m)
range_joined a zero m =
    let first : a + 0 ≡ a = omega arith in
    let size : zero + m ≡ m = omega arith in
    ap (λ b. range_with_len b m) first ∙ ap (range_with_len a) (sym size)
range_joined a (suc n) m =
    let next : a + suc n ≡ a + 1 + n = omega arith in
    let size : suc n + m ≡ suc (n + m) = omega arith in
    ap (λ b. a ∷ (range_with_len (a + 1) n ++ range_with_len b m)) next
    ∙ ap (λ ks. a ∷ ks) (range_joined (a + 1) n m)
    ∙ ap (range_with_len a) (sym size)

-- ---- some rows, of which the points of each column were taken

-- ---- the order by columns as that by rows of the exchanged grid

pub exchanged_rows : (s : Scanning) (ni nj : ℕ) (points : List Point) → s.by_columns ≡ true
    → rescanned_points (scanning_of 0x20) ni nj (rescanned_points (exchanged s) nj ni points) ≡ rescanned_points s ni nj points
exchanged_rows s ni nj points columns =
    let turned_points = rescanned_points (exchanged s) nj ni points in
    rows_same (row_of (scanning_of 0x20) ni nj turned_points 0 ni) (row_of s ni nj points 0 ni) 0 0 nj
    (λ j few. row_same (λ i. point turned_points (point_at (scanning_of 0x20) ni nj i (0 + j))) (λ i. point points (point_at s ni nj i (0 + j))) 0 ni
    (λ i small. let column : i ≡ 0 + i = omega arith in
    let row : j ≡ 0 + j = omega arith in
    let at : (0 + i) * nj + (0 + j) ≡ i * nj + j = omega arith in
    let place : point_at (exchanged s) nj ni j i ≡ point_at s ni nj i j = rw columns refl in
    ap (point turned_points) at
    ∙ rescanned_at (exchanged s) nj ni points j i few small
    ∙ ap (point points) place
    ∙ ap₂ (λ k l. point points (point_at s ni nj k l)) column row))

-- ---- columns that go the same way as rows, in their order from the north once they are made

abbrev pub by_rows : Scanning → Scanning
by_rows s = record { westward = s.westward; northward = s.northward; by_columns = false; alternates = s.alternates }

pub rows_of_columns : (s : Scanning) (ni nj : ℕ) (points : List Point) → s.by_columns ≡ true → s.alternates ≡ false
    → rescanned_points (by_rows s) ni nj (rescanned_points (scanning_of 0x20) ni nj points) ≡ rescanned_points s ni nj points
rows_of_columns s ni nj points columns one_way =
    let made = rescanned_points (scanning_of 0x20) ni nj points in
    rows_same (row_of (by_rows s) ni nj made 0 ni) (row_of s ni nj points 0 ni) 0 0 nj
    (λ j few. row_same (λ i. point made (point_at (by_rows s) ni nj i (0 + j))) (λ i. point points (point_at s ni nj i (0 + j))) 0 ni
    (λ i small. let column = turned s.westward ni (0 + i) in
    let row = turned s.northward nj (0 + j) in
    let here : point_at (by_rows s) ni nj (0 + i) (0 + j) ≡ row * ni + column = rw one_way refl in
    let there : point_at (scanning_of 0x20) ni nj column row ≡ point_at s ni nj (0 + i) (0 + j) = rw (columns, one_way) refl in
    ap (point made) here
    ∙ rescanned_at (scanning_of 0x20) ni nj points column row (turned-lt s.westward ni (0 + i) (omega (arith, small))) (turned-lt s.northward nj (0 + j) (omega (arith, few)))
    ∙ ap (point points) there))

-- ---- how many rows are done
