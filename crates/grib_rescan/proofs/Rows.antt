-- Rows that follow one another.
use Rattle.std.proofs.Common.{◌≡◌, ℕ, zero, suc, ◌+◌, ◌-◌, ◌*◌, ◌/◌, ◌%◌, ◌<◌, List, [], ◌∷◌, ◌++◌, length, get_or, refl, sym, ap, ap₂, ◌∙◌, arith, length-append}
use Rattle.std.specs.List.{range_with_len, flat_map}
use Rattle.std.proofs.lemmas.List.{get_or_append_left, get_or-append_right, flat_map_more}
use Rattle.std.proofs.lemmas.List.FromFn.{length-map-range_with_len, get_or-map-range_with_len}
use Rattle.std.proofs.Math.Nat.{mul_comm}
use Rattle.std.proofs.lemmas.Nat.{div-add-mod'}
use Rattle.grib_packing.specs.declared.column.Point.{Point}
use Rattle.grib_packing.specs.declared.column.Point.TheVariants.{Missing}
use Rattle.grib_rescan.specs.declared.scanning.Scanning.{Scanning}
use Rattle.grib_rescan.specs.Scanning.{Place, scanning_of, place, point_at}
use Rattle.grib_rescan.specs.Points.{point, row_of, box_row_of, rescanned_points}
use Rattle.grib_rescan.proofs.Turns.{is_in, point_at-place}

range_more : (a n : ℕ) → range_with_len a (suc n) ≡ range_with_len a n ++ (a + n) ∷ []
range_more a zero = ap (λ k. k ∷ []) (omega arith)
range_more a (suc n) = ap (λ ks. a ∷ ks) (range_more (a + 1) n ∙ ap (λ k. range_with_len (a + 1) n ++ k ∷ []) (omega arith))

pub rows_more : (f : ℕ → List Point) (a n m : ℕ) → m ≡ n + 1 → (before after row : List Point) → before ≡ flat_map f (range_with_len a n) → row ≡ f (a + n)
    → after ≡ before ++ row → after ≡ flat_map f (range_with_len a m)
rows_more f a n m more before after row so_far is added =
    let next : suc n ≡ m = omega (arith, more) in
    added ∙ ap (λ xs. xs ++ row) so_far ∙ ap (λ xs. flat_map f (range_with_len a n) ++ xs) is
    ∙ flat_map_more f [] (range_with_len a n) (a + n)
    ∙ ap (flat_map f) (sym (range_more a n)) ∙ ap (λ k. flat_map f (range_with_len a k)) next

length_rows : (f : ℕ → List Point) (w a h : ℕ) → ((j : ℕ) → length (f j) ≡ w) → length (flat_map f (range_with_len a h)) ≡ h * w
length_rows f w a zero each = omega arith
length_rows f w a (suc h) each = omega (arith, length-append (f a) (flat_map f (range_with_len (a + 1) h)), each a, length_rows f w (a + 1) h each)

rows_at : (f : ℕ → List Point) (w a h i j : ℕ) → ((j : ℕ) → length (f j) ≡ w) → i < w → j < h
    → get_or (flat_map f (range_with_len a h)) (j * w + i) Missing ≡ get_or (f (a + j)) i Missing
rows_at f w a zero i j each small few = absurd (omega (arith, few))
rows_at f w a (suc h) i zero each small few =
    let at : zero * w + i ≡ i = omega arith in
    let first : a ≡ a + 0 = omega arith in
    ap (λ k. get_or (f a ++ flat_map f (range_with_len (a + 1) h)) k Missing) at
    ∙ get_or_append_left (f a) _ Missing i (omega (arith, each a, small))
    ∙ ap (λ k. get_or (f k) i Missing) first
rows_at f w a (suc h) i (suc j) each small few =
    let at : suc j * w + i - w ≡ j * w + i = omega arith in
    let next : a + 1 + j ≡ a + suc j = omega arith in
    get_or-append_right (f a) (flat_map f (range_with_len (a + 1) h)) w (suc j * w + i) Missing (each a) (omega arith)
    ∙ ap (λ k. get_or (flat_map f (range_with_len (a + 1) h)) k Missing) at
    ∙ rows_at f w (a + 1) h i j each small (omega (arith, few))
    ∙ ap (λ k. get_or (f k) i Missing) next

-- ---- entry by entry

length_row : (s : Scanning) (ni nj : ℕ) (points : List Point) (i n j : ℕ) → length (row_of s ni nj points i n j) ≡ n
length_row s ni nj points i n j = length-map-range_with_len (λ i. point points (point_at s ni nj i j)) i n

part_at : (s : Scanning) (ni nj : ℕ) (points : List Point) (i0 w j0 h i j : ℕ) → i < w → j < h
    → point (flat_map (row_of s ni nj points i0 w) (range_with_len j0 h)) (j * w + i) ≡ point points (point_at s ni nj (i0 + i) (j0 + j))
part_at s ni nj points i0 w j0 h i j small few =
    rows_at (row_of s ni nj points i0 w) w j0 h i j (length_row s ni nj points i0 w) small few
    ∙ get_or-map-range_with_len (λ i. point points (point_at s ni nj i (j0 + j))) i0 w i (i0 + i) Missing small refl

pub part_length : (s : Scanning) (ni nj : ℕ) (points : List Point) (i0 w j0 h : ℕ) → length (flat_map (row_of s ni nj points i0 w) (range_with_len j0 h)) ≡ h * w
part_length s ni nj points i0 w j0 h = length_rows (row_of s ni nj points i0 w) w j0 h (length_row s ni nj points i0 w)

pub rescanned_at : (s : Scanning) (ni nj : ℕ) (points : List Point) (i j : ℕ) → i < ni → j < nj
    → point (rescanned_points s ni nj points) (j * ni + i) ≡ point points (point_at s ni nj i j)
rescanned_at s ni nj points i j small few =
    let column : 0 + i ≡ i = omega arith in
    let row : 0 + j ≡ j = omega arith in
    part_at s ni nj points 0 ni 0 nj i j small few ∙ ap₂ (λ k l. point points (point_at s ni nj k l)) column row

-- the new entry n is the old entry m of its place
pub rescanned_entry : (s : Scanning) (ni nj : ℕ) (points : List Point) (n m : ℕ) → n < ni * nj → m < ni * nj
    → place (scanning_of 0) ni nj n ≡ place s ni nj m → point (rescanned_points s ni nj points) n ≡ point points m
rescanned_entry s ni nj points n m small few same =
    let in_it = is_in ni nj n small in
    ap (point (rescanned_points s ni nj points)) (sym (div-add-mod' n ni))
    ∙ rescanned_at s ni nj points (n % ni) (n / ni) in_it.column in_it.row
    ∙ ap (λ (at : Place). point points (point_at s ni nj at.column at.row)) same
    ∙ ap (point points) (point_at-place s ni nj m few)

pub rescanned_length : (s : Scanning) (ni nj : ℕ) (points : List Point) → length (rescanned_points s ni nj points) ≡ ni * nj
rescanned_length s ni nj points = part_length s ni nj points 0 ni 0 nj ∙ mul_comm nj ni

-- ---- of a box

length_box_row : (ni nj : ℕ) (points : List Point) (i n j : ℕ) → length (box_row_of ni nj points i n j) ≡ n
length_box_row ni nj points i n j = length-map-range_with_len (λ i. point points (point_at (scanning_of 0) ni nj (i % ni) j)) i n

pub box_at : (ni nj : ℕ) (points : List Point) (i0 w j0 h i j : ℕ) → i < w → j < h
    → point (flat_map (box_row_of ni nj points i0 w) (range_with_len j0 h)) (j * w + i) ≡ point points (point_at (scanning_of 0) ni nj ((i0 + i) % ni) (j0 + j))
box_at ni nj points i0 w j0 h i j small few =
    rows_at (box_row_of ni nj points i0 w) w j0 h i j (length_box_row ni nj points i0 w) small few
    ∙ get_or-map-range_with_len (λ i. point points (point_at (scanning_of 0) ni nj (i % ni) (j0 + j))) i0 w i (i0 + i) Missing small refl

pub box_length : (ni nj : ℕ) (points : List Point) (i0 w j0 h : ℕ) → length (flat_map (box_row_of ni nj points i0 w) (range_with_len j0 h)) ≡ h * w
box_length ni nj points i0 w j0 h = length_rows (box_row_of ni nj points i0 w) w j0 h (length_box_row ni nj points i0 w)
