-- Rows as runs of the points.
use Rattle.std.proofs.Common.{◌≡◌, ℕ, ◌+◌, ◌-◌, ◌*◌, ◌%◌, ◌<◌, ◌≤◌, min, Bool, true, false, ◌&&◌, List, ◌++◌, length, take, drop, map, reverse, get_or, refl, sym, ap, ap₂, ◌∙◌, arith, length-take, length-drop}
use Rattle.std.proofs.Math.Nat.{mul_comm, mul-le-mul_right, mod-eq_of_lt, add-mod_right}
use Rattle.std.specs.Bool.{beq}
use Rattle.std.specs.List.{range_with_len}
use Rattle.std.proofs.lemmas.List.{get_or-drop, get_or-take, get_or-reverse, ext_get_or, length-reverse, map-append}
use Rattle.std.proofs.lemmas.List.FromFn.{length-map-range_with_len, get_or-map-range_with_len}
use Rattle.grib_bits.proofs.Arithmetic.{range_append}
use Rattle.grib_packing.specs.declared.column.Point.{Point}
use Rattle.grib_packing.specs.declared.column.Point.TheVariants.{Missing}
use Rattle.grib_rescan.specs.declared.scanning.Scanning.{Scanning}
use Rattle.grib_rescan.specs.Scanning.{is_odd, turned, scanning_of, point_at}
use Rattle.grib_rescan.specs.Points.{point, row_of, box_row_of}
use Rattle.grib_rescan.proofs.Turns.{turned-lt, turned_both, turned_one}

-- the points from `start` on, by a function that gives each its number
pub run_at : (points : List Point) (f : ℕ → ℕ) (start a n k : ℕ) → start + n ≤ length points → k < n → get_or (take n (drop start points)) k Missing ≡ get_or points (start + k) Missing
run_at points f start a n k within small = get_or-take n (drop start points) k Missing small ∙ get_or-drop start points k Missing

pub length_run : (points : List Point) (start n : ℕ) → start + n ≤ length points → length (take n (drop start points)) ≡ n
length_run points start n within = omega (arith, length-take n (drop start points), length-drop start points)

pub row_forwards : (points : List Point) (f : ℕ → ℕ) (start a n : ℕ) → start + n ≤ length points → ((k : ℕ) → k < n → f (a + k) ≡ start + k)
    → take n (drop start points) ≡ map (λ i. point points (f i)) (range_with_len a n)
row_forwards points f start a n within numbers =
    ext_get_or Missing (take n (drop start points)) (map (λ i. point points (f i)) (range_with_len a n))
    (length_run points start n within ∙ sym (length-map-range_with_len (λ i. point points (f i)) a n))
    (λ k small. let few : k < n = omega (arith, length_run points start n within) in
    run_at points f start a n k within few
    ∙ ap (λ at. get_or points at Missing) (sym (numbers k few))
    ∙ sym (get_or-map-range_with_len (λ i. point points (f i)) a n k (a + k) Missing few refl))

pub row_backwards : (points : List Point) (f : ℕ → ℕ) (start n : ℕ) → start + n ≤ length points → ((k : ℕ) → k < n → f k ≡ start + (n - 1 - k))
    → reverse (take n (drop start points)) ≡ map (λ i. point points (f i)) (range_with_len 0 n)
row_backwards points f start n within numbers =
    let run = take n (drop start points) in
    let size = length_run points start n within in
    ext_get_or Missing (reverse run) (map (λ i. point points (f i)) (range_with_len 0 n))
    (length-reverse run ∙ size ∙ sym (length-map-range_with_len (λ i. point points (f i)) 0 n))
    (λ k small. let few : k < n = omega (arith, size, length-reverse run) in
    get_or-reverse run k Missing (omega (arith, size, few))
    ∙ ap (λ m. get_or run (m - 1 - k) Missing) size
    ∙ run_at points f start 0 n (n - 1 - k) within (omega (arith, few))
    ∙ ap (λ at. get_or points at Missing) (sym (numbers k few))
    ∙ sym (get_or-map-range_with_len (λ i. point points (f i)) 0 n k k Missing few (omega arith)))

-- ---- a row that is a run

point_in_row : (s : Scanning) (ni nj i j : ℕ) → s.by_columns ≡ false
    → let row = turned s.northward nj j in point_at s ni nj i j ≡ row * ni + turned (s.alternates && is_odd row) ni (turned s.westward ni i)
point_in_row s ni nj i j rows = rw rows refl

-- what is known of a row that is read: which it is, whether it is turned, and that it stands
pub record IsRead (s : Scanning) (ni nj : ℕ) (points : List Point) (j row : ℕ) (turns : Bool) : Type 0 where
  pub rows : s.by_columns ≡ false
  pub size : length points ≡ ni * nj
  pub within : j < nj
  pub row_stands : row ≡ turned s.northward nj j
  pub turns_stand : turns ≡ (s.alternates && is_odd row)

pub row_within : (ni nj row size : ℕ) → row < nj → size ≡ ni * nj → row * ni + ni ≤ size
row_within ni nj row size small is =
    let h : (row + 1) * ni ≤ nj * ni = mul-le-mul_right ni (omega (arith, small)) in
    omega (arith, h, is, mul_comm ni nj)

number_of : (s : Scanning) (ni nj : ℕ) (points : List Point) (j row : ℕ) (turns : Bool) (k at : ℕ) → IsRead s ni nj points j row turns
    → turned turns ni (turned s.westward ni k) ≡ at → point_at s ni nj k j ≡ row * ni + at
number_of s ni nj points j row turns k at read is =
    point_in_row s ni nj k j read.rows
    ∙ ap (λ r. r * ni + turned (s.alternates && is_odd r) ni (turned s.westward ni k)) (sym read.row_stands)
    ∙ ap (λ t. row * ni + turned t ni (turned s.westward ni k)) (sym read.turns_stand)
    ∙ ap (λ n. row * ni + n) is

row_stands_in : (s : Scanning) (ni nj : ℕ) (points : List Point) (j row : ℕ) (turns : Bool) → IsRead s ni nj points j row turns → row * ni + ni ≤ length points
row_stands_in s ni nj points j row turns read =
    let lt = turned-lt s.northward nj j read.within in
    row_within ni nj row (length points) (omega (arith, read.row_stands, lt)) read.size

pub read_forwards : (s : Scanning) (ni nj : ℕ) (points : List Point) (j row : ℕ) (turns : Bool) → IsRead s ni nj points j row turns → beq turns s.westward ≡ true
    → take ni (drop (row * ni) points) ≡ row_of s ni nj points 0 ni j
read_forwards s ni nj points j row turns read same =
    row_forwards points (λ i. point_at s ni nj i j) (row * ni) 0 ni (row_stands_in s ni nj points j row turns read)
    (λ k small. ap (λ n. point_at s ni nj n j) (omega arith)
    ∙ number_of s ni nj points j row turns k k read (turned_both turns s.westward ni k small same))

pub read_backwards : (s : Scanning) (ni nj : ℕ) (points : List Point) (j row : ℕ) (turns : Bool) → IsRead s ni nj points j row turns → beq turns s.westward ≡ false
    → reverse (take ni (drop (row * ni) points)) ≡ row_of s ni nj points 0 ni j
read_backwards s ni nj points j row turns read differ =
    row_backwards points (λ i. point_at s ni nj i j) (row * ni) ni (row_stands_in s ni nj points j row turns read)
    (λ k small. number_of s ni nj points j row turns k (ni - 1 - k) read (turned_one turns s.westward ni k differ))

-- ---- a row of a box

-- the number in its row of a point of the first part, and of one of the part behind the last column
within_row : (ni i k : ℕ) → i + k < ni → (i + k) % ni ≡ i + k
within_row ni i k small = mod-eq_of_lt small

behind_last : (ni i k : ℕ) → i ≡ ni → k < ni → (i + k) % ni ≡ k
behind_last ni i k last small = ap (λ m. m % ni) (omega (arith, last)) ∙ add-mod_right k ni ∙ mod-eq_of_lt small

-- n points from column i on, those up to the last column and the others from the first on
pub box_row : (ni nj : ℕ) (points : List Point) (i n j : ℕ) → length points ≡ ni * nj → j < nj → i < ni → n ≤ ni → (first others : ℕ) → first ≡ min n (ni - i) → others ≡ n - first
    → take first (drop (j * ni + i) points) ++ take others (drop (j * ni) points) ≡ box_row_of ni nj points i n j
box_row ni nj points i n j size small within few first others first_is others_is =
    let h = row_within ni nj j (length points) small size in
    let number = λ (i : ℕ). point_at (scanning_of 0) ni nj (i % ni) j in
    let told = λ (i : ℕ). point points (number i) in
    let all : first + others ≡ n = omega (arith, first_is, others_is) in
    let up_to : i + first ≤ ni = omega (arith, first_is, within) in
    let east = row_forwards points number (j * ni + i) i first (omega (arith, h, up_to))
    (λ k less. ap (λ m. j * ni + m) (within_row ni i k (omega (arith, less, up_to))) ∙ omega arith) in
    let west = row_forwards points number (j * ni) (i + first) others (omega (arith, h, others_is, few))
    (λ k less. ap (λ m. j * ni + m) (behind_last ni (i + first) k (omega (arith, less, first_is, others_is, within)) (omega (arith, less, others_is, few)))) in
    ap₂ (λ xs ys. xs ++ ys) east west
    ∙ sym (map-append told (range_with_len i first) (range_with_len (i + first) others))
    ∙ ap (map told) (sym (range_append i first others) ∙ ap (range_with_len i) all)
