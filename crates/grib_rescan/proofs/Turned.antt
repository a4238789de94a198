-- Rows that are turned where they stand.
use Rattle.std.proofs.Common.{◌≡◌, ℕ, ◌+◌, ◌-◌, ◌*◌, ◌<◌, Bool, true, false, cond, List, ◌++◌, length, take, drop, reverse, get_or, refl, sym, ap, ap₂, ◌∙◌, arith, append_assoc}
use Rattle.std.specs.Bool.{beq}
use Rattle.std.specs.List.{range_with_len, flat_map}
use Rattle.std.proofs.Math.Nat.{mul_comm, add-mul}
use Rattle.std.proofs.lemmas.List.{get_or-reverse, ext_get_or, length-reverse, reverse-reverse, take_at, drop_at, drop-drop, take-append-drop}
use Rattle.grib_packing.specs.declared.column.Point.{Point}
use Rattle.grib_packing.specs.declared.column.Point.TheVariants.{Missing}
use Rattle.grib_rescan.specs.declared.scanning.Scanning.{Scanning}
use Rattle.grib_rescan.specs.Points.{row_of}
use Rattle.grib_rescan.proofs.Rows.{rows_more}
use Rattle.grib_rescan.proofs.Runs.{IsRead, run_at, length_run, read_forwards, read_backwards}

-- a run of points that stand the last first
run_reversed : (points : List Point) (start n at : ℕ) → start + n + at ≡ length points → take n (drop start (reverse points)) ≡ reverse (take n (drop at points))
run_reversed points start n at is =
    let all = reverse points in
    let run = take n (drop at points) in
    let full : length all ≡ length points = length-reverse points in
    let size : length run ≡ n = length_run points at n (omega (arith, is)) in
    let turned_size : length (take n (drop start all)) ≡ n = length_run all start n (omega (arith, is, full)) in
    ext_get_or Missing (take n (drop start all)) (reverse run) (turned_size ∙ sym size ∙ sym (length-reverse run))
    (λ k small. let few : k < n = omega (arith, small, turned_size) in
    let same : length points - 1 - (start + k) ≡ at + (n - 1 - k) = omega (arith, is, few) in
    run_at all (λ i. i) start 0 n k (omega (arith, is, full)) few
    ∙ get_or-reverse points (start + k) Missing (omega (arith, is, few))
    ∙ ap (λ i. get_or points i Missing) same
    ∙ sym (run_at points (λ i. i) at 0 n (n - 1 - k) (omega (arith, is)) (omega (arith, few)))
    ∙ ap (λ m. get_or run (m - 1 - k) Missing) (sym size)
    ∙ sym (get_or-reverse run k Missing (omega (arith, size, few))))

-- the rows after row j, row j and those before it are all points
rows_around : (ni nj j row size : ℕ) → row ≡ nj - 1 - j → j < nj → size ≡ ni * nj → j * ni + ni + row * ni ≡ size
rows_around ni nj j row size is small whole =
    let all : j + 1 + row ≡ nj = omega (arith, is, small) in
    let parts : (j + 1 + row) * ni ≡ (j + 1) * ni + row * ni = add-mul (j + 1) row ni in
    let product : (j + 1 + row) * ni ≡ nj * ni = ap (λ m. m * ni) all in
    omega (arith, parts, product, whole, mul_comm nj ni)

-- Row j of the points, all of which stand the last first where rows go northward: it is turned or not.
module _ (s : Scanning) (ni nj : ℕ) (points old : List Point) (j row : ℕ) (turns : Bool)
    (old_is : old ≡ cond s.northward (reverse points) points) (read : IsRead s ni nj old j row turns) where
  run_northward : s.northward ≡ true → take ni (drop (j * ni) points) ≡ reverse (take ni (drop (row * ni) old))
  run_northward north =
      let was : old ≡ reverse points = old_is ∙ rw north refl in
      let is : points ≡ reverse old = sym (ap reverse was ∙ reverse-reverse points) in
      let place : row ≡ nj - 1 - j = read.row_stands ∙ rw north refl in
      ap (λ xs. take ni (drop (j * ni) xs)) is
      ∙ run_reversed old (j * ni) ni (row * ni) (rows_around ni nj j row (length old) place read.within read.size)

  run_southward : s.northward ≡ false → take ni (drop (j * ni) points) ≡ take ni (drop (row * ni) old)
  run_southward south =
      let was : old ≡ points = old_is ∙ rw south refl in
      let place : row ≡ j = read.row_stands ∙ rw south refl in
      ap₂ (λ r xs. take ni (drop (r * ni) xs)) (sym place) (sym was)

  go : (up same : Bool) → s.northward ≡ up → beq turns s.westward ≡ same
      → cond (beq same up) (reverse (take ni (drop (j * ni) points))) (take ni (drop (j * ni) points)) ≡ row_of s ni nj old 0 ni j
  go true true north same = ap reverse (run_northward north) ∙ reverse-reverse _ ∙ read_forwards s ni nj old j row turns read same
  go true false north differ = run_northward north ∙ read_backwards s ni nj old j row turns read differ
  go false true south same = run_southward south ∙ read_forwards s ni nj old j row turns read same
  go false false south differ = ap reverse (run_southward south) ∙ read_backwards s ni nj old j row turns read differ

  pub row_in_place : cond (beq (beq turns s.westward) s.northward) (reverse (take ni (drop (j * ni) points))) (take ni (drop (j * ni) points)) ≡ row_of s ni nj old 0 ni j
  row_in_place = go s.northward (beq turns s.westward) refl refl

-- ---- one row more that is in place

pub row_placed : (f : ℕ → List Point) (ni row : ℕ) (points after run : List Point) → run ≡ f row
    → after ≡ flat_map f (range_with_len 0 row) ++ (run ++ drop ni (drop (row * ni) points))
    → after ≡ flat_map f (range_with_len 0 (row + 1)) ++ drop ((row + 1) * ni) points
row_placed f ni row points after run is made =
    let done = flat_map f (range_with_len 0 row) in
    let next : row * ni + ni ≡ (row + 1) * ni = omega arith in
    let same : f row ≡ f (0 + row) = ap f (omega arith) in
    made
    ∙ sym (append_assoc done run (drop ni (drop (row * ni) points)))
    ∙ ap₂ (λ xs ys. xs ++ ys) (rows_more f 0 row (row + 1) refl done (done ++ run) run refl (is ∙ same) refl)
    (drop-drop ni (row * ni) points ∙ ap (λ n. drop n points) next)

-- a row that is turned, or that stays
pub after_turn : (points done now : List Point) (start end n : ℕ) → now ≡ done ++ drop start points → length done ≡ start → end ≡ start + n
    → take start now ++ (reverse (take (end - start) (drop start now)) ++ drop (end - start) (drop start now))
    ≡ done ++ (reverse (take n (drop start points)) ++ drop n (drop start points))
after_turn points done now start end n is size ends =
    let count : end - start ≡ n = omega (arith, ends) in
    let before : take start now ≡ done = ap (take start) is ∙ take_at done (drop start points) start size in
    let later : drop start now ≡ drop start points = ap (drop start) is ∙ drop_at done (drop start points) start size in
    rw (count, before, later) refl

pub after_none : (points done now : List Point) (start n : ℕ) → now ≡ done ++ drop start points
    → now ≡ done ++ (take n (drop start points) ++ drop n (drop start points))
after_none points done now start n is = is ∙ ap (λ xs. done ++ xs) (sym (take-append-drop n (drop start points)))

pub old_size : (up : Bool) (points : List Point) → length (cond up (reverse points) points) ≡ length points
old_size true points = length-reverse points
old_size false points = refl
