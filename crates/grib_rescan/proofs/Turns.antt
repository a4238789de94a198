-- Places that are counted from the other end, and the two ways between places and points.
use Rattle.std.proofs.Common.{◌≡◌, ℕ, zero, suc, ◌+◌, ◌-◌, ◌*◌, ◌/◌, ◌%◌, ◌<◌, Bool, true, false, ◌&&◌, refl, ap, ◌∙◌, arith}
use Rattle.std.proofs.Math.Nat.{mul_comm, mod-lt, div-lt_iff_lt-mul}
use Rattle.std.proofs.lemmas.Nat.{mul-add-lt, div-mul-add, mod-mul-add, div-add-mod'}
use Rattle.std.specs.Bool.{beq}
use Rattle.grib_rescan.specs.declared.scanning.Scanning.{Scanning}
use Rattle.grib_rescan.specs.Scanning.{Place, is_odd, turned, place, point_at}

pub turned-lt : (b : Bool) (count k : ℕ) → k < count → turned b count k < count
turned-lt true count k small = omega arith
turned-lt false count k small = small

pub turned_twice : (b : Bool) (count k : ℕ) → k < count → turned b count (turned b count k) ≡ k
turned_twice true count k small = omega arith
turned_twice false count k small = refl

-- turned by two flags, which are the same or not
pub turned_both : (b c : Bool) (count k : ℕ) → k < count → beq b c ≡ true → turned b count (turned c count k) ≡ k
turned_both true true count k small same = omega arith
turned_both true false count k small same = cc
turned_both false true count k small same = cc
turned_both false false count k small same = refl

pub turned_one : (b c : Bool) (count k : ℕ) → beq b c ≡ false → turned b count (turned c count k) ≡ count - 1 - k
turned_one true true count k differ = cc
turned_one true false count k differ = refl
turned_one false true count k differ = refl
turned_one false false count k differ = cc

point-lt : (w up b al : Bool) (ni nj i j : ℕ) → i < ni → j < nj
    → point_at (record { westward = w; northward = up; by_columns = b; alternates = al }) ni nj i j < ni * nj
point-lt w up false al ni nj i j small_i small_j =
    let row = turned up nj j in
    let column = turned w ni i in
    let h = mul-add-lt row ni (turned (al && is_odd row) ni column) nj (turned-lt up nj j small_j) (turned-lt (al && is_odd row) ni column (turned-lt w ni i small_i)) in
    h
point-lt w up true al ni nj i j small_i small_j =
    let row = turned up nj j in
    let column = turned w ni i in
    let h = mul-add-lt column nj (turned (al && is_odd column) nj row) ni (turned-lt w ni i small_i) (turned-lt (al && is_odd column) nj row (turned-lt up nj j small_j)) in
    omega (arith, h, mul_comm ni nj)

pub point_at-lt : (scanning : Scanning) (ni nj i j : ℕ) → i < ni → j < nj → point_at scanning ni nj i j < ni * nj
point_at-lt s ni nj i j small_i small_j = point-lt s.westward s.northward s.by_columns s.alternates ni nj i j small_i small_j

same_place : (i k j l : ℕ) → i ≡ k → j ≡ l → let at : Place = record { column = i; row = j } in at ≡ record { column = k; row = l }
same_place i k j l columns rows = rw (columns, rows) refl

place-point : (w up b al : Bool) (ni nj i j : ℕ) → i < ni → j < nj
    → let s : Scanning = record { westward = w; northward = up; by_columns = b; alternates = al } in
    place s ni nj (point_at s ni nj i j) ≡ record { column = i; row = j }
place-point w up false al ni nj i j small_i small_j =
    let row = turned up nj j in
    let column = turned w ni i in
    let within = turned (al && is_odd row) ni column in
    let small = turned-lt (al && is_odd row) ni column (turned-lt w ni i small_i) in
    let d : (row * ni + within) / ni ≡ row = div-mul-add row ni within small in
    let m : (row * ni + within) % ni ≡ within = mod-mul-add row ni within small in
    same_place _ i _ j
    (rw (d, m) (ap (turned w ni) (turned_twice (al && is_odd row) ni column (turned-lt w ni i small_i)) ∙ turned_twice w ni i small_i))
    (rw d (turned_twice up nj j small_j))
place-point w up true al ni nj i j small_i small_j =
    let row = turned up nj j in
    let column = turned w ni i in
    let within = turned (al && is_odd column) nj row in
    let small = turned-lt (al && is_odd column) nj row (turned-lt up nj j small_j) in
    let d : (column * nj + within) / nj ≡ column = div-mul-add column nj within small in
    let m : (column * nj + within) % nj ≡ within = mod-mul-add column nj within small in
    same_place _ i _ j
    (rw d (turned_twice w ni i small_i))
    (rw (d, m) (ap (turned up nj) (turned_twice (al && is_odd column) nj row (turned-lt up nj j small_j)) ∙ turned_twice up nj j small_j))

pub place-point_at : (scanning : Scanning) (ni nj i j : ℕ) → i < ni → j < nj
    → place scanning ni nj (point_at scanning ni nj i j) ≡ record { column = i; row = j }
place-point_at s ni nj i j small_i small_j = place-point s.westward s.northward s.by_columns s.alternates ni nj i j small_i small_j

-- ---- from a point to its place and back

record Within (ni nj n : ℕ) : Type 0 where
  some_columns : 0 < ni
  some_rows : 0 < nj
  column : n % ni < ni
  row : n / ni < nj
  row_within : n % nj < nj
  column_within : n / nj < ni

within : (ni nj n : ℕ) → n < ni * nj → Within ni nj n
within zero nj n small = absurd (omega (arith, small))
within (suc ni) zero n small = absurd (omega (arith, small))
within (suc ni) (suc nj) n small = record {
  some_columns = omega arith;
  some_rows = omega arith;
  column = mod-lt n (omega arith);
  row = (div-lt_iff_lt-mul {k = suc ni} {x = n} {y = suc nj} (omega arith)).1 (omega (arith, small, mul_comm (suc ni) (suc nj)));
  row_within = mod-lt n (omega arith);
  column_within = (div-lt_iff_lt-mul {k = suc nj} {x = n} {y = suc ni} (omega arith)).1 small;
}

point-place : (w up b al : Bool) (ni nj n : ℕ) → n < ni * nj
    → let s : Scanning = record { westward = w; northward = up; by_columns = b; alternates = al } in
    let at = place s ni nj n in point_at s ni nj at.column at.row ≡ n
point-place w up false al ni nj n small =
    let in_it = within ni nj n small in
    let row = n / ni in
    let t = al && is_odd row in
    let rows : turned up nj (turned up nj row) ≡ row = turned_twice up nj row in_it.row in
    let columns : turned w ni (turned w ni (turned t ni (n % ni))) ≡ turned t ni (n % ni) = turned_twice w ni _ (turned-lt t ni (n % ni) in_it.column) in
    rw (rows, columns, turned_twice t ni (n % ni) in_it.column) (div-add-mod' n ni)
point-place w up true al ni nj n small =
    let in_it = within ni nj n small in
    let column = n / nj in
    let t = al && is_odd column in
    let columns : turned w ni (turned w ni column) ≡ column = turned_twice w ni column in_it.column_within in
    let rows : turned up nj (turned up nj (turned t nj (n % nj))) ≡ turned t nj (n % nj) = turned_twice up nj _ (turned-lt t nj (n % nj) in_it.row_within) in
    rw (columns, rows, turned_twice t nj (n % nj) in_it.row_within) (div-add-mod' n nj)

pub point_at-place : (scanning : Scanning) (ni nj n : ℕ) → n < ni * nj
    → let at = place scanning ni nj n in point_at scanning ni nj at.column at.row ≡ n
point_at-place s ni nj n small = point-place s.westward s.northward s.by_columns s.alternates ni nj n small

-- the place of a point lies in the grid
pub record IsIn (ni nj n : ℕ) : Type 0 where
  pub column : n % ni < ni
  pub row : n / ni < nj

pub is_in : (ni nj n : ℕ) → n < ni * nj → IsIn ni nj n
is_in ni nj n small = let in_it = within ni nj n small in record { column = in_it.column; row = in_it.row }
