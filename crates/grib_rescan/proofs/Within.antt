-- The box that lies within bounds.
use Rattle.std.proofs.Common.{◌≡◌, ℕ, ℤ, ◌+◌, ◌-◌, ◌*◌, ◌/◌, ◌%◌, ◌<◌, ◌≤◌, ◌&&◌, nat_le, inl, inr, Bool, true, false, cond, Option, Some, None, is_none, List, refl, sym, ap, ◌∙◌, subst, arith}
use Rattle.std.proofs.Math.Nat.{mod-lt, mod-eq_of_lt, add-mod_right, mod-add-mod, add-mul, mul_assoc, add-mul-mod_self_right}
use Rattle.std.proofs.lemmas.Nat.{div-add-mod'}
use Rattle.std.proofs.lemmas.Bool.{cases_Bool, eqb-true, leb-true, leb-false, le-leb, and_from}
use Rattle.grib_bits.specs.Octets.{octets}
use Rattle.grib_bits.proofs.Logic.{left_true, right_true}
use Rattle.grib_rescan.specs.declared.points.Area.{Area}
use Rattle.grib_rescan.specs.declared.places.Run.{Run}
use Rattle.grib_rescan.specs.declared.bounds.Bounds.{Bounds}
use Rattle.grib_rescan.specs.declared.bounds.Bounds.TheVariants.{Box, Nearest}
use Rattle.grib_rescan.specs.Points.{IsBox, width}
use Rattle.grib_rescan.specs.Sections.{HasPoints, longitude_at}
use Rattle.grib_rescan.specs.Bounds.{nearest, east_of, span, goes_round, in_rows, in_columns, row_distance, column_distance, first_column, rows_in, columns_in, area_of, area_in, or_first}
use Rattle.grib_rescan.specs.Places.{IsRun}
use Rattle.grib_rescan.proofs.Members.{run_is}
use Rattle.grib_rescan.proofs.Closest.{is_nearest}

-- ---- of a box, its rows and its columns

some_is : (a b : Area) → Some a ≡ Some b → a ≡ b
some_is a b is = cc

-- what a box is made of
pub record IsMade (ni first : ℕ) (rows columns : Option Run) (area : Area) : Type 0 where
  pub row_run : Run
  pub column_run : Run
  pub rows_are : rows ≡ Some row_run
  pub columns_are : columns ≡ Some column_run
  pub is : area_of ni first (Some row_run) (Some column_run) ≡ Some area

pub made_of : (ni first : ℕ) (rows columns : Option Run) (area : Area) → area_of ni first rows columns ≡ Some area → IsMade ni first rows columns area
made_of ni first (Some r) (Some c) area is = record { row_run = r; column_run = c; rows_are = refl; columns_are = refl; is = is }
made_of ni first (Some r) None area is = absurd (cc)
made_of ni first None columns area is = absurd (cc)

first_small : (b : Bool) (n k : ℕ) → 1 ≤ n → k < n → cond b k 0 < n
first_small true n k some small = small
first_small false n k some small = omega (arith, some)

pub first_column-lt : (west : ℤ) (s : List ℕ) → HasPoints s → first_column west s < octets s 31 34
first_column-lt west s grid =
    first_small (goes_round s) (octets s 31 34) (nearest (λ i. east_of west (longitude_at s i)) (octets s 31 34)) grid.columns
    (is_nearest (λ i. east_of west (longitude_at s i)) (octets s 31 34) grid.columns).within

box_made : (ni nj first : ℕ) (rows columns : Run) (held_row held_column : ℕ → Bool) (area : Area) → 1 ≤ ni → IsRun held_row nj rows → IsRun held_column ni columns
    → area_of ni first (Some rows) (Some columns) ≡ Some area → IsBox area ni nj
box_made ni nj first rows columns held_row held_column area some row column is =
    let small : (first + columns.first) % ni < ni = mod-lt (first + columns.first) some in
    subst (λ (a : Area). IsBox a ni nj) (some_is _ area is)
    (record {
      columns = omega arith;
      rows = omega arith;
      first_column = small;
      last_column = omega (arith, column.some, column.within, some);
      last_row = omega (arith, row.some, row.within);
    })

pub is_box : (bounds : Bounds) (s : List ℕ) (area : Area) → HasPoints s → area_in bounds s ≡ Some area → IsBox area (octets s 31 34) (octets s 35 38)
is_box (Box north south west east) s area grid is =
    let ni = octets s 31 34 in
    let nj = octets s 35 38 in
    let first = first_column west s in
    let made = made_of ni first (rows_in south north s) (columns_in west east first s) area is in
    box_made ni nj first made.row_run made.column_run (in_rows south north s) (λ k. in_columns west east s ((first + k) % ni)) area grid.columns
    (run_is (in_rows south north s) nj made.row_run made.rows_are)
    (run_is (λ k. in_columns west east s ((first + k) % ni)) ni made.column_run made.columns_are) made.is
is_box (Nearest latitude longitude) s area grid is =
    let ni = octets s 31 34 in
    let nj = octets s 35 38 in
    let column = is_nearest (column_distance longitude s) ni grid.columns in
    let row = is_nearest (row_distance latitude s) nj grid.rows in
    let i_small = column.within in
    let j_small = row.within in
    subst (λ (a : Area). IsBox a ni nj) (some_is _ area is)
    (record {
      columns = omega arith;
      rows = omega arith;
      first_column = i_small;
      last_column = omega (arith, grid.columns);
      last_row = j_small;
    })

-- ---- that there is one

pub found : (o : Option Area) → is_none o ≡ false → o ≡ Some (or_first o)
found (Some area) is = refl
found None is = cc

pub no_columns : (ni first : ℕ) (rows columns : Option Run) → columns ≡ None → area_of ni first rows columns ≡ None
no_columns ni first None columns none = refl
no_columns ni first (Some rows) None none = refl
no_columns ni first (Some rows) (Some columns) none = cc

-- ---- longitudes

pub same_longitude : (s : List ℕ) (i : ℕ) → goes_round s ≡ true → longitude_at s (i % octets s 31 34) ≡ longitude_at s i
same_longitude s i round =
    let ni = octets s 31 34 in
    let di = octets s 64 67 in
    let lo1 = octets s 51 54 in
    let circle : ni * di ≡ 360000000 = eqb-true (ni * di) 360000000 round in
    let all : i / ni * ni + i % ni ≡ i = div-add-mod' i ni in
    let apart : (i / ni * ni + i % ni) * di ≡ i / ni * ni * di + i % ni * di = add-mul (i / ni * ni) (i % ni) di in
    let turns : i / ni * ni * di ≡ i / ni * (ni * di) = mul_assoc (i / ni) ni di in
    let sum : lo1 + i * di ≡ lo1 + i % ni * di + i / ni * 360000000 =
    ap (λ n. lo1 + n * di) (sym all) ∙ ap (λ n. lo1 + n) (apart ∙ ap (λ n. n + i % ni * di) (turns ∙ ap (λ n. i / ni * n) circle)) ∙ omega arith in
    sym (ap (λ n. n % 360000000) sum ∙ add-mul-mod_self_right (lo1 + i % ni * di) (i / ni) 360000000)

-- ---- rows and columns by their degrees

same_bool : (a b : Bool) → (a ≡ true → b ≡ true) → (b ≡ true → a ≡ true) → a ≡ b
same_bool a b there back = elim (cases_Bool a) [
  | inl is ↦ is ∙ sym (there is)
  | inr not_a ↦ elim (cases_Bool b) [
    | inl is ↦ back is ∙ sym is
    | inr not_b ↦ not_a ∙ sym not_b
  ]
]

-- what is known of a box that is found
module _ (north south west east : ℤ) (s : List ℕ) (area : Area) (grid : HasPoints s) (is : area_in (Box north south west east) s ≡ Some area) where
  abbrev ni : ℕ
  ni = octets s 31 34

  abbrev first : ℕ
  first = first_column west s

  abbrev in_turn : ℕ → Bool
  in_turn k = in_columns west east s ((first + k) % ni)

  made : IsMade ni first (rows_in south north s) (columns_in west east first s) area
  made = made_of ni first (rows_in south north s) (columns_in west east first s) area is

  rows_run : IsRun (in_rows south north s) (octets s 35 38) (made.row_run)
  rows_run = run_is (in_rows south north s) (octets s 35 38) made.row_run made.rows_are

  columns_run : IsRun in_turn ni (made.column_run)
  columns_run = run_is in_turn ni made.column_run made.columns_are

  j0_is : area.j0 ≡ made.row_run.first
  j0_is = sym (ap (λ (a : Area). a.j0) (some_is _ area made.is))

  j1_is : area.j1 ≡ made.row_run.first + (made.row_run.count - 1)
  j1_is = sym (ap (λ (a : Area). a.j1) (some_is _ area made.is))

  i0_is : area.i0 ≡ (first + made.column_run.first) % ni
  i0_is = sym (ap (λ (a : Area). a.i0) (some_is _ area made.is))

  i1_is : area.i1 ≡ (first + made.column_run.first) % ni + (made.column_run.count - 1)
  i1_is = sym (ap (λ (a : Area). a.i1) (some_is _ area made.is))

  width_is : width area ≡ made.column_run.count
  width_is = omega (arith, i0_is, i1_is, columns_run.some)

  pub rows_within : (j : ℕ) → j < octets s 35 38 → (nat_le area.j0 j && nat_le j area.j1) ≡ in_rows south north s j
  rows_within j small =
      same_bool _ _
      (λ lies. let low = leb-true area.j0 j (left_true _ _ lies) in
      let high = leb-true j area.j1 (right_true _ _ lies) in
      rows_run.inside j (omega (arith, low, j0_is)) (omega (arith, high, j1_is, rows_run.some)))
      (λ holds. let at = rows_run.all j small holds in
      let low = at.0 in
      let high = at.1 in
      and_from _ _ (le-leb area.j0 j (omega (arith, low, j0_is))) (le-leb j area.j1 (omega (arith, high, j1_is))))

  -- a column of the box is that of the run
  column_is : (k : ℕ) → (area.i0 + k) % ni ≡ (first + (made.column_run.first + k)) % ni
  column_is k =
      ap (λ n. (n + k) % ni) i0_is ∙ mod-add-mod (first + made.column_run.first) ni k ∙ ap (λ n. n % ni) (omega arith)

  pub columns_within : (k : ℕ) → k < width area → in_columns west east s ((area.i0 + k) % ni) ≡ true
  columns_within k small =
      ap (in_columns west east s) (column_is k)
      ∙ columns_run.inside (made.column_run.first + k) (omega arith) (omega (arith, small, width_is))

  -- each column comes in its turn
  turn_of : (i : ℕ) → i < ni → (k : ℕ) × (k < ni) × ((first + k) % ni ≡ i)
  turn_of i small =
      let low = first_column-lt west s grid in
      elim (cases_Bool (nat_le first i)) [
        | inl later ↦
            let h = leb-true first i later in
            (i - first, omega (arith, small), ap (λ n. n % ni) (omega (arith, h)) ∙ mod-eq_of_lt small)
        | inr before ↦
            let h = leb-false first i before in
            (i + ni - first, omega (arith, h), ap (λ n. n % ni) (omega (arith, low)) ∙ add-mod_right i ni ∙ mod-eq_of_lt small)
      ]

  pub each_column : (i : ℕ) → i < ni → in_columns west east s i ≡ true → (k : ℕ) × (k < width area) × ((area.i0 + k) % ni ≡ i)
  each_column i small holds =
      let turn = turn_of i small in
      let at = columns_run.all turn.0 turn.1 (ap (in_columns west east s) turn.2 ∙ holds) in
      let low = at.0 in
      let high = at.1 in (
        turn.0 - made.column_run.first,
        omega (arith, low, high, width_is),
        column_is (turn.0 - made.column_run.first) ∙ ap (λ n. (first + n) % ni) (omega (arith, low)) ∙ turn.2,
      )

  -- the first column in its turn is the nearest one eastward
  pub nearest_west : goes_round s ≡ true → (i : ℕ) → i < ni → east_of west (longitude_at s area.i0) ≤ east_of west (longitude_at s i)
  nearest_west round i small =
      let distance = λ (k : ℕ). east_of west (longitude_at s k) in
      let least = is_nearest distance ni grid.columns in
      let first_is : first ≡ nearest distance ni = ap (λ b. cond b (nearest distance ni) 0) round in
      let low = first_column-lt west s grid in
      let here : (first + 0) % ni ≡ first = ap (λ n. n % ni) (omega arith) ∙ mod-eq_of_lt low in
      let one = columns_within 0 (omega (arith, width_is, columns_run.some)) in
      let i0_small : (area.i0 + 0) % ni < ni = mod-lt (area.i0 + 0) grid.columns in
      let lies = leb-true _ _ one in
      let nearer : distance first ≤ distance ((area.i0 + 0) % ni) = subst (λ (n : ℕ). distance n ≤ distance ((area.i0 + 0) % ni)) (sym first_is) (least.least ((area.i0 + 0) % ni) i0_small) in
      let holds : in_turn 0 ≡ true = ap (in_columns west east s) here ∙ le-leb (distance first) (span west east) (omega (arith, nearer, lies)) in
      let at = columns_run.all 0 (omega (arith, grid.columns)) holds in
      let none = at.0 in
      let i0_first : area.i0 ≡ nearest distance ni = i0_is ∙ ap (λ n. (first + n) % ni) (omega (arith, none)) ∙ here ∙ first_is in
      subst (λ (n : ℕ). distance n ≤ distance i) (sym i0_first) (least.least i small)

  pub no_farther : goes_round s ≡ false → area.i1 < ni
  no_farther round =
      let first_is : first ≡ 0 = ap (λ b. cond b (nearest (λ k. east_of west (longitude_at s k)) ni) 0) round in
      let few : made.column_run.first < ni = omega (arith, columns_run.some, columns_run.within) in
      let i0_first : area.i0 ≡ made.column_run.first = i0_is ∙ ap (λ n. n % ni) (omega (arith, first_is)) ∙ mod-eq_of_lt few in
      omega (arith, i0_first, width_is, columns_run.some, columns_run.within, i0_is, i1_is)
