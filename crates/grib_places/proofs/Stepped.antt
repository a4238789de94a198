-- The steps of a grid, and the values at them.
use Rattle.std.proofs.Common.{◌≡◌, ℕ, ◌<◌, Bool, List, length, map, get_or, ap, sym, ◌∙◌, subst, arith}
use Rattle.std.specs.List.{range_with_len}
use Rattle.std.proofs.lemmas.List.FromFn.{get_or-map-range_with_len, length-map-range_with_len}
use Rattle.grib_bits.specs.Octets.{octets}
use Rattle.grib_rescan.specs.Scanning.{scanning_of}
use Rattle.grib_places.specs.declared.coordinate.Coordinate.{Coordinate}
use Rattle.grib_places.specs.declared.coordinate.Coordinate.TheVariants.{Latitude, Longitude}
use Rattle.grib_places.specs.declared.line.Line.{Line}
use Rattle.grib_places.specs.declared.order.StepOrder.{StepOrder}
use Rattle.grib_places.specs.Degrees.{Degrees}
use Rattle.grib_places.specs.Places.{stepped, first_of, way_of, count_of, degrees_at, point_degrees, step_in, steps_of, steps_at}
use Rattle.grib_places.specs.Steps.{steps_in}
use Rattle.grib_places.specs.Tables.{IsOrderOf, IsLineOf}

pub count_is : (order : StepOrder) (coordinate : Coordinate) (s : List ℕ) → IsOrderOf order s → steps_in coordinate order ≡ count_of coordinate s
count_is order Latitude s is = is.rows
count_is order Longitude s is = is.columns

-- the step of a point
pub step_is : (order : StepOrder) (coordinate : Coordinate) (s : List ℕ) (p : ℕ) → IsOrderOf order s
    → step_in coordinate (steps_of order.by_columns order.alternates order.columns order.rows p) ≡ step_in coordinate (steps_at s p)
step_is order coordinate s p is =
    ap (λ (b : Bool). step_in coordinate (steps_of b order.alternates order.columns order.rows p)) is.by_columns
    ∙ ap (λ (a : Bool). step_in coordinate (steps_of (scanning_of (octets s 72 72)).by_columns a order.columns order.rows p)) is.alternates
    ∙ ap (λ (n : ℕ). step_in coordinate (steps_of (scanning_of (octets s 72 72)).by_columns (scanning_of (octets s 72 72)).alternates n order.rows p)) is.columns
    ∙ ap (λ (n : ℕ). step_in coordinate (steps_of (scanning_of (octets s 72 72)).by_columns (scanning_of (octets s 72 72)).alternates (octets s 31 34) n p)) is.rows

-- what a table has at the step of a point
pub found_at : {X : Type 0} (f : Degrees → X) (d : X) (items : List X) (order : StepOrder) (told coordinate : Coordinate) (s : List ℕ) (p k : ℕ)
    → IsOrderOf order s → told ≡ coordinate → items ≡ map (λ n. f (degrees_at coordinate s n)) (range_with_len 0 (count_of coordinate s))
    → k ≡ step_in told (steps_of order.by_columns order.alternates order.columns order.rows p) → k < steps_in told order
    → get_or items k d ≡ f (point_degrees coordinate s p)
found_at f d items order told coordinate s p k is same are at within =
    let small : k < count_of coordinate s = subst (λ (n : ℕ). k < n) (ap (λ c. steps_in c order) same ∙ count_is order coordinate s is) within in
    let step : k ≡ step_in coordinate (steps_at s p) =
    at ∙ ap (λ c. step_in c (steps_of order.by_columns order.alternates order.columns order.rows p)) same ∙ step_is order coordinate s p is in
    ap (λ xs. get_or xs k d) are
    ∙ get_or-map-range_with_len (λ n. f (degrees_at coordinate s n)) 0 (count_of coordinate s) k k d small (omega arith)
    ∙ ap (λ n. f (degrees_at coordinate s n)) step

-- what a table has
pub are_of : {X : Type 0} (f : Degrees → X) (line : Line) (coordinate : Coordinate) (s : List ℕ) → IsLineOf line coordinate s
    → map (λ n. f (stepped line.first line.way line.count n)) (range_with_len 0 line.count) ≡ map (λ n. f (degrees_at coordinate s n)) (range_with_len 0 (count_of coordinate s))
are_of f line coordinate s is =
    ap (λ x. map (λ n. f (stepped x line.way line.count n)) (range_with_len 0 line.count)) is.first
    ∙ ap (λ x. map (λ n. f (stepped (first_of coordinate s) x line.count n)) (range_with_len 0 line.count)) is.way
    ∙ ap (λ m. map (λ n. f (stepped (first_of coordinate s) (way_of coordinate s) m n)) (range_with_len 0 m)) is.count

-- and how much
pub as_many : {X : Type 0} (f : Degrees → X) (items : List X) (order : StepOrder) (line : Line) (coordinate : Coordinate) (s : List ℕ)
    → IsOrderOf order s → IsLineOf line coordinate s → items ≡ map (λ n. f (stepped line.first line.way line.count n)) (range_with_len 0 line.count)
    → length items ≡ steps_in coordinate order
as_many f items order line coordinate s is line_is are =
    ap length are ∙ length-map-range_with_len (λ n. f (stepped line.first line.way line.count n)) 0 line.count ∙ line_is.count ∙ sym (count_is order coordinate s is)
