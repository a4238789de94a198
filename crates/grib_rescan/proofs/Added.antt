-- Points that are added one after another from packed numbers.
use Rattle.std.proofs.Common.{◌≡◌, ℕ, ◌+◌, ◌-◌, ◌*◌, ◌<◌, ◌≤◌, Bool, List, [], ◌∷◌, ◌++◌, length, take, get_or, drop, map, pos, refl, sym, ap, ap₂, ◌∙◌, arith, append_assoc}
use Rattle.std.specs.List.{range_with_len}
use Rattle.std.proofs.lemmas.List.{append-nil, map-append, length-map, drop_at, drop-take, drop-map, take-map}
use Rattle.std.proofs.lemmas.List.FromFn.{map-range_with_len_more, length-map-range_with_len, take-map-range_with_len, get_or-map-range_with_len}
use Rattle.grib_bits.specs.Bits.{bits, num}
use Rattle.grib_bits.specs.Plain.{plain, plain_at}
use Rattle.grib_packing.specs.declared.column.Point.{Point}
use Rattle.grib_packing.specs.declared.column.Point.TheVariants.{Scaled, Missing}
use Rattle.grib_simple_reading.specs.Part.{plain_from}
use Rattle.grib_rescan.specs.declared.source.Numbers.{Numbers}
use Rattle.grib_rescan.specs.Points.{point}
use Rattle.grib_rescan.specs.Source.{number_points}
use Rattle.grib_rescan.proofs.Columns.{range_joined}

abbrev pub scaled : ℕ → Point
scaled x = Scaled (pos x)

-- one number more
number_more : (xs : List Bool) (width first k index : ℕ) → first + k ≡ index
    → map scaled (plain_from xs width first (k + 1)) ≡ map scaled (plain_from xs width first k) ++ scaled (plain_at xs width index) ∷ []
number_more xs width first k index e =
    ap (map scaled) (map-range_with_len_more (plain_at xs width) first k index e) ∙ map-append scaled (plain_from xs width first k) (plain_at xs width index ∷ [])

pub number_added : (xs : List Bool) (width first index at number : ℕ) (point : Point) (old points new : List Point) → first ≤ index
    → points ≡ old ++ map scaled (plain_from xs width first (index - first)) → at ≡ index * width → number ≡ num (take width (drop at xs)) → point ≡ scaled number
    → new ≡ points ++ point ∷ []
    → new ≡ old ++ map scaled (plain_from xs width first (index + 1 - first))
number_added xs width first index at number point old points new begun before is_place is_number is_point is_new =
    let here = is_point ∙ ap scaled (is_number ∙ ap (λ (n : ℕ). num (take width (drop n xs))) is_place) in
    let count : (index - first) + 1 ≡ index + 1 - first = omega arith in
    let part = map scaled (plain_from xs width first (index - first)) in
    is_new ∙ ap₂ (λ ys y. ys ++ y ∷ []) before here
    ∙ append_assoc old part (scaled (plain_at xs width index) ∷ [])
    ∙ ap (λ ys. old ++ ys) (sym (number_more xs width first (index - first) index (omega arith)) ∙ ap (λ (n : ℕ). map scaled (plain_from xs width first n)) count)

-- before the first
pub none_added : (xs : List Bool) (width first : ℕ) (old : List Point) → old ≡ old ++ map scaled (plain_from xs width first (first - first))
none_added xs width first old =
    let none : first - first ≡ 0 = omega arith in
    sym (ap (λ (n : ℕ). old ++ map scaled (plain_from xs width first n)) none ∙ append-nil old)

-- ---- all of them, and a part

pub all_added : (numbers : Numbers) → length (number_points numbers) ≡ numbers.count
all_added numbers = length-map (plain (bits numbers.octets.now) numbers.bits numbers.count) scaled ∙ length-map-range_with_len (plain_at (bits numbers.octets.now) numbers.bits) 0 numbers.count

part_of : (g : ℕ → ℕ) (from count n : ℕ) → from + count ≤ n → take count (drop from (map g (range_with_len 0 n))) ≡ map g (range_with_len from count)
part_of g from count n within =
    let first : 0 + from ≡ from = omega arith in
    sym (drop-take from count (map g (range_with_len 0 n)))
    ∙ ap (drop from)
    (take-map-range_with_len g 0 n (from + count) within
    ∙ ap (map g) (sym (range_joined 0 from count)) ∙ map-append g (range_with_len 0 from) (range_with_len (0 + from) count))
    ∙ drop_at (map g (range_with_len 0 from)) (map g (range_with_len (0 + from) count)) from (length-map-range_with_len g 0 from)
    ∙ ap (λ a. map g (range_with_len a count)) first

pub part_added : (numbers : Numbers) (from count : ℕ) → from + count ≤ numbers.count
    → map scaled (plain_from (bits numbers.octets.now) numbers.bits from count) ≡ take count (drop from (number_points numbers))
part_added numbers from count within =
    let g = plain_at (bits numbers.octets.now) numbers.bits in
    let all = map g (range_with_len 0 numbers.count) in
    sym (ap (take count) (drop-map scaled from all) ∙ take-map scaled count (drop from all) ∙ ap (map scaled) (part_of g from count numbers.count within))

map_twice : (f : ℕ → Point) (g : ℕ → ℕ) (ks : List ℕ) → map f (map g ks) ≡ map (λ k. f (g k)) ks
map_twice f g [] = refl
map_twice f g (k ∷ ks) = ap (λ points. f (g k) ∷ points) (map_twice f g ks)

pub number_at : (numbers : Numbers) (place : ℕ) → place < numbers.count → scaled (plain_at (bits numbers.octets.now) numbers.bits place) ≡ point (number_points numbers) place
number_at numbers place within =
    let g = plain_at (bits numbers.octets.now) numbers.bits in
    let all = number_points numbers in
    sym (ap (λ (points : List Point). get_or points place Missing) (map_twice scaled g (range_with_len 0 numbers.count))
    ∙ get_or-map-range_with_len (λ (k : ℕ). scaled (g k)) 0 numbers.count place place Missing within (omega arith))
