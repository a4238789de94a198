-- Arrays that go through a buffer to a sink, one point after another.
use Rattle.std.proofs.Common.{◌≡◌, ℕ, ◌+◌, List, [], ◌∷◌, ◌++◌, take, drop, refl, ap, sym, ◌∙◌, append_assoc, append-nil, take-append-drop, subst}
use Rattle.std.specs.declared.option.Option.{Option}
use Rattle.std.specs.declared.result.Result.{Result}
use Rattle.std.specs.Prelude.{flat_map}
use Rattle.std.proofs.lemmas.Grind.{flat_map-append}
use Rattle.grib_io.specs.Outside.{AppendsFront}
use Rattle.grib_packing.specs.declared.column.Point.{Point}
use Rattle.grib_packing.specs.declared.column.Column.{Column}
use Rattle.grib_bits.specs.Bits.{bits_of, signed}
use Rattle.grib_dyadic.specs.Reference.{Binary, ieee, ibm, reduced}
use Rattle.grib2_message.specs.Fields.{part_octets, column_of}
use Rattle.grib1_sections.specs.Acceptance.{grid}
use Rattle.grib1_sections.specs.Column.{column1_of}
use Rattle.grib_nearest.specs.declared.format.Format.{Format}
use Rattle.grib_arrays.specs.declared.shape.Shape.{Shape}
use Rattle.grib_command.specs.Pending.{AppendsAllBut}
use Rattle.grib_command.proofs.Outside.{front_more}
use Rattle.grib_report.proofs.Pending.{pending_more, pending_front}
use Rattle.grib_values.specs.Arrays.{array, array_1, array_2}
use Rattle.grib_values.specs.Shapes.{shape_1, shape_2}

-- the octets of a number of points, and of the next one
points_next : (f : Point → List ℕ) (xs : List Point) (i : ℕ) (x : Point) → take (i + 1) xs ≡ take i xs ++ x ∷ []
    → flat_map f (take (i + 1) xs) ≡ flat_map f (take i xs) ++ f x
points_next f xs i x next =
    ap (flat_map f) next ∙ (flat_map-append f (take i xs) (x ∷ []) ∙ ap (λ ys. flat_map f (take i xs) ++ ys) (append-nil (f x)))

points_more : (f : Point → List ℕ) (old : List ℕ) (xs : List Point) (i : ℕ) (x : Point) → take (i + 1) xs ≡ take i xs ++ x ∷ []
    → (old ++ flat_map f (take i xs)) ++ f x ≡ old ++ flat_map f (take (i + 1) xs)
points_more f old xs i x next =
    append_assoc old (flat_map f (take i xs)) (f x) ∙ ap (λ ys. old ++ ys) (sym (points_next f xs i x next))

-- a step of the loop that wrote a point, but for the buffer
pub point_written : (f : Point → List ℕ) (a b c : Option (List ℕ)) (old pending left : List ℕ) (xs : List Point) (i : ℕ) (x : Point)
    → take (i + 1) xs ≡ take i xs ++ x ∷ [] → AppendsAllBut a b (old ++ flat_map f (take i xs)) pending
    → AppendsAllBut b c (pending ++ f x) left → AppendsAllBut a c (old ++ flat_map f (take (i + 1) xs)) left
point_written f a b c old pending left xs i x next before now =
    subst (λ octets. AppendsAllBut a c octets left) (points_more f old xs i x next)
    (pending_more a b c (old ++ flat_map f (take i xs)) pending (f x) left before now)

-- and one that wrote a front of it
pub point_refused : (f : Point → List ℕ) (a b c : Option (List ℕ)) (old pending : List ℕ) (xs : List Point) (i : ℕ) (x : Point)
    → take (i + 1) xs ≡ take i xs ++ x ∷ [] → AppendsAllBut a b (old ++ flat_map f (take i xs)) pending
    → AppendsFront b c (pending ++ f x) → AppendsFront a c (old ++ flat_map f xs)
point_refused f a b c old pending xs i x next before front =
    let some : AppendsFront a c (old ++ flat_map f (take (i + 1) xs)) =
    subst (AppendsFront a c) (points_more f old xs i x next) (pending_front a b c (old ++ flat_map f (take i xs)) pending (f x) before front) in
    let rest : List ℕ = flat_map f (drop (i + 1) xs) in
    let all : flat_map f xs ≡ flat_map f (take (i + 1) xs) ++ rest =
    ap (flat_map f) (sym (take-append-drop (i + 1) xs)) ∙ flat_map-append f (take (i + 1) xs) (drop (i + 1) xs) in
    subst (AppendsFront a c) (append_assoc old (flat_map f (take (i + 1) xs)) rest ∙ ap (λ ys. old ++ ys) (sym all))
    (front_more a c (old ++ flat_map f (take (i + 1) xs)) rest some)

-- the array of a field
pub array_is : (f : Format) (m : List ℕ) (i : ℕ) (shape : Shape) (reference : Binary) (column : Column) → column ≡ column_of m i
    → shape ≡ shape_2 (part_octets m i 3) → reference ≡ reduced (ieee column.reference) → array f shape reference column ≡ array_2 f m i
array_is f m i shape reference column is_column is_shape is_reference =
    ap (λ s. array f s reference column) is_shape
    ∙ (ap (λ r. array f (shape_2 (part_octets m i 3)) r column) is_reference
    ∙ ap (λ (x : Column). array f (shape_2 (part_octets m i 3)) (reduced (ieee x.reference)) x) is_column)

-- and that of a message of edition 1
pub array_is_1 : (f : Format) (m : List ℕ) (shape : Shape) (reference : Binary) (column : Column) → column ≡ column1_of m
    → shape ≡ shape_1 (grid m) → reference ≡ reduced (ibm column.reference) → array f shape reference column ≡ array_1 f m
array_is_1 f m shape reference column is_column is_shape is_reference =
    ap (λ s. array f s reference column) is_shape
    ∙ (ap (λ r. array f (shape_1 (grid m)) r column) is_reference
    ∙ ap (λ (x : Column). array f (shape_1 (grid m)) (reduced (ibm x.reference)) x) is_column)
