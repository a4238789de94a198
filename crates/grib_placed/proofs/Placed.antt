-- What is printed of a field with the places of its points.
use Rattle.std.proofs.Common.{◌≡◌, ℕ, ◌+◌, ◌-◌, ◌<◌, List, [], ◌∷◌, ◌++◌, length, get_or, ap, ◌∙◌, append_assoc, arith}
use Rattle.std.specs.Fmt.{decimal}
use Rattle.std.specs.Prelude.{codes}
use Rattle.grib_bits.specs.Bits.{bits_of, signed}
use Rattle.grib_dyadic.specs.Reference.{Binary, ieee, reduced}
use Rattle.grib_packing.specs.declared.column.Column.{Column}
use Rattle.grib_packing.specs.declared.column.Point.{Point}
use Rattle.grib_decimal.specs.Decimal.{Scale}
use Rattle.grib_decimal.proofs.Ranges.{fits_at}
use Rattle.grib2_message.specs.Fields.{part_octets, column_of}
use Rattle.grib_text.specs.Lines.{lines_by, reference_line, list_line, point_text}
use Rattle.grib_text.specs.Values.{value_text}
use Rattle.grib_report.specs.Valuing.{scale_by}
use Rattle.grib_placed.specs.declared.form.PointForm.{PointForm}
use Rattle.grib_placed.specs.declared.form.PointForm.TheVariants.{Numbers, Decimals}
use Rattle.grib_placed.specs.Lines.{place_text, placed_line, placed}
use Rattle.grib_placed.specs.Texts.{HasText, HasTexts}
use Rattle.grib_placed.specs.Dumping.{dump_placed_text}
use Rattle.grib_placed.specs.Valuing.{value_placed_text}

pub has_text_at : (form : PointForm) (points : List Point) (i : ℕ) (d : Point) → i < length points → HasTexts form points → HasText form (get_or points i d)
has_text_at Numbers points i d within texts = tt
has_text_at (Decimals scale) points i d within texts = fits_at scale points i d within texts

-- a field by its parts
pub placed_is : (s : List ℕ) (text : Point → List ℕ) (listed numbers : List ℕ) (reference : Binary) (column : Column) (points : List Point)
    → numbers ≡ reference_line reference (signed (bits_of 16 column.e)) (signed (bits_of 16 column.d)) → points ≡ column.points
    → (listed ++ numbers) ++ lines_by (placed_line s text) 1 points ≡ placed s text listed reference column
placed_is s text listed numbers reference column points is_numbers are_points =
    ap (λ xs. (listed ++ xs) ++ lines_by (placed_line s text) 1 points) is_numbers
    ∙ ap (λ ps. (listed ++ reference_line reference (signed (bits_of 16 column.e)) (signed (bits_of 16 column.d))) ++ lines_by (placed_line s text) 1 ps) are_points

-- a line by its parts
pub line_is : (s : List ℕ) (text : Point → List ℕ) (index : ℕ) (point : Point) (old head told last : List ℕ)
    → head ≡ old ++ (decimal (index + 1) ++ codes " " ++ place_text s index ++ codes " ") → told ≡ head ++ text point → last ≡ told ++ 10 ∷ []
    → last ≡ old ++ placed_line s text (index + 1) point
line_is s text index point old head told last is_head is_told is_last =
    let e : index ≡ (index + 1) - 1 = omega arith in
    let front : List ℕ = decimal (index + 1) ++ codes " " ++ place_text s index ++ codes " " in
    is_last ∙ ap (λ (xs : List ℕ). xs ++ 10 ∷ []) (is_told ∙ ap (λ (xs : List ℕ). xs ++ text point) is_head ∙ append_assoc old front (text point))
    ∙ append_assoc old (front ++ text point) (10 ∷ [])
    ∙ ap (λ (n : ℕ). old ++ (decimal (index + 1) ++ codes " " ++ place_text s n ++ codes " " ++ text point ++ 10 ∷ [])) e

-- the text of a field in `dump place=yes`
pub dump_placed_is : (m : List ℕ) (number i : ℕ) (s listed : List ℕ) (reference : Binary) (column : Column) → s ≡ part_octets m i 3 → column ≡ column_of m i
    → listed ≡ list_line m number i → reference ≡ reduced (ieee column.reference) → placed s point_text listed reference column ≡ dump_placed_text m number i
dump_placed_is m number i s listed reference column is_s is_column is_listed is_reference =
    ap (λ (x : List ℕ). placed x point_text listed reference column) is_s
    ∙ ap (λ (xs : List ℕ). placed (part_octets m i 3) point_text xs reference column) is_listed
    ∙ ap (λ (r : Binary). placed (part_octets m i 3) point_text (list_line m number i) r column) is_reference
    ∙ ap (λ (x : Column). placed (part_octets m i 3) point_text (list_line m number i) (reduced (ieee x.reference)) x) is_column

-- and in `dump decimals= place=yes`
pub value_placed_is : (places : ℕ) (m : List ℕ) (number i : ℕ) (s listed : List ℕ) (reference : Binary) (column : Column) (scale : Scale)
    → s ≡ part_octets m i 3 → column ≡ column_of m i → listed ≡ list_line m number i → reference ≡ reduced (ieee column.reference)
    → scale ≡ scale_by places reference column → placed s (value_text scale) listed reference column ≡ value_placed_text places m number i
value_placed_is places m number i s listed reference column scale is_s is_column is_listed is_reference is_scale =
    ap (λ (x : List ℕ). placed x (value_text scale) listed reference column) is_s
    ∙ ap (λ (xs : List ℕ). placed (part_octets m i 3) (value_text scale) xs reference column) is_listed
    ∙ ap (λ (k : Scale). placed (part_octets m i 3) (value_text k) (list_line m number i) reference column) is_scale
    ∙ ap (λ (r : Binary). placed (part_octets m i 3) (value_text (scale_by places r column)) (list_line m number i) r column) is_reference
    ∙ ap (λ (x : Column). placed (part_octets m i 3) (value_text (scale_by places (reduced (ieee x.reference)) x)) (list_line m number i) (reduced (ieee x.reference)) x) is_column

-- a number, a latitude and a longitude, each with a blank behind it
regroup : (old number blank latitude longitude : List ℕ) → (((((old ++ number) ++ blank) ++ latitude) ++ blank) ++ longitude) ++ blank
    ≡ old ++ (number ++ blank ++ (latitude ++ blank ++ longitude) ++ blank)
regroup old number blank latitude longitude = simp append_assoc

pub place_is : (old number blank latitude longitude one two three four five six : List ℕ) → one ≡ old ++ number → two ≡ one ++ blank → three ≡ two ++ latitude
    → four ≡ three ++ blank → five ≡ four ++ longitude → six ≡ five ++ blank → six ≡ old ++ (number ++ blank ++ (latitude ++ blank ++ longitude) ++ blank)
place_is old number blank latitude longitude one two three four five six is_one is_two is_three is_four is_five is_six =
    is_six ∙ ap (λ (xs : List ℕ). xs ++ blank) (is_five ∙ ap (λ (xs : List ℕ). xs ++ longitude) (is_four ∙ ap (λ (xs : List ℕ). xs ++ blank)
    (is_three ∙ ap (λ (xs : List ℕ). xs ++ latitude) (is_two ∙ ap (λ (xs : List ℕ). xs ++ blank) is_one)))) ∙ regroup old number blank latitude longitude
