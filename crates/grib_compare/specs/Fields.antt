-- A field of a message of either edition beside another one.
use Rattle.std.specs.Prelude.{ℕ, zero, suc, ◌+◌, ◌==◌, Bool, true, cond, Option, None, Some, List, [], ◌∷◌, ◌++◌, length, codes}
use Rattle.std.specs.Fmt.{decimal}
use Rattle.grib_base.specs.Rules.{choose}
use Rattle.grib_dyadic.specs.Meaning.{Meant}
use Rattle.grib2_sections.specs.Head.{edition}
use Rattle.grib2_message.specs.Fields.{meaning_of, part_octets}
use Rattle.grib1_sections.specs.Acceptance.{identification, grid}
use Rattle.grib1_sections.specs.Column.{meaning1_of}
use Rattle.grib_same.specs.Sameness.{first_difference}
use Rattle.grib_file.specs.Filed.{FieldOf}
use Rattle.grib_compare.specs.declared.comparison.Comparison.{Comparison}
use Rattle.grib_compare.specs.declared.comparison.Comparison.TheVariants.{Same, Shape, Differs, Section}

-- what the points of a field mean
abbrev pub meanings : FieldOf → List Meant
meanings field = choose (edition field.message == 1) (λ _. meaning1_of field.message) (λ _. meaning_of field.message field.number)

-- the octets of Section n: of edition 2 the one in force for the field, of edition 1 Section 1 or 2 alone, since its Sections 3
-- and 4 are the bitmap and the values; none where the section is absent
abbrev pub section_1 : List ℕ → ℕ → List ℕ
section_1 message n = cond (n == 1) (identification message) (cond (n == 2) (grid message) [])

abbrev pub section_of : ℕ → FieldOf → List ℕ
section_of n field = choose (edition field.message == 1) (λ _. section_1 field.message n) (λ _. part_octets field.message field.number n)

-- ---- what is said of two fields: that they are the same; their counts of points; the number of the first point that does not
-- mean the same, from 1; or the section and the number, from 1, of the first octet that is not the same

-- the number of the first octet that is not the same, of octets that are numbered from n on; one that stands in one section
-- alone is not the same
abbrev pub octet_from : ℕ → List ℕ → List ℕ → Option ℕ
octet_from n [] [] = None
octet_from n (here ∷ left) (there ∷ right) = cond (here == there) (octet_from (n + 1) left right) (Some n)
octet_from n _ _ = Some n

abbrev pub on_octet : ℕ → Option ℕ → Comparison → Comparison
on_octet section None next = next
on_octet section (Some octet) next = Section section octet

-- by k of their sections, from Section n on
abbrev pub by_sections_from : ℕ → ℕ → FieldOf → FieldOf → Comparison
by_sections_from zero n left right = Same
by_sections_from (suc k) n left right = on_octet n (octet_from 1 (section_of n left) (section_of n right)) (by_sections_from k (n + 1) left right)

-- by their Sections 1 to 4
abbrev pub by_sections : FieldOf → FieldOf → Comparison
by_sections left right = by_sections_from 4 1 left right

abbrev pub on_point : Option ℕ → Comparison → Comparison
on_point None next = next
on_point (Some point) next = Differs point

-- by what their points mean, as many of each, and by what comes after
abbrev pub by_points : List Meant → List Meant → Comparison → Comparison
by_points here there next =
    choose (length here == length there) (λ _. on_point (first_difference here there) next) (λ _. Shape (length here) (length there))

-- by their points, and by Sections 1 to 4 where that is asked for
abbrev pub compared : Bool → FieldOf → FieldOf → Comparison
compared sections left right = by_points (meanings left) (meanings right) (cond sections (by_sections left right) Same)

-- ---- its line, of field i of message m

abbrev pub field_line : ℕ → ℕ → List ℕ → List ℕ
field_line m i text = decimal m ++ codes "." ++ decimal i ++ text

abbrev pub line_of : ℕ → ℕ → Comparison → List ℕ
line_of m i Same = field_line m i (codes " same\n")
line_of m i (Shape here there) = field_line m i (codes " shape " ++ decimal here ++ codes " " ++ decimal there ++ 10 ∷ [])
line_of m i (Differs point) = field_line m i (codes " differs point " ++ decimal point ++ 10 ∷ [])
line_of m i (Section section octet) =
    field_line m i (codes " section " ++ decimal section ++ codes " octet " ++ decimal octet ++ 10 ∷ [])

-- no line of fields that are the same where differences alone are wanted
abbrev pub line_unless : Bool → ℕ → ℕ → Comparison → List ℕ
line_unless true m i Same = []
line_unless quiet m i comparison = line_of m i comparison

-- how many fields differ
abbrev pub differing : Comparison → ℕ
differing Same = 0
differing _ = 1
