-- What `split` puts on a shelf: each field as a message of its own, under a name with the number that the
-- field has in the whole input.
use Rattle.std.specs.Prelude.{ℕ, ◌+◌, List, [], ◌∷◌, ◌++◌, length, map, codes}
use Rattle.std.specs.Fmt.{decimal}
use Rattle.std.specs.List.{flat_map, range_with_len, sum_by}
use Rattle.grib2_message.specs.Fields.{field_count}
use Rattle.grib_select.specs.Single.{single_of}
use Rattle.grib_stream.specs.Acts.{Act, Makes, Adds}

-- octets under a name
pub record Part : Type 0 where
  pub name : List ℕ
  pub octets : List ℕ

abbrev pub part : List ℕ → List ℕ → Part
part name octets = record { name = name; octets = octets }

-- the name of the n-th field of an input
abbrev pub part_name : List ℕ → ℕ → List ℕ
part_name out n = out ++ codes "." ++ decimal n

-- field i of a message before which the input has this many fields
abbrev pub part_of : List ℕ → ℕ → List ℕ → ℕ → Part
part_of out before message i = part (part_name out (before + i)) (single_of message i)

-- the first n fields of it
abbrev pub first_parts : List ℕ → ℕ → List ℕ → ℕ → List Part
first_parts out before message n = map (part_of out before message) (range_with_len 1 n)

abbrev pub parts_of : List ℕ → ℕ → List ℕ → List Part
parts_of out before message = first_parts out before message (field_count message)

-- a message of edition 1 as it stands, the one field that it has
abbrev pub parts1_of : List ℕ → ℕ → List ℕ → List Part
parts1_of out before message = part (part_name out (before + 1)) message ∷ []

-- octets are added at the end of what stands under a name
abbrev pub adds : List ℕ → List ℕ → List Act
adds name [] = []
adds name (octet ∷ octets) = Adds name octet ∷ adds name octets

-- a name is made and gets its octets
abbrev pub puts : Part → List Act
puts part = Makes part.name ∷ adds part.name part.octets

abbrev pub puts_all : List Part → List Act
puts_all parts = flat_map puts parts

abbrev pub octets_within : List Part → ℕ
octets_within parts = sum_by (λ part. length part.octets) parts
