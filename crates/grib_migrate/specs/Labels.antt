-- What becomes of the octets for the centre's own use, and the labels that ECMWF has there for its archive, MARS: its
-- local definition 1 of each edition (local.98.1.def and mars_labeling.def among the definitions of ecCodes). Edition
-- 1: octet 41 of Section 1 is the number of the definition, 42 the class, 43 the type, 44-45 the stream, 46-49 the
-- experiment's version, 50 the number of the member of an ensemble, 51 how many members it has, and 52 is spare.
-- Edition 2: Section 2 has the definition, class, type, stream and version, and the product definition templates 4.1
-- and 4.11 have the member.
use Rattle.std.specs.Prelude.{ℕ, Bool, false, not, cond, ◌&&◌, ◌||◌, Option, Some, None, List, [], ◌∷◌, length, ◌==◌}
use Rattle.grib_bits.specs.Octets.{octets}
use Rattle.grib_bits.specs.Encoding.{section_of, all_octets, missing_1}
use Rattle.grib_bits.specs.declared.adding.Number.{Number}
use Rattle.grib_bits.specs.declared.adding.Number.TheVariants.{One, Two, Four}
use Rattle.grib1_sections.specs.Keys.{key_in}
use Rattle.grib_keys.specs.declared.key1.Key1.TheVariants.{Centre}
use Rattle.grib_migrate.specs.declared.labels.Local.{Local}
use Rattle.grib_migrate.specs.declared.labels.Local.TheVariants.{Refuse, Keep, Ecmwf}
use Rattle.grib_migrate.specs.declared.labels.Member.{Member}
use Rattle.grib_migrate.specs.Source.{has_local, local_octets}

-- the mean and the standard deviation of an ensemble, types 17 and 18, are of the product definition templates 4.2 and
-- 4.12, which the profile lacks
abbrev pub is_derived : ℕ → Bool
is_derived type_of_field = (type_of_field == 17) || (type_of_field == 18)

-- local use has these labels, and edition 2 has a place for each
abbrev pub has_labels : List ℕ → Bool
has_labels s1 =
    (length s1 == 52) && (key_in s1 Centre == 98) && (octets s1 41 41 == 1) && not (is_derived (octets s1 43 43))

-- Section 2, octets 6-17
abbrev pub label_numbers : List ℕ → List Number
label_numbers s1 =
    Two 1  -- 6-7: the number of the definition
    ∷ Two (octets s1 42 42)  -- 8-9: the class
    ∷ Two (octets s1 43 43)  -- 10-11: the type
    ∷ Two (octets s1 44 45)  -- 12-13: the stream
    ∷ Four (octets s1 46 49)  -- 14-17: the version of the experiment, four characters
    ∷ []

-- the member of an ensemble, none where both numbers are 0
abbrev pub member_in : List ℕ → Option Member
member_in s1 =
    cond ((octets s1 50 50 == 0) && (octets s1 51 51 == 0)) None (Some (record { number = octets s1 50 50; size = octets s1 51 51 }))

-- octets 35-37 of templates 4.1 and 4.11; edition 1 does not say of which type the forecast is
abbrev pub member_numbers : Option Member → List Number
member_numbers None = []
member_numbers (Some member) =
    One missing_1  -- 35: the type of ensemble forecast
    ∷ One member.number  -- 36
    ∷ One member.size  -- 37
    ∷ []

-- ---- by what is chosen

-- whether there is a Section 2
abbrev pub writes_local : Local → List ℕ → Bool
writes_local Refuse s1 = false
writes_local Keep s1 = has_local s1
writes_local Ecmwf s1 = has_labels s1

-- its contents
abbrev pub contents_of : Local → List ℕ → List ℕ
contents_of Ecmwf s1 = all_octets (label_numbers s1)
contents_of _ s1 = local_octets s1

-- Section 2, where there is one
abbrev pub local_section_by : Local → List ℕ → List ℕ
local_section_by local s1 = cond (writes_local local s1) (section_of 2 (contents_of local s1)) []

-- octets for local use are there, and not written
abbrev pub loses_local : Local → List ℕ → Bool
loses_local local s1 = has_local s1 && not (writes_local local s1)

-- the member of an ensemble, where labels are written
abbrev pub member_by : Local → List ℕ → Option Member
member_by Ecmwf s1 = cond (has_labels s1) (member_in s1) None
member_by _ s1 = None

-- what is chosen by whether octets for local use are preserved
abbrev pub kept_where : Bool → Local
kept_where keep_local = cond keep_local Keep Refuse
