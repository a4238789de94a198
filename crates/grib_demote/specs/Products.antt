-- Products (WMO-No. 306, Volume I.2, FM 92 GRIB): Sections 1 and 4 of edition 2 as Section 1 of edition 1, and the
-- vertical coordinates of Section 4 as those of its Section 2.
use Rattle.std.specs.Prelude.{ℕ, ◌+◌, ◌*◌, Bool, not, cond, ◌&&◌, Option, map, List, [], ◌∷◌, ◌++◌, drop, length, nat_lt, replicate, unwrap_or}
use Rattle.grib_bits.specs.Bits.{digit}
use Rattle.grib_bits.specs.Octets.{octets}
use Rattle.grib_params.specs.declared.matching.TableMatch.{TableMatch}
use Rattle.grib_params.specs.Table.{Entries}
use Rattle.grib_params.specs.Pairs.{Pair, first_pair}
use Rattle.grib_params.specs.declared.row.Target.{Target}
use Rattle.grib_packing.specs.Packing.{decimal_scale}
use Rattle.grib_bits.specs.declared.adding.Number.{Number}
use Rattle.grib_bits.specs.declared.adding.Number.TheVariants.{One, Two, Four}
use Rattle.grib_demote.specs.declared.product.Told.{Told}
use Rattle.grib_demote.specs.Words.{ibm_of}
use Rattle.grib_demote.specs.Dates.{reference_time, century, year_of_century}
use Rattle.grib_demote.specs.Times.{time_range}

-- Numbers of Section 1.
abbrev pub centre : List ℕ → ℕ
centre s1 = octets s1 6 7

abbrev pub sub_centre : List ℕ → ℕ
sub_centre s1 = octets s1 8 9

-- a centre that one octet has no room for
abbrev pub loses_centre : List ℕ → Bool
loses_centre s1 = not (nat_lt (centre s1) 256 && nat_lt (sub_centre s1) 256)

-- the parameter, in a message of this discipline
abbrev pub target_of : ℕ → List ℕ → List ℕ → Target
target_of discipline s1 s4 = record {
  discipline = discipline;
  category = octets s4 10 10;
  number = octets s4 11 11;
  master = octets s1 10 10;
  local = octets s1 11 11;
}

-- its first version and parameter of edition 1
abbrev pub pair_in : Entries → TableMatch → ℕ → List ℕ → List ℕ → Option Pair
pair_in table matching discipline s1 s4 = first_pair table matching (centre s1) (target_of discipline s1 s4)

-- octet 6 and further of Section 2 are for the centre's own use
abbrev pub has_local : List ℕ → Bool
has_local s2 = nat_lt 5 (length s2)

-- octets 4-28 of Section 1, of a message with or without a bitmap
abbrev pub identification_numbers : Told → Bool → List ℕ → List ℕ → List ℕ → List Number
identification_numbers told has_bitmap s1 s4 s5 =
    let range = time_range s4 in
    let date = reference_time s1 in
    One told.version  -- 4: the version
    ∷ One (centre s1)  -- 5
    ∷ One (octets s4 14 14)  -- 6: the generating process
    ∷ One 255  -- 7: the grid stands in Section 2
    ∷ One (128 + 64 * digit has_bitmap)  -- 8: Section 2 is there, Section 3 is there
    ∷ One told.parameter  -- 9: the parameter
    ∷ One told.level.level_type  -- 10
    ∷ Two told.level.number  -- 11-12
    ∷ One (year_of_century s1)  -- 13
    ∷ One date.month  -- 14
    ∷ One date.day  -- 15
    ∷ One date.hour  -- 16
    ∷ One date.minute  -- 17
    ∷ One told.unit  -- 18
    ∷ One range.p1  -- 19
    ∷ One range.p2  -- 20
    ∷ One range.indicator  -- 21
    ∷ Two 0  -- 22-23: no average of several fields
    ∷ One range.missing  -- 24
    ∷ One (century s1)  -- 25
    ∷ One (sub_centre s1)  -- 26
    ∷ Two (decimal_scale s5)  -- 27-28
    ∷ []

-- octets 29 and further: the octets for the centre's own use begin at octet 41
abbrev pub local_octets : Bool → List ℕ → List ℕ
local_octets keep_local s2 = cond (keep_local && has_local s2) (replicate 12 0 ++ drop 5 s2) []

-- the vertical coordinates, as IBM words; 0 where there is none, which is a loss
abbrev pub coordinate_numbers : List ℕ → List Number
coordinate_numbers words = map (λ word. Four (unwrap_or (ibm_of word) 0)) words
