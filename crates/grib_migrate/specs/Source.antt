-- What is asked of a message of edition 1 (WMO-No. 306, Volume I.2, FM 92 GRIB edition 1): the parameter of a
-- table that its centre, version and parameter have, and its octets for the centre's own use.
use Rattle.std.specs.Prelude.{ℕ, Bool, Option, List, drop, length, nat_lt, unwrap_or}
use Rattle.grib_params.specs.Table.{Entries, lookup_in}
use Rattle.grib_params.specs.declared.row.Target.{Target}
use Rattle.grib1_sections.specs.Keys.{key_in}
use Rattle.grib_keys.specs.declared.key1.Key1.TheVariants.{Version, Centre, Parameter}

-- what the table has for a Section 1
abbrev pub target_in : Entries → List ℕ → Option Target
target_in table s1 = lookup_in table (key_in s1 Centre) (key_in s1 Version) (key_in s1 Parameter)

-- where the table has nothing, which is a loss
abbrev pub no_target : Target
no_target = record { discipline = 0; category = 0; number = 0; master = 0; local = 0 }

abbrev pub target_of : Entries → List ℕ → Target
target_of table s1 = unwrap_or (target_in table s1) no_target

-- octets 41 and further of Section 1 are for the centre's own use
abbrev pub has_local : List ℕ → Bool
has_local s1 = nat_lt 40 (length s1)

abbrev pub local_octets : List ℕ → List ℕ
local_octets s1 = drop 40 s1
