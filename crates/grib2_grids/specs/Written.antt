-- The octets of Section 3 as they are written, part after part.
use Rattle.std.specs.Prelude.{◌≡◌, ℕ, List, ◌++◌}
use Rattle.grib_bits.specs.Octets.{octets}
use Rattle.grib_bits.specs.Encoding.{octets_of, AddsOctets}
use Rattle.grib_bits.specs.Listed.{numbers_octets}
use Rattle.grib_bits.specs.Written.{Written}
use Rattle.grib2_grids.specs.Spelled.{lat_lon_common, mercator_common, polar_common, lambert_polar, gaussian_lat_lon, template_of, written_length, SpelledTemplate}
use Rattle.grib2_grids.specs.declared.templates.Common.{Common}
use Rattle.grib2_grids.specs.declared.templates.LatLon.{LatLon}
use Rattle.grib2_grids.specs.declared.templates.Rotation.{Rotation}
use Rattle.grib2_grids.specs.declared.templates.Mercator.{Mercator}
use Rattle.grib2_grids.specs.declared.templates.Polar.{Polar}
use Rattle.grib2_grids.specs.declared.templates.Lambert.{Lambert}
use Rattle.grib2_grids.specs.declared.grid.GridSection.{GridSection}
use Rattle.grib2_grids.specs.declared.grid.Grid.{Grid}
use Rattle.grib2_grids.specs.declared.grid.Grid.TheVariants as grid

-- octets 1-14, of a section of l octets
abbrev pub header : ℕ → ℕ → ℕ → ℕ → ℕ → List ℕ
header l points list_octets list_meaning template =
    octets_of 4 l ++ octets_of 1 3 ++ octets_of 1 0 ++ octets_of 4 points ++ octets_of 1 list_octets
    ++ octets_of 1 list_meaning ++ octets_of 2 template

-- the numbers of octets 1-14, by their octets
pub record SpelledHeader (l points list_octets list_meaning template : ℕ) (s : List ℕ) : Type 0 where
  pub length_octets : l ≡ octets s 1 4
  pub number_octets : 3 ≡ octets s 5 5
  pub source_octets : 0 ≡ octets s 6 6
  pub points_octets : points ≡ octets s 7 10
  pub list_octets_octets : list_octets ≡ octets s 11 11
  pub list_meaning_octets : list_meaning ≡ octets s 12 12
  pub template_number : template ≡ octets s 13 14

-- octets 15-38
abbrev pub common_octets : Common → List ℕ
common_octets v =
    octets_of 1 v.shape ++ octets_of 1 v.radius_scale ++ octets_of 4 v.radius ++ octets_of 1 v.major_scale
    ++ octets_of 4 v.major ++ octets_of 1 v.minor_scale ++ octets_of 4 v.minor ++ octets_of 4 v.ni ++ octets_of 4 v.nj

-- octet 15 onwards of each template
abbrev pub lat_lon_octets : LatLon → List ℕ
lat_lon_octets v =
    common_octets (lat_lon_common v)
    ++ octets_of 4 v.basic ++ octets_of 4 v.subdivisions ++ octets_of 4 v.la1 ++ octets_of 4 v.lo1
    ++ octets_of 1 v.flags ++ octets_of 4 v.la2 ++ octets_of 4 v.lo2 ++ octets_of 4 v.di ++ octets_of 4 v.dj
    ++ octets_of 1 v.scanning

abbrev pub rotation_octets : Rotation → List ℕ
rotation_octets v = octets_of 4 v.pole_la ++ octets_of 4 v.pole_lo ++ octets_of 4 v.angle

abbrev pub mercator_octets : Mercator → List ℕ
mercator_octets v =
    common_octets (mercator_common v)
    ++ octets_of 4 v.la1 ++ octets_of 4 v.lo1 ++ octets_of 1 v.flags ++ octets_of 4 v.lad ++ octets_of 4 v.la2
    ++ octets_of 4 v.lo2 ++ octets_of 1 v.scanning ++ octets_of 4 v.orientation ++ octets_of 4 v.di
    ++ octets_of 4 v.dj

abbrev pub polar_octets : Polar → List ℕ
polar_octets v =
    common_octets (polar_common v)
    ++ octets_of 4 v.la1 ++ octets_of 4 v.lo1 ++ octets_of 1 v.flags ++ octets_of 4 v.lad ++ octets_of 4 v.lov
    ++ octets_of 4 v.dx ++ octets_of 4 v.dy ++ octets_of 1 v.centre ++ octets_of 1 v.scanning

abbrev pub lambert_octets : Lambert → List ℕ
lambert_octets v =
    polar_octets (lambert_polar v) ++ octets_of 4 v.latin1 ++ octets_of 4 v.latin2 ++ octets_of 4 v.pole_la
    ++ octets_of 4 v.pole_lo

abbrev pub template_octets : Grid → List ℕ
template_octets (grid.LatLon v) = lat_lon_octets v
template_octets (grid.Rotated v r) = lat_lon_octets v ++ rotation_octets r
template_octets (grid.Mercator v) = mercator_octets v
template_octets (grid.Polar v) = polar_octets v
template_octets (grid.Lambert v) = lambert_octets v
template_octets (grid.Gaussian v) = lat_lon_octets (gaussian_lat_lon v)

-- what is added for a template, and that it has the numbers of the template wherever it stands behind octets 1-14
pub record WritesTemplate (before after : Written) (value : Grid) : Type 0 where
  pub octets : AddsOctets before after (template_octets value)
  pub spelled : (l points list_octets list_meaning template : ℕ) (rest : List ℕ)
      → SpelledTemplate value (header l points list_octets list_meaning template ++ template_octets value ++ rest)

-- the section of a value: its template and its list, and no more
abbrev pub section_of_grid : GridSection → List ℕ
section_of_grid value =
    header (written_length value) value.points value.list_octets value.list_meaning (template_of value.grid)
    ++ template_octets value.grid ++ numbers_octets value.list_octets value.rows
