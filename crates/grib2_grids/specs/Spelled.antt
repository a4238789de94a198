-- The values of Section 3, each with its octets (WMO-No. 306, Volume I.2, FM 92 GRIB edition 2, Section 3 and
-- grid definition templates 3.0, 3.1, 3.10, 3.20, 3.30 and 3.40).
use Rattle.std.specs.Prelude.{◌≡◌, ℕ, ◌+◌, ◌*◌, ◌<◌, List, All, length, None}
use Rattle.grib_bits.specs.Octets.{octets, StatesItself}
use Rattle.grib_base.specs.Rules.{first_fault}
use Rattle.grib2_sections.specs.Template.{least_length}
use Rattle.grib2_grids.specs.Grid.{grid_templates, grid_rules, row_list}
use Rattle.grib2_grids.specs.declared.templates.Common.{Common}
use Rattle.grib2_grids.specs.declared.templates.LatLon.{LatLon}
use Rattle.grib2_grids.specs.declared.templates.Rotation.{Rotation}
use Rattle.grib2_grids.specs.declared.templates.Mercator.{Mercator}
use Rattle.grib2_grids.specs.declared.templates.Polar.{Polar}
use Rattle.grib2_grids.specs.declared.templates.Lambert.{Lambert}
use Rattle.grib2_grids.specs.declared.templates.Gaussian.{Gaussian}
use Rattle.grib2_grids.specs.declared.grid.Grid.{Grid}
use Rattle.grib2_grids.specs.declared.grid.Grid.TheVariants as grid
use Rattle.grib2_grids.specs.declared.grid.GridSection.{GridSection}

-- octets 15-38, which all six templates share
pub record SpelledCommon (v : Common) (s : List ℕ) : Type 0 where
  pub shape : v.shape ≡ octets s 15 15
  pub radius_scale : v.radius_scale ≡ octets s 16 16
  pub radius : v.radius ≡ octets s 17 20
  pub major_scale : v.major_scale ≡ octets s 21 21
  pub major : v.major ≡ octets s 22 25
  pub minor_scale : v.minor_scale ≡ octets s 26 26
  pub minor : v.minor ≡ octets s 27 30
  pub ni : v.ni ≡ octets s 31 34
  pub nj : v.nj ≡ octets s 35 38

-- The numbers of a template at these octets.
abbrev pub lat_lon_common : LatLon → Common
lat_lon_common v = record {
  shape = v.shape;
  radius_scale = v.radius_scale;
  radius = v.radius;
  major_scale = v.major_scale;
  major = v.major;
  minor_scale = v.minor_scale;
  minor = v.minor;
  ni = v.ni;
  nj = v.nj;
}

abbrev pub mercator_common : Mercator → Common
mercator_common v = record {
  shape = v.shape;
  radius_scale = v.radius_scale;
  radius = v.radius;
  major_scale = v.major_scale;
  major = v.major;
  minor_scale = v.minor_scale;
  minor = v.minor;
  ni = v.ni;
  nj = v.nj;
}

abbrev pub polar_common : Polar → Common
polar_common v = record {
  shape = v.shape;
  radius_scale = v.radius_scale;
  radius = v.radius;
  major_scale = v.major_scale;
  major = v.major;
  minor_scale = v.minor_scale;
  minor = v.minor;
  ni = v.ni;
  nj = v.nj;
}

-- template 3.0, latitude and longitude
pub record SpelledLatLon (v : LatLon) (s : List ℕ) : Type 0 where
  pub common : SpelledCommon (lat_lon_common v) s
  pub basic : v.basic ≡ octets s 39 42
  pub subdivisions : v.subdivisions ≡ octets s 43 46
  pub la1 : v.la1 ≡ octets s 47 50
  pub lo1 : v.lo1 ≡ octets s 51 54
  pub flags : v.flags ≡ octets s 55 55
  pub la2 : v.la2 ≡ octets s 56 59
  pub lo2 : v.lo2 ≡ octets s 60 63
  pub di : v.di ≡ octets s 64 67
  pub dj : v.dj ≡ octets s 68 71
  pub scanning : v.scanning ≡ octets s 72 72

-- template 3.1, rotated latitude and longitude, after the octets of template 3.0
pub record SpelledRotation (v : Rotation) (s : List ℕ) : Type 0 where
  pub pole_la : v.pole_la ≡ octets s 73 76
  pub pole_lo : v.pole_lo ≡ octets s 77 80
  pub angle : v.angle ≡ octets s 81 84

-- template 3.10, Mercator
pub record SpelledMercator (v : Mercator) (s : List ℕ) : Type 0 where
  pub common : SpelledCommon (mercator_common v) s
  pub la1 : v.la1 ≡ octets s 39 42
  pub lo1 : v.lo1 ≡ octets s 43 46
  pub flags : v.flags ≡ octets s 47 47
  pub lad : v.lad ≡ octets s 48 51
  pub la2 : v.la2 ≡ octets s 52 55
  pub lo2 : v.lo2 ≡ octets s 56 59
  pub scanning : v.scanning ≡ octets s 60 60
  pub orientation : v.orientation ≡ octets s 61 64
  pub di : v.di ≡ octets s 65 68
  pub dj : v.dj ≡ octets s 69 72

-- template 3.20, polar stereographic
pub record SpelledPolar (v : Polar) (s : List ℕ) : Type 0 where
  pub common : SpelledCommon (polar_common v) s
  pub la1 : v.la1 ≡ octets s 39 42
  pub lo1 : v.lo1 ≡ octets s 43 46
  pub flags : v.flags ≡ octets s 47 47
  pub lad : v.lad ≡ octets s 48 51
  pub lov : v.lov ≡ octets s 52 55
  pub dx : v.dx ≡ octets s 56 59
  pub dy : v.dy ≡ octets s 60 63
  pub centre : v.centre ≡ octets s 64 64
  pub scanning : v.scanning ≡ octets s 65 65

-- template 3.30, Lambert conformal, begins with the octets of template 3.20
abbrev pub lambert_polar : Lambert → Polar
lambert_polar v = record {
  shape = v.shape;
  radius_scale = v.radius_scale;
  radius = v.radius;
  major_scale = v.major_scale;
  major = v.major;
  minor_scale = v.minor_scale;
  minor = v.minor;
  ni = v.ni;
  nj = v.nj;
  la1 = v.la1;
  lo1 = v.lo1;
  flags = v.flags;
  lad = v.lad;
  lov = v.lov;
  dx = v.dx;
  dy = v.dy;
  centre = v.centre;
  scanning = v.scanning;
}

pub record SpelledLambert (v : Lambert) (s : List ℕ) : Type 0 where
  pub polar : SpelledPolar (lambert_polar v) s
  pub latin1 : v.latin1 ≡ octets s 66 69
  pub latin2 : v.latin2 ≡ octets s 70 73
  pub pole_la : v.pole_la ≡ octets s 74 77
  pub pole_lo : v.pole_lo ≡ octets s 78 81

-- template 3.40, Gaussian latitude and longitude, is template 3.0 with n in place of dj
abbrev pub gaussian_lat_lon : Gaussian → LatLon
gaussian_lat_lon v = record {
  shape = v.shape;
  radius_scale = v.radius_scale;
  radius = v.radius;
  major_scale = v.major_scale;
  major = v.major;
  minor_scale = v.minor_scale;
  minor = v.minor;
  ni = v.ni;
  nj = v.nj;
  basic = v.basic;
  subdivisions = v.subdivisions;
  la1 = v.la1;
  lo1 = v.lo1;
  flags = v.flags;
  la2 = v.la2;
  lo2 = v.lo2;
  di = v.di;
  dj = v.n;
  scanning = v.scanning;
}

-- the number of a grid's template
abbrev pub template_of : Grid → ℕ
template_of (grid.LatLon v) = 0
template_of (grid.Rotated v r) = 1
template_of (grid.Mercator v) = 10
template_of (grid.Polar v) = 20
template_of (grid.Lambert v) = 30
template_of (grid.Gaussian v) = 40

-- the numbers that all templates share
abbrev pub common_of : Grid → Common
common_of (grid.LatLon v) = lat_lon_common v
common_of (grid.Rotated v r) = lat_lon_common v
common_of (grid.Mercator v) = mercator_common v
common_of (grid.Polar v) = polar_common v
common_of (grid.Lambert v) = polar_common (lambert_polar v)
common_of (grid.Gaussian v) = lat_lon_common (gaussian_lat_lon v)

-- the octets of a grid's template
abbrev pub SpelledTemplate : Grid → List ℕ → Type 0
SpelledTemplate (grid.LatLon v) s = SpelledLatLon v s
SpelledTemplate (grid.Rotated v r) s = SpelledLatLon v s × SpelledRotation r s
SpelledTemplate (grid.Mercator v) s = SpelledMercator v s
SpelledTemplate (grid.Polar v) s = SpelledPolar v s
SpelledTemplate (grid.Lambert v) s = SpelledLambert v s
SpelledTemplate (grid.Gaussian v) s = SpelledLatLon (gaussian_lat_lon v) s

-- the value has the numbers of the section; octet 6 says that the grid is that of octets 13-14
pub record Spelled (value : GridSection) (s : List ℕ) : Type 0 where
  pub source : 0 ≡ octets s 6 6
  pub points : value.points ≡ octets s 7 10
  pub list_octets : value.list_octets ≡ octets s 11 11
  pub list_meaning : value.list_meaning ≡ octets s 12 12
  pub template : template_of value.grid ≡ octets s 13 14
  pub grid : SpelledTemplate value.grid s
  pub rows : value.rows ≡ row_list s

-- Octets that are a Section 3 which no rule of the profile refuses, and of which the value has the numbers.
pub record IsSectionOf (value : GridSection) (s : List ℕ) : Type 0 where
  pub small : All (λ octet. octet < 256) s
  pub itself : StatesItself 3 s
  pub rows : first_fault (grid_rules s) ≡ None
  pub spelled : Spelled value s

-- the length of a section that has its template and its list, and no more
abbrev pub written_length : GridSection → ℕ
written_length value = least_length grid_templates (template_of value.grid) + value.list_octets * length value.rows
