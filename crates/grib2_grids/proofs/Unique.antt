-- A section has one value.
use Rattle.std.proofs.Common.{◌≡◌, ℕ, List, sym, ap, ◌∙◌, arith}
use Rattle.grib2_grids.specs.Spelled.{Spelled, SpelledTemplate, SpelledLatLon, SpelledRotation, SpelledMercator, SpelledPolar, SpelledLambert, lambert_polar, gaussian_lat_lon, template_of}
use Rattle.grib2_grids.specs.declared.templates.LatLon.{LatLon}
use Rattle.grib2_grids.specs.declared.templates.Rotation.{Rotation}
use Rattle.grib2_grids.specs.declared.templates.Mercator.{Mercator}
use Rattle.grib2_grids.specs.declared.templates.Polar.{Polar}
use Rattle.grib2_grids.specs.declared.templates.Lambert.{Lambert}
use Rattle.grib2_grids.specs.declared.templates.Gaussian.{Gaussian}
use Rattle.grib2_grids.specs.declared.grid.Grid.{Grid}
use Rattle.grib2_grids.specs.declared.grid.Grid.TheVariants as grid
use Rattle.grib2_grids.specs.declared.grid.GridSection.{GridSection}

same_lat_lon : (v w : LatLon) (s : List ℕ) → SpelledLatLon v s → SpelledLatLon w s → v ≡ w
same_lat_lon v w s h g = λ i. record {
  shape = (h.common.shape ∙ sym g.common.shape) i;
  radius_scale = (h.common.radius_scale ∙ sym g.common.radius_scale) i;
  radius = (h.common.radius ∙ sym g.common.radius) i;
  major_scale = (h.common.major_scale ∙ sym g.common.major_scale) i;
  major = (h.common.major ∙ sym g.common.major) i;
  minor_scale = (h.common.minor_scale ∙ sym g.common.minor_scale) i;
  minor = (h.common.minor ∙ sym g.common.minor) i;
  ni = (h.common.ni ∙ sym g.common.ni) i;
  nj = (h.common.nj ∙ sym g.common.nj) i;
  basic = (h.basic ∙ sym g.basic) i;
  subdivisions = (h.subdivisions ∙ sym g.subdivisions) i;
  la1 = (h.la1 ∙ sym g.la1) i;
  lo1 = (h.lo1 ∙ sym g.lo1) i;
  flags = (h.flags ∙ sym g.flags) i;
  la2 = (h.la2 ∙ sym g.la2) i;
  lo2 = (h.lo2 ∙ sym g.lo2) i;
  di = (h.di ∙ sym g.di) i;
  dj = (h.dj ∙ sym g.dj) i;
  scanning = (h.scanning ∙ sym g.scanning) i;
}

same_rotation : (v w : Rotation) (s : List ℕ) → SpelledRotation v s → SpelledRotation w s → v ≡ w
same_rotation v w s h g = λ i. record {
  pole_la = (h.pole_la ∙ sym g.pole_la) i;
  pole_lo = (h.pole_lo ∙ sym g.pole_lo) i;
  angle = (h.angle ∙ sym g.angle) i;
}

same_mercator : (v w : Mercator) (s : List ℕ) → SpelledMercator v s → SpelledMercator w s → v ≡ w
same_mercator v w s h g = λ i. record {
  shape = (h.common.shape ∙ sym g.common.shape) i;
  radius_scale = (h.common.radius_scale ∙ sym g.common.radius_scale) i;
  radius = (h.common.radius ∙ sym g.common.radius) i;
  major_scale = (h.common.major_scale ∙ sym g.common.major_scale) i;
  major = (h.common.major ∙ sym g.common.major) i;
  minor_scale = (h.common.minor_scale ∙ sym g.common.minor_scale) i;
  minor = (h.common.minor ∙ sym g.common.minor) i;
  ni = (h.common.ni ∙ sym g.common.ni) i;
  nj = (h.common.nj ∙ sym g.common.nj) i;
  la1 = (h.la1 ∙ sym g.la1) i;
  lo1 = (h.lo1 ∙ sym g.lo1) i;
  flags = (h.flags ∙ sym g.flags) i;
  lad = (h.lad ∙ sym g.lad) i;
  la2 = (h.la2 ∙ sym g.la2) i;
  lo2 = (h.lo2 ∙ sym g.lo2) i;
  scanning = (h.scanning ∙ sym g.scanning) i;
  orientation = (h.orientation ∙ sym g.orientation) i;
  di = (h.di ∙ sym g.di) i;
  dj = (h.dj ∙ sym g.dj) i;
}

same_polar : (v w : Polar) (s : List ℕ) → SpelledPolar v s → SpelledPolar w s → v ≡ w
same_polar v w s h g = λ i. record {
  shape = (h.common.shape ∙ sym g.common.shape) i;
  radius_scale = (h.common.radius_scale ∙ sym g.common.radius_scale) i;
  radius = (h.common.radius ∙ sym g.common.radius) i;
  major_scale = (h.common.major_scale ∙ sym g.common.major_scale) i;
  major = (h.common.major ∙ sym g.common.major) i;
  minor_scale = (h.common.minor_scale ∙ sym g.common.minor_scale) i;
  minor = (h.common.minor ∙ sym g.common.minor) i;
  ni = (h.common.ni ∙ sym g.common.ni) i;
  nj = (h.common.nj ∙ sym g.common.nj) i;
  la1 = (h.la1 ∙ sym g.la1) i;
  lo1 = (h.lo1 ∙ sym g.lo1) i;
  flags = (h.flags ∙ sym g.flags) i;
  lad = (h.lad ∙ sym g.lad) i;
  lov = (h.lov ∙ sym g.lov) i;
  dx = (h.dx ∙ sym g.dx) i;
  dy = (h.dy ∙ sym g.dy) i;
  centre = (h.centre ∙ sym g.centre) i;
  scanning = (h.scanning ∙ sym g.scanning) i;
}

-- template 3.30 from the octets of template 3.20 and its own
abbrev lambert_of : Polar → ℕ → ℕ → ℕ → ℕ → Lambert
lambert_of v latin1 latin2 pole_la pole_lo = record {
  shape = v.shape;
  radius_scale = v.radius_scale;
  radius = v.radius;
  major_scale = v.major_scale;
  major = v.major;
  minor_scale = v.minor_scale;
  minor = v.minor;
  ni = v.ni;
  nj = v.nj;
  la1 = v.la1;
  lo1 = v.lo1;
  flags = v.flags;
  lad = v.lad;
  lov = v.lov;
  dx = v.dx;
  dy = v.dy;
  centre = v.centre;
  scanning = v.scanning;
  latin1 = latin1;
  latin2 = latin2;
  pole_la = pole_la;
  pole_lo = pole_lo;
}

same_lambert : (v w : Lambert) (s : List ℕ) → SpelledLambert v s → SpelledLambert w s → v ≡ w
same_lambert v w s h g =
    let polar = same_polar (lambert_polar v) (lambert_polar w) s h.polar g.polar in
    λ i. lambert_of (polar i) ((h.latin1 ∙ sym g.latin1) i) ((h.latin2 ∙ sym g.latin2) i) ((h.pole_la ∙ sym g.pole_la) i) ((h.pole_lo ∙ sym g.pole_lo) i)

-- template 3.40 from the octets of template 3.0
abbrev gaussian_of : LatLon → Gaussian
gaussian_of v = record {
  shape = v.shape;
  radius_scale = v.radius_scale;
  radius = v.radius;
  major_scale = v.major_scale;
  major = v.major;
  minor_scale = v.minor_scale;
  minor = v.minor;
  ni = v.ni;
  nj = v.nj;
  basic = v.basic;
  subdivisions = v.subdivisions;
  la1 = v.la1;
  lo1 = v.lo1;
  flags = v.flags;
  la2 = v.la2;
  lo2 = v.lo2;
  di = v.di;
  n = v.dj;
  scanning = v.scanning;
}

same_gaussian : (v w : Gaussian) (s : List ℕ) → SpelledLatLon (gaussian_lat_lon v) s → SpelledLatLon (gaussian_lat_lon w) s → v ≡ w
same_gaussian v w s h g = ap gaussian_of (same_lat_lon (gaussian_lat_lon v) (gaussian_lat_lon w) s h g)

-- grids with templates of one number
same_grid : (v w : Grid) (s : List ℕ) → template_of v ≡ template_of w → SpelledTemplate v s → SpelledTemplate w s → v ≡ w
same_grid (grid.LatLon v) (grid.LatLon w) s e h g = ap grid.LatLon (same_lat_lon v w s h g)
same_grid (grid.Rotated v q) (grid.Rotated w r) s e h g = λ i. grid.Rotated (same_lat_lon v w s h.0 g.0 i) (same_rotation q r s h.1 g.1 i)
same_grid (grid.Mercator v) (grid.Mercator w) s e h g = ap grid.Mercator (same_mercator v w s h g)
same_grid (grid.Polar v) (grid.Polar w) s e h g = ap grid.Polar (same_polar v w s h g)
same_grid (grid.Lambert v) (grid.Lambert w) s e h g = ap grid.Lambert (same_lambert v w s h g)
same_grid (grid.Gaussian v) (grid.Gaussian w) s e h g = ap grid.Gaussian (same_gaussian v w s h g)
same_grid v w s e h g = absurd (omega arith)

pub same_section : (value other : GridSection) (s : List ℕ) → Spelled value s → Spelled other s → value ≡ other
same_section value other s h g =
    let grid = same_grid value.grid other.grid s (h.template ∙ sym g.template) h.grid g.grid in
    λ i. record {
      points = (h.points ∙ sym g.points) i;
      list_octets = (h.list_octets ∙ sym g.list_octets) i;
      list_meaning = (h.list_meaning ∙ sym g.list_meaning) i;
      rows = (h.rows ∙ sym g.rows) i;
      grid = grid i;
    }
