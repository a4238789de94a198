-- Sections 3 and 4 of the message that is made from a number, by their numbers.
use Rattle.std.specs.Prelude.{ℕ, ◌+◌, ◌*◌, []}
use Rattle.grib2_grids.specs.declared.grid.GridSection.{GridSection}
use Rattle.grib2_grids.specs.declared.grid.Grid.TheVariants.{LatLon}
use Rattle.grib2_products.specs.declared.product.ProductSection.{ProductSection}
use Rattle.grib2_products.specs.declared.product.Product.TheVariants.{Instant}

-- nj rows of ni points, from 90 N 0 E to 90 S 359 E
abbrev pub grid_with : ℕ → ℕ → GridSection
grid_with ni nj = record {
  points = ni * nj;
  list_octets = 0;
  list_meaning = 0;
  rows = [];
  grid = LatLon (record {
    shape = 6;
    radius_scale = 0xFF;
    radius = 0xFFFFFFFF;
    major_scale = 0xFF;
    major = 0xFFFFFFFF;
    minor_scale = 0xFF;
    minor = 0xFFFFFFFF;
    ni = ni;
    nj = nj;
    basic = 0;
    subdivisions = 0xFFFFFFFF;
    la1 = 90000000;
    lo1 = 0;
    flags = 0;
    la2 = 0x80000000 + 90000000;
    lo2 = 359000000;
    di = 0xFFFFFFFF;
    dj = 0xFFFFFFFF;
    scanning = 0;
  });
}

-- temperature, 6 hours ahead, 2 m above ground
abbrev pub product_with : ProductSection
product_with = record {
  coordinates = [];
  product = Instant (record {
    category = 0;
    number = 0;
    process = 2;
    background = 0xFF;
    generator = 1;
    cutoff_hours = 0;
    cutoff_minutes = 0;
    unit = 1;
    time = 6;
    surface1 = 103;
    scale1 = 0;
    value1 = 2;
    surface2 = 0xFF;
    scale2 = 0xFF;
    value2 = 0xFFFFFFFF;
  });
}
