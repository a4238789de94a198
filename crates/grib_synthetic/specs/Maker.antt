-- What the points of a field are made with, for private functions.
use Rattle.std.specs.Prelude.{◌≡◌, ℕ, ◌+◌, ◌*◌, ◌^◌, ◌<◌}
use Rattle.grib_synthetic.specs.declared.points.Maker.{Maker}
use Rattle.grib_synthetic.specs.Points.{random}

-- n points of the field with this seed are made
pub record HasMade (maker : Maker) (seed n : ℕ) : Type 0 where
  pub random_stands : maker.random ≡ random seed n
  pub small : maker.random < 2 ^ 31
  pub place_stands : n ≡ maker.j * maker.ni + maker.i
  pub within : maker.i < maker.ni
