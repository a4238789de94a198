-- Which values of Section 3 can be written: those that a section has which no rule of the profile refuses.
use Rattle.std.specs.Prelude.{◌≡◌, ◌*◌, ◌^◌, ◌<◌, ◌≤◌, ◌⊎◌, true, [], All, length, sum}
use Rattle.grib_base.specs.declared.limits.TheConstants.{MOST_POINTS}
use Rattle.grib2_grids.specs.Grid.{may_have_list}
use Rattle.grib2_grids.specs.Spelled.{template_of, common_of, written_length}
use Rattle.grib2_grids.specs.declared.grid.GridSection.{GridSection}

-- its list of rows: one number for each of the Nj rows, which is not missing, of at most four octets; their
-- sum is the number of points
pub record ListsRows (value : GridSection) : Type 0 where
  pub meaning : (value.list_meaning ≡ 1) ⊎ (value.list_meaning ≡ 2)
  pub word : value.list_octets ≤ 4
  pub template : may_have_list (template_of value.grid) ≡ true
  pub count : length value.rows ≡ (common_of value.grid).nj
  pub some : 1 ≤ length value.rows
  pub known : length value.rows < 4294967295
  pub fit : All (λ row. row < 256 ^ value.list_octets) value.rows
  pub points : sum value.rows ≡ value.points

-- no list: the number of points is the product of Ni and Nj
pub record ListsNone (value : GridSection) : Type 0 where
  pub rows : value.rows ≡ []
  pub points : (common_of value.grid).ni * (common_of value.grid).nj ≡ value.points

pub record IsWritable (value : GridSection) : Type 0 where
  pub some : 1 ≤ value.points
  pub few : value.points ≤ MOST_POINTS
  pub listed : 0 < value.list_octets → ListsRows value
  pub plain : value.list_octets ≡ 0 → ListsNone value
  pub short : written_length value < 2 ^ 32
