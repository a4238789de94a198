-- Which jobs there are.
use Rattle.std.specs.Prelude.{◌≡◌, ◌≤◌, Some, Bool, true, ◌||◌, ◌&&◌, ◌==◌, nat_lt, List, [], All, IsTrue}
use Rattle.grib_keys.specs.declared.condition.Change.{Change}
use Rattle.grib_keys.specs.Keys.{can_set}
use Rattle.grib_keys.specs.Keys1.{can_set1}
use Rattle.grib1_select.specs.declared.condition.Change1.{Change1}
use Rattle.grib_packing.specs.Coded.{is_block}
use Rattle.grib_packing.specs.declared.target.RepackTarget.{RepackTarget}
use Rattle.grib_packing.specs.declared.target.RepackTarget.TheVariants.{Simple, Complex, Spatial, Coded}
use Rattle.grib_synthetic.specs.Made.{MayBeMade}
use Rattle.grib_command.specs.declared.job.Job.{Job}
use Rattle.grib_command.specs.declared.job.Job.TheVariants.{Dump, Set, Set1, Repack, Crop, Make}

-- spatial differences are of order 1 or 2; a block has 8, 16, 32 or 64 values, and there are 1 to 4,096 of them from one
-- reference to the next
abbrev pub is_target : RepackTarget → Bool
is_target Simple = true
is_target Complex = true
is_target (Spatial order) = (order == 1) || (order == 2)
is_target (Coded block interval) = is_block block && (nat_lt 0 interval && nat_lt interval 4097)

-- whether what fields are packed to is there
abbrev pub has_target : Job → Bool
has_target (Repack target) = is_target target
has_target (Make seed ni nj target) = is_target target
has_target job = true

-- what is made can be made
abbrev pub HasSize : Job → Type 0
HasSize (Make seed ni nj target) = MayBeMade seed ni nj
HasSize job = Unit {0}

-- the first column and row of a subarea are at most its last
abbrev pub HasArea : Job → Type 0
HasArea (Crop area) = (area.i0 ≤ area.i1) × (area.j0 ≤ area.j1)
HasArea job = Unit {0}

-- decimals have at most 18 places
abbrev pub HasPlaces : Job → Type 0
HasPlaces (Dump (Some places) placed) = places ≤ 18
HasPlaces job = Unit {0}

-- the new values of keys that a job gives
abbrev pub changes_of : Job → List Change
changes_of (Set changes dates) = changes
changes_of job = []

-- the same of keys of edition 1
abbrev pub changes1_of : Job → List Change1
changes1_of (Set1 changes dates) = changes
changes1_of job = []

-- each of these keys can be set
abbrev pub CanChange : List Change → Type 0
CanChange changes = All (λ c. IsTrue (can_set c.key)) changes

abbrev pub CanChange1 : List Change1 → Type 0
CanChange1 changes = All (λ c. IsTrue (can_set1 c.key)) changes

-- the jobs that there are
pub record IsJob (job : Job) : Type 0 where
  pub target_stands : has_target job ≡ true
  pub size_stands : HasSize job
  pub area_stands : HasArea job
  pub changes_stand : CanChange (changes_of job)
  pub changes1_stand : CanChange1 (changes1_of job)
  pub places_stand : HasPlaces job
