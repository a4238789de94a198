-- A look-up that falls back to every centre.
use Rattle.std.proofs.Common.{◌≡◌, ℕ, Option, None, Some, sym}
use Rattle.grib_params.specs.declared.row.Target.{Target}
use Rattle.grib_params.specs.declared.surface_row.SurfaceTarget.{SurfaceTarget}
use Rattle.grib_params.specs.Fields.{Key}
use Rattle.grib_params.specs.Surfaces.{SurfaceEntries, surface_at, surface_under}
use Rattle.grib_params.specs.Table.{Entries, lookup_in, target_at}

-- where the centre has no target, the look-up finds that of every centre
pub fell_back : (table : Entries) (centre version parameter : ℕ) (found : Option Target)
    → None ≡ target_at table (Some centre, version, parameter)
    → found ≡ target_at table (None, version, parameter)
    → found ≡ lookup_in table centre version parameter
fell_back table centre version parameter found none every = rw (sym none) every

-- and where a level has none, that of every level
pub fell_back_level : (table : SurfaceEntries) (key : Key) (level_type level : ℕ) (found : Option SurfaceTarget)
    → None ≡ surface_at table (key, level_type, Some level)
    → found ≡ surface_at table (key, level_type, None)
    → found ≡ surface_under table key level_type level
fell_back_level table key level_type level found none every = rw (sym none) every
