-- Messages of edition 1 of which nothing is lost.
use Rattle.std.specs.Prelude.{◌≡◌, ℕ, ◌<◌, Bool, None, List, All}
use Rattle.grib_params.specs.Surfaces.{SurfaceEntries}
use Rattle.grib_params.specs.Table.{Entries}
use Rattle.grib1_sections.specs.Message.{IsMessage1}
use Rattle.grib_migrate.specs.declared.labels.Local.{Local}
use Rattle.grib_migrate.specs.Losses.{first_loss, first_loss_with}

-- an accepted message of edition 1 of which nothing is lost by this table
pub record MayBeMigrated (table : Entries) (keep_local : Bool) (message : List ℕ) : Type 0 where
  pub accepted : IsMessage1 message
  pub small : All (λ octet. octet < 256) message
  pub kept : first_loss table keep_local message ≡ None

-- one of which nothing is lost by both tables and by what is chosen of local use
pub record MayBeMigratedWith (table : Entries) (surfaces : SurfaceEntries) (local : Local) (message : List ℕ) : Type 0 where
  pub accepted : IsMessage1 message
  pub small : All (λ octet. octet < 256) message
  pub kept : first_loss_with table surfaces local message ≡ None
