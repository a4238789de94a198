-- Fields of edition 2 of which nothing is lost.
use Rattle.std.specs.Prelude.{◌≡◌, ℕ, ◌<◌, ◌≤◌, Bool, None, List, All}
use Rattle.grib_params.specs.declared.matching.TableMatch.{TableMatch}
use Rattle.grib_params.specs.Table.{Entries}
use Rattle.grib2_message.specs.Fields.{field_count}
use Rattle.grib2_message.specs.Message.{IsAnyMessage, IsReadable}
use Rattle.grib_demote.specs.Demoted.{first_loss}

-- a field, counted from 1, of a message of edition 2 that a profile accepts and whose values can be read, of which nothing is lost by this table and these versions of its tables
pub record MayBeDemoted (table : Entries) (matching : TableMatch) (keep_local any_earth : Bool) (message : List ℕ) (field : ℕ) : Type 0 where
  pub accepted : IsAnyMessage message
  pub readable : IsReadable message
  pub small : All (λ octet. octet < 256) message
  pub first : 1 ≤ field
  pub last : field ≤ field_count message
  pub kept : first_loss table matching keep_local any_earth message field ≡ None
