-- The lines of `help`.
use Rattle.std.proofs.Common.{◌≡◌, true, refl}
use Rattle.std.specs.List.{list_any}
use Rattle.grib_command.specs.Pages.{help_lines}
use Rattle.grib_words.specs.declared.command.Command.{Command}
use Rattle.grib_words.specs.declared.command.Command.TheVariants as the
use Rattle.grib_help.specs.HelpLines.{is_line_on}

pub has_line : (command : Command) → list_any (is_line_on command) help_lines ≡ true
has_line the.Check = refl
has_line the.List = refl
has_line the.Keys = refl
has_line the.Stats = refl
has_line the.Dump = refl
has_line the.Values = refl
has_line the.Coordinates = refl
has_line the.Filter = refl
has_line the.Split = refl
has_line the.Set = refl
has_line the.Repack = refl
has_line the.Migrate = refl
has_line the.Demote = refl
has_line the.Rescan = refl
has_line the.Crop = refl
has_line the.Compare = refl
has_line the.Make = refl
has_line the.Help = refl
has_line the.Version = refl
