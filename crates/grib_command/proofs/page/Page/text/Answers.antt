use Rattle.std.proofs.Common.{sym, ap}
use Rattle.grib_command.specs.Pages.{text_of}
use Rattle.grib_command.proofs.page.Page.text.Goals as goal

pub returns-in-Help : goal.returns-in-Help
returns-in-Help c = sym (ap text_of c.in-Help.is)
