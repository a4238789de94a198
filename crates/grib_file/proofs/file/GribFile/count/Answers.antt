use Rattle.std.proofs.Common.{All, subst}
use Rattle.grib_file.specs.Filed.{FileFields}
use Rattle.grib_file.specs.Read.{IsFieldOf}
use Rattle.grib_file.proofs.Found.{fields_are}
use Rattle.grib_file.proofs.file.GribFile.count.Goals as goal

pub returns-clause-accepted : goal.returns-clause-accepted
returns-clause-accepted c =
    subst (λ (file : FileFields). All (IsFieldOf file.profile) file.fields) c.self.view_is
    (fields_are c.self.inside.profile c.self.inside.octets.items c.self.inside.entries.items c.self.invariant)
