use Rattle.std.proofs.Common.{◌++◌}
use Rattle.grib_packings.proofs.Read.{column_agrees}
use Rattle.grib_packings.proofs.laws.what_is_pushed_agrees.Goals as goal

pub returns-clause-start : goal.returns-clause-start
returns-clause-start c = λ s5 mask start l octets first feeder empty counted read. column_agrees s5 mask start l octets first empty counted feeder read

pub returns-clause-push : goal.returns-clause-push
returns-clause-push c = λ s5 mask start l octets piece before after reads agrees.
    column_agrees s5 mask start l (octets ++ piece) agrees.first agrees.empty agrees.counted after (reads agrees.first agrees.read)
