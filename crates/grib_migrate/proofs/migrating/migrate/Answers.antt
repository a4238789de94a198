use Rattle.grib_migrate.proofs.Plain.{plain_answer}
use Rattle.grib_migrate.proofs.migrating.migrate.Goals as goal

pub returns : goal.returns
returns c =
    plain_answer (λ octets. octets.items) c.migrate_with.result c.args.table.now c.new-none.result c.kept_where.result c.args.keep_local c.args.message.now c.new-none.ensures c.kept_where.ensures
    c.migrate_with.ensures
