use Rattle.grib_migrate.proofs.labels.add_local.Goals as goal

pub returns-in-Ecmwf : goal.returns-in-Ecmwf
returns-in-Ecmwf c = rw c.in-Ecmwf.is c.add_labels.ensures
