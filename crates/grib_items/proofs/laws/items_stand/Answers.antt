use Rattle.grib_items.proofs.Standing.{items_stand, end_stands}
use Rattle.grib_items.proofs.laws.items_stand.Goals as goal

pub returns-clause-items : goal.returns-clause-items
returns-clause-items c = λ task passes more input lawful. items_stand task lawful passes more input

pub returns-clause-end : goal.returns-clause-end
returns-clause-end c = λ task passes more input lawful. end_stands task lawful passes more input
