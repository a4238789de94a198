use Rattle.std.proofs.Common.{rules}
use Rattle.grib.specs.Field.{shown}
use Rattle.grib.specs.Fields.{fields_left}
use Rattle.grib.proofs.Steps.{goes_on}
use Rattle.grib.proofs.fields.FieldsIterator.next.Goals as goal

pub returns-clause-goes : goal.returns-clause-goes
returns-clause-goes c = goes_on shown fields_left _ _ c.of.result (search rules)
