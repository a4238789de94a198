-- The fields of a message that are still to come.
use Rattle.std.specs.Prelude.{◌+◌, ◌-◌, List}
use Rattle.grib.specs.Message.{FieldOf, fields_from}
use Rattle.grib.specs.declared.fields.Fields.{Fields}

abbrev pub fields_left : Fields → List FieldOf
fields_left fields = fields_from fields.message.now (fields.before + 1) (fields.count - fields.before)
