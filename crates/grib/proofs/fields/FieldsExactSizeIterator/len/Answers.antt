use Rattle.std.proofs.Common.{◌+◌, ◌-◌, sym}
use Rattle.std.proofs.lemmas.List.FromFn.{length-map-range_with_len}
use Rattle.grib.specs.Message.{field_of}
use Rattle.grib.proofs.fields.FieldsExactSizeIterator.len.Goals as goal

pub returns-clause-value : goal.returns-clause-value
returns-clause-value c =
    let fields = c.args.self.now in
    sym (length-map-range_with_len (field_of fields.message.now) (fields.before + 1) (fields.count - fields.before))
