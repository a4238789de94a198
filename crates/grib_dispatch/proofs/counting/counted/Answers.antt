use Rattle.std.proofs.Common.{◌∙◌, sym}
use Rattle.grib_dispatch.proofs.Editions.{fields_first, fields_second}
use Rattle.grib_dispatch.proofs.counting.counted.Goals as goal

pub returns-in-One-clause-fields : goal.returns-in-One-clause-fields
returns-in-One-clause-fields c = sym (fields_first _ _ c.in-One.is c.octets.ensures.message.edition_stands)

pub returns-in-Two-clause-fields : goal.returns-in-Two-clause-fields
returns-in-Two-clause-fields c = c.from.ensures ∙ (c.fields.ensures.count ∙ sym (fields_second _ _ c.in-Two.is c.octets-in-Two.ensures.message.edition_stands))
