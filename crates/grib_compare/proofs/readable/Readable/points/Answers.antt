use Rattle.std.proofs.Common.{IfOk, sym, subst}
use Rattle.grib_dyadic.specs.Meaning.{SameMeaning}
use Rattle.grib_compare.specs.Seen.{points_mean}
use Rattle.grib_compare.proofs.Editions.{readable_first, readable_second}
use Rattle.grib_compare.proofs.readable.Readable.points.Goals as goal

pub returns-in-One : goal.returns-in-One
returns-in-One c =
    subst (λ means. IfOk c.first_points.result (λ points. SameMeaning (points_mean points) means))
    (sym (readable_first c.args.self.now c.in-One.message c.args.field c.in-One.is c.octets.ensures.message.edition_stands)) c.first_points.ensures

pub returns-in-Two : goal.returns-in-Two
returns-in-Two c =
    subst (λ means. IfOk c.second_points.result (λ points. SameMeaning (points_mean points) means))
    (sym (readable_second c.args.self.now c.in-Two.message c.args.field c.in-Two.is c.octets-in-Two.ensures.message.edition_stands)) c.second_points.ensures
