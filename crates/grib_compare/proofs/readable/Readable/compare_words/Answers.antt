use Rattle.std.proofs.Common.{◌≡◌, IfOk, IfSome, sym, ap₂, subst}
use Rattle.grib_compare.specs.declared.comparison.Comparison.TheVariants.{Same}
use Rattle.grib_compare.specs.Fields.{by_points}
use Rattle.grib_compare.proofs.Editions.{readable_second}
use Rattle.grib_compare.proofs.readable.Readable.compare_words.Goals as goal

pub returns : goal.returns
returns c =
    let here = readable_second c.args.self.now c.in-Two.here c.args.field c.in-Two.is c.octets.ensures.message.edition_stands in
    let there = readable_second c.args.other.now c.in-Two-other.there c.args.other_field c.in-Two-other.is c.octets-2.ensures.message.edition_stands in
    subst (λ means. IfOk c.compare_words.result (λ found. IfSome found (λ comparison. comparison ≡ means)))
    (ap₂ (λ left right. by_points left right Same) (sym here) (sym there)) c.compare_words.ensures
