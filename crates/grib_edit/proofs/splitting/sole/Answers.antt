use Rattle.std.proofs.Common.{sym, ◌∙◌, rules}
use Rattle.grib_bits.proofs.OctetBits.{AreOctets}
use Rattle.grib_select.proofs.Sole.{is_sole}
use Rattle.grib_edit.proofs.splitting.sole.Goals as goal

pub returns-then-fields-eq1 : goal.returns-then-fields-eq1
returns-then-fields-eq1 c =
    let small : AreOctets c.octets-octets.result.now = λ i. search rules in
    is_sole c.args.message.now c.octets-octets.result.now c.args.field c.octets-octets.ensures.message c.octets-octets.ensures.octets small
    (sym c.fields.ensures.count ∙ c.if-fields-eq1.true) c.requires.first c.requires.last
