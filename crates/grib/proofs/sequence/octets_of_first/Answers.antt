use Rattle.std.proofs.Common.{◌<◌, false}
use Rattle.std.proofs.lemmas.List.Elements.{All-from_get_or}
use Rattle.grib_items.proofs.Heads.{passed_size}
use Rattle.grib.proofs.Ended.{size_is}
use Rattle.grib.proofs.sequence.octets_of_first.Goals as goal

pub returns-clause-size : goal.returns-clause-size
returns-clause-size c =
    size_is c.args.octets.now c.octets_skipped.result (All-from_get_or (λ octet. octet < 256) _ 0 (λ i below. (c.type_inv.octets i).fits)) c.requires c.octets_skipped.ensures

pub returns-clause-some : goal.returns-clause-some
returns-clause-some c = (passed_size false c.octets_skipped.result c.args.octets.now c.requires c.octets_skipped.ensures).0

pub returns-clause-within : goal.returns-clause-within
returns-clause-within c = (passed_size false c.octets_skipped.result c.args.octets.now c.requires c.octets_skipped.ensures).1
