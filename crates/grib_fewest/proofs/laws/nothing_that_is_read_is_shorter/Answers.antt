use Rattle.std.proofs.Common.{ap, arith, length, length-append}
use Rattle.grib_fewest.specs.Lists.{list_bits}
use Rattle.grib_fewest.proofs.Parsed.{all_parsed}
use Rattle.grib_fewest.proofs.Steps.{fewest}
use Rattle.grib_fewest.proofs.laws.nothing_that_is_read_is_shorter.Goals as goal

pub returns : goal.returns
returns c coding numbers bits fits unpadded is =
    let p = all_parsed coding numbers bits fits unpadded is in
    let begins = p.1 in (
      p.0,
      begins,
      λ segments.
          omega (
            arith,
            fewest coding numbers p.0 fits begins.tells segments,
            ap length begins.stand,
            length-append (list_bits coding p.0) begins.rest,
          ),
    )
