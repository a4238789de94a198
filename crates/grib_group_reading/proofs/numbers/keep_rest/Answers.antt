use Rattle.std.proofs.Common.{◌%◌, ◌/◌, ◌++◌, List, Bool, length, ◌-◌, take, drop, sym, ap, ◌∙◌, arith}
use Rattle.std.proofs.lemmas.List.{take_rest}
use Rattle.grib_bits.specs.Bits.{bits}
use Rattle.grib_bits.proofs.Fields.{field_start}
use Rattle.grib_group_reading.proofs.numbers.keep_rest.Goals as goal

pub returns : goal.returns
returns c =
    let octets = c.args.octets.now in
    let at = c.args.at in
    c.take-before.ensures.rest
    ∙ ap (drop (at % 8)) (c.keep.ensures ∙ ap (λ (bs : List Bool). bs ++ bits (take (length octets - at / 8) (drop (at / 8) octets))) c.requires.empty ∙ ap bits (take_rest octets (at / 8)))
    ∙ sym (field_start octets at (omega arith))
