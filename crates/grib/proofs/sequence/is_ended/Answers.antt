use Rattle.std.proofs.Common.{◌∙◌, ◌-◌, ap, take, drop, length-take-le}
use Rattle.std.specs.Str.{bytes_eq}
use Rattle.grib2_sections.specs.Head.{end_mark}
use Rattle.grib.proofs.sequence.is_ended.Goals as goal

pub returns : goal.returns
returns c =
    c.ends_with.ensures.value
    ∙ ap (λ n. bytes_eq end_mark (drop (n - 4) (take c.args.total c.args.octets.now))) (length-take-le c.args.total c.args.octets.now c.requires)
