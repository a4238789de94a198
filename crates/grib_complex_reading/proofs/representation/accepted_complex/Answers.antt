use Rattle.std.proofs.Common.{◌≡◌, Some, None, sym, ap, ◌∙◌}
use Rattle.grib_base.specs.Rules.{located}
use Rattle.grib_packing.proofs.Packings.{packing_fault-complex, packing_shared}
use Rattle.grib_complex_reading.proofs.Accepting.{accepted_from}
use Rattle.grib_complex_reading.proofs.representation.accepted_complex.Goals as goal

pub unreachable-requires : goal.unreachable-requires
unreachable-requires c =
    let s = c.args.section.now.octets.now in
    let start = c.args.section.now.start in
    let passes = sym (packing_fault-complex s c.args.points (packing_shared s c.args.points c.requires.accepted) c.requires.template) ∙ c.requires.accepted in
    let never : None ≡ Some c.in_default.field-0 = sym (ap (located start) passes) ∙ c.in_default.ensures in
    cc

pub returns-clause-accepted : goal.returns-clause-accepted
returns-clause-accepted c = accepted_from c.in-Ok.complex c.args.section.now.octets.now c.args.points c.requires.accepted c.in-Ok.ensures.1 c.requires.template
