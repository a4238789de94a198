use Rattle.std.proofs.Common.{ap, sym, ◌∙◌, arith}
use Rattle.grib_base.proofs.Passing.{carried, none-located}
use Rattle.grib_base.specs.Rules.{first_fault, located}
use Rattle.grib_packing.specs.Coded.{coded_rules}
use Rattle.grib_packing.specs.Complex.{complex_rules}
use Rattle.grib_packing.specs.Entries.{packing_rules}
use Rattle.grib_packing.specs.Packing.{packing_template}
use Rattle.grib_packing.proofs.Packings.{complex_unless, shared_passes, packing_fault-coded, packing_fault-complex}
use Rattle.grib_simple_reading.proofs.Accepted.{accepted-simple}
use Rattle.grib_packings.proofs.representation.Representation.read.Goals as goal

pub returns-in-0 : goal.returns-in-0
returns-in-0 c =
    let s5 = c.args.section5.now.octets.now in
    let simple = c.in_ok-simple.ensures in
    let template = sym simple.1.template ∙ c.in-0.is in
    let accepted = accepted-simple c.args.section5.now.start s5 c.args.points simple.0 template in
    (accepted, record { numbers = (template, simple.1); points = c.args.points; few = c.requires; accepted = accepted })

pub returns-in_err-coded_of-in-42 : goal.returns-in_err-coded_of-in-42
returns-in_err-coded_of-in-42 c =
    let s5 = c.args.section5.now.octets.now in
    let start = c.args.section5.now.start in
    let simple = c.in_ok-simple.ensures in
    let passes = none-located start (first_fault (packing_rules s5 c.args.points)) simple.0 in
    let template = sym simple.1.template ∙ c.in-42.is in
    carried _ _ _ _ c.from_residual-in_err-coded_of-in-42.ensures.1 (ap (located start) (packing_fault-coded s5 c.args.points passes template) ∙ c.in_err-coded_of-in-42.ensures)

pub returns-in_ok-coded_of-in-42 : goal.returns-in_ok-coded_of-in-42
returns-in_ok-coded_of-in-42 c =
    let s5 = c.args.section5.now.octets.now in
    let start = c.args.section5.now.start in
    let simple = c.in_ok-simple.ensures in
    let coded = c.in_ok-coded_of-in-42.ensures in
    let passes = none-located start (first_fault (packing_rules s5 c.args.points)) simple.0 in
    let template = sym simple.1.template ∙ c.in-42.is in
    let accepted = packing_fault-coded s5 c.args.points passes template ∙ none-located start (first_fault (coded_rules s5)) coded.0 in
    (accepted, record { numbers = (template, coded.1); points = c.args.points; few = c.requires; accepted = accepted })

pub returns-in_err-complex_of-in_default : goal.returns-in_err-complex_of-in_default
returns-in_err-complex_of-in_default c =
    let s5 = c.args.section5.now.octets.now in
    let start = c.args.section5.now.start in
    let simple = c.in_ok-simple.ensures in
    let passes = none-located start (first_fault (packing_rules s5 c.args.points)) simple.0 in
    let templates = complex_unless (packing_template s5) (shared_passes s5 c.args.points passes).template (λ zero. omega (arith, simple.1.template, zero)) (λ coded. omega (arith, simple.1.template, coded)) in
    carried _ _ _ _ c.from_residual-in_err-complex_of-in_default.ensures.1 (ap (located start) (packing_fault-complex s5 c.args.points passes templates) ∙ c.in_err-complex_of-in_default.ensures)

pub returns-in_ok-complex_of-in_default : goal.returns-in_ok-complex_of-in_default
returns-in_ok-complex_of-in_default c =
    let s5 = c.args.section5.now.octets.now in
    let start = c.args.section5.now.start in
    let simple = c.in_ok-simple.ensures in
    let complex = c.in_ok-complex_of-in_default.ensures in
    let passes = none-located start (first_fault (packing_rules s5 c.args.points)) simple.0 in
    let templates = complex_unless (packing_template s5) (shared_passes s5 c.args.points passes).template (λ zero. omega (arith, simple.1.template, zero)) (λ coded. omega (arith, simple.1.template, coded)) in
    let accepted = packing_fault-complex s5 c.args.points passes templates ∙ none-located start (first_fault (complex_rules s5)) complex.0 in
    (accepted, record { numbers = (templates, complex.1); points = c.args.points; few = c.requires; accepted = accepted })
