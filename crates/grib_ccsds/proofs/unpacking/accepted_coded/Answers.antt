use Rattle.std.proofs.Common.{◌≡◌, Some, None, sym, ◌∙◌}
use Rattle.grib_base.specs.Rules.{first_fault}
use Rattle.grib_base.proofs.Passing.{located-none}
use Rattle.grib_packing.specs.Coded.{coded_rules}
use Rattle.grib_packing.proofs.Packings.{packing_shared, packing_fault-coded}
use Rattle.grib_ccsds.proofs.unpacking.accepted_coded.Goals as goal

pub unreachable-requires : goal.unreachable-requires
unreachable-requires c =
    let s = c.args.section.now.octets.now in
    let accepted = c.requires.accepted in
    let rules : first_fault (coded_rules s) ≡ None = sym (packing_fault-coded s c.args.points (packing_shared s c.args.points accepted) c.requires.template) ∙ accepted in
    let passes = located-none c.args.section.now.start (first_fault (coded_rules s)) rules in
    some_none (sym passes ∙ c.in_default.ensures)
  where
    some_none : {A : Type 0} {x : A} → None ≡ Some x → ⊥
    some_none is = cc
