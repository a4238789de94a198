use Rattle.std.proofs.Common.{◌≡◌, ℕ, Option, Some, None, MatchResult, sym, ap, ◌∙◌, subst}
use Rattle.grib_base.specs.declared.fault.Fault.{Fault}
use Rattle.grib_base.specs.Rules.{located}
use Rattle.grib_base.proofs.Passing.{carried}
use Rattle.grib_packing.specs.Entries.{packing_fault_under}
use Rattle.grib_packings.specs.Field.{IsDataOf}
use Rattle.grib_packings.proofs.data_representation.DataRepresentation.read.Goals as goal

pub returns-in_err-check_stated-in-Stated : goal.returns-in_err-check_stated-in-Stated
returns-in_err-check_stated-in-Stated c =
    let section = c.args.section5.now in
    carried _ _ _ _ c.from_residual.ensures.1
    (ap (λ profile. located section.start (packing_fault_under profile section.octets.now c.args.points)) c.in-Stated.is ∙ c.in_err-check_stated-in-Stated.ensures c.args.points)

pub returns-in_ok-check_stated-in-Stated : goal.returns-in_ok-check_stated-in-Stated
returns-in_ok-check_stated-in-Stated c =
    let section = c.args.section5.now in
    let same = ap (λ profile. packing_fault_under profile section.octets.now c.args.points) c.in-Stated.is ∙ c.in_ok-check_stated-in-Stated.ensures c.args.points in
    subst (λ (fault : Option Fault). MatchResult c.read_listed.result (λ value. (fault ≡ None) × IsDataOf value section.octets.now) (λ refused. located section.start fault ≡ Some refused)) (sym same) c.read_listed.ensures

pub returns-in-Open-2 : goal.returns-in-Open-2
returns-in-Open-2 c =
    let section = c.args.section5.now in
    let same = ap (λ profile. packing_fault_under profile section.octets.now c.args.points) c.in-Open-2.is ∙ c.is_taken_opaque.ensures.known c.if-is_taken_opaque.false c.args.points in
    subst (λ (fault : Option Fault). MatchResult c.read_listed-in-Open-2.result (λ value. (fault ≡ None) × IsDataOf value section.octets.now) (λ refused. located section.start fault ≡ Some refused)) (sym same) c.read_listed-in-Open-2.ensures
