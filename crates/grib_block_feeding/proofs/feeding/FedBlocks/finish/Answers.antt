use Rattle.std.proofs.Common.{sym, ap, ◌∙◌}
use Rattle.grib_block_feeding.proofs.Pieces.{fault_in, fault_is}
use Rattle.grib_block_feeding.proofs.feeding.FedBlocks.finish.Goals as goal

pub returns-in-Items : goal.returns-in-Items
returns-in-Items g c = λ coding count keeper octets agrees.
    fault_is g.K.Keeper.kept coding count octets keeper c.args.self agrees ∙ ap fault_in (sym c.stage.ensures ∙ c.in-Items.is)

pub returns-in-Over-Some : goal.returns-in-Over-Some
returns-in-Over-Some g c = λ coding count keeper octets agrees.
    fault_is g.K.Keeper.kept coding count octets keeper c.args.self agrees ∙ (ap fault_in (sym c.stage.ensures ∙ c.in-Over-Some.is) ∙ c.in-Over-Some.field-0-is)

pub returns-in-Over-None : goal.returns-in-Over-None
returns-in-Over-None g c = λ coding count keeper octets agrees. (
  fault_is g.K.Keeper.kept coding count octets keeper c.args.self agrees ∙ (ap fault_in (sym c.stage.ensures ∙ c.in-Over-None.is) ∙ c.in-Over-None.field-0-is),
  agrees.kept_are,
)
