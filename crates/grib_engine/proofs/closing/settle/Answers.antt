use Rattle.grib_command.proofs.Passing.{failed_passed}
use Rattle.grib_engine.proofs.closing.settle.Goals as goal

pub returns-in_err-write_whole-clause-memory : goal.returns-in_err-write_whole-clause-memory
returns-in_err-write_whole-clause-memory g c = λ off notes_off.
    failed_passed c.from_residual.result _ c.from_residual.ensures.1 (c.in_err-write_whole.ensures.memory notes_off)

pub returns-in_err-finish-clause-memory : goal.returns-in_err-finish-clause-memory
returns-in_err-finish-clause-memory g c = λ off notes_off.
    failed_passed c.from_residual-in_err-finish.result _ c.from_residual-in_err-finish.ensures.1 (c.in_err-finish.ensures.memory off)
