use Rattle.std.proofs.Common.{◌+◌, get_or, ap, arith}
use Rattle.grib_block_reading.proofs.Fronts.{next_low, code_small, low_fits}
use Rattle.grib_block_reading.proofs.lists.read_low_bits.Goals as goal

pub overflow_add-code : goal.overflow_add-code
overflow_add-code c =
    let small = code_small _ _ _ _ _ _ c.loop-code.invariant (omega arith) (omega arith) c.requires.short in
    let fits = low_fits (get_or c.loop-code.codes c.loop-code.code-index 0) c.args.k c.in_ok-low.low small c.requires.k c.in_ok-low.ensures.fits in
    omega (arith, fits.0, fits.1)

pub loop-code-preserved : goal.loop-code-preserved
loop-code-preserved c =
    let small = code_small _ _ _ _ _ _ c.loop-code.invariant (omega arith) (omega arith) c.requires.short in
    let fits = low_fits (get_or c.loop-code.codes c.loop-code.code-index 0) c.args.k c.in_ok-low.low small c.requires.k c.in_ok-low.ensures.fits in
    next_low _ _ _ _ _ _ _ _ _ c.loop-code.invariant (omega arith) (omega arith) c.in_ok-low.ensures.found (ap (λ n. n + c.in_ok-low.low) fits.0)
