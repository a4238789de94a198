use Rattle.std.proofs.Common.{ℕ, ◌≤◌, sym, subst}
use Rattle.std.specs.List.{All}
use Rattle.grib_block_reading.proofs.Shown.{none_over}
use Rattle.grib_block_reading.proofs.taking.take_codes.Goals as goal

pub keep_block-kept-requires-clause-codes : goal.keep_block-kept-requires-clause-codes
keep_block-kept-requires-clause-codes g c =
    subst (λ (most : ℕ). All (λ code. code ≤ most) c.args.codes.now) c.greatest.ensures (none_over c.greatest.result c.args.codes.now (sym c.in_default.ensures))
