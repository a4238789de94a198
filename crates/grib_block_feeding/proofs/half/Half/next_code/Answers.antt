use Rattle.std.proofs.Common.{ℕ, ◌+◌, set, subst, sym, arith}
use Rattle.grib_block_feeding.specs.declared.pending.Pending.TheVariants.{Bits}
use Rattle.grib_block_feeding.specs.Half.{after_codes, GoesOn}
use Rattle.grib_block_feeding.proofs.Halves.{half_of, codes_on, codes_whole}
use Rattle.grib_block_feeding.proofs.half.Half.next_code.Goals as goal

pub returns-then-self-count-clause-gone : goal.returns-then-self-count-clause-gone
returns-then-self-count-clause-gone c =
    let half = c.args.self.now in
    subst
    (λ (bits : ℕ). GoesOn c.args.coding (after_codes c.args.coding half c.args.number)
    (half_of half.part (Bits 0 bits) half.with_reference half.reference (half.place + 1) (set half.numbers half.place c.args.number))) (sym c.from.ensures)
    (codes_on c.args.coding half c.args.number c.requires.part c.requires.reference (omega (arith, c.count.ensures.is)) (omega (arith, c.count.ensures)) c.requires.fits.some_bits)

pub returns-clause-gone : goal.returns-clause-gone
returns-clause-gone c =
    let half = c.args.self.now in
    codes_whole c.args.coding half c.args.number half.part half.pending c.requires.reference (omega (arith, c.count.ensures.is)) (omega (arith, c.count.ensures))
