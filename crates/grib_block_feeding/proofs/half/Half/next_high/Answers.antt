use Rattle.std.proofs.Common.{ℕ, ◌+◌, set, subst, sym, arith}
use Rattle.grib_block_reading.specs.declared.item.Kind.TheVariants.{Codes as codes_kind}
use Rattle.grib_block_feeding.specs.Half.{after_high, WholeItem}
use Rattle.grib_block_feeding.proofs.Halves.{half_of, high_on, high_whole, low_begun}
use Rattle.grib_block_feeding.proofs.half.Half.next_high.Goals as goal

pub returns-then-self-count-clause-gone : goal.returns-then-self-count-clause-gone
returns-then-self-count-clause-gone c =
    let stands = c.requires.stands in
    high_on c.args.coding c.args.self.now c.args.k c.args.number c.requires.part stands.1.0 (omega (arith, c.count.ensures.is)) (omega (arith, c.count.ensures)) stands.2 stands.3 stands.0

pub returns-then-k-eq0-clause-gone : goal.returns-then-k-eq0-clause-gone
returns-then-k-eq0-clause-gone c =
    let half = c.args.self.now in
    let stands = c.requires.stands in
    subst
    (λ (k : ℕ). WholeItem c.args.coding (after_high c.args.coding half k c.args.number) codes_kind
    (half_of half.part half.pending half.with_reference half.reference (half.place + 1) (set half.numbers half.place c.args.number))) (sym c.if-k-eq0.true)
    (high_whole c.args.coding half c.args.number half.part half.pending stands.1.0 (omega (arith, c.count.ensures.is, stands.1.1)) (omega (arith, c.count.ensures)) stands.3 stands.0)

pub returns-clause-gone : goal.returns-clause-gone
returns-clause-gone c =
    let stands = c.requires.stands in
    low_begun c.args.coding c.args.self.now c.args.k c.args.number stands.1.0 (omega (arith, c.count.ensures.is, stands.1.1)) (omega (arith, c.count.ensures)) stands.2 (omega arith)
