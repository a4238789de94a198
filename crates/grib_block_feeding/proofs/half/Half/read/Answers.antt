use Rattle.std.proofs.Common.{◌<◌, ◌≤◌, ◌^◌}
use Rattle.grib_block_feeding.specs.Pending.{IsNumber, IsSequence}
use Rattle.grib_block_feeding.proofs.Halves.{stands_by, gone_on}
use Rattle.grib_block_feeding.proofs.half.Half.read.Goals as goal

pub go_on-requires-clause-stands : goal.go_on-requires-clause-stands
go_on-requires-clause-stands c =
    let half = c.args.self.now in
    let number = c.in_ok-number.number in
    stands_by c.args.coding half half.part c.read.new.self half.part (λ width. IsNumber width half.pending) (λ width. number < 2 ^ width) (IsSequence half.pending) (number ≤ 18446744073709551615)
    c.in_ok-number.ensures.number c.in_ok-number.ensures.sequence c.requires.half

pub returns-clause-gone : goal.returns-clause-gone
returns-clause-gone c =
    gone_on c.args.coding c.args.self.now c.go_on.new.self c.read.new.self c.args.bit c.in_ok-number.number c.go_on.result c.in_ok-number.ensures.reads c.go_on.ensures.gone
