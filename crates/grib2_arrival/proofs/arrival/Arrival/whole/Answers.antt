use Rattle.grib2_arrival.proofs.Verdicts.{whole_is}
use Rattle.grib2_arrival.proofs.arrival.Arrival.whole.Goals as goal

pub returns : goal.returns
returns c = λ profile u h. whole_is profile c.args.self.now.state u c.is_ended.result h c.is_ended.ensures.listens c.is_ended.ensures.ended
