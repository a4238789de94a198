use Rattle.std.proofs.Common.{ℕ, ◌∷◌, [], refl, ap, ◌∙◌, arith, length, subst}
use Rattle.grib_group_reading.proofs.CodeRuns.{passed_none, passed_next, passed_all}
use Rattle.grib_group_reading.proofs.taker.take_each.Goals as goal

pub loop-index-init : goal.loop-index-init
loop-index-init g c = record {
  so_far = passed_none g.T.Taker.took c.args.taker g.met.T.Taker.none (g.R.CodeRun.codes c.args.run);
  left = omega (arith, c.count-index-end.ensures);
  stands = c.requires.stands;
  room = c.requires.room;
  limit = refl;
}

pub loop-index-preserved : goal.loop-index-preserved
loop-index-preserved g c = record {
  so_far = passed_next g.T.Taker.took c.args.taker g.met.T.Taker.more c.loop-index.invariant.so_far c.next-code.ensures.codes c.take-taker.ensures;
  left = omega (arith, c.loop-index.invariant.left, ap length c.next-code.ensures.codes);
  stands = c.next-code.ensures.stands;
  room = g.met.T.Taker.room_after c.loop-index.taker c.take-taker.result (c.next-code.result ∷ []) (length (g.R.CodeRun.codes c.next-code.new.self)) c.take-taker.ensures
      (subst (λ (n : ℕ). g.T.Taker.room c.loop-index.taker n) (ap length c.next-code.ensures.codes ∙ omega arith) c.loop-index.invariant.room);
  limit = c.next-code.ensures.limit ∙ c.loop-index.invariant.limit;
}

pub returns : goal.returns
returns g c = passed_all g.T.Taker.took c.args.taker c.loop-index.invariant.so_far (omega (arith, c.loop-index.invariant.left))

pub take-taker-requires-clause-room : goal.take-taker-requires-clause-room
take-taker-requires-clause-room g c =
    g.met.T.Taker.fewer c.loop-index.taker 1 (length (g.R.CodeRun.codes c.loop-index.run)) (omega (arith, ap length c.next-code.ensures.codes)) c.loop-index.invariant.room
