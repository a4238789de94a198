use Rattle.std.proofs.Common.{◌≡◌, ◌≤◌, ◌⊎◌, inl, inr, true, length, sym, ap, ◌∙◌, arith}
use Rattle.grib.proofs.Readings.{adds_none}
use Rattle.grib.proofs.reader.Reader.read_to.Goals as goal
use Rattle.grib.proofs.reader.Reader.read_to.Goals.{then-self-via-then-self, then-self-via-else-self+then-len-wanted}

pub returns-then-self-clause-adds : goal.returns-then-self-clause-adds
returns-then-self-clause-adds g c =
    let reading = c.args.self.now in
    let there : (reading.ended ≡ true) ⊎ (c.args.wanted ≤ length reading.ahead) =
    elim c.then-self.branch [
      | then-self-via-then-self w ↦ inl (sym (ap (λ r. r.ended) c.self.view_is) ∙ w.if-self.true)
      | then-self-via-else-self+then-len-wanted w ↦ inr (omega (arith, w.if-len-wanted.true, w.len.ensures, ap (λ r. length r.ahead) c.self.view_is))
    ] in
    adds_none g.S.Source.left reading c.args.wanted c.requires there
