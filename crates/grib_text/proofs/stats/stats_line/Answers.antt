use Rattle.std.proofs.Common.{ap, ◌∙◌}
use Rattle.grib_text.proofs.PiecesOfStats.{stats_line-pieces}
use Rattle.grib_text.proofs.stats.stats_line.Goals as goal

pub returns : goal.returns
returns c =
    ap (λ v. v.items) c.into_bytes.ensures.value ∙ c.in_ok-line.ensures.ok ∙ stats_line-pieces c.args.number c.args.field c.args.summary.now
