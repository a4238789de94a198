use Rattle.grib_file.proofs.Found.{one_more}
use Rattle.grib_file.proofs.entries.push_fields.Goals as goal

pub loop-index-preserved : goal.loop-index-preserved
loop-index-preserved c =
    one_more c.args.entries.now.items c.loop-index.entries.items c.push.new.self.items c.args.start c.args.span.length c.loop-index.index c.loop-index.invariant c.in_ok-push.ensures.items
