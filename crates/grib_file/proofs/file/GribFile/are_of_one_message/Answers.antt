use Rattle.std.proofs.Common.{◌<◌, length, subst, arith}
use Rattle.std.specs.Prelude.{slice_get}
use Rattle.std.proofs.lemmas.Bool.{eqb-true}
use Rattle.grib_file.specs.Filed.{FileFields}
use Rattle.grib_file.specs.Read.{AreOfOneMessage}
use Rattle.grib_file.proofs.Found.{of_one_message}
use Rattle.grib_file.proofs.file.GribFile.are_of_one_message.Goals as goal

pub returns-then-here-there : goal.returns-then-here-there
returns-then-here-there c = λ same.
    let inside = c.self.inside in
    let low : c.args.index < length inside.entries.items = omega (arith, c.if-index-count.false, c.len-count.ensures, inside.entries.ok) in
    let low_there : c.args.other < length inside.entries.items = omega (arith, c.if-other-count.false, c.len-count.ensures, inside.entries.ok) in
    subst (λ (file : FileFields). AreOfOneMessage (slice_get file.fields c.args.index) (slice_get file.fields c.args.other)) c.self.view_is
    (of_one_message inside.octets.items inside.entries.items c.args.index c.args.other c.index-here.result.now c.index-there.result.now low low_there c.index-here.ensures c.index-there.ensures
    c.if-here-there.true (eqb-true c.index-here.result.now.length c.index-there.result.now.length same))
