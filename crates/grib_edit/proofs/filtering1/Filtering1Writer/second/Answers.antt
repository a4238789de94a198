use Rattle.std.proofs.Common.{[], refl}
use Rattle.grib_stream.specs.Acts.{world}
use Rattle.grib_stream.proofs.Worlds.{did_none}
use Rattle.grib_edit.proofs.filtering1.Filtering1Writer.second.Goals as goal

pub returns : goal.returns
returns g c = record {
  answers = λ names. ([], refl, did_none (world (g.T.Sink.contents c.args._output.now) names));
  write_fault = λ no. absurd (cc no);
  write_stays = λ other. refl;
  unfinished = λ all. all;
  unshelved = λ no. cc;
}
