use Rattle.std.proofs.Common.{◌+◌, ◌<◌, sym, subst, arith}
use Rattle.std.proofs.lemmas.List.Elements.{All-from_get_or, All-take, All-drop}
use Rattle.std.specs.Io.KnownBytes.{Consumes}
use Rattle.grib_stream.proofs.Windows.{behind_read}
use Rattle.grib_stream.proofs.window.read_behind.Goals as goal

pub returns-clause-taken : goal.returns-clause-taken
returns-clause-taken g c =
    record {
      consumed = subst (Consumes (g.S.Source.left c.args.input.now) (g.S.Source.left c.read.new.self))
          (sym (behind_read c.args.octets.now c.read.new.into c.args.end _ c.in_ok-count.count (omega arith) c.in_ok-count.ensures.bound.0))
          c.in_ok-count.ensures.octets.0;
      small = All-drop (λ octet. octet < 256) c.args.end _
          (All-take (λ octet. octet < 256) (c.args.end + c.in_ok-count.count) _ (All-from_get_or (λ octet. octet < 256) _ 0 (λ i below. (c.type_inv.octets i).fits)));
    }
