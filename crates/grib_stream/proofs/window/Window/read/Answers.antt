use Rattle.std.proofs.Common.{◌≡◌, ◌+◌, ◌-◌, length, sym, subst, ap, ◌∙◌, take, drop, arith}
use Rattle.std.proofs.lemmas.List.{with_items_is}
use Rattle.grib_stream.specs.Reading.{Reads}
use Rattle.grib_stream.proofs.Windows.{reads_behind}
use Rattle.grib_stream.proofs.window.Window.read.Goals as goal

pub returns-clause-read : goal.returns-clause-read
returns-clause-read g c =
    let end = c.in_ok-start.start + (c.self.inside.end - c.self.inside.start) in
    let size : length c.read_behind.new.octets ≡ c.make_room.new.octets.len = omega (arith, c.read_behind.auto.octets, c.as_mut_slice.ensures.len) in
    subst
    (λ items. Reads (g.S.Source.left c.args.input.now) (g.S.Source.left c.read_behind.new.input) c.args.self.now.octets (drop c.in_ok-start.start (take (end + c.in_ok-count.count) items)) c.in_ok-count.count c.args.most)
    (sym (with_items_is c.make_room.new.octets c.read_behind.new.octets size))
    (reads_behind _ _ c.args.self.now.octets c.make_room.new.octets.items c.read_behind.new.octets c.in_ok-start.start end c.in_ok-count.count c.args.most
    (sym (ap (λ w. w.octets) c.self.view_is) ∙ sym c.in_ok-start.ensures.same)
    (c.in_ok-count.ensures.front ∙ ap (take end) c.as_mut_slice.ensures.value) (omega arith)
    (omega (arith, c.read_behind.auto.octets, c.as_mut_slice.ensures.len, c.in_ok-start.ensures.room, c.in_ok-count.ensures.bound))
    (omega (arith, c.in_ok-count.ensures.bound)) c.in_ok-count.ensures.taken c.in_ok-count.ensures.end)
