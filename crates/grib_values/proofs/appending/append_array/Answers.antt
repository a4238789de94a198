use Rattle.std.proofs.Common.{refl, ap, ◌++◌, subst, rules}
use Rattle.std.specs.Prelude.{flat_map}
use Rattle.grib_bits.specs.Bits.{bits_of, signed}
use Rattle.grib_io.specs.Outside.{CountsStops}
use Rattle.grib_arrays.specs.Header.{header}
use Rattle.grib_arrays.specs.Values.{point_octets}
use Rattle.grib_report.proofs.Pending.{writes_on, front_on}
use Rattle.grib_values.specs.Arrays.{values}
use Rattle.grib_values.proofs.appending.append_array.Goals as goal

pub returns-in_err-append_head : goal.returns-in_err-append_head
returns-in_err-append_head g c = record {
  octets = record {
    whole = search rules;
    front = front_on _ _ c.args.octets.now.items (header c.args.format c.args.shape) (values c.args.format c.args.reference.now c.args.column.now) _ refl
        c.append_head.ensures.octets.front;
  };
  counted = search rules;
  unfinished = search rules;
}

pub returns : goal.returns
returns g c =
    let f = point_octets c.args.format c.args.reference.now (signed (bits_of 16 c.args.column.now.e)) (signed (bits_of 16 c.args.column.now.d)) in
    let own = c.append_values.ensures c.args.format c.args.reference.now (signed (bits_of 16 c.args.column.now.e)) (signed (bits_of 16 c.args.column.now.d)) c.of-scale.ensures in
    record {
      octets =
          writes_on c.append_values.result _ _ _ c.args.octets.now.items (header c.args.format c.args.shape) (flat_map f c.as_slice.result.now) _
          c.append_head.new.octets.items _ (ap (λ points. header c.args.format c.args.shape ++ flat_map f points) c.as_slice.ensures)
          c.in_ok-append_head.ensures.octets.whole own.octets;
      counted = subst (λ n. CountsStops c.append_values.result n (g.T.Sink.faults c.append_values.new.output)) c.in_ok-append_head.ensures.counted own.counted;
      unfinished = λ all. c.in_ok-append_head.ensures.unfinished (own.unfinished all);
    }
