use Rattle.std.proofs.Common.{◌≡◌, ℕ, ◌*◌, ◌++◌, ap, ap₂, sym, ◌∙◌, subst, arith, rules}
use Rattle.grib_bits.specs.Octets.{octets}
use Rattle.grib_io.specs.Outside.{CountsStops}
use Rattle.grib_nearest.specs.declared.format.Format.TheVariants.{Binary64}
use Rattle.grib_arrays.specs.declared.shape.Shape.{Shape}
use Rattle.grib_arrays.specs.Header.{header}
use Rattle.grib_command.proofs.Outside.{front_none}
use Rattle.grib_report.proofs.Pending.{writes_on, front_on}
use Rattle.grib_values.specs.Coordinates.{coordinates_from, coordinate_array}
use Rattle.grib_values.proofs.coordinates.append_array.Goals as goal

pub returns-in_err-places : goal.returns-in_err-places
returns-in_err-places g c = record {
  octets = record { whole = search rules; front = front_none _ _ };
  counted = search rules;
  unfinished = search rules;
}

pub returns-in_err-append_head : goal.returns-in_err-append_head
returns-in_err-append_head g c =
    let s = c.args.section.now in
    record {
      octets = record {
        whole = search rules;
        front = front_on _ _ c.args.octets.now.items (header Binary64 c.second_shape-shape.result) (coordinates_from c.args.coordinate s (octets s 7 10)) _
            (ap (λ (shape : Shape). header Binary64 shape ++ coordinates_from c.args.coordinate s (octets s 7 10)) c.second_shape-shape.ensures)
            c.append_head.ensures.octets.front;
      };
      counted = search rules;
      unfinished = search rules;
    }

pub append_words-requires : goal.append_words-requires
append_words-requires g c =
    let order = c.in_ok-places.ensures.order in
    let size = ap₂ (λ (a b : ℕ). a * b) order.columns order.rows in
    omega (arith, size, c.requires.points, c.u32_at.ensures)

pub returns : goal.returns
returns g c =
    let s = c.args.section.now in
    let own = c.append_words.ensures c.args.coordinate s c.in_ok-places.ensures in
    record {
      octets =
          writes_on c.append_words.result _ _ _ c.args.octets.now.items (header Binary64 c.second_shape-shape.result)
          (coordinates_from c.args.coordinate s c.u32_at.result) _ c.append_head.new.octets.items _
          (ap₂ (λ (shape : Shape) (n : ℕ). header Binary64 shape ++ coordinates_from c.args.coordinate s n) c.second_shape-shape.ensures c.u32_at.ensures)
          c.in_ok-append_head.ensures.octets.whole own.octets;
      counted = subst (λ n. CountsStops c.append_words.result n (g.T.Sink.faults c.append_words.new.output)) c.in_ok-append_head.ensures.counted own.counted;
      unfinished = λ all. c.in_ok-append_head.ensures.unfinished (own.unfinished all);
    }
