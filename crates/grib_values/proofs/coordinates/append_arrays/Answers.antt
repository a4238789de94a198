use Rattle.std.proofs.Common.{refl, rules}
use Rattle.grib_places.specs.declared.coordinate.Coordinate.TheVariants.{Latitude, Longitude}
use Rattle.grib_report.proofs.Pending.{writes_on, front_on}
use Rattle.grib_values.specs.Coordinates.{coordinate_array}
use Rattle.grib_values.proofs.coordinates.append_arrays.Goals as goal

pub returns-in_err-append_array : goal.returns-in_err-append_array
returns-in_err-append_array g c = record {
  octets = record {
    whole = search rules;
    front = front_on _ _ c.args.octets.now.items (coordinate_array Latitude c.args.section.now) (coordinate_array Longitude c.args.section.now) _ refl
        c.append_array.ensures.octets.front;
  };
  counted = search rules;
  unfinished = search rules;
}

pub returns : goal.returns
returns g c = record {
  octets =
      writes_on c.append_array-2.result _ _ _ c.args.octets.now.items (coordinate_array Latitude c.args.section.now)
      (coordinate_array Longitude c.args.section.now) _ c.append_array.new.octets.items _ refl c.in_ok-append_array.ensures.octets.whole
      c.append_array-2.ensures.octets;
  counted = search rules;
  unfinished = search rules;
}
