-- The template is that of the arm.
use Rattle.std.proofs.Common.{◌++◌, sym, subst}
use Rattle.grib_bits.proofs.Encoding.{AddsOctets-append}
use Rattle.grib2_grids.specs.Written.{WritesTemplate, rotation_octets}
use Rattle.grib2_grids.proofs.writing.write_template.Goals as goal

pub returns-in-LatLon : goal.returns-in-LatLon
returns-in-LatLon c =
    subst (WritesTemplate c.args.out.now c.write_lat_lon.new.out) (sym c.in-LatLon.is) (record { octets = c.write_lat_lon.ensures.octets; spelled = c.write_lat_lon.ensures.spelled })

pub returns-in-Mercator : goal.returns-in-Mercator
returns-in-Mercator c =
    subst (WritesTemplate c.args.out.now c.write_mercator.new.out) (sym c.in-Mercator.is) (record { octets = c.write_mercator.ensures.octets; spelled = c.write_mercator.ensures.spelled })

pub returns-in-Polar : goal.returns-in-Polar
returns-in-Polar c =
    subst (WritesTemplate c.args.out.now c.write_polar.new.out) (sym c.in-Polar.is) (record { octets = c.write_polar.ensures.octets; spelled = c.write_polar.ensures.spelled })

pub returns-in-Lambert : goal.returns-in-Lambert
returns-in-Lambert c =
    subst (WritesTemplate c.args.out.now c.write_lambert.new.out) (sym c.in-Lambert.is) (record { octets = c.write_lambert.ensures.octets; spelled = c.write_lambert.ensures.spelled })

pub returns-in-Gaussian : goal.returns-in-Gaussian
returns-in-Gaussian c =
    subst (WritesTemplate c.args.out.now c.write_gaussian.new.out) (sym c.in-Gaussian.is) (record { octets = c.write_gaussian.ensures.octets; spelled = c.write_gaussian.ensures.spelled })

pub returns-in-Rotated : goal.returns-in-Rotated
returns-in-Rotated c =
    subst (WritesTemplate c.args.out.now c.write_rotation.new.out) (sym c.in-Rotated.is) (record {
      octets = AddsOctets-append c.write_lat_lon-in-Rotated.ensures.octets c.write_rotation.ensures.octets;
      spelled = λ l points list_octets list_meaning template rest. (
        c.write_lat_lon-in-Rotated.ensures.spelled l points list_octets list_meaning template (rotation_octets c.in-Rotated.rotation ++ rest),
        c.write_rotation.ensures.spelled l points list_octets list_meaning template c.in-Rotated.lat_lon rest,
      );
    })
