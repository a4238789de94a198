use Rattle.grib_migrate.proofs.Grids.{whole_grid, few_octets}
use Rattle.grib_migrate.proofs.grid.grid_octets.Goals as goal

pub returns : goal.returns
returns c =
    let s = c.args.section2.now in
    let e = whole_grid s c.args.points c.new-octets.result.items c.add_header.new.out.items c.add_common.new.out.items c.add_template.new.out.items
    c.extend_from_slice.new.self.items c.row_octets.result.now c.new-octets.ensures.items c.in_ok-add_header.ensures c.in_ok-add_common.ensures
    c.in_ok-add_template.ensures.1 c.row_octets.ensures.octets c.in_ok-extend_from_slice.ensures.items in
    record {
      octets = (
        c.in_ok-add_template.ensures.0,
        e,
        few_octets s c.args.points c.extend_from_slice.new.self.items c.row_octets.result.now c.row_octets.ensures.octets c.row_octets.ensures.few e,
      );
    }
