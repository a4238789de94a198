use Rattle.std.proofs.Common.{◌≡◌, true, List, IfOk, option_copied, replicate, sym, ap, ◌∙◌, subst}
use Rattle.grib_bits.specs.Bits.{bits as bits_in}
use Rattle.grib_packing.specs.declared.column.Point.{Point}
use Rattle.grib1_sections.specs.Bitmap.{mask_of}
use Rattle.grib1_sections.proofs.Columns.{points_in, points_in-all}
use Rattle.grib1_sections.proofs.column.read_points.Goals as goal

pub returns-in-None : goal.returns-in-None
returns-in-None c =
    let xs = bits_in c.args.octets.now in
    let presence : mask_of (option_copied c.args.section3) c.args.points ≡ replicate c.args.points true = ap (λ s. mask_of (option_copied s) c.args.points) c.in-None.is in
    subst (λ (points : List Point). IfOk c.unpack_points.result (λ entries. entries.items ≡ points))
    (points_in-all xs c.args.bits c.args.points ∙ ap (points_in xs c.args.bits) (sym presence))
    c.unpack_points.ensures
