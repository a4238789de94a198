use Rattle.std.proofs.Common.{◌≡◌, Bool, true, ◌&&◌, codes, map, string_bytes, int_le, refl, sym, ap, ◌∙◌, FitsSigned, w32, to_z-of_z, rules}
use Rattle.grib_words.specs.Reading.{degrees_by, has_all_edges}
use Rattle.grib_words.proofs.crop.has_edges.Goals as goal

beside_all : (all order : Bool) → all ≡ true → order ≡ (all && order)
beside_all all order is = rw is refl

pub returns-then-has_all_edges : goal.returns-then-has_all_edges
returns-then-has_all_edges c =
    let words = map string_bytes c.args.words.now in
    let south : FitsSigned w32 c.degrees_by.result = search rules in
    let north : FitsSigned w32 c.degrees_by-then-has_all_edges.result = search rules in
    let made : c.in_order.result ≡ int_le c.degrees_by.result c.degrees_by-then-has_all_edges.result = rw (to_z-of_z south, to_z-of_z north) at c.in_order.ensures in
    made
    ∙ (ap (λ x. int_le x c.degrees_by-then-has_all_edges.result) c.degrees_by.ensures
    ∙ (ap (int_le (degrees_by (codes "south") words)) c.degrees_by-then-has_all_edges.ensures
    ∙ beside_all (has_all_edges words) _ (sym c.has_all_edges.ensures ∙ c.if-has_all_edges.true)))
