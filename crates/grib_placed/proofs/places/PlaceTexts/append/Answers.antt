use Rattle.std.proofs.Common.{◌≡◌, ℤ, pos, ◌+◌, ◌++◌, [], ◌∷◌, FitsSigned, to_z, of_z, to_z-of_z, ap, ◌∙◌, rules}
use Rattle.std.specs.Fmt.{decimal, signed_decimal}
use Rattle.std.specs.Int.{w64}
use Rattle.grib_places.specs.declared.coordinate.Coordinate.TheVariants.{Latitude, Longitude}
use Rattle.grib_places.specs.Degrees.{micro_degrees, degrees_text}
use Rattle.grib_places.specs.Places.{point_degrees}
use Rattle.grib_placed.proofs.Placed.{place_is}
use Rattle.grib_placed.proofs.places.PlaceTexts.append.Goals as goal

pub returns : goal.returns
returns c = λ s are.
    let from : FitsSigned w64 c.from.result = search rules in
    let north : FitsSigned w64 c.micro.result = search rules in
    let east : FitsSigned w64 c.micro-2.result = search rules in
    let number : to_z w64 (of_z w64 c.from.result) ≡ pos (c.args.index + 1) = to_z-of_z from ∙ c.from.ensures in
    let latitude : to_z w64 (of_z w64 c.micro.result) ≡ micro_degrees (point_degrees Latitude s c.args.index) = to_z-of_z north ∙ c.micro.ensures Latitude s are.latitudes in
    let longitude : to_z w64 (of_z w64 c.micro-2.result) ≡ micro_degrees (point_degrees Longitude s c.args.index) = to_z-of_z east ∙ c.micro-2.ensures Longitude s are.longitudes in
    place_is c.args.lines.now.items (decimal (c.args.index + 1)) (32 ∷ []) (degrees_text (micro_degrees (point_degrees Latitude s c.args.index)))
    (degrees_text (micro_degrees (point_degrees Longitude s c.args.index))) c.append.new.text.items c.push.new.self.items c.append-2.new.text.items c.push-2.new.self.items
    c.append-3.new.text.items c.push-3.new.self.items
    (c.in_ok-append.ensures ∙ ap (λ (z : ℤ). c.args.lines.now.items ++ signed_decimal z) number)
    c.in_ok-push.ensures.items
    (c.in_ok-append-2.ensures.appended ∙ ap (λ (z : ℤ). c.push.new.self.items ++ degrees_text z) latitude)
    c.in_ok-push-2.ensures.items
    (c.in_ok-append-3.ensures.appended ∙ ap (λ (z : ℤ). c.push-2.new.self.items ++ degrees_text z) longitude)
    c.in_ok-push-3.ensures.items
