use Rattle.std.proofs.Common.{◌≡◌, ◌*◌, ℕ, false, List, Some, refl, sym, ◌∙◌, lit<}
use Rattle.std.specs.List.{list_any}
use Rattle.grib_numbers.specs.Degrees.{is_dot, whole_of, magnitude_of}
use Rattle.grib_numbers.proofs.Places.{no_place}
use Rattle.grib_numbers.proofs.degrees.magnitude_of.Goals as goal

plain : (text : List ℕ) (whole : ℕ) → list_any is_dot text ≡ false → whole_of text ≡ Some whole → Some (whole * 1000000) ≡ magnitude_of text
plain text whole no_dot found = rw (no_dot, found) refl

pub returns-in_ok-whole_of-in-None-clause-value : goal.returns-in_ok-whole_of-in-None-clause-value
returns-in_ok-whole_of-in-None-clause-value c =
    plain c.args.text.now c.in_ok-whole_of-in-None.field-0 (no_place is_dot c.args.text.now (c.in-None.ensures.byte (lit< tt) (λ w o found. found)))
    (sym c.whole_of-in-None.ensures.value ∙ c.in_ok-whole_of-in-None.was)
