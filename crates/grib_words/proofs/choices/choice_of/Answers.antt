use Rattle.std.proofs.Common.{◌≡◌, ℕ, false, Some, List, refl, sym, ◌∙◌, lit<}
use Rattle.std.specs.List.{list_any}
use Rattle.grib_keys.specs.declared.condition.Value.{Value}
use Rattle.grib_keys.specs.declared.wanted.Choice.TheVariants.{One}
use Rattle.grib_words.specs.Values.{key_value}
use Rattle.grib_words.specs.Choices.{is_dot, choice_of}
use Rattle.grib_numbers.proofs.Places.{no_place}
use Rattle.grib_words.proofs.choices.choice_of.Goals as goal

one_choice : (text : List ℕ) (value : Value) → list_any is_dot text ≡ false → key_value text ≡ Some value → Some (One value) ≡ choice_of text
one_choice text value no_dot valued = rw (no_dot, valued) refl

pub returns-in_ok-key_value-in-None : goal.returns-in_ok-key_value-in-None
returns-in_ok-key_value-in-None c =
    let text = c.args.text.now in
    one_choice text c.in_ok-key_value-in-None.field-0 (no_place is_dot text (c.in-None.ensures.byte (lit< tt) (λ w o found. found)))
    (sym c.key_value.ensures ∙ c.in_ok-key_value-in-None.was)
