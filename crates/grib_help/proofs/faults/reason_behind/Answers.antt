use Rattle.std.proofs.Common.{◌≡◌, [], get_or, map, string_bytes, sym, ap, ◌∙◌, lit<}
use Rattle.std.proofs.lemmas.List.{get_or-map, take-map}
use Rattle.grib_words.proofs.Parts.{lacks_equals, stands_equals}
use Rattle.grib_help.proofs.faults.reason_behind.Goals as goal

pub returns-in-None : goal.returns-in-None
returns-in-None c =
    let words = c.args.words.now in
    let here : get_or (map string_bytes words) c.args.place [] ≡ c.as_str-word.result.now =
    get_or-map string_bytes words c.args.place c.index-words-place.result [] c.requires ∙ sym (c.as_str-word.ensures.value ∙ ap string_bytes c.index-words-place.is) in
    let bare = lacks_equals c.as_str-word.result.now (c.in-None.ensures.byte (lit< tt) (λ w o found. found)) in
    rw (here, bare) c.bare_reason.ensures

pub returns-in-Some : goal.returns-in-Some
returns-in-Some c =
    let words = c.args.words.now in
    let here : get_or (map string_bytes words) c.args.place [] ≡ c.as_str-word.result.now =
    get_or-map string_bytes words c.args.place c.index-words-place.result [] c.requires ∙ sym (c.as_str-word.ensures.value ∙ ap string_bytes c.index-words-place.is) in
    let parts = c.in-Some.ensures.byte (lit< tt) (λ w o found. found) in
    rw (here, stands_equals c.as_str-word.result.now parts.2, sym parts.0, sym parts.1, take-map string_bytes c.args.place words) c.named_reason.ensures
