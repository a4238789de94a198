use Rattle.std.proofs.Common.{◌≡◌, [], Some, None, map, string_bytes, sym, ap, ◌∙◌}
use Rattle.std.proofs.lemmas.List.{get_or-map}
use Rattle.grib_help.specs.Helping.{command_of}
use Rattle.grib_help.proofs.faults.reason_at.Goals as goal

pub returns-in-Some : goal.returns-in-Some
returns-in-Some c =
    let command : command_of (map string_bytes c.args.words.now) ≡ Some c.in-Some.command = sym c.command_of.ensures ∙ c.in-Some.is in
    rw command c.reason_behind.ensures

pub returns-in-None : goal.returns-in-None
returns-in-None c =
    let none : command_of (map string_bytes c.args.words.now) ≡ None = sym c.command_of.ensures ∙ c.in-None.is in
    let word = get_or-map string_bytes c.args.words.now c.args.place c.index-words-place.result [] c.requires in
    rw (none, word, sym (c.as_str.ensures.value ∙ ap string_bytes c.index-words-place.is)) c.no_command.ensures
