use Rattle.std.proofs.Common.{true, false, sym, ◌∙◌, ◌<◌, map, string_bytes, length}
use Rattle.std.proofs.lemmas.List.{length-map}
use Rattle.grib_words.proofs.Counts.{at_turn, goes_on, stops}
use Rattle.grib_words.proofs.reading.read_count.Goals as goal

pub returns-then-not-is_read-clause-count : goal.returns-then-not-is_read-clause-count
returns-then-not-is_read-clause-count c =
    let words = c.args.words.now in
    let i = c.loop-place.place in
    let within : i < length (map string_bytes words) = rw (length-map words string_bytes) c.loop-place-test.true in
    let unread = at_turn string_bytes words c.args.command i c.index-words-place.result c.as_str.result.now false c.loop-place-test.true
    c.index-words-place.is c.as_str.ensures.value (sym c.is_read.ensures ∙ c.if-not-is_read.true) in
    sym (stops c.args.command (map string_bytes words) i within unread) ∙ c.loop-place.invariant

pub loop-place-preserved : goal.loop-place-preserved
loop-place-preserved c =
    let words = c.args.words.now in
    let i = c.loop-place.place in
    let within : i < length (map string_bytes words) = rw (length-map words string_bytes) c.loop-place-test.true in
    let read = at_turn string_bytes words c.args.command i c.index-words-place.result c.as_str.result.now true c.loop-place-test.true
    c.index-words-place.is c.as_str.ensures.value (sym c.is_read.ensures ∙ c.if-not-is_read.false) in
    sym (goes_on c.args.command (map string_bytes words) i within read) ∙ c.loop-place.invariant
