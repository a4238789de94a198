use Rattle.std.proofs.Common.{[], ◌++◌, string_bytes, ap, ◌∙◌}
use Rattle.grib_help.specs.Helping.{spaced_word}
use Rattle.grib_topics.proofs.Steps.{written_on}
use Rattle.grib_help.proofs.telling.spaced.Goals as goal

pub loop-word-preserved : goal.loop-word-preserved
loop-word-preserved c =
    let now = string_bytes c.loop-word.text in
    written_on spaced_word string_bytes c.args.words.now c.loop-word.word-index c.word-item.result [] now (string_bytes c.push_spaced.new.text)
    c.loop-word-test.true c.loop-word.invariant
    (c.in_ok-push_spaced.ensures
    ∙ (ap (λ bytes. now ++ spaced_word bytes) c.as_str.ensures.value ∙ ap (λ word. now ++ spaced_word (string_bytes word)) c.word-item.is))
