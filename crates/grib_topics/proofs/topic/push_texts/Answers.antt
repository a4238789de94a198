use Rattle.std.proofs.Common.{[], string_bytes}
use Rattle.grib_topics.specs.Topics.{text_if_on}
use Rattle.grib_topics.proofs.Steps.{written_on}
use Rattle.grib_topics.proofs.topic.push_texts.Goals as goal

pub loop-topic-preserved : goal.loop-topic-preserved
loop-topic-preserved c =
    written_on (text_if_on c.args.page.now c.args.name.now) (λ t. t.now) c.args.texts.now c.loop-topic.topic-index (record { ref_ptr = (0, 0); now = [] })
    (string_bytes c.args.text.now) (string_bytes c.loop-topic.text) (string_bytes c.push_if_on.new.text) c.loop-topic-test.true c.loop-topic.invariant c.in_ok-push_if_on.ensures
