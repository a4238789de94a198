use Rattle.std.proofs.Common.{◌≡◌, ◌++◌, string_bytes, take, map}
use Rattle.grib_topics.specs.Topics.{texts_of}
use Rattle.grib_topics.proofs.topic.push_texts.Given as goal

abbrev pub invariant-loop-topic : goal.invariant-loop-topic
invariant-loop-topic l = string_bytes l.text ≡ string_bytes l.initial.text ++ texts_of l.page l.name (map (λ t. t.now) (take l.topic-index l.texts))
