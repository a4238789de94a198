use Rattle.std.proofs.Common.{◌≡◌, ℕ, List, ◌++◌, ap, ◌∙◌}
use Rattle.grib_topics.specs.Topics.{told_of}
use Rattle.grib_topics.proofs.topic.told_of.Goals as goal

-- one text more
more : (now next front text : List ℕ) → next ≡ now ++ text → now ≡ front → next ≡ front ++ text
more now next front text step so_far = step ∙ ap (λ ys. ys ++ text) so_far

pub returns : goal.returns
unfolding told_of
returns c =
    more _ _ _ _ c.in_ok-push_texts-7.ensures (more _ _ _ _ c.in_ok-push_texts-6.ensures (more _ _ _ _ c.in_ok-push_texts-5.ensures (more _ _ _ _ c.in_ok-push_texts-4.ensures
    (more _ _ _ _ c.in_ok-push_texts-3.ensures (more _ _ _ _ c.in_ok-push_texts-2.ensures (more _ _ _ _ c.in_ok-push_texts.ensures c.new-text.ensures.bytes))))))
