use Rattle.std.proofs.Common.{[], ℕ, List, Bor, get_or, sym, ap, ◌∙◌}
use Rattle.grib_topics.specs.Nearest.{seen, nearer, first_word}
use Rattle.grib_topics.proofs.Steps.{folded_on}
use Rattle.grib_topics.proofs.nearest.nearest.Goals as goal

pub loop-text-preserved : goal.loop-text-preserved
loop-text-preserved c =
    let word = c.args.word.now in
    let texts = c.args.texts.now in
    let i = c.loop-text.text-index in
    let none : Bor (List ℕ) = record { ref_ptr = (0, 0); now = [] } in
    c.in_ok-best.ensures
    ∙ (ap (nearer word (seen c.loop-text.best.name.now c.loop-text.best.changes)) c.first_word.ensures
    ∙ (ap (λ best. nearer word best (first_word (get_or texts i none).now)) c.loop-text.invariant
    ∙ sym (folded_on (nearer word) (seen c.args.start.name.now c.args.start.changes) first_word (λ t. t.now) texts i none c.loop-text-test.true)))
