use Rattle.std.proofs.Common.{◌≡◌, ◌<◌, ◌≤◌, inl, inr, sym, ◌∙◌, arith, length}
use Rattle.std.proofs.lemmas.Bool.{false≢true, le-ltb}
use Rattle.grib_items.specs.Laws.{nothing}
use Rattle.grib_items.proofs.Messages.{is_nothing, nothing_is}
use Rattle.grib_items.proofs.Waiting.{no_shorter, eight_there}
use Rattle.grib_items.proofs.deciding.wait_for.Goals as goal
use Rattle.grib_items.proofs.deciding.wait_for.Goals.{then-wanted, else-wanted}

pub returns-then-passes_nothing-clause-waits : goal.returns-then-passes_nothing-clause-waits
returns-then-passes_nothing-clause-waits g c =
    let octets = c.args.octets.now in
    let wanted = c.octets_wanted-wanted.result in
    let much : 65536 < wanted = elim c.if-wanted.branch [ then-wanted w ↦ omega (arith, w.if-wanted.true) | else-wanted w ↦ absurd (false≢true (sym (le-ltb 65536 wanted (omega (arith, w.if-wanted.false))) ∙ (sym w.value-is ∙ c.if-passes_nothing.true))) ] in
    let none : c.args.policy ≡ nothing = elim c.if-wanted.branch [ then-wanted w ↦ is_nothing c.args.policy (sym w.passes_nothing.ensures ∙ (sym w.value-is ∙ c.if-passes_nothing.true)) | else-wanted w ↦ absurd (false≢true (sym (le-ltb 65536 wanted (omega (arith, w.if-wanted.false))) ∙ (sym w.value-is ∙ c.if-passes_nothing.true))) ] in
    let eight : 8 ≤ length octets = eight_there octets wanted much c.octets_wanted-wanted.ensures.stated in
    record {
      alone = λ heard. none;
      soon = λ _. record { heard = λ e. (eight, sym c.is_heard.ensures ∙ e); held = λ e. inr (eight, sym c.is_heard.ensures ∙ e) };
      no_shorter = no_shorter (g.K.Performer.task c.args.performer.now) (g.met.K.Performer.lawful c.args.performer.now) (g.met.K.Performer.states c.args.performer.now) octets c.requires.refused.0 wanted c.requires.refused.1
          c.octets_wanted-wanted.ensures.stated;
    }

pub returns-else-passes_nothing-clause-waits : goal.returns-else-passes_nothing-clause-waits
returns-else-passes_nothing-clause-waits g c =
    let octets = c.args.octets.now in
    let wanted = c.octets_wanted-wanted.result in
    record {
      alone = λ heard. absurd (false≢true (sym c.if-passes_nothing.false ∙ heard));
      soon = λ none. record {
        heard = λ heard. absurd (false≢true (sym c.if-passes_nothing.false ∙ heard));
        held = λ _. inl (elim c.if-wanted.branch [ then-wanted w ↦ absurd (false≢true (sym c.if-passes_nothing.false ∙ (w.value-is ∙ (w.passes_nothing.ensures ∙ nothing_is c.args.policy none)))) | else-wanted w ↦ omega (arith, w.if-wanted.false) ]);
      };
      no_shorter = no_shorter (g.K.Performer.task c.args.performer.now) (g.met.K.Performer.lawful c.args.performer.now) (g.met.K.Performer.states c.args.performer.now) octets c.requires.refused.0 wanted c.requires.refused.1
          c.octets_wanted-wanted.ensures.stated;
    }
