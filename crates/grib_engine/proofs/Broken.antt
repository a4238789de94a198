-- With what a run ends: as its answer says, or by a device or a lack of memory, before its end or at it.
use Rattle.std.proofs.Common.{◌≡◌, ◌==◌, ◌&&◌, inl, inr, Bool, true, false, cond, [], Ok, Err, refl, sym, ap, ◌∙◌}
use Rattle.std.proofs.lemmas.Bool.{false≢true}
use Rattle.std.specs.declared.result.Result.{Result}
use Rattle.grib_stream.specs.declared.outcome.Outcome.{Outcome}
use Rattle.grib_stream.specs.declared.outcome.Outcome.TheVariants.{Done, Passed, Differs}
use Rattle.grib_stream.specs.Outcomes.{is_broken, is_cut_short, is_whole}
use Rattle.grib_stream.proofs.ByKind.{whole_unbroken, uncut_of}
use Rattle.grib_items.specs.declared.policy.ItemTotals.{ItemTotals}
use Rattle.grib_items.specs.Laws.{outcome_of}
use Rattle.grib_stream.specs.declared.place.Totals.{Totals}
use Rattle.grib_command.specs.declared.ending.Ending.{Ending}
use Rattle.grib_command.specs.declared.ending.Ending.TheVariants.{Silent, Total, Written, Compared}
use Rattle.grib_command.specs.Endings.{ending_outcome}
use Rattle.grib_command.specs.Outcomes.{note_of, note_with}
use Rattle.grib_command.proofs.Noted.{OneOf}
use Rattle.grib_run_spec.specs.Stated.{is_plain, outcome_by}

one_whole_of : (b : Bool) → is_whole (cond b Done Differs) ≡ true
one_whole_of true = refl
one_whole_of false = refl

end_whole : (ending : Ending) (totals : Totals) → is_whole (ending_outcome ending totals) ≡ true
end_whole Silent totals = refl
end_whole Total totals = refl
end_whole Written totals = refl
end_whole (Compared in_file) totals = one_whole_of ((totals.written == 0) && (totals.fields == in_file))

over_whole : (ending : Ending) (b : Bool) (totals : ItemTotals) → is_whole (cond b (ending_outcome ending totals.counted) (Passed totals.refused totals.kept)) ≡ true
over_whole ending true totals = end_whole ending totals.counted
over_whole ending false totals = refl

-- ---- what the items of an input answered

-- one that does not come at the end of the input is that of the run
pub own_of : (ending : Ending) (result : Result ItemTotals Outcome) (outcome : Outcome) → is_whole outcome ≡ false → outcome_by ending result ≡ outcome → outcome_of result ≡ outcome
own_of ending (Ok totals) outcome early is =
    absurd (false≢true (sym early ∙ (sym (ap is_whole is) ∙ over_whole ending (is_plain totals) totals)))
own_of ending (Err own) outcome early is = is

pub by_own : (ending : Ending) (result : Result ItemTotals Outcome) (outcome : Outcome) → is_whole outcome ≡ false → outcome_of result ≡ outcome → outcome_by ending result ≡ outcome
by_own ending (Ok totals) outcome early is = absurd (false≢true (sym early ∙ sym (ap is_whole is)))
by_own ending (Err own) outcome early is = is

pub own_unbroken : (ending : Ending) (result : Result ItemTotals Outcome) → is_broken (outcome_by ending result) ≡ false → is_broken (outcome_of result) ≡ false
own_unbroken ending (Ok totals) unbroken = refl
own_unbroken ending (Err outcome) unbroken = unbroken

pub broken_is : (ending : Ending) (result : Result ItemTotals Outcome) → is_broken (outcome_by ending result) ≡ true → result ≡ Err (outcome_by ending result)
broken_is ending (Ok totals) broken =
    absurd (false≢true (sym (whole_unbroken (outcome_by ending (Ok totals)) (over_whole ending (is_plain totals) totals)) ∙ broken))
broken_is ending (Err outcome) broken = refl

-- ---- the end of a run

pub one_uncut : (own outcome : Outcome) → OneOf own outcome → is_cut_short outcome ≡ false → outcome ≡ own
one_uncut own outcome (inl same) uncut = same
one_uncut own outcome (inr (inl fault)) uncut = let no : ⊥ = cc (ap is_cut_short fault) in absurd no
one_uncut own outcome (inr (inr memory)) uncut = let no : ⊥ = cc (ap is_cut_short memory) in absurd no

pub one_whole : (own outcome : Outcome) → OneOf own outcome → is_broken outcome ≡ false → outcome ≡ own
one_whole own outcome one unbroken = one_uncut own outcome one (uncut_of outcome unbroken)

-- a fault that is not one of writing was there before the end
pub one_early : (fault own outcome : Outcome) → is_cut_short fault ≡ false → OneOf own outcome → outcome ≡ fault → own ≡ fault
one_early fault own outcome uncut one is = sym (one_uncut own outcome one (ap is_cut_short is ∙ uncut)) ∙ is

-- where nothing is noted at the end of the input, the note is that of the outcome
pub own_note : (outcome : Outcome) → note_with [] outcome ≡ note_of outcome
own_note Done = refl
own_note other = refl
