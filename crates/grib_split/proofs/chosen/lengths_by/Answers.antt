use Rattle.std.proofs.Common.{◌∙◌}
use Rattle.std.specs.Prelude.{IfOk, Ok, Err}
use Rattle.std.specs.declared.result.Result.{Result}
use Rattle.grib_packing.specs.Groupings.{width_of}
use Rattle.grib_split.specs.Costs.{header_of}
use Rattle.grib_split.proofs.Following.{following_chosen}
use Rattle.grib_split.proofs.Heads.{heads_choices}
use Rattle.grib_split.proofs.chosen.lengths_by.Goals as goal

mapped : {T E : Type 0} (P Q : T → Type 0) (r : Result T E) → ((x : T) → P x → Q x) → IfOk r P → IfOk r Q
mapped P Q (Ok x) f h = f x h
mapped P Q (Err e) f h = tt

pub lengths_of-requires-clause-each : goal.lengths_of-requires-clause-each
lengths_of-requires-clause-each c =
    heads_choices (header_of c.args.costs.now) (width_of c.args.costs.now.reserved) c.args.codes.now c.least_choices.new.choices
    (c.least_choices.auto.choices ∙ c.requires.room) c.least_choices.ensures

pub returns : goal.returns
returns c =
    mapped _ _ c.lengths_of.result
    (λ lengths f. following_chosen (header_of c.args.costs.now) (width_of c.args.costs.now.reserved) lengths.items c.args.codes.now c.least_choices.new.choices
    (c.least_choices.auto.choices ∙ c.requires.room) c.least_choices.ensures f)
    c.lengths_of.ensures
