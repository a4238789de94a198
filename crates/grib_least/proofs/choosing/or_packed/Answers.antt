use Rattle.std.proofs.Common.{◌+◌, ◌<◌, min, ℕ, List, All, ap, ◌∙◌, subst}
use Rattle.grib_packing.specs.Written.{MayBePacked}
use Rattle.grib2_message.specs.Fields.{column_of}
use Rattle.grib_packing.specs.Targets.{target_of}
use Rattle.grib_repack.specs.Repacked.{kind_of}
use Rattle.grib_repack.proofs.Columns.{has_words, kind_small}
use Rattle.grib_least.proofs.Tried.{packed_short, with_packed, with_many}
use Rattle.grib_least.proofs.choosing.or_packed.Goals as goal

pub or_earlier-requires-clause-form : goal.or_earlier-requires-clause-form
or_earlier-requires-clause-form c =
    let m = c.args.message.now in
    let i = c.args.field in
    let h = rw c.in-Ok-Some.field-0-is at c.in-Ok-Some.ensures in
    packed_short (target_of c.args.target) (column_of m i) (kind_of m i) c.in-Ok-Some.form h.1

pub returns-in-Ok-Some-clause-form : goal.returns-in-Ok-Some-clause-form
returns-in-Ok-Some-clause-form c =
    let m = c.args.message.now in
    let i = c.args.field in
    let h = rw c.in-Ok-Some.field-0-is at c.in-Ok-Some.ensures in
    c.or_earlier.ensures.earlier
    ∙ with_packed c.one_packing_is_written.ensures (target_of c.args.target) (column_of m i) (kind_of m i) c.args.limit c.args.best c.in-Ok-Some.form h.0 h.1

pub returns-in-Ok-None-clause-form : goal.returns-in-Ok-None-clause-form
returns-in-Ok-None-clause-form c =
    let m = c.args.message.now in
    let i = c.args.field in
    let h = rw c.in-Ok-None.field-0-is at c.in-Ok-None.ensures in
    let each : All (λ octet. octet < 256) m = subst (λ (octets : List ℕ). All (λ octet. octet < 256) octets) c.octets.ensures.octets c.are_octets.ensures in
    let most = c.min-most.ensures ∙ ap (λ (n : ℕ). min c.args.limit (n + 1)) c.size.ensures in
    with_many c.a_packing_is_written.ensures (target_of c.args.target) (column_of m i) (kind_of m i) c.args.limit c.min-most.result c.args.best
    (subst MayBePacked c.requires.is c.requires.column) (has_words m i each) c.requires.target (kind_small m i each) h.0 most h.1
