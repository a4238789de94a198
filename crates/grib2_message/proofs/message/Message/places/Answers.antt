use Rattle.std.proofs.Common.{ℕ, ◌≤◌, List, sym, subst}
use Rattle.grib2_message.specs.Fields.{field_count, field_sections}
use Rattle.grib2_message.specs.Message.{AnyFieldPasses}
use Rattle.grib2_message.specs.Kept.{IsField}
use Rattle.grib2_message.proofs.Opened.{field_opened}
use Rattle.grib2_message.proofs.Shorter.{field_kept, field_passes}
use Rattle.grib2_message.proofs.message.Message.places.Goals as goal

pub returns-clause-kept : goal.returns-clause-kept
returns-clause-kept c =
    let m = c.self.inside.octets.now in
    let last = subst (λ (x : List ℕ). c.args.field ≤ field_count x) (sym c.self.view_is) c.requires.last in
    subst (λ (x : List ℕ). IsField x (field_sections x c.args.field) c.index.result.now) c.self.view_is
    (field_kept c.self.invariant.profile m c.self.inside.fields.items c.self.invariant.keeps c.args.field c.requires.first last _ c.index.ensures)

pub returns-clause-passes : goal.returns-clause-passes
returns-clause-passes c =
    let m = c.self.inside.octets.now in
    let last = subst (λ (x : List ℕ). c.args.field ≤ field_count x) (sym c.self.view_is) c.requires.last in
    subst (λ (x : List ℕ). AnyFieldPasses x c.args.field) c.self.view_is
    (field_opened c.self.invariant.profile m c.args.field
    (field_passes c.self.invariant.profile m c.self.inside.fields.items c.self.invariant.keeps c.args.field c.requires.first last _ c.index.ensures))
