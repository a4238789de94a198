use Rattle.std.proofs.Common.{◌<◌, length, sym, ap, ◌∙◌, subst, arith}
use Rattle.std.specs.Prelude.{slice_get}
use Rattle.grib_file.specs.Read.{IsFieldOf}
use Rattle.grib_file.proofs.Found.{cut_is_field, cut_is_got}
use Rattle.grib_file.proofs.file.GribFile.field.Goals as goal

pub of-requires : goal.of-requires
of-requires c =
    let inside = c.self.inside in
    let low : c.args.index < length inside.entries.items = omega (arith, c.if-index-len.false, c.len.ensures, inside.entries.ok) in
    cut_is_field inside.profile inside.octets.items c.deref.result.now inside.entries.items c.args.index c.index-entry.result.now c.self.invariant low c.index-entry.ensures c.deref.ensures.value

pub returns-clause-field : goal.returns-clause-field
returns-clause-field c =
    let inside = c.self.inside in
    let low : c.args.index < length inside.entries.items = omega (arith, c.if-index-len.false, c.len.ensures, inside.entries.ok) in
    cut_is_got inside.octets.items c.deref.result.now inside.entries.items c.args.index c.index-entry.result.now c.of.result low c.index-entry.ensures c.deref.ensures.value c.of.ensures
    ∙ ap (λ file. slice_get file.fields c.args.index) c.self.view_is

pub returns-clause-accepted : goal.returns-clause-accepted
returns-clause-accepted c =
    let inside = c.self.inside in
    let low : c.args.index < length inside.entries.items = omega (arith, c.if-index-len.false, c.len.ensures, inside.entries.ok) in
    subst (λ profile. IsFieldOf profile c.of.result) (ap (λ file. file.profile) c.self.view_is)
    (subst (IsFieldOf inside.profile) (sym c.of.ensures)
    (cut_is_field inside.profile inside.octets.items c.deref.result.now inside.entries.items c.args.index c.index-entry.result.now c.self.invariant low c.index-entry.ensures c.deref.ensures.value))
