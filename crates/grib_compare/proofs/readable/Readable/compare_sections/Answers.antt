use Rattle.std.proofs.Common.{◌≡◌, ◌+◌, sym, ap, ◌∙◌, arith}
use Rattle.grib_compare.specs.Fields.{octet_from, section_of}
use Rattle.grib_compare.specs.Seen.{readable_field}
use Rattle.grib_compare.proofs.Sections.{section_same, section_found, sections_none, none_else}
use Rattle.grib_compare.proofs.readable.Readable.compare_sections.Goals as goal

pub returns-in-Some : goal.returns-in-Some
returns-in-Some c =
    let i = c.loop-index.index in
    let here = readable_field c.args.self.now c.args.field in
    let there = readable_field c.args.other.now c.args.other_field in
    let is : c.first_octet.result ≡ octet_from 1 (section_of (i + 1) here) (section_of (i + 1) there) =
    c.first_octet.ensures ∙ ap (λ x. octet_from 1 x c.section-there.result.now) c.section-here.ensures ∙ ap (octet_from 1 (section_of (i + 1) here)) c.section-there.ensures in
    sym (c.loop-index.invariant ∙ section_found here there i c.first_octet.result (omega arith) is c.in-Some.octet c.in-Some.is)

pub loop-index-preserved : goal.loop-index-preserved
loop-index-preserved c =
    let i = c.loop-index.index in
    let here = readable_field c.args.self.now c.args.field in
    let there = readable_field c.args.other.now c.args.other_field in
    let is : c.first_octet.result ≡ octet_from 1 (section_of (i + 1) here) (section_of (i + 1) there) =
    c.first_octet.ensures ∙ ap (λ x. octet_from 1 x c.section-there.result.now) c.section-here.ensures ∙ ap (octet_from 1 (section_of (i + 1) here)) c.section-there.ensures in
    c.loop-index.invariant ∙ section_same here there i c.first_octet.result (omega arith) is (none_else c.first_octet.result c.in_default.not-Some)

pub returns : goal.returns
returns c =
    let i = c.loop-index.index in
    sym (c.loop-index.invariant ∙ sections_none (readable_field c.args.self.now c.args.field) (readable_field c.args.other.now c.args.other_field) i (i + 1) (omega arith))
