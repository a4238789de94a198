use Rattle.std.proofs.Common.{◌≡◌, ◌≤◌, false, List, sym, ap₂, ◌∙◌, arith, le-ltb}
use Rattle.std.specs.List.{list_any}
use Rattle.grib_packing.specs.Misfits.{is_scaled_outside}
use Rattle.grib_packing.specs.declared.column.Point.{Point}
use Rattle.grib_codes.specs.declared.point_words.PointWords.{PointWords}
use Rattle.grib_codes.specs.KeptWords.{AreWords}
use Rattle.grib2_message.specs.Fields.{column_of}
use Rattle.grib_compare.specs.Words.{by_words}
use Rattle.grib_compare.proofs.ByWords.{greatest, words_tell}
use Rattle.grib_compare.proofs.words.compare_words.Goals as goal

-- no number is outside
inside : (points : List Point) (kept : PointWords) → AreWords points kept → kept.greatest ≤ greatest → list_any (is_scaled_outside greatest) points ≡ false
inside points kept are few = sym (are.outside 2 (omega arith)) ∙ le-ltb greatest kept.greatest few

pub returns : goal.returns
returns c =
    let left = column_of c.args.here.now c.args.field in
    let right = column_of c.args.there.now c.args.other_field in
    let one = c.representation-left.ensures in
    let other = c.representation-right.ensures in
    let here = c.in_ok-here.ensures.words in
    let there = c.in_ok-there.ensures.words in
    c.beside.ensures
    ∙ ap₂ by_words (c.deref.ensures.value ∙ here.words) (c.deref-2.ensures.value ∙ there.words)
    ∙ sym
    (words_tell left right (sym one.reference ∙ c.if-left-right.false ∙ other.reference) (sym one.e ∙ c.if-left-right-2.false ∙ other.e) (sym one.d ∙ c.if-left-right-3.false ∙ other.d) left.points right.points
    (inside left.points c.in_ok-here.here here c.if-here-gt-MOST.false) (inside right.points c.in_ok-there.there there c.if-there-gt-MOST.false))
