use Rattle.std.proofs.Common.{◌<◌, List, refl, sym, arith, subst, ap, ◌∙◌, length}
use Rattle.std.proofs.lemmas.List.{length-map}
use Rattle.grib_bitmap.specs.Mask.{present_count}
use Rattle.grib_packing.specs.declared.column.Point.{Point}
use Rattle.grib_codes.specs.KeptWords.{AreWords, word_for}
use Rattle.grib_codes.proofs.AsWords.{masked_words, present_few, whole_mask}
use Rattle.grib_codes.proofs.point_words.PointWords.with_mask.Goals as goal

pub returns-then-len : goal.returns-then-len
returns-then-len c = λ entries are.
    let kept = c.args.self in
    let taken = c.requires ∙ ap length are.words ∙ length-map entries word_for in
    let whole = whole_mask c.args.mask.now entries taken (omega (arith, c.requires, c.len.ensures, c.len-2.ensures, c.if-len.true, kept.words.ok.0)) in
    subst (λ (ps : List Point). AreWords ps kept) (sym whole) are

pub returns : goal.returns
returns c = λ entries are.
    let mask = c.args.mask.now in
    let kept = c.args.self in
    let less : present_count mask < length mask = omega (arith, present_few mask, c.requires, c.len.ensures, c.len-2.ensures, c.if-len.false, kept.words.ok.0) in
    masked_words mask entries kept _ are c.requires less (c.in_ok-words.ensures entries (c.deref.ensures.value ∙ are.words)) c.max.ensures refl
