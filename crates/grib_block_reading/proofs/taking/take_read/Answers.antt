use Rattle.std.proofs.Common.{ℕ, ◌≡◌, ◌+◌, ◌-◌, ◌*◌, ◌%◌, ◌≤◌, min, Some, refl, ap, sym, subst, ◌∙◌}
use Rattle.std.proofs.lemmas.Result.{MatchResult-weaker}
use Rattle.grib_coding.specs.Items.{Run, covered}
use Rattle.grib_coding.specs.Reading.{skipped, coded_of}
use Rattle.grib_block_reading.specs.declared.item.Kind.{Kind}
use Rattle.grib_block_reading.specs.ItemRead.{IsOfKind, IsBlock}
use Rattle.grib_block_reading.specs.Taking.{with_reference, ItemPassed}
use Rattle.grib_block_reading.proofs.Shown.{values_are, some_block, inside_of, zeros_passed, codes_passed, codes_fault}
use Rattle.grib_block_reading.proofs.taking.take_read.Goals as goal

pub returns-in-Zeros : goal.returns-in-Zeros
returns-in-Zeros g c item kind =
    let coding = c.args.coding in
    let block = c.args.block in
    let codes = c.args.codes.now in
    let skip = skipped (with_reference coding block) in
    let run : item ≡ Run c.in-Zeros.field-0 = subst (λ (k : Kind). IsOfKind coding skip k item codes) c.in-Zeros.is kind in
    let blocks : c.blocks_covered-blocks.result ≡ covered coding (block % coding.interval) item =
    subst (λ (r : ℕ). c.blocks_covered-blocks.result ≡ covered coding (block % r) item) c.from.ensures (c.blocks_covered-blocks.ensures.covered item skip codes kind) in
    let some = c.requires.fits.some_blocks in
    let inside : block % coding.interval + c.blocks_covered-blocks.result ≤ coding.interval =
    inside_of coding.interval block _ _ _ _ some c.from.ensures c.from-2.ensures c.from-3.ensures c.if-blocks-from.false in
    zeros_passed g.K.Keeper.kept coding c.args.count block c.args.head.reference item c.in-Zeros.field-0 c.blocks_covered-blocks.result c.values_shown-values.result
    c.args.kept.last c.args.kept.keeper _ _ some (some_block coding c.requires.fits) c.requires.some c.requires.reference run blocks inside
    (values_are coding block c.args.head.reference _ _ c.requires.reference c.values_shown-values.ensures) c.keep_zero_blocks-kept.ensures

pub returns-in-Codes : goal.returns-in-Codes
returns-in-Codes g c item kind =
    let coding = c.args.coding in
    let block = c.args.block in
    let codes = c.args.codes.now in
    let skip = skipped (with_reference coding block) in
    let is : IsBlock coding skip item codes = subst (λ (k : Kind). IsOfKind coding skip k item codes) c.in-Codes.is kind in
    let one : c.blocks_covered-blocks.result ≡ 1 = c.blocks_covered-blocks.ensures.one c.in-Codes.is in
    let some = c.requires.fits.some_blocks in
    let inside : block % coding.interval + 1 ≤ coding.interval =
    subst (λ (n : ℕ). block % coding.interval + n ≤ coding.interval) one
    (inside_of coding.interval block _ _ _ _ some c.from.ensures c.from-2.ensures c.from-3.ensures c.if-blocks-from.false) in
    let values : c.values_shown-values.result ≡ min (coding.block * 1) (c.args.count - block * coding.block) - skip =
    subst (λ (n : ℕ). c.values_shown-values.result ≡ min (coding.block * n) (c.args.count - block * coding.block) - skip) one
    (values_are coding block c.args.head.reference _ _ c.requires.reference c.values_shown-values.ensures) in
    let after = c.take_codes.result.kept in
    MatchResult-weaker c.take_codes.result.blocks c.take_codes.ensures
    (λ taken p. subst (λ (n : ℕ). ItemPassed g.K.Keeper.kept coding c.args.count block (coded_of c.args.head.reference item) c.args.kept.last c.args.kept.keeper n after.last after.keeper) (sym p.0)
    (codes_passed g.K.Keeper.kept coding c.args.count block c.args.head.reference item 1 c.values_shown-values.result codes c.args.kept.last c.args.kept.keeper after.last after.keeper
    some (some_block coding c.requires.fits) c.requires.some c.requires.reference is c.requires.room refl inside values p.1 p.2))
    (λ fault q. (
      codes_fault coding c.args.count block c.args.head.reference item 1 c.values_shown-values.result q.0 codes c.requires.some c.requires.reference is c.requires.room refl inside values q.1
          ∙ ap Some (sym q.2),
      q.3,
    ))
