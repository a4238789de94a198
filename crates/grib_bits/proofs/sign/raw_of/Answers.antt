use Rattle.std.proofs.Common.{◌∙◌}
use Rattle.grib_bits.proofs.Signs.{signed-below, signed-above, negative_word, natural_word}
use Rattle.grib_bits.proofs.sign.raw_of.Goals as goal

pub returns-then-value-lt0-clause-value : goal.returns-then-value-lt0-clause-value
returns-then-value-lt0-clause-value c =
    signed-above c.args.width c.requires.nonempty c.requires.word _ c.if-magnitude-sign.false
    ∙ negative_word c.args.value _ c.ranges.value c.unsigned_abs-magnitude.ensures.value c.if-value-lt0.true

pub returns-else-value-lt0-clause-value : goal.returns-else-value-lt0-clause-value
returns-else-value-lt0-clause-value c =
    signed-below c.args.width c.requires.nonempty c.requires.word _ c.if-magnitude-sign.false
    ∙ natural_word c.args.value _ c.ranges.value c.unsigned_abs-magnitude.ensures.value c.if-value-lt0.false
