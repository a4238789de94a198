use Rattle.std.proofs.Common.{◌≡◌, ℕ, ◌+ℤ◌, ◌-ℤ◌, ℤ, pos, FitsSigned, to_z-of_z, ◌∙◌, arith, rules}
use Rattle.std.specs.Int.{w32, int_max}
use Rattle.std.specs.Float.Ieee.{Format, prec, low}
use Rattle.grib_nearest.specs.Formats.{format_of}
use Rattle.grib_nearest.proofs.Settling.{settled, none_kept, IsCut, cut_is, enough, some_cut, long, half_is}
use Rattle.grib_nearest.proofs.leading.Leading.nearest.Goals as goal

pub cut_of-cut-requires-clause-enough : goal.cut_of-cut-requires-clause-enough
cut_of-cut-requires-clause-enough c =
    enough (format_of c.args.format) c.bit_length.result _ c.field_of-field.result c.field_of-field.ensures (long c.bit_length.result c.args.self.steps c.bit_length.ensures.length c.args.self.many)

placed : (f : Format) (e e' : ℤ) (length field cut : ℕ) → e' ≡ e → pos field ≡ int_max (e' +ℤ pos length +ℤ pos (low f) -ℤ pos (prec f)) (pos 0) → pos cut ≡ pos field -ℤ (e' +ℤ pos (low f)) → IsCut f length e field cut
placed f e e' length field cut same is is' = rw (← same) (cut_is f length e' field cut is is')

pub overflow_sub-half : goal.overflow_sub-half
overflow_sub-half c =
    let is = cut_is (format_of c.args.format) c.bit_length.result _ c.field_of-field.result c.cut_of-cut.result c.field_of-field.ensures c.cut_of-cut.ensures in
    omega (arith, some_cut (format_of c.args.format) c.bit_length.result _ c.field_of-field.result c.cut_of-cut.result is (long c.bit_length.result c.args.self.steps c.bit_length.ensures.length c.args.self.many))

pub overflow_mul-half : goal.overflow_mul-half
overflow_mul-half c =
    let is = cut_is (format_of c.args.format) c.bit_length.result _ c.field_of-field.result c.cut_of-cut.result c.field_of-field.ensures c.cut_of-cut.ensures in
    let some = some_cut (format_of c.args.format) c.bit_length.result _ c.field_of-field.result c.cut_of-cut.result is (long c.bit_length.result c.args.self.steps c.bit_length.ensures.length c.args.self.many) in
    let half = half_is c.cut_of-cut.result (omega arith) c.if-cut-gt127.false in
    record { fits = omega (arith, half.1, half.2) }

pub returns-then-cut-gt127-clause-nearest : goal.returns-then-cut-gt127-clause-nearest
returns-then-cut-gt127-clause-nearest c n d some leading =
    let fits : FitsSigned w32 c.args.self.exponent = search rules in
    let is = placed (format_of c.args.format) c.args.self.exponent _ c.bit_length.result c.field_of-field.result c.cut_of-cut.result (to_z-of_z fits) c.field_of-field.ensures c.cut_of-cut.ensures in
    none_kept (format_of c.args.format) n d c.args.self.steps c.bit_length.result c.field_of-field.result c.cut_of-cut.result c.args.self.more c.args.self.exponent some leading c.bit_length.ensures.length is c.args.self.few c.if-cut-gt127.true

pub returns-clause-nearest : goal.returns-clause-nearest
returns-clause-nearest c n d some leading =
    let fits : FitsSigned w32 c.args.self.exponent = search rules in
    let is = placed (format_of c.args.format) c.args.self.exponent _ c.bit_length.result c.field_of-field.result c.cut_of-cut.result (to_z-of_z fits) c.field_of-field.ensures c.cut_of-cut.ensures in
    let digits = some_cut (format_of c.args.format) c.bit_length.result c.args.self.exponent c.field_of-field.result c.cut_of-cut.result is (long c.bit_length.result c.args.self.steps c.bit_length.ensures.length c.args.self.many) in
    let half = half_is c.cut_of-cut.result (omega arith) c.if-cut-gt127.false in
    let r = c.rounded-kept.ensures in
    c.word_of.ensures
    ∙ settled (format_of c.args.format) n d c.args.self.steps c.bit_length.result c.field_of-field.result c.cut_of-cut.result c.args.self.more c.args.self.exponent some leading c.bit_length.ensures.length is c.rounded-kept.result _ half.1 r.below r.above r.more r.tie
