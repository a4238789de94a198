use Rattle.std.proofs.Common.{◌≡◌, ◌+◌, ◌-◌, ◌*◌, ◌%◌, ◌^◌, ◌++◌, bit_or, ap, ap₂, refl, ◌∙◌, arith, List, take, ℕ}
use Rattle.grib_bits.specs.Bits.{bits_of}
use Rattle.grib_bits.specs.Written.{Written}
use Rattle.grib_bits.proofs.Writing.{written, written_behind, written_over, full-lt}
use Rattle.grib_bits.proofs.writer.BitWriter.put.Goals as goal

pub returns-then-width-free-clause-bits : goal.returns-then-width-free-clause-bits
returns-then-width-free-clause-bits c =
    let w = c.self.inside in
    let pending : 64 - (w.free - c.args.width) ≡ 64 - w.free + c.args.width = omega arith in
    ap (λ (n : ℕ). written (take w.len w.octets.items) n (bit_or (w.word * 2 ^ c.args.width % 2 ^ 64) c.args.value)) pending
    ∙ written_behind (take w.len w.octets.items) (64 - w.free) w.word c.args.width c.args.value (omega arith) c.requires.fits
    ∙ ap (λ (v : Written). v.bits ++ bits_of c.args.width c.args.value) c.self.view_is

pub overflow_add-full : goal.overflow_add-full
overflow_add-full c =
    let w = c.self.inside in
    record {
      fits = full-lt w.free w.word c.args.width c.args.value (omega arith) (omega arith) c.if-width-free.false c.requires.fits;
    }

pub returns-clause-bits : goal.returns-clause-bits
returns-clause-bits c =
    let w = c.self.inside in
    let pending : 64 - (64 - (c.args.width - w.free)) ≡ c.args.width - w.free = omega arith in
    ap₂ (λ (xs : List ℕ) (n : ℕ). written xs n c.args.value) c.write_word.ensures.items pending
    ∙ written_over (take w.len w.octets.items) _ (64 - w.free) w.free w.word c.args.width c.args.value (omega arith) (omega arith) c.if-width-free.false c.requires.fits refl
    ∙ ap (λ (v : Written). v.bits ++ bits_of c.args.width c.args.value) c.self.view_is
