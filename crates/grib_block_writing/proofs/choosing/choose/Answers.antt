use Rattle.std.proofs.Common.{◌≡◌, ℕ, ◌+◌, ◌-◌, ◌*◌, ◌<◌, ◌≤◌, sym, ap, ap₂, ◌∙◌, arith}
use Rattle.grib_coding.specs.declared.choice.Choice.TheVariants.{Plain, Second}
use Rattle.grib_coding.specs.Coding.{identifier_width}
use Rattle.grib_block_writing.proofs.Chosen.{choice_is, most_low}
use Rattle.grib_block_writing.proofs.choosing.choose.Goals as goal
use Rattle.grib_block_writing.proofs.choosing.choose.Goals.{then-pairs-plain, else-pairs-plain}

pub returns-then-split-min : goal.returns-then-split-min
returns-then-split-min c =
    let width = c.identifier_width-width in
    let second : c.second_bits-pairs.result < c.from-plain.result → c.if-pairs-plain.best ≡ Second =
    λ less. elim c.if-pairs-plain.branch [ then-pairs-plain w ↦ w.best-is | else-pairs-plain w ↦ absurd (omega arith) ] in
    let first : c.from-plain.result ≤ c.second_bits-pairs.result → c.if-pairs-plain.best ≡ Plain =
    λ more. elim c.if-pairs-plain.branch [ then-pairs-plain w ↦ absurd (omega arith) | else-pairs-plain w ↦ w.best-is ] in
    (choice_is c.args.coding.now c.args.skip c.args.codes.now c.if-pairs-plain.best _ _ _ _ _ _ c.requires.block
    (ap (λ n. n - c.args.skip) c.from.ensures) (c.from-plain.ensures ∙ ap (λ n. (c.from.result - c.args.skip) * n) c.from-2.ensures)
    c.second_bits-pairs.ensures.fewer c.second_bits-pairs.ensures.no_fewer second first
    (λ one. c.if-width-eq1.false (width.ensures.is ∙ one))
    (most_low c.args.coding.now width.result width.ensures.is width.ensures.within)
    c.least_split-split.ensures).0 (omega arith)

pub returns-else-split-min : goal.returns-else-split-min
returns-else-split-min c =
    let width = c.identifier_width-width in
    let second : c.second_bits-pairs.result < c.from-plain.result → c.if-pairs-plain.best ≡ Second =
    λ less. elim c.if-pairs-plain.branch [ then-pairs-plain w ↦ w.best-is | else-pairs-plain w ↦ absurd (omega arith) ] in
    let first : c.from-plain.result ≤ c.second_bits-pairs.result → c.if-pairs-plain.best ≡ Plain =
    λ more. elim c.if-pairs-plain.branch [ then-pairs-plain w ↦ absurd (omega arith) | else-pairs-plain w ↦ w.best-is ] in
    (choice_is c.args.coding.now c.args.skip c.args.codes.now c.if-pairs-plain.best _ _ _ _ _ _ c.requires.block
    (ap (λ n. n - c.args.skip) c.from.ensures) (c.from-plain.ensures ∙ ap (λ n. (c.from.result - c.args.skip) * n) c.from-2.ensures)
    c.second_bits-pairs.ensures.fewer c.second_bits-pairs.ensures.no_fewer second first
    (λ one. c.if-width-eq1.false (width.ensures.is ∙ one))
    (most_low c.args.coding.now width.result width.ensures.is width.ensures.within)
    c.least_split-split.ensures).1 (omega arith)
