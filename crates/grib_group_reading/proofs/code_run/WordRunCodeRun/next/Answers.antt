use Rattle.std.proofs.Common.{◌≡◌, ℕ, ◌+◌, ◌-◌, length, ◌<◌, ◌≤◌, ◌∷◌, drop, map, sym, subst, ap, ap₂, ◌∙◌, arith}
use Rattle.grib_bits.specs.Bits.{bits}
use Rattle.grib_bits.specs.Plain.{plain}
use Rattle.grib_bits.proofs.WordNumbers.{number-lt}
use Rattle.grib_base.specs.declared.code.Code.{Code}
use Rattle.grib_group_reading.specs.Taking.{code_by, number_of}
use Rattle.grib_group_reading.specs.CodeRuns.{limit_of}
use Rattle.grib_group_reading.proofs.Coded.{number_of-code_by}
use Rattle.grib_group_reading.proofs.CodeRuns.{length-codes, plain_first}
use Rattle.grib_group_reading.proofs.Runs.{within_words}
use Rattle.grib_group_reading.proofs.code_run.WordRunCodeRun.next.Goals as goal

pub number_in_word-number-requires-clause-within : goal.number_in_word-number-requires-clause-within
number_in_word-number-requires-clause-within c =
    let run = c.args.self.now in
    let some : 1 ≤ run.count = omega (arith, c.requires.some, length-codes (code_by run.coding) (drop run.place (bits run.octets.now)) run.width run.count) in
    within_words (length run.octets.now) run.place run.place run.width 0 run.count (omega arith) some (c.requires.stands.within some)

pub returns-clause-codes : goal.returns-clause-codes
returns-clause-codes c =
    let run = c.args.self.now in
    let all = bits run.octets.now in
    let by = code_by run.coding in
    let some : 1 ≤ run.count = omega (arith, c.requires.some, length-codes by (drop run.place all) run.width run.count) in
    let place : run.place + run.width ≡ run.place + c.from.result = ap (λ (n : ℕ). run.place + n) (sym c.from.ensures) in
    ap (map by) (plain_first all run.place run.width run.count some)
    ∙ ap₂ (λ (code : Code) (n : ℕ). code ∷ map by (plain (drop n all) run.width (run.count - 1))) (ap by (sym c.number_in_word-number.ensures.value) ∙ sym c.code.ensures) place

pub returns-clause-below : goal.returns-clause-below
returns-clause-below c =
    let run = c.args.self.now in
    let limit = limit_of run in
    let number = c.number_in_word-number.result in
    let small : run.coding.reference + number < limit = omega (arith, number-lt run.width (drop run.place (bits run.octets.now)), c.number_in_word-number.ensures.value) in
    subst (λ (code : Code). number_of code < limit) (sym c.code.ensures) (number_of-code_by run.coding number limit small)
