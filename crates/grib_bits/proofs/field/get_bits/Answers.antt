use Rattle.std.proofs.Common.{◌≡◌, ◌+◌, ◌-◌, ◌*◌, ◌/◌, ◌%◌, ◌<◌, ◌≤◌, ◌++◌, length, ap, sym, ◌∙◌, arith, Bool, List, ℕ, get_or, bit_or, ◌^◌, ap₂, subst, replicate, take, drop}
use Rattle.std.proofs.lemmas.List.{length-drop, length-append, take_rest, get_or-drop}
use Rattle.grib_bits.specs.Bits.{bits, num}
use Rattle.grib_bits.proofs.Fields.{field_start, field_within, field_over}
use Rattle.grib_bits.proofs.field.get_bits.Goals as goal

pub returns-then-skip-width-le64 : goal.returns-then-skip-width-le64
returns-then-skip-width-le64 c =
    let octets = c.args.octets.now in
    let at = c.args.at in
    let rest = drop (at / 8) octets in
    let tail = take_rest octets (at / 8) in
    let zeros : List ℕ = replicate 8 0 in
    let enough : 8 ≤ length (rest ++ zeros) = omega (arith, length-append rest zeros) in
    let is_word = c.first_word.ensures ∙ ap (λ (xs : List ℕ). num (bits (take 8 (xs ++ zeros)))) tail in
    let within : at % 8 + c.args.width ≤ 8 * length rest = omega (arith, length-drop (at / 8) octets) in
    field_within rest zeros enough c.first_word.result (at % 8) c.args.width is_word within c.if-skip-width-le64.true
    ∙ ap (λ (xs : List Bool). num (take c.args.width xs)) (sym (field_start octets at (omega arith)))

pub returns : goal.returns
returns c =
    let octets = c.args.octets.now in
    let at = c.args.at in
    let width = c.args.width in
    let first = at / 8 in
    let rest = drop first octets in
    let tail = take_rest octets first in
    let zeros : List ℕ = replicate 8 0 in
    let enough : 8 ≤ length (rest ++ zeros) = omega (arith, length-append rest zeros) in
    let is_word = c.first_word.ensures ∙ ap (λ (xs : List ℕ). num (bits (take 8 (xs ++ zeros)))) tail in
    let within : at % 8 + width ≤ 8 * length rest = omega (arith, length-drop first octets) in
    let k = at % 8 + width - 64 in
    let is_ninth = c.from.ensures ∙ ap (λ (xs : List ℕ). get_or xs 8 0) tail in
    let after : 72 - at % 8 - width ≡ 8 - k = omega arith in
    let shifted = c.first_word.result * 2 ^ (at % 8) % 2 ^ 64 / 2 ^ (64 - width) in
    ap₂ (λ (n j : ℕ). bit_or shifted (n / 2 ^ j)) is_ninth after
    ∙ field_over rest zeros enough c.first_word.result (at % 8) width is_word within k (λ i. subst (λ (n : ℕ). n < 256) (sym (get_or-drop first octets i 0)) (omega (arith, c.type_inv.octets (first + i)))) (omega arith) c.requires.word (omega arith) (omega arith)
    ∙ ap (λ (xs : List Bool). num (take width xs)) (sym (field_start octets at (omega arith)))
