use Rattle.std.proofs.Common.{◌≡◌, ℕ, ◌+◌, ◌-◌, List, ◌++◌, take, sym, ap, ap₂, ◌∙◌, arith, append_assoc}
use Rattle.grib_bits.specs.Encoding.{octets_of}
use Rattle.grib2_sections.specs.Head.{end_mark}
use Rattle.grib_select.specs.Single.{field_part, first_parts}
use Rattle.grib_select.proofs.Steps.{parts_more}
use Rattle.grib_select.proofs.cutting.single.Goals as goal

-- octets behind the last of three
behind : (a b c d : List ℕ) → (a ++ (b ++ c)) ++ d ≡ a ++ (b ++ (c ++ d))
behind a b c d = append_assoc a (b ++ c) d ∙ ap (λ (xs : List ℕ). a ++ xs) (append_assoc b c d)

pub loop-number-preserved : goal.loop-number-preserved
loop-number-preserved c =
    let m = c.args.message.now in
    let i = c.args.field in
    let n = c.loop-number.number in
    let head = take 8 m in
    let total = octets_of 8 c.single_length-total.result in
    let low = c.loop-number.auto.number in
    let back : n + 1 - 1 ≡ n - 1 + 1 = omega (arith, low) in
    c.in_ok-extend_from_slice-3.ensures.items
    ∙ ap₂ (λ (xs ys : List ℕ). xs ++ ys) c.loop-number.invariant c.field_part.ensures.octets
    ∙ behind head total (first_parts m i (n - 1)) (field_part m i n)
    ∙ ap (λ (xs : List ℕ). head ++ (total ++ xs)) (sym (parts_more m i (n - 1) n (omega (arith, low))))
    ∙ ap (λ (k : ℕ). head ++ (total ++ first_parts m i k)) (sym back)

pub returns : goal.returns
returns c =
    let m = c.args.message.now in
    let i = c.args.field in
    let n = c.loop-number.number in
    let head = take 8 m in
    let last : n - 1 ≡ 7 = omega (arith, c.loop-number-test.false, c.loop-number.auto.number-end (omega arith)) in
    c.in_ok-extend_from_slice-4.ensures.items
    ∙ ap (λ (xs : List ℕ). xs ++ end_mark) c.loop-number.invariant
    ∙ behind head (octets_of 8 c.single_length-total.result) (first_parts m i (n - 1)) end_mark
    ∙ ap (λ (k : ℕ). head ++ (octets_of 8 c.single_length-total.result ++ (first_parts m i k ++ end_mark))) last
    ∙ ap (λ (k : ℕ). head ++ (octets_of 8 k ++ (first_parts m i 7 ++ end_mark))) c.single_length-total.ensures
