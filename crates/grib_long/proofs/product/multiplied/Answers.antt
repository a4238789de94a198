use Rattle.std.proofs.Common.{◌≡◌, ℕ, ◌+◌, ◌*◌, ◌/◌, ◌%◌, ◌^◌, take, get_or, ap, sym, ◌∙◌, rules}
use Rattle.std.proofs.lemmas.List.{take_all}
use Rattle.grib_long.specs.Digits.{little}
use Rattle.grib_long.proofs.Digits.{little_push, little_more, product_more, one_more}
use Rattle.grib_long.proofs.product.multiplied.Goals as goal

pub loop-digit-preserved : goal.loop-digit-preserved
loop-digit-preserved c =
    let i : ℕ = c.loop-digit.digit-index in
    let p = c.loop-digit.product.items in
    let part : ℕ = c.from.result * c.from-in-loop-digit.result + c.loop-digit.carry in
    let long = c.loop-digit.invariant.long in
    let pushed = ap little c.in_ok-push.ensures.items ∙ little_push p (part % 2 ^ 32) ∙ ap (λ n. little p + part % 2 ^ 32 * 2 ^ (32 * n)) long in
    let digits = c.args.digits.now in
    let digit : c.from.result ≡ get_or digits i 0 = search rules in
    let factor : c.from-in-loop-digit.result ≡ c.args.factor = search rules in
    let part_is : part ≡ get_or digits i 0 * c.args.factor + c.loop-digit.carry =
    ap (λ k. k * c.from-in-loop-digit.result + c.loop-digit.carry) digit ∙ ap (λ k. get_or digits i 0 * k + c.loop-digit.carry) factor in
    let more = product_more (little (take i digits)) c.args.factor (little p) c.loop-digit.carry (2 ^ (32 * i)) (get_or digits i 0) part c.loop-digit.invariant.is part_is in
    record {
      is = ap (λ k. k * c.args.factor) (little_more digits i 0 c.loop-digit-test.true) ∙ more ∙ ap (λ k. k + part / 2 ^ 32 * (2 ^ (32 * i) * 2 ^ 32)) (sym pushed)
          ∙ ap (λ k. little c.push.new.self.items + part / 2 ^ 32 * k) (sym (one_more i));
      carry = search rules;
      long = search rules;
    }

pub returns-clause-value : goal.returns-clause-value
returns-clause-value c =
    let i : ℕ = c.loop-digit.digit-index in
    let p = c.loop-digit.product.items in
    let pushed = ap little c.in_ok-push-2.ensures.items ∙ little_push p c.loop-digit.carry ∙ ap (λ n. little p + c.loop-digit.carry * 2 ^ (32 * n)) c.loop-digit.invariant.long in
    pushed ∙ sym c.loop-digit.invariant.is ∙ ap (λ k. little k * c.args.factor) (take_all i c.args.digits.now c.loop-digit-test.false)
