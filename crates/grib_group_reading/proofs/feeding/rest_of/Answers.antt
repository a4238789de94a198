use Rattle.std.proofs.Common.{◌≡◌, ℕ, ◌-◌, ◌++◌, List, length, drop, min, sym, ap, ◌∙◌, arith}
use Rattle.std.proofs.lemmas.List.{take_rest}
use Rattle.grib_group_reading.proofs.Pieces.{rest-append}
use Rattle.grib_group_reading.proofs.feeding.rest_of.Goals as goal

pub returns-clause-rest : goal.returns-clause-rest
returns-clause-rest c = λ octets is_before.
    let ys = c.args.piece.now in
    let from = c.args.from in
    let first : min (from - length octets) (length ys) ≡ c.min-first.result = omega (arith, c.min-first.ensures, c.saturating_sub.ensures) in
    rest-append from octets ys
    ∙ ap (λ (k : ℕ). drop from octets ++ drop k ys) first
    ∙ ap (λ (zs : List ℕ). drop from octets ++ zs) (sym (take_rest ys c.min-first.result))
