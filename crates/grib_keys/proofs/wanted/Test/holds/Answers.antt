use Rattle.std.proofs.Common.{◌≡◌, sym, ap, ◌∙◌, not}
use Rattle.std.proofs.lemmas.Bool.Decides.{Decides-at}
use Rattle.grib_keys.specs.Wanted.{is_among, holds}
use Rattle.grib_keys.proofs.Chosen.{holds_decides}
use Rattle.grib_keys.proofs.wanted.Test.holds.Goals as goal

pub returns-in-Among-clause-exactly : goal.returns-in-Among-clause-exactly
returns-in-Among-clause-exactly c =
    let test = c.args.self.now in
    let value = c.args.value in
    let same : c.is_among.result ≡ holds test value =
    c.is_among.ensures ∙ (ap (λ those. is_among those value) c.as_slice.ensures ∙ ap (λ t. holds t value) (sym c.in-Among.is)) in
    Decides-at c.is_among.result (holds test value) same (holds_decides test value)

pub returns-in-Outside-clause-exactly : goal.returns-in-Outside-clause-exactly
returns-in-Outside-clause-exactly c =
    let test = c.args.self.now in
    let value = c.args.value in
    let same : not c.is_among-in-Outside.result ≡ holds test value =
    ap not (c.is_among-in-Outside.ensures ∙ ap (λ those. is_among those value) c.as_slice-in-Outside.ensures) ∙ ap (λ t. holds t value) (sym c.in-Outside.is) in
    Decides-at (not c.is_among-in-Outside.result) (holds test value) same (holds_decides test value)
