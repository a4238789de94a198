use Rattle.std.proofs.Common.{ℕ, ◌==◌, sym, ap, ◌∙◌, subst, arith}
use Rattle.std.proofs.lemmas.Result.{err_from_is_err_and}
use Rattle.grib2_sections.specs.Frame.{end_fault, opening_fault, may_follow}
use Rattle.grib2_arrival.specs.declared.look.Look.TheVariants.{Values}
use Rattle.grib2_arrival.specs.Heard.{mark, Looks}
use Rattle.grib2_arrival.proofs.Looking.{end_refused, looks_few, looks_ended, looks_four, opening_refused, looks_values, looks_more, looks_section}
use Rattle.grib2_arrival.proofs.kept.Kept.look.Goals as goal

pub returns-then-gathered-lt4 : goal.returns-then-gathered-lt4
returns-then-gathered-lt4 c = λ profile u before h is one. looks_few profile u before c.args.self.now h c.args.gathered.now is one (omega arith)

pub returns-in_err-ends : goal.returns-in_err-ends
returns-in_err-ends c = λ profile u before h is one.
    let at = c.args.self.now.frame in
    let e = ap (end_fault at) (sym c.u32_at-length.ensures) in
    let p = err_from_is_err_and c.from_residual.result c.from_residual.ensures.1 in
    rw (p.1, p.2) (end_refused profile u before c.args.self.now h c.args.gathered.now is one (omega arith) _ (e ∙ c.in_err-ends.ensures))

pub returns-then-branch : goal.returns-then-branch
returns-then-branch c = λ profile u before h is one.
    let at = c.args.self.now.frame in
    let told = c.in_ok-ends.ensures in
    let e = sym c.u32_at-length.ensures in
    looks_ended profile u before c.args.self.now h c.args.gathered.now is one (omega arith) (ap (end_fault at) e ∙ told.0)
    (ap (λ (n : ℕ). n == mark) e ∙ sym told.1 ∙ c.if-branch.true)

pub returns-then-gathered-lt5 : goal.returns-then-gathered-lt5
returns-then-gathered-lt5 c = λ profile u before h is one.
    let at = c.args.self.now.frame in
    let told = c.in_ok-ends.ensures in
    let e = sym c.u32_at-length.ensures in
    looks_four profile u before c.args.self.now h c.args.gathered.now is one (omega arith) (ap (end_fault at) e ∙ told.0)
    (ap (λ (n : ℕ). n == mark) e ∙ sym told.1 ∙ c.if-branch.false) (omega arith)

pub returns-in_err-opens : goal.returns-in_err-opens
returns-in_err-opens c = λ profile u before h is one.
    let at = c.args.self.now.frame in
    let told = c.in_ok-ends.ensures in
    let e = sym c.u32_at-length.ensures in
    let e5 = sym c.u8_at-number.ensures in
    let p = err_from_is_err_and c.from_residual-in_err-opens.result c.from_residual-in_err-opens.ensures.1 in
    rw (p.1, p.2) (opening_refused profile u before c.args.self.now h c.args.gathered.now is one (omega arith) (ap (end_fault at) e ∙ told.0)
    (ap (λ (n : ℕ). n == mark) e ∙ sym told.1 ∙ c.if-branch.false) (omega arith) _ ((λ i. opening_fault at (e i) (e5 i)) ∙ c.in_err-opens.ensures))

pub returns-then-number-eq7 : goal.returns-then-number-eq7
returns-then-number-eq7 c = λ profile u before h is one.
    let at = c.args.self.now.frame in
    let told = c.in_ok-ends.ensures in
    let e = sym c.u32_at-length.ensures in
    let e5 = sym c.u8_at-number.ensures in
    let ok = c.in_ok-opens.ensures in
    subst (λ (n : ℕ). Looks u c.args.self.now c.args.gathered.now (Values n)) e
    (looks_values profile u before c.args.self.now h c.args.gathered.now is one (omega arith) (ap (end_fault at) e ∙ told.0)
    (ap (λ (n : ℕ). n == mark) e ∙ sym told.1 ∙ c.if-branch.false) (omega arith) ((λ i. opening_fault at (e i) (e5 i)) ∙ ok.0)
    (omega (arith, e, ok.1)) (omega (arith, e, ok.4)) (e5 ∙ c.if-number-eq7.true) (ap (may_follow at.last) e5 ∙ ok.3))

pub returns-then-gathered-length : goal.returns-then-gathered-length
returns-then-gathered-length c = λ profile u before h is one.
    let at = c.args.self.now.frame in
    let told = c.in_ok-ends.ensures in
    let e = sym c.u32_at-length.ensures in
    let e5 = sym c.u8_at-number.ensures in
    let ok = c.in_ok-opens.ensures in
    looks_more profile u before c.args.self.now h c.args.gathered.now is one (omega arith) (ap (end_fault at) e ∙ told.0)
    (ap (λ (n : ℕ). n == mark) e ∙ sym told.1 ∙ c.if-branch.false) (omega arith) ((λ i. opening_fault at (e i) (e5 i)) ∙ ok.0)
    (omega (arith, e, ok.1)) (omega (arith, e, ok.4)) (λ x. c.if-number-eq7.false (sym e5 ∙ x)) (omega (arith, e))

pub returns : goal.returns
returns c = λ profile u before h is one.
    let at = c.args.self.now.frame in
    let told = c.in_ok-ends.ensures in
    let e = sym c.u32_at-length.ensures in
    let e5 = sym c.u8_at-number.ensures in
    let ok = c.in_ok-opens.ensures in
    looks_section profile u before c.args.self.now h c.args.gathered.now is one (omega arith) (ap (end_fault at) e ∙ told.0)
    (ap (λ (n : ℕ). n == mark) e ∙ sym told.1 ∙ c.if-branch.false) (omega arith) ((λ i. opening_fault at (e i) (e5 i)) ∙ ok.0)
    (omega (arith, e, ok.1)) (omega (arith, e, ok.4)) (λ x. c.if-number-eq7.false (sym e5 ∙ x)) (omega (arith, e5, ok.2)) (omega (arith, e))
