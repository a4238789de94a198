use Rattle.std.proofs.Common.{◌<◌, sym, subst, ◌≡◌, ◌≤◌, length, ap, ◌∙◌, arith}
use Rattle.grib.specs.Reading.{Advances, AdvancesOver, behind, turns_left}
use Rattle.grib.specs.Within.{IsWithin}
use Rattle.grib.proofs.Readings.{passed_on, standing, goes_shown, goes_out, goes_wrong, goes_wrong_later, goes_nearer}
use Rattle.grib.proofs.reader.Reader.advance.Goals as goal

pub returns-in_err-find_mark-clause-told : goal.returns-in_err-find_mark-clause-told
returns-in_err-find_mark-clause-told g c =
    let left = g.S.Source.left in
    let a = c.args.self.now in
    let error = c.in_err-find_mark.field-0.0 in
    let fits : a.size ≤ length a.ahead = omega (arith, c.self.invariant.there, ap (λ r. r.size) c.self.view_is, ap (λ r. length r.ahead) c.self.view_is) in
    let passed : c.pass.new.self ≡ behind a a.size = c.pass.ensures ∙ ap (λ n. behind a n) (ap (λ r. r.size) c.self.view_is) in
    passed_on (λ r. AdvancesOver left a c.find_mark.new.self r) c.from_residual.result error c.from_residual.ensures.1
    (goes_wrong left a c.pass.new.self c.find_mark.new.self error fits passed c.in_err-find_mark.ensures.breaks).1

pub returns-then-not-branch-clause-taken : goal.returns-then-not-branch-clause-taken
returns-then-not-branch-clause-taken g c =
    let left = g.S.Source.left in
    let a = c.args.self.now in
    let f = c.find_mark.new.self in
    let fits : a.size ≤ length a.ahead = omega (arith, c.self.invariant.there, ap (λ r. r.size) c.self.view_is, ap (λ r. length r.ahead) c.self.view_is) in
    let passed : c.pass.new.self ≡ behind a a.size = c.pass.ensures ∙ ap (λ n. behind a n) (ap (λ r. r.size) c.self.view_is) in
    let few = c.in_ok-find_mark.ensures.few cc in
    (goes_out left a c.pass.new.self f c.pass-then-not-branch.new.self fits passed c.in_ok-find_mark.ensures.keeps c.in_ok-find_mark.ensures.none few.0 few.1
    (c.pass-then-not-branch.ensures ∙ ap (λ n. behind f n) (c.len-count.ensures ∙ ap (λ r. length r.ahead) c.self-then-not-branch.view_is))).0

pub returns-then-not-branch-clause-told : goal.returns-then-not-branch-clause-told
returns-then-not-branch-clause-told g c =
    let left = g.S.Source.left in
    let a = c.args.self.now in
    let f = c.find_mark.new.self in
    let fits : a.size ≤ length a.ahead = omega (arith, c.self.invariant.there, ap (λ r. r.size) c.self.view_is, ap (λ r. length r.ahead) c.self.view_is) in
    let passed : c.pass.new.self ≡ behind a a.size = c.pass.ensures ∙ ap (λ n. behind a n) (ap (λ r. r.size) c.self.view_is) in
    let few = c.in_ok-find_mark.ensures.few cc in
    (goes_out left a c.pass.new.self f c.pass-then-not-branch.new.self fits passed c.in_ok-find_mark.ensures.keeps c.in_ok-find_mark.ensures.none few.0 few.1
    (c.pass-then-not-branch.ensures ∙ ap (λ n. behind f n) (c.len-count.ensures ∙ ap (λ r. length r.ahead) c.self-then-not-branch.view_is))).1

pub returns-in_err-gather_message-clause-taken : goal.returns-in_err-gather_message-clause-taken
returns-in_err-gather_message-clause-taken g c =
    let left = g.S.Source.left in
    let a = c.args.self.now in
    let error = c.in_err-gather_message.field-0.0 in
    let fits : a.size ≤ length a.ahead = omega (arith, c.self.invariant.there, ap (λ r. r.size) c.self.view_is, ap (λ r. length r.ahead) c.self.view_is) in
    let passed : c.pass.new.self ≡ behind a a.size = c.pass.ensures ∙ ap (λ n. behind a n) (ap (λ r. r.size) c.self.view_is) in
    passed_on (λ r. Advances left a c.gather_message.new.self r) c.from_residual-in_err-gather_message.result error c.from_residual-in_err-gather_message.ensures.1
    (goes_wrong_later left a c.pass.new.self c.find_mark.new.self c.gather_message.new.self error fits passed c.in_ok-find_mark.ensures.keeps c.in_err-gather_message.ensures.breaks).0

pub returns-in_err-gather_message-clause-told : goal.returns-in_err-gather_message-clause-told
returns-in_err-gather_message-clause-told g c =
    let left = g.S.Source.left in
    let a = c.args.self.now in
    let error = c.in_err-gather_message.field-0.0 in
    let fits : a.size ≤ length a.ahead = omega (arith, c.self.invariant.there, ap (λ r. r.size) c.self.view_is, ap (λ r. length r.ahead) c.self.view_is) in
    let passed : c.pass.new.self ≡ behind a a.size = c.pass.ensures ∙ ap (λ n. behind a n) (ap (λ r. r.size) c.self.view_is) in
    passed_on (λ r. AdvancesOver left a c.gather_message.new.self r) c.from_residual-in_err-gather_message.result error c.from_residual-in_err-gather_message.ensures.1
    (goes_wrong_later left a c.pass.new.self c.find_mark.new.self c.gather_message.new.self error fits passed c.in_ok-find_mark.ensures.keeps c.in_err-gather_message.ensures.breaks).1

pub returns-clause-taken : goal.returns-clause-taken
returns-clause-taken g c =
    let left = g.S.Source.left in
    let a = c.args.self.now in
    let m = c.gather_message.new.self in
    let size = c.octets_of_first-self-inside.result in
    let fits : a.size ≤ length a.ahead = omega (arith, c.self.invariant.there, ap (λ r. r.size) c.self.view_is, ap (λ r. length r.ahead) c.self.view_is) in
    let passed : c.pass.new.self ≡ behind a a.size = c.pass.ensures ∙ ap (λ n. behind a n) (ap (λ r. r.size) c.self.view_is) in
    let found = c.in_ok-find_mark.ensures in
    let gathered = c.in_ok-gather_message.ensures in
    let sized = c.octets_of_first-self-inside.ensures in
    (goes_shown left a c.pass.new.self c.find_mark.new.self m _ size c.as_slice.result.now (c.as_slice.ensures ∙ ap (λ r. r.ahead) c.self-2.view_is) fits passed found.keeps gathered.keeps gathered.none
    gathered.begun gathered.there sized.some sized.within sized.size (ap (λ r. standing left r size) c.self-2.view_is)).0

pub returns-clause-told : goal.returns-clause-told
returns-clause-told g c =
    let left = g.S.Source.left in
    let a = c.args.self.now in
    let m = c.gather_message.new.self in
    let size = c.octets_of_first-self-inside.result in
    let fits : a.size ≤ length a.ahead = omega (arith, c.self.invariant.there, ap (λ r. r.size) c.self.view_is, ap (λ r. length r.ahead) c.self.view_is) in
    let passed : c.pass.new.self ≡ behind a a.size = c.pass.ensures ∙ ap (λ n. behind a n) (ap (λ r. r.size) c.self.view_is) in
    let found = c.in_ok-find_mark.ensures in
    let gathered = c.in_ok-gather_message.ensures in
    let sized = c.octets_of_first-self-inside.ensures in
    (goes_shown left a c.pass.new.self c.find_mark.new.self m _ size c.as_slice.result.now (c.as_slice.ensures ∙ ap (λ r. r.ahead) c.self-2.view_is) fits passed found.keeps gathered.keeps gathered.none
    gathered.begun gathered.there sized.some sized.within sized.size (ap (λ r. standing left r size) c.self-2.view_is)).1

pub returns-clause-nearer : goal.returns-clause-nearer
returns-clause-nearer g c = λ _.
    let left = g.S.Source.left in
    let a = c.args.self.now in
    let size = c.octets_of_first-self-inside.result in
    let passed : c.pass.new.self ≡ behind a a.size = c.pass.ensures ∙ ap (λ n. behind a n) (ap (λ r. r.size) c.self.view_is) in
    subst (λ r. turns_left (standing left r size) < turns_left a) (sym c.self-2.view_is)
    (goes_nearer left a c.pass.new.self c.find_mark.new.self c.gather_message.new.self size (subst (λ r. IsWithin r.ahead r.size r.place r.quota r.ended) c.self.view_is c.self.invariant) passed
    c.in_ok-find_mark.ensures.keeps c.in_ok-gather_message.ensures.keeps c.octets_of_first-self-inside.ensures.some)
