use Rattle.std.proofs.Common.{◌≡◌, ◌+◌, ◌≤◌, ◌<◌, [], length, drop, sym, ap, ◌∙◌, arith, length-drop}
use Rattle.std.proofs.lemmas.List.{drop_all}
use Rattle.grib.specs.Messages.{items_left}
use Rattle.grib.proofs.Firsts.{left_of, items_on, items_none}
use Rattle.grib.proofs.sequence.MessageIter.find_mark.Goals as goal

pub returns-then-self-before-lt4-clause-items : goal.returns-then-self-before-lt4-clause-items
returns-then-self-before-lt4-clause-items c =
    let left = c.self.inside.left.now in
    let place = c.self.inside.place in
    let n = c.octets_before_mark-before.result in
    let all = c.args.self.now in
    let within : n ≤ length left = c.octets_before_mark-before.ensures.within in
    let few : length (drop n left) < 4 = omega (arith, length-drop n left, c.if-self-before-lt4.true) in
    let old = items_on place n left within c.octets_before_mark-before.ensures.unmarked.none ∙ items_none (place + n) (drop n left) few in
    let count = length c.skip.inside.left.now in
    let whole : length all.octets ≤ count = omega (arith, ap (λ l. length l.octets) c.skip.view_is) in
    let gone : drop count all.octets ≡ [] = drop_all count all.octets whole in
    ap items_left c.skip-then-self-before-lt4.ensures ∙ (ap (λ xs. items_left (left_of xs (all.place + count))) gone ∙ (sym old ∙ ap items_left c.self.view_is))

pub returns-clause-items : goal.returns-clause-items
returns-clause-items c =
    let left = c.self.inside.left.now in
    let place = c.self.inside.place in
    let n = c.octets_before_mark-before.result in
    ap items_left c.skip-2.ensures
    ∙ (ap (λ l. items_left (left_of (drop n l.octets) (l.place + n))) (sym c.self.view_is)
    ∙ (sym (items_on place n left c.octets_before_mark-before.ensures.within c.octets_before_mark-before.ensures.unmarked.none) ∙ ap items_left c.self.view_is))
