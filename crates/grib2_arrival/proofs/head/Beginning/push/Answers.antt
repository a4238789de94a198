use Rattle.std.proofs.Common.{◌≡◌, ℕ, ◌+◌, ◌≤◌, List, [], ◌++◌, take, drop, length, sym, ap, ◌∙◌, subst, arith, length-take-le, length-append}
use Rattle.std.proofs.lemmas.Result.{err_from_is_err_and}
use Rattle.grib_base.specs.Rules.{first_fault}
use Rattle.grib_base.specs.declared.fault.ReadFault.TheVariants.{Refused as ReadRefused}
use Rattle.grib2_sections.specs.Head.{head_rules, head_of}
use Rattle.grib2_sections.specs.declared.indicator.Head.{Head}
use Rattle.grib2_sections.specs.Frame.{Position}
use Rattle.grib2_message.specs.Summary.{summary_in_force}
use Rattle.grib2_message.proofs.Passed.{passes_from_none}
use Rattle.grib2_message.proofs.Whole.{head_passes}
use Rattle.grib2_arrival.specs.Heard.{BeginsLikeTwo, GathersHeard}
use Rattle.grib2_arrival.proofs.Beginnings.{heard_one, front_begins, begun_indicated, noted_whole, head_refused, head_two, stands_first}
use Rattle.grib2_arrival.proofs.States.{fresh}
use Rattle.grib2_arrival.proofs.Verdicts.{parted, stops_piece}
use Rattle.grib2_arrival.proofs.head.Beginning.push.Goals as goal

pub read_head-requires : goal.read_head-requires
read_head-requires c =
    let u = c.requires.heard.1 in
    let bh = c.requires.heard.2 in
    let piece = c.args.piece.now in
    let taken = c.min-taken.result in
    let part = take taken piece in
    let within : taken ≤ length piece = omega (arith, c.min-taken.ensures) in
    let long = length-take-le taken piece within in
    let all : c.args.self.count + length part ≡ 16 = omega (arith, long, c.min-taken.ensures, bh.few, bh.count) in
    let is = noted_whole c.requires.heard.0 c.args.self u part c.noted-first.result bh c.noted-first.ensures.noted c.noted-first.ensures.long all in
    let begins = front_begins (u ++ part) (drop taken piece) (subst BeginsLikeTwo (sym (parted u piece taken)) c.requires.heard.3) in
    ap (take 4) is ∙ begun_indicated (u ++ part) (omega (arith, length-append u part, all, bh.count)) begins

pub new-kept-requires : goal.new-kept-requires
new-kept-requires c =
    let u = c.requires.heard.1 in
    let bh = c.requires.heard.2 in
    let piece = c.args.piece.now in
    let taken = c.min-taken.result in
    let part = take taken piece in
    let within : taken ≤ length piece = omega (arith, c.min-taken.ensures) in
    let long = length-take-le taken piece within in
    let all : c.args.self.count + length part ≡ 16 = omega (arith, long, c.min-taken.ensures, bh.few, bh.count) in
    let is = noted_whole c.requires.heard.0 c.args.self u part c.noted-first.result bh c.noted-first.ensures.noted c.noted-first.ensures.long all in
    let begins = front_begins (u ++ part) (drop taken piece) (subst BeginsLikeTwo (sym (parted u piece taken)) c.requires.heard.3) in
    let two = begins.second (omega (arith, length-append u part, all, bh.count)) in
    let read = c.in_ok-head.ensures in
    let none = ap (λ (m : List ℕ). first_fault (head_rules m)) (sym is) ∙ read.0 in
    let p = head_passes (u ++ part) (λ first. absurd (omega (arith, two, first))) (passes_from_none (head_rules (u ++ part)) none) in
    let total = ap (λ (h : Head). h.total) (read.1 ∙ ap head_of is ∙ head_two (u ++ part) two) in
    record { shortest = omega (arith, total, p.least); longest = omega (arith, total, p.most) }

pub returns-in_err-head : goal.returns-in_err-head
returns-in_err-head c = λ profile u bh.
    let piece = c.args.piece.now in
    let taken = c.min-taken.result in
    let part = take taken piece in
    let within : taken ≤ length piece = omega (arith, c.min-taken.ensures) in
    let long = length-take-le taken piece within in
    let all : c.args.self.count + length part ≡ 16 = omega (arith, long, c.min-taken.ensures, bh.few, bh.count) in
    let is = noted_whole profile c.args.self u part c.noted-first.result bh c.noted-first.ensures.noted c.noted-first.ensures.long all in
    let given = subst (λ (x : List ℕ). BeginsLikeTwo (x ++ piece)) (heard_one c.requires.heard.0 profile c.args.self c.requires.heard.1 u c.requires.heard.2 bh) c.requires.heard.3 in
    let begins = front_begins (u ++ part) (drop taken piece) (subst BeginsLikeTwo (sym (parted u piece taken)) given) in
    let sixteen : length (u ++ part) ≡ 16 = omega (arith, length-append u part, all, bh.count) in
    let two = begins.second (omega (arith, sixteen)) in
    let refused = head_refused profile (u ++ part) (omega (arith, sixteen)) two _ (ap (λ (m : List ℕ). first_fault (head_rules m)) (sym is) ∙ c.in_err-head.ensures) in
    let p = err_from_is_err_and c.from_residual.result c.from_residual.ensures.1 in
    rw (p.1, p.2) (stops_piece profile u piece taken (ReadRefused _) two refused)

pub returns : goal.returns
returns c = λ profile u bh.
    let piece = c.args.piece.now in
    let taken = c.min-taken.result in
    let part = take taken piece in
    let within : taken ≤ length piece = omega (arith, c.min-taken.ensures) in
    let long = length-take-le taken piece within in
    let all : c.args.self.count + length part ≡ 16 = omega (arith, long, c.min-taken.ensures, bh.few, bh.count) in
    let is = noted_whole profile c.args.self u part c.noted-first.result bh c.noted-first.ensures.noted c.noted-first.ensures.long all in
    let given = subst (λ (x : List ℕ). BeginsLikeTwo (x ++ piece)) (heard_one c.requires.heard.0 profile c.args.self c.requires.heard.1 u c.requires.heard.2 bh) c.requires.heard.3 in
    let begins = front_begins (u ++ part) (drop taken piece) (subst BeginsLikeTwo (sym (parted u piece taken)) given) in
    let sixteen : length (u ++ part) ≡ 16 = omega (arith, length-append u part, all, bh.count) in
    let two = begins.second (omega (arith, sixteen)) in
    let read = c.in_ok-head.ensures in
    let told = read.1 ∙ ap head_of is ∙ head_two (u ++ part) two in
    let kept = c.new-kept.result in
    let stands = stands_first profile (u ++ part) kept sixteen two (ap (λ (m : List ℕ). first_fault (head_rules m)) (sym is) ∙ read.0)
    (c.new-kept.ensures.frame ∙ ap (λ (h : Head). let at : Position = record { total = h.total; place = 17; last = 0 } in at) told) c.new-kept.ensures.force (c.new-kept.ensures.profile ∙ bh.under)
    (c.new-kept.ensures.line ∙ ap (λ (h : Head). summary_in_force h.discipline []) told) c.new-kept.ensures.summaries in (
      omega (arith, c.requires.some, bh.few, bh.count, c.min-taken.ensures),
      within,
      subst (λ (xs : List ℕ). GathersHeard profile kept xs (u ++ part)) (sym c.new-gathered.ensures.items) (fresh profile (u ++ part) [] kept stands (omega (arith, ap (λ (at : Position). at.place) c.new-kept.ensures.frame, sixteen))),
    )
