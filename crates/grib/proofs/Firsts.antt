-- The first item of octets, and what is left behind it.
use Rattle.std.proofs.Common.{◌≡◌, ℕ, zero, suc, ◌+◌, ◌-◌, ◌<◌, ◌≤◌, Bool, true, false, cond, List, [], ◌∷◌, ◌++◌, length, take, drop, refl, ap, ◌∙◌, arith, length-drop, length-append}
use Rattle.std.proofs.lemmas.Bool.{false≢true}
use Rattle.std.proofs.lemmas.List.{drop_all}
use lib.Seq.{drop-append-le}
use Rattle.grib_base.specs.Rules.{choose}
use Rattle.grib_stream.specs.Stream.{begins, Judgement, Message, Faulty, message_after}
use Rattle.grib_stream.specs.Searching.{Markless, Unmarked}
use Rattle.grib_stream.proofs.Streams.{none_in_few, markless_more}
use Rattle.grib_items.specs.Next.{Next, Accepts, Passes, Refuses, Unknown, next, next_judged, next_passed}
use Rattle.grib_items.specs.Items.{Accepted, Refused, passed_after, Items, on_next, items_from}
use Rattle.grib_command.specs.Judging.{judge}
use Rattle.grib.specs.Messages.{Left, items_left, IsSize}
use Rattle.grib.specs.Reading.{item_by}

-- ---- items, one step after another

items_inside : (judge : List ℕ → Judgement) (passes more : Bool) (inside place skipped : ℕ) (octets : List ℕ)
    → items_from judge passes more inside place skipped octets ≡ items_from judge passes more 0 (place + inside) skipped (drop inside octets)
items_inside judge passes more zero place skipped octets =
    let e : place ≡ place + 0 = omega arith in ap (λ p. items_from judge passes more 0 p skipped octets) e
items_inside judge passes more (suc inside) place skipped [] = refl
items_inside judge passes more (suc inside) place skipped (octet ∷ octets) =
    let e : place + 1 + inside ≡ place + suc inside = omega arith in
    items_inside judge passes more inside (place + 1) skipped octets ∙ ap (λ p. items_from judge passes more 0 p skipped (drop inside octets)) e

-- what is behind an item of this many octets
items_behind : (judge : List ℕ → Judgement) (passes more : Bool) (n place skipped octet : ℕ) (octets : List ℕ) → 1 ≤ n
    → items_from judge passes more (n - 1) (place + 1) skipped octets ≡ items_from judge passes more 0 (place + n) skipped (drop n (octet ∷ octets))
items_behind judge passes more zero place skipped octet octets some = absurd (omega (arith, some))
items_behind judge passes more (suc k) place skipped octet octets some =
    let less : suc k - 1 ≡ k = omega arith in
    let on : place + 1 + k ≡ place + suc k = omega arith in
    ap (λ n. items_from judge passes more n (place + 1) skipped octets) less
    ∙ (items_inside judge passes more k (place + 1) skipped octets ∙ ap (λ p. items_from judge passes more 0 p skipped (drop k octets)) on)

items_begun : (judge : List ℕ → Judgement) (passes more : Bool) (place skipped octet : ℕ) (octets : List ℕ) → begins (octet ∷ octets) ≡ true
    → items_from judge passes more 0 place skipped (octet ∷ octets)
    ≡ on_next (next judge passes more (octet ∷ octets)) place skipped (octet ∷ octets) (λ inside skipped. items_from judge passes more inside (place + 1) skipped octets)
items_begun judge passes more place skipped octet octets begun =
    ap (λ b. choose b (λ _. on_next (next judge passes more (octet ∷ octets)) place skipped (octet ∷ octets)
    (λ inside skipped. items_from judge passes more inside (place + 1) skipped octets))
    (λ _. items_from judge passes more zero (place + 1) (skipped + 1) octets)) begun

items_skip : (judge : List ℕ → Judgement) (passes more : Bool) (place skipped octet : ℕ) (octets : List ℕ) → begins (octet ∷ octets) ≡ false
    → items_from judge passes more 0 place skipped (octet ∷ octets) ≡ items_from judge passes more 0 (place + 1) (skipped + 1) octets
items_skip judge passes more place skipped octet octets none =
    ap (λ b. choose b (λ _. on_next (next judge passes more (octet ∷ octets)) place skipped (octet ∷ octets)
    (λ inside skipped. items_from judge passes more inside (place + 1) skipped octets))
    (λ _. items_from judge passes more zero (place + 1) (skipped + 1) octets)) none

items_passed : (judge : List ℕ → Judgement) (passes more : Bool) (place skipped n : ℕ) (octets : List ℕ) → n ≤ length octets → Markless n octets
    → items_from judge passes more 0 place skipped octets ≡ items_from judge passes more 0 (place + n) (skipped + n) (drop n octets)
items_passed judge passes more place skipped zero octets within markless =
    let e : place ≡ place + 0 = omega arith in
    let f : skipped ≡ skipped + 0 = omega arith in
    ap (λ p. items_from judge passes more 0 p skipped octets) e ∙ ap (λ s. items_from judge passes more 0 (place + 0) s octets) f
items_passed judge passes more place skipped (suc n) [] within markless = absurd (omega (arith, within))
items_passed judge passes more place skipped (suc n) (octet ∷ octets) within markless =
    let e : place + 1 + n ≡ place + suc n = omega arith in
    let f : skipped + 1 + n ≡ skipped + suc n = omega arith in
    let later : Markless n octets = record { none = λ k low. markless.none (suc k) (omega arith) } in
    let fits : n ≤ length octets = omega (arith, within) in
    items_skip judge passes more place skipped octet octets (markless.none 0 (omega arith))
    ∙ (items_passed judge passes more (place + 1) (skipped + 1) n octets fits later
    ∙ (ap (λ p. items_from judge passes more 0 p (skipped + 1 + n) (drop n octets)) e
    ∙ ap (λ s. items_from judge passes more 0 (place + suc n) s (drop n octets)) f))

-- ---- how many octets were skipped before says nothing of the items

module _ (judge_of : List ℕ → Judgement) (passes more : Bool) where
  on_skipped : (n : Next) (place s t : ℕ) (octets : List ℕ) (go : ℕ → ℕ → Items) → ((inside k l : ℕ) → (go inside k).items ≡ (go inside l).items)
      → (on_next n place s octets go).items ≡ (on_next n place t octets go).items
  on_skipped (Accepts total) place s t octets go same = ap (λ later. Accepted (message_after place (take total octets)) ∷ later) (same (total - 1) s t)
  on_skipped (Passes fault size) place s t octets go same =
      ap (λ later. Refused (passed_after place fault (take size octets)) ∷ later) (same (size - 1) (s + size) (t + size))
  on_skipped (Refuses fault) place s t octets go same = refl
  on_skipped Unknown place s t octets go same = refl

  chosen : (b : Bool) (x y u v : Unit {0} → Items) → (x tt).items ≡ (u tt).items → (y tt).items ≡ (v tt).items → (choose b x y).items ≡ (choose b u v).items
  chosen true x y u v first second = first
  chosen false x y u v first second = second

  items_skipped : (inside place s t : ℕ) (octets : List ℕ) → (items_from judge_of passes more inside place s octets).items ≡ (items_from judge_of passes more inside place t octets).items
  items_skipped inside place s t [] = refl
  items_skipped (suc inside) place s t (octet ∷ octets) = items_skipped inside (place + 1) s t octets
  items_skipped zero place s t (octet ∷ octets) =
      chosen (begins (octet ∷ octets)) _ _ _ _
      (on_skipped (next judge_of passes more (octet ∷ octets)) place s t (octet ∷ octets) (λ inside skipped. items_from judge_of passes more inside (place + 1) skipped octets)
      (λ inside k l. items_skipped inside (place + 1) k l octets))
      (items_skipped zero (place + 1) (s + 1) (t + 1) octets)

abbrev pub left_of : List ℕ → ℕ → Left
left_of octets place = record { octets = octets; place = place }

-- ---- octets in which none begins

pub items_on : (place n : ℕ) (octets : List ℕ) → n ≤ length octets → Markless n octets → items_left (left_of octets place) ≡ items_left (left_of (drop n octets) (place + n))
items_on place n octets within markless =
    ap (λ items. items.items) (items_passed judge true false place 0 n octets within markless)
    ∙ items_skipped judge true false 0 (place + n) (0 + n) 0 (drop n octets)

-- and whatever follows
pub items_searched : (place n : ℕ) (octets later : List ℕ) → Unmarked n octets → n ≤ length octets
    → items_left (left_of (octets ++ later) place) ≡ items_left (left_of (drop n octets ++ later) (place + n))
items_searched place n octets later unmarked within =
    items_on place n (octets ++ later) (omega (arith, length-append octets later)) (markless_more n octets later unmarked)
    ∙ ap (λ xs. items_left (left_of xs (place + n))) (drop-append-le n octets later within)

pub items_none : (place : ℕ) (octets : List ℕ) → length octets < 4 → items_left (left_of octets place) ≡ []
items_none place octets few =
    let markless : Markless (length octets) octets = record {
      none = λ k low. none_in_few (drop k octets) (omega (arith, length-drop k octets));
    } in
    items_on place (length octets) octets (omega arith) markless
    ∙ ap (λ xs. items_left (left_of xs (place + length octets))) (drop_all (length octets) octets (omega arith))

-- ---- octets that begin one

begun_by : (place size octet : ℕ) (octets : List ℕ) (j : Judgement) → judge (octet ∷ octets) ≡ j → 1 ≤ size → IsSize (octet ∷ octets) size j
    → (on_next (next judge true false (octet ∷ octets)) place 0 (octet ∷ octets) (λ inside skipped. items_from judge true false inside (place + 1) skipped octets)).items
    ≡ item_by place (octet ∷ octets) size j ∷ items_left (left_of (drop size (octet ∷ octets)) (place + size))
begun_by place size octet octets (Message total) is some fits =
    ap (λ j. (on_next (next_judged true false (octet ∷ octets) j) place 0 (octet ∷ octets) (λ inside skipped. items_from judge true false inside (place + 1) skipped octets)).items) is
    ∙ ap (λ later. Accepted (message_after place (take total (octet ∷ octets))) ∷ later)
    (ap (λ n. (items_from judge true false (n - 1) (place + 1) 0 octets).items) fits
    ∙ ap (λ items. items.items) (items_behind judge true false size place 0 octet octets some))
begun_by place size octet octets (Faulty fault) is some fits =
    ap (λ j. (on_next (next_judged true false (octet ∷ octets) j) place 0 (octet ∷ octets) (λ inside skipped. items_from judge true false inside (place + 1) skipped octets)).items) is
    ∙ (ap (λ p. (on_next (cond false Unknown (cond true (next_passed fault p) (Refuses fault))) place 0 (octet ∷ octets) (λ inside skipped. items_from judge true false inside (place + 1) skipped octets)).items) fits
    ∙ ap (λ later. Refused (passed_after place fault (take size (octet ∷ octets))) ∷ later)
    (ap (λ items. items.items) (items_behind judge true false size place (0 + size) octet octets some)
    ∙ items_skipped judge true false 0 (place + size) (0 + size) 0 (drop size (octet ∷ octets))))

pub items_begin : (place size : ℕ) (octets : List ℕ) → begins octets ≡ true → 1 ≤ size → IsSize octets size (judge octets)
    → items_left (left_of octets place) ≡ item_by place octets size (judge octets) ∷ items_left (left_of (drop size octets) (place + size))
items_begin place size [] begun some fits = absurd (false≢true begun)
items_begin place size (octet ∷ octets) begun some fits =
    ap (λ items. items.items) (items_begun judge true false place 0 octet octets begun)
    ∙ begun_by place size octet octets (judge (octet ∷ octets)) refl some fits
