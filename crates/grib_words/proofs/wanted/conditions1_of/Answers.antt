use Rattle.std.proofs.Common.{◌≡◌, ℕ, ◌+◌, ◌<◌, Option, List, [], ◌∷◌, ◌++◌, length, get_or, take, string_bytes, sym, ap, ◌∙◌, append-nil}
use Rattle.std.proofs.Common.{Vec, Global}
use Rattle.std.specs.List.{filter_map, cons_option}
use Rattle.std.proofs.lemmas.List.{take_more, take_all}
use Rattle.std.proofs.lemmas.List.Elements.{filter_map-append}
use Rattle.grib1_select.specs.declared.condition.Wanted1.{Wanted1}
use Rattle.grib_words.specs.Words.{wanted1_of}
use Rattle.grib_words.proofs.Parts.{filter_map-map}
use Rattle.grib_words.proofs.wanted.conditions1_of.Goals.{in-Some+in_ok-push, in_default}
use Rattle.grib_words.proofs.wanted.conditions1_of.Goals as goal

-- what one element more gives
asked_more : {X Y : Type 0} (f : X → Option Y) (xs : List X) (i : ℕ) (x : X) (found : Option Y) → i < length xs → x ≡ get_or xs i x → found ≡ f x
    → filter_map f (take (i + 1) xs) ≡ filter_map f (take i xs) ++ cons_option found []
asked_more f xs i x found within is has =
    ap (filter_map f) (take_more xs i x within ∙ ap (λ y. take i xs ++ (y ∷ [])) (sym is))
    ∙ (filter_map-append f (take i xs) (x ∷ []) ∙ ap (λ o. filter_map f (take i xs) ++ cons_option o []) (sym has))

pub loop-word-preserved : goal.loop-word-preserved
loop-word-preserved c =
    let words = c.args.words.now in
    let found : c.in_ok-condition.field-0 ≡ wanted1_of (string_bytes c.word-item.result) = c.in_ok-condition.ensures ∙ ap wanted1_of c.as_str.ensures.value in
    let more = asked_more (λ word. wanted1_of (string_bytes word)) words c.loop-word.word-index c.word-item.result c.in_ok-condition.field-0 c.loop-word-test.true c.word-item.is found in
    let front : List Wanted1 = filter_map (λ word. wanted1_of (string_bytes word)) (take c.loop-word.word-index words) in
    elim c.match-branch-2.branch [
      | in-Some+in_ok-push w ↦ ap (λ (v : Vec Wanted1 Global). v.items) w.conditions-is
          ∙ (w.in_ok-push.ensures.items
          ∙ (ap (λ (those : List Wanted1). those ++ (w.in-Some.condition ∷ [])) c.loop-word.invariant
          ∙ (ap (λ o. front ++ cons_option o []) (sym w.in-Some.is) ∙ sym more)))
      | in_default w ↦ ap (λ (v : Vec Wanted1 Global). v.items) w.conditions-is
          ∙ (c.loop-word.invariant
          ∙ (sym (append-nil front) ∙ (ap (λ o. front ++ cons_option o []) (sym w.in_default.is) ∙ sym more)))
    ]

pub returns : goal.returns
returns c =
    let words = c.args.words.now in
    c.loop-word.invariant
    ∙ (ap (filter_map (λ word. wanted1_of (string_bytes word))) (take_all c.loop-word.word-index words c.loop-word-test.false)
    ∙ sym (filter_map-map wanted1_of string_bytes words))
