-- The messages of an input, step by step.
use Rattle.std.proofs.Common.{◌≡◌, ℕ, zero, suc, ◌+◌, ◌-◌, ◌<◌, ◌≤◌, true, false, List, [], ◌∷◌, ◌++◌, length, take, drop, refl, ap, ◌∙◌, arith, length-drop, Some, None, ⊎_elim}
use Rattle.std.proofs.lemmas.Bool.{cases_Bool, false≢true}
use Rattle.std.proofs.lemmas.List.{take-append-le, length-take}
use lib.Seq.{drop-append-le}
use Rattle.std.proofs.lemmas.Slice.Eq.{bytes_eq-Decides}
use Rattle.std.specs.Str.{bytes_eq}
use Rattle.memchr.specs.Find.{FindsNeedle}
use Rattle.memchr.proofs.lemmas.MatchLemmas.{OccursAt-part, OccursAt-from_part}
use Rattle.grib_base.specs.Rules.{choose}
use Rattle.grib2_sections.specs.Head.{indicator}
use Rattle.grib_stream.specs.Searching.{Markless, Unmarked}
use Rattle.grib_stream.specs.Stream.{begins, Judgement, Message, Found, message_after, Stream, followed_by, on_judgement, stream_from}

-- the octets that are left of a message that was found are passed over
pub stream_inside : (judge : List ℕ → Judgement) (inside place skipped : ℕ) (octets : List ℕ)
    → stream_from judge inside place skipped octets ≡ stream_from judge 0 (place + inside) skipped (drop inside octets)
stream_inside judge zero place skipped octets =
    let e : place ≡ place + 0 = omega arith in ap (λ p. stream_from judge 0 p skipped octets) e
stream_inside judge (suc inside) place skipped [] = refl
stream_inside judge (suc inside) place skipped (octet ∷ octets) =
    let e : place + 1 + inside ≡ place + suc inside = omega arith in
    stream_inside judge inside (place + 1) skipped octets ∙ ap (λ p. stream_from judge 0 p skipped (drop inside octets)) e

-- an octet that begins no message
pub stream_skip : (judge : List ℕ → Judgement) (place skipped octet : ℕ) (octets : List ℕ) → begins (octet ∷ octets) ≡ false
    → stream_from judge 0 place skipped (octet ∷ octets) ≡ stream_from judge 0 (place + 1) (skipped + 1) octets
stream_skip judge place skipped octet octets none =
    ap (λ b. choose b (λ _. on_judgement (judge (octet ∷ octets))
    (λ total. followed_by (message_after place (take total (octet ∷ octets))) (stream_from judge (total - 1) (place + 1) skipped octets)))
    (λ _. stream_from judge zero (place + 1) (skipped + 1) octets)) none

-- octets from which a message begins
pub stream_begun : (judge : List ℕ → Judgement) (place skipped octet : ℕ) (octets : List ℕ) → begins (octet ∷ octets) ≡ true
    → stream_from judge 0 place skipped (octet ∷ octets)
    ≡ on_judgement (judge (octet ∷ octets))
    (λ total. followed_by (message_after place (take total (octet ∷ octets))) (stream_from judge (total - 1) (place + 1) skipped octets))
stream_begun judge place skipped octet octets some =
    ap (λ b. choose b (λ _. on_judgement (judge (octet ∷ octets))
    (λ total. followed_by (message_after place (take total (octet ∷ octets))) (stream_from judge (total - 1) (place + 1) skipped octets)))
    (λ _. stream_from judge zero (place + 1) (skipped + 1) octets)) some

pub stream_message : (judge : List ℕ → Judgement) (place skipped k : ℕ) (octets : List ℕ) → begins octets ≡ true → judge octets ≡ Message (suc k)
    → stream_from judge 0 place skipped octets
    ≡ followed_by (message_after place (take (suc k) octets)) (stream_from judge 0 (place + suc k) skipped (drop (suc k) octets))
stream_message judge place skipped k [] some is = absurd (false≢true some)
stream_message judge place skipped k (octet ∷ octets) some is =
    let less : suc k - 1 ≡ k = omega arith in
    let on : place + 1 + k ≡ place + suc k = omega arith in
    let found : Found = message_after place (take (suc k) (octet ∷ octets)) in
    stream_begun judge place skipped octet octets some
    ∙ (ap (λ j. on_judgement j
    (λ total. followed_by (message_after place (take total (octet ∷ octets))) (stream_from judge (total - 1) (place + 1) skipped octets))) is
    ∙ ap (followed_by found)
    (ap (λ n. stream_from judge n (place + 1) skipped octets) less
    ∙ (stream_inside judge k (place + 1) skipped octets ∙ ap (λ p. stream_from judge 0 p skipped (drop k octets)) on)))

pub stream_refused : (judge : List ℕ → Judgement) (place skipped : ℕ) (octets : List ℕ) (judged : Judgement) (end : Stream) → begins octets ≡ true
    → judge octets ≡ judged → ((next : ℕ → Stream) → on_judgement judged next ≡ end) → stream_from judge 0 place skipped octets ≡ end
stream_refused judge place skipped [] judged end some is ends = absurd (false≢true some)
stream_refused judge place skipped (octet ∷ octets) judged end some is ends =
    stream_begun judge place skipped octet octets some
    ∙ (ap (λ j. on_judgement j
    (λ total. followed_by (message_after place (take total (octet ∷ octets))) (stream_from judge (total - 1) (place + 1) skipped octets))) is
    ∙ ends _)

pub stream_passed : (judge : List ℕ → Judgement) (place skipped n : ℕ) (octets : List ℕ) → n ≤ length octets → Markless n octets
    → stream_from judge 0 place skipped octets ≡ stream_from judge 0 (place + n) (skipped + n) (drop n octets)
stream_passed judge place skipped zero octets within markless =
    let e : place ≡ place + 0 = omega arith in
    let f : skipped ≡ skipped + 0 = omega arith in
    ap (λ p. stream_from judge 0 p skipped octets) e ∙ ap (λ s. stream_from judge 0 (place + 0) s octets) f
stream_passed judge place skipped (suc n) [] within markless = absurd (omega (arith, within))
stream_passed judge place skipped (suc n) (octet ∷ octets) within markless =
    let e : place + 1 + n ≡ place + suc n = omega arith in
    let f : skipped + 1 + n ≡ skipped + suc n = omega arith in
    let later : Markless n octets = record { none = λ k low. markless.none (suc k) (omega arith) } in
    let fits : n ≤ length octets = omega (arith, within) in
    stream_skip judge place skipped octet octets (markless.none 0 (omega arith))
    ∙ (stream_passed judge (place + 1) (skipped + 1) n octets fits later
    ∙ (ap (λ p. stream_from judge 0 p (skipped + 1 + n) (drop n octets)) e ∙ ap (λ s. stream_from judge 0 (place + suc n) s (drop n octets)) f))

-- ---- where a message begins

pub begins_is : (octets : List ℕ) → begins octets ≡ true → take 4 octets ≡ indicator
begins_is octets some = (bytes_eq-Decides (take 4 octets) indicator).0 some

pub is_begun : (octets : List ℕ) → take 4 octets ≡ indicator → begins octets ≡ true
is_begun octets is = (bytes_eq-Decides (take 4 octets) indicator).1 is

pub begins_long : (octets : List ℕ) → begins octets ≡ true → 4 ≤ length octets
begins_long octets some =
    let e : length (take 4 octets) ≡ 4 = ap length (begins_is octets some) in
    omega (arith, e, length-take 4 octets)

pub none_in_few : (octets : List ℕ) → length octets < 4 → begins octets ≡ false
none_in_few octets few =
    ⊎_elim (λ some. let long : 4 ≤ length octets = begins_long octets some in absurd (omega arith)) (λ none. none) (cases_Bool (begins octets))

-- what stands at a place stays, whatever follows
pub begins_stays : (octets more : List ℕ) (k : ℕ) → k + 4 ≤ length octets → begins (drop k (octets ++ more)) ≡ begins (drop k octets)
begins_stays octets more k there =
    ap begins (drop-append-le k octets more (omega arith))
    ∙ ap (λ xs. bytes_eq xs indicator) (take-append-le 4 (drop k octets) more (omega (arith, length-drop k octets)))

pub unmarked_within : (n : ℕ) (octets : List ℕ) → Unmarked n octets → n ≤ length octets
unmarked_within zero octets unmarked = omega arith
unmarked_within (suc n) octets unmarked = let there = unmarked.there n (omega arith) in omega (arith, there)

pub markless_more : (n : ℕ) (octets more : List ℕ) → Unmarked n octets → Markless n (octets ++ more)
markless_more n octets more unmarked =
    record { none = λ k low. begins_stays octets more k (unmarked.there k low) ∙ unmarked.none.none k low }

-- a search that found none passes over all but the last three octets, and one that found one over what
-- stands before it
pub unmarked_none : (octets : List ℕ) → FindsNeedle octets indicator 0 None → Unmarked (length octets - 3) octets
unmarked_none octets nowhere = record {
  there = λ k low. omega arith;
  none = record {
    none = λ k low.
        ⊎_elim
        (λ some.
        let here : k + length indicator ≤ length octets = omega arith in
        absurd (nowhere k (omega arith) (omega arith) (OccursAt-from_part octets indicator k here (begins_is (drop k octets) some))))
        (λ none. none) (cases_Bool (begins (drop k octets)));
  };
}

pub unmarked_some : (octets : List ℕ) (at : ℕ) → FindsNeedle octets indicator 0 (Some at) → Unmarked at octets
unmarked_some octets at found =
    let fits : at + 4 ≤ length octets = found.1.fits in
    record {
      there = λ k low. omega arith;
      none = record {
        none = λ k low.
            ⊎_elim
            (λ some.
            let here : k + length indicator ≤ length octets = omega arith in
            absurd (found.0.before k (omega arith) low (OccursAt-from_part octets indicator k here (begins_is (drop k octets) some))))
            (λ none. none) (cases_Bool (begins (drop k octets)));
      };
    }

pub marked_some : (octets : List ℕ) (at : ℕ) → FindsNeedle octets indicator 0 (Some at) → begins (drop at octets) ≡ true
marked_some octets at found = is_begun (drop at octets) (OccursAt-part octets indicator at found.1)

pub begun_stays : (octets more : List ℕ) → begins octets ≡ true → begins (octets ++ more) ≡ true
begun_stays octets more begun = begins_stays octets more 0 (let long : 4 ≤ length octets = begins_long octets begun in omega arith) ∙ begun
