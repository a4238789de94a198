-- Where an input is cut at the end of one of its messages, its messages are those of its two parts.
use Rattle.std.proofs.Common.{◌≡◌, ℕ, zero, suc, ◌+◌, ◌-◌, ◌<◌, ◌≤◌, true, false, List, [], ◌∷◌, ◌++◌, length, take, refl, sym, ap, ◌∙◌, arith, ⊎_elim, length-take-le}
use Rattle.std.proofs.lemmas.Bool.{cases_Bool, cases_lt}
use Rattle.std.proofs.lemmas.List.{take-append-le}
use Rattle.grib_stream.specs.Stream.{begins, Judgement, Message, Faulty, Found, message_after, Over, Stream, stream_of, followed_by, stream_from}
use Rattle.grib_stream.specs.Task.{Task, IsLawful}
use Rattle.grib_stream.specs.Cutting.{end_after}
use Rattle.grib_stream.proofs.Streams.{stream_skip, begins_stays}
use Rattle.grib_stream.proofs.Within.{begun_by, few_none}

-- messages, and then those of a stream
abbrev pub joined : List Found → Stream → Stream
joined messages stream = stream_of (messages ++ stream.messages) stream.end

pub record Joins (judge : List ℕ → Judgement) (inside place skipped : ℕ) (front rest : List ℕ) : Type 0 where
  pub passed : ℕ
  pub over : (stream_from judge inside place skipped front).end ≡ Over passed
  pub whole : stream_from judge inside place skipped (front ++ rest)
      ≡ joined (stream_from judge inside place skipped front).messages (stream_from judge 0 (place + length front) passed rest)

-- the last message, or what is left of one, ends at the end of these octets
abbrev pub EndsThere : (List ℕ → Judgement) → ℕ → ℕ → ℕ → List ℕ → Type 0
EndsThere judge inside place skipped front = end_after (place + inside) (stream_from judge inside place skipped front).messages ≡ place + length front

-- where a message ends beyond a place, it does not matter where the count begins
from_elsewhere : (place other n : ℕ) (messages : List Found) → place < n → end_after place messages ≡ n → end_after other messages ≡ n
from_elsewhere place other n [] before is = absurd (omega arith)
from_elsewhere place other n (found ∷ later) before is = is

module _ (judge : List ℕ → Judgement) (place skipped octet : ℕ) (octets rest : List ℕ) where
  -- the place after these octets, counted from the second of them
  moved_on : (messages : List Found) (passed : ℕ)
      → joined messages (stream_from judge 0 (place + 1 + length octets) passed rest) ≡ joined messages (stream_from judge 0 (place + length (octet ∷ octets)) passed rest)
  moved_on messages passed =
      let e : place + 1 + length octets ≡ place + length (octet ∷ octets) = omega arith in
      ap (λ p. joined messages (stream_from judge 0 p passed rest)) e

  joins_inside : (inside : ℕ) → Joins judge inside (place + 1) skipped octets rest → Joins judge (suc inside) place skipped (octet ∷ octets) rest
  joins_inside inside later = record {
    passed = later.passed;
    over = later.over;
    whole = later.whole ∙ moved_on (stream_from judge inside (place + 1) skipped octets).messages later.passed;
  }

  joins_skipped : begins (octet ∷ octets) ≡ false → begins (octet ∷ (octets ++ rest)) ≡ false → Joins judge 0 (place + 1) (skipped + 1) octets rest
      → Joins judge 0 place skipped (octet ∷ octets) rest
  joins_skipped here there later =
      let own : stream_from judge 0 place skipped (octet ∷ octets) ≡ stream_from judge 0 (place + 1) (skipped + 1) octets = stream_skip judge place skipped octet octets here in
      record {
        passed = later.passed;
        over = ap (λ x. x.end) own ∙ later.over;
        whole = stream_skip judge place skipped octet (octets ++ rest) there
            ∙ (later.whole
            ∙ (moved_on (stream_from judge 0 (place + 1) (skipped + 1) octets).messages later.passed
            ∙ sym (ap (λ x. joined x.messages (stream_from judge 0 (place + length (octet ∷ octets)) later.passed rest)) own)));
      }

  joins_found : (total : ℕ) → begins (octet ∷ octets) ≡ true → begins (octet ∷ (octets ++ rest)) ≡ true → judge (octet ∷ octets) ≡ Message total
      → judge (octet ∷ (octets ++ rest)) ≡ Message total → total ≤ length (octet ∷ octets) → Joins judge (total - 1) (place + 1) skipped octets rest
      → Joins judge 0 place skipped (octet ∷ octets) rest
  joins_found total here there is stays fits later =
      let found : Found = message_after place (take total (octet ∷ octets)) in
      let own = begun_by judge place skipped octet octets (Message total) here is in
      record {
        passed = later.passed;
        over = ap (λ x. x.end) own ∙ later.over;
        whole = begun_by judge place skipped octet (octets ++ rest) (Message total) there stays
            ∙ (ap (λ message. followed_by (message_after place message) (stream_from judge (total - 1) (place + 1) skipped (octets ++ rest)))
            (take-append-le total (octet ∷ octets) rest fits)
            ∙ (ap (followed_by found) later.whole
            ∙ (moved_on (found ∷ (stream_from judge (total - 1) (place + 1) skipped octets).messages) later.passed
            ∙ sym (ap (λ x. joined x.messages (stream_from judge 0 (place + length (octet ∷ octets)) later.passed rest)) own))));
      }

  -- there is a message where one ends at the end of the octets
  ends_some : EndsThere judge 0 place skipped (octet ∷ octets) → (stream_from judge 0 place skipped (octet ∷ octets)).messages ≡ [] → ⊥
  ends_some ends none =
      let e : place + 0 ≡ place + length (octet ∷ octets) = sym (ap (end_after (place + 0)) none) ∙ ends in omega (arith, e)

  ends_inside : (inside : ℕ) → EndsThere judge (suc inside) place skipped (octet ∷ octets) → EndsThere judge inside (place + 1) skipped octets
  ends_inside inside ends =
      let e : place + 1 + inside ≡ place + suc inside = omega arith in
      let f : place + length (octet ∷ octets) ≡ place + 1 + length octets = omega arith in
      ap (λ p. end_after p (stream_from judge inside (place + 1) skipped octets).messages) e ∙ (ends ∙ f)

  ends_skipped : begins (octet ∷ octets) ≡ false → EndsThere judge 0 place skipped (octet ∷ octets) → EndsThere judge 0 (place + 1) (skipped + 1) octets
  ends_skipped here ends =
      let messages : List Found = (stream_from judge 0 (place + 1) (skipped + 1) octets).messages in
      let is : end_after (place + 0) messages ≡ place + 1 + length octets =
      sym (ap (λ x. end_after (place + 0) x.messages) (stream_skip judge place skipped octet octets here)) ∙ (ends ∙ omega arith) in
      from_elsewhere (place + 0) (place + 1 + 0) (place + 1 + length octets) messages (omega arith) is

  ends_found : (total : ℕ) → begins (octet ∷ octets) ≡ true → judge (octet ∷ octets) ≡ Message total → total ≤ length (octet ∷ octets) → 4 ≤ total
      → EndsThere judge 0 place skipped (octet ∷ octets) → EndsThere judge (total - 1) (place + 1) skipped octets
  ends_found total here is fits least ends =
      let size : length (take total (octet ∷ octets)) ≡ total = length-take-le total (octet ∷ octets) fits in
      let e : place + 1 + (total - 1) ≡ place + length (take total (octet ∷ octets)) = omega (arith, size, least) in
      let f : place + length (octet ∷ octets) ≡ place + 1 + length octets = omega arith in
      ap (λ p. end_after p (stream_from judge (total - 1) (place + 1) skipped octets).messages) e
      ∙ (sym (ap (λ x. end_after (place + 0) x.messages) (begun_by judge place skipped octet octets (Message total) here is)) ∙ (ends ∙ f))

joins_judged : (task : Task) → IsLawful task → (place skipped octet : ℕ) (octets rest : List ℕ) (j : Judgement) → begins (octet ∷ octets) ≡ true
    → begins (octet ∷ (octets ++ rest)) ≡ true → task.judge (octet ∷ octets) ≡ j → EndsThere task.judge 0 place skipped (octet ∷ octets)
    → ((inside : ℕ) → EndsThere task.judge inside (place + 1) skipped octets → Joins task.judge inside (place + 1) skipped octets rest)
    → Joins task.judge 0 place skipped (octet ∷ octets) rest
joins_judged task lawful place skipped octet octets rest (Message total) here there is ends later =
    let fits : total ≤ length (octet ∷ octets) = lawful.there (octet ∷ octets) total is in
    let least : 4 ≤ total = lawful.least (octet ∷ octets) total is in
    let stays : task.judge (octet ∷ (octets ++ rest)) ≡ Message total = lawful.message_stays (octet ∷ octets) rest total is in
    joins_found task.judge place skipped octet octets rest total here there is stays fits
    (later (total - 1) (ends_found task.judge place skipped octet octets rest total here is fits least ends))
joins_judged task lawful place skipped octet octets rest (Faulty fault) here there is ends later =
    absurd (ends_some task.judge place skipped octet octets rest ends (ap (λ x. x.messages) (begun_by task.judge place skipped octet octets (Faulty fault) here is)))

pub joins : (task : Task) → IsLawful task → (inside place skipped : ℕ) (front rest : List ℕ) → EndsThere task.judge inside place skipped front
    → Joins task.judge inside place skipped front rest
joins task lawful zero place skipped [] rest ends =
    let e : place ≡ place + 0 = omega arith in
    record { passed = skipped; over = refl; whole = ap (λ p. stream_from task.judge 0 p skipped rest) e }
joins task lawful (suc inside) place skipped [] rest ends = absurd (omega (arith, ends))
joins task lawful (suc inside) place skipped (octet ∷ octets) rest ends =
    joins_inside task.judge place skipped octet octets rest inside
    (joins task lawful inside (place + 1) skipped octets rest (ends_inside task.judge place skipped octet octets rest inside ends))
joins task lawful zero place skipped (octet ∷ octets) rest ends =
    ⊎_elim (λ few. absurd (ends_some task.judge place skipped octet octets rest ends (few_none task.judge place skipped (octet ∷ octets) few)))
    (λ (long : 4 ≤ length (octet ∷ octets)).
    let stays : begins (octet ∷ (octets ++ rest)) ≡ begins (octet ∷ octets) = begins_stays (octet ∷ octets) rest 0 (omega arith) in
    ⊎_elim
    (λ here.
    joins_judged task lawful place skipped octet octets rest (task.judge (octet ∷ octets)) here (stays ∙ here) refl ends
    (λ inside there. joins task lawful inside (place + 1) skipped octets rest there))
    (λ here.
    joins_skipped task.judge place skipped octet octets rest here (stays ∙ here)
    (joins task lawful zero (place + 1) (skipped + 1) octets rest (ends_skipped task.judge place skipped octet octets rest here ends)))
    (cases_Bool (begins (octet ∷ octets))))
    (cases_lt (length (octet ∷ octets)) 4)
