-- The messages that end within the first octets of an input are those of these octets alone.
use Rattle.std.proofs.Common.{◌≡◌, ℕ, zero, suc, ◌+◌, ◌-◌, ◌<◌, ◌≤◌, true, false, List, [], ◌∷◌, ◌++◌, length, take, drop, refl, sym, ap, ◌∙◌, arith, ⊎_elim, length-take-le, length-drop, take-append-drop}
use Rattle.std.proofs.lemmas.Bool.{cases_Bool, cases_lt, cond-true, cond-false, le-leb, lt-leb}
use Rattle.std.proofs.lemmas.List.{take-append-le, drop_all}
use Rattle.grib_stream.specs.Stream.{begins, Judgement, Message, Faulty, Found, message_after, Stream, followed_by, on_judgement, stream_from, stream}
use Rattle.grib_stream.specs.Searching.{Markless}
use Rattle.grib_stream.specs.Task.{Task, IsLawful}
use Rattle.grib_stream.specs.Within.{ends_within, messages_within}
use Rattle.grib_stream.proofs.Streams.{stream_skip, stream_begun, stream_passed, none_in_few, begins_stays}

-- a message that ends beyond n, or within
not_within : (n : ℕ) (found : Found) (later : List Found) → n < found.before + length found.octets → messages_within n (found ∷ later) ≡ messages_within n later
not_within n found later beyond_n =
    cond-false (ends_within n found) (found ∷ messages_within n later) (messages_within n later) (lt-leb (found.before + length found.octets) n beyond_n)

is_within : (n : ℕ) (found : Found) (later : List Found) → found.before + length found.octets ≤ n → messages_within n (found ∷ later) ≡ found ∷ messages_within n later
is_within n found later ends =
    cond-true (ends_within n found) (found ∷ messages_within n later) (messages_within n later) (le-leb (found.before + length found.octets) n ends)

-- what stands from octets on at which a message begins, by their judgement
abbrev found_by : (List ℕ → Judgement) → ℕ → ℕ → ℕ → List ℕ → Judgement → Stream
found_by judge place skipped octet octets j =
    on_judgement j (λ total. followed_by (message_after place (take total (octet ∷ octets))) (stream_from judge (total - 1) (place + 1) skipped octets))

pub begun_by : (judge : List ℕ → Judgement) (place skipped octet : ℕ) (octets : List ℕ) (j : Judgement) → begins (octet ∷ octets) ≡ true → judge (octet ∷ octets) ≡ j
    → stream_from judge 0 place skipped (octet ∷ octets) ≡ found_by judge place skipped octet octets j
begun_by judge place skipped octet octets j some is =
    stream_begun judge place skipped octet octets some ∙ ap (found_by judge place skipped octet octets) is

-- no message that begins at or after place n ends within n, where none of those after it does
beyond_judged : (task : Task) → IsLawful task → (n place skipped octet : ℕ) (octets : List ℕ) (j : Judgement) → begins (octet ∷ octets) ≡ true
    → task.judge (octet ∷ octets) ≡ j → ((total : ℕ) → j ≡ Message total → n < place + total)
    → ((inside : ℕ) → n ≤ place + (inside + 1) → messages_within n (stream_from task.judge inside (place + 1) skipped octets).messages ≡ [])
    → messages_within n (stream_from task.judge 0 place skipped (octet ∷ octets)).messages ≡ []
beyond_judged task lawful n place skipped octet octets (Message total) some is far later =
    let there : total ≤ length (octet ∷ octets) = lawful.there (octet ∷ octets) total is in
    let least : 4 ≤ total = lawful.least (octet ∷ octets) total is in
    let size : length (take total (octet ∷ octets)) ≡ total = length-take-le total (octet ∷ octets) there in
    let ends : n < place + total = far total refl in
    ap (λ x. messages_within n x.messages) (begun_by task.judge place skipped octet octets (Message total) some is)
    ∙ (not_within n (message_after place (take total (octet ∷ octets))) (stream_from task.judge (total - 1) (place + 1) skipped octets).messages (omega (arith, size, ends))
    ∙ later (total - 1) (omega (arith, ends, least)))
beyond_judged task lawful n place skipped octet octets (Faulty fault) some is far later =
    ap (λ x. messages_within n x.messages) (begun_by task.judge place skipped octet octets (Faulty fault) some is)

beyond : (task : Task) → IsLawful task → (n inside place skipped : ℕ) (octets : List ℕ) → n ≤ place + inside
    → messages_within n (stream_from task.judge inside place skipped octets).messages ≡ []
beyond task lawful n zero place skipped [] low = refl
beyond task lawful n (suc inside) place skipped [] low = refl
beyond task lawful n (suc inside) place skipped (octet ∷ octets) low = beyond task lawful n inside (place + 1) skipped octets (omega arith)
beyond task lawful n zero place skipped (octet ∷ octets) low =
    ⊎_elim
    (λ some.
    beyond_judged task lawful n place skipped octet octets (task.judge (octet ∷ octets)) some refl
    (λ total is. let least : 4 ≤ total = lawful.least (octet ∷ octets) total is in omega arith)
    (λ inside far. beyond task lawful n inside (place + 1) skipped octets (omega arith)))
    (λ none.
    ap (λ x. messages_within n x.messages) (stream_skip task.judge place skipped octet octets none)
    ∙ beyond task lawful n zero (place + 1) (skipped + 1) octets (omega arith))
    (cases_Bool (begins (octet ∷ octets)))

-- fewer octets than four have no message
pub few_none : (judge : List ℕ → Judgement) (place skipped : ℕ) (octets : List ℕ) → length octets < 4 → (stream_from judge 0 place skipped octets).messages ≡ []
few_none judge place skipped octets few =
    let markless : Markless (length octets) octets = record {
      none = λ k low. none_in_few (drop k octets) (omega (arith, length-drop k octets));
    } in
    ap (λ x. x.messages)
    (stream_passed judge place skipped (length octets) octets (omega arith) markless
    ∙ ap (stream_from judge 0 (place + length octets) (skipped + length octets)) (drop_all (length octets) octets (omega arith)))

-- an accepted message that is no longer than the octets that are there is accepted on them
accepted_here : (task : Task) → IsLawful task → (octets more : List ℕ) (total : ℕ) → task.judge (octets ++ more) ≡ Message total → total ≤ length octets
    → task.judge octets ≡ Message total
accepted_here task lawful octets more total is there =
    let alone : task.judge (take total octets) ≡ Message total =
    ap task.judge (sym (take-append-le total octets more there)) ∙ lawful.alone (octets ++ more) total is in
    ap task.judge (sym (take-append-drop total octets)) ∙ lawful.message_stays (take total octets) (drop total octets) total alone

-- ---- the messages of the first octets

abbrev Same : Task → ℕ → ℕ → ℕ → List ℕ → List ℕ → Type 0
Same task inside place skipped octets more =
    messages_within (place + length octets) (stream_from task.judge inside place skipped (octets ++ more)).messages
    ≡ (stream_from task.judge inside place skipped octets).messages

-- where the octets that are there have no message
same_none : (task : Task) → IsLawful task → (place skipped octet : ℕ) (octets more : List ℕ) → begins (octet ∷ (octets ++ more)) ≡ true
    → ((total : ℕ) → task.judge (octet ∷ (octets ++ more)) ≡ Message total → length (octet ∷ octets) < total)
    → (stream_from task.judge 0 place skipped (octet ∷ octets)).messages ≡ [] → Same task 0 place skipped (octet ∷ octets) more
same_none task lawful place skipped octet octets more some far none =
    let n = place + length (octet ∷ octets) in
    beyond_judged task lawful n place skipped octet (octets ++ more) (task.judge (octet ∷ (octets ++ more))) some refl
    (λ total is. omega (arith, far total is))
    (λ inside low. beyond task lawful n inside (place + 1) skipped (octets ++ more) (omega arith))
    ∙ sym none

-- where a message begins in them, by their judgement
same_judged : (task : Task) → IsLawful task → (place skipped octet : ℕ) (octets more : List ℕ) (j : Judgement) → begins (octet ∷ octets) ≡ true
    → begins (octet ∷ (octets ++ more)) ≡ true → task.judge (octet ∷ octets) ≡ j → ((inside : ℕ) → Same task inside (place + 1) skipped octets more)
    → Same task 0 place skipped (octet ∷ octets) more
same_judged task lawful place skipped octet octets more (Message total) here some is later =
    let whole = octet ∷ (octets ++ more) in
    let n = place + length (octet ∷ octets) in
    let there : total ≤ length (octet ∷ octets) = lawful.there (octet ∷ octets) total is in
    let stays : task.judge whole ≡ Message total = lawful.message_stays (octet ∷ octets) more total is in
    let same : take total whole ≡ take total (octet ∷ octets) = take-append-le total (octet ∷ octets) more there in
    let size : length (take total (octet ∷ octets)) ≡ total = length-take-le total (octet ∷ octets) there in
    let found : Found = message_after place (take total (octet ∷ octets)) in
    let bound : n ≡ (place + 1) + length octets = omega arith in
    ap (λ x. messages_within n x.messages) (begun_by task.judge place skipped octet (octets ++ more) (Message total) some stays)
    ∙ (ap (λ message. messages_within n (message_after place message ∷ (stream_from task.judge (total - 1) (place + 1) skipped (octets ++ more)).messages)) same
    ∙ (is_within n found (stream_from task.judge (total - 1) (place + 1) skipped (octets ++ more)).messages (omega (arith, size, there))
    ∙ (ap (λ m. found ∷ messages_within m (stream_from task.judge (total - 1) (place + 1) skipped (octets ++ more)).messages) bound
    ∙ (ap (λ xs. found ∷ xs) (later (total - 1))
    ∙ sym (ap (λ x. x.messages) (begun_by task.judge place skipped octet octets (Message total) here is))))))
same_judged task lawful place skipped octet octets more (Faulty fault) here some is later =
    same_none task lawful place skipped octet octets more some
    (λ total accepted.
    ⊎_elim (λ less. less)
    (λ there.
    let no : Faulty fault ≡ Message total = sym is ∙ accepted_here task lawful (octet ∷ octets) more total accepted there in
    let none : ⊥ = cc in absurd none)
    (cases_lt (length (octet ∷ octets)) total))
    (ap (λ x. x.messages) (begun_by task.judge place skipped octet octets (Faulty fault) here is))

same_skipped : (task : Task) (place skipped octet : ℕ) (octets more : List ℕ) → begins (octet ∷ octets) ≡ false → begins (octet ∷ (octets ++ more)) ≡ false
    → Same task 0 (place + 1) (skipped + 1) octets more → Same task 0 place skipped (octet ∷ octets) more
same_skipped task place skipped octet octets more here none later =
    let bound : place + length (octet ∷ octets) ≡ (place + 1) + length octets = omega arith in
    ap (λ x. messages_within (place + length (octet ∷ octets)) x.messages) (stream_skip task.judge place skipped octet (octets ++ more) none)
    ∙ (ap (λ m. messages_within m (stream_from task.judge 0 (place + 1) (skipped + 1) (octets ++ more)).messages) bound
    ∙ (later ∙ sym (ap (λ x. x.messages) (stream_skip task.judge place skipped octet octets here))))

same_messages : (task : Task) → IsLawful task → (inside place skipped : ℕ) (octets more : List ℕ) → Same task inside place skipped octets more
same_messages task lawful zero place skipped [] more = beyond task lawful (place + 0) zero place skipped more (omega arith)
same_messages task lawful (suc inside) place skipped [] more = beyond task lawful (place + 0) (suc inside) place skipped more (omega arith)
same_messages task lawful (suc inside) place skipped (octet ∷ octets) more =
    let bound : place + length (octet ∷ octets) ≡ (place + 1) + length octets = omega arith in
    ap (λ m. messages_within m (stream_from task.judge inside (place + 1) skipped (octets ++ more)).messages) bound
    ∙ same_messages task lawful inside (place + 1) skipped octets more
same_messages task lawful zero place skipped (octet ∷ octets) more =
    let later = λ (inside : ℕ). same_messages task lawful inside (place + 1) skipped octets more in
    let skip = same_messages task lawful zero (place + 1) (skipped + 1) octets more in
    ⊎_elim
    (λ (few : length (octet ∷ octets) < 4).
    let here : begins (octet ∷ octets) ≡ false = none_in_few (octet ∷ octets) few in
    ⊎_elim
    (λ some.
    same_none task lawful place skipped octet octets more some
    (λ total accepted. let least : 4 ≤ total = lawful.least (octet ∷ (octets ++ more)) total accepted in omega arith)
    (few_none task.judge place skipped (octet ∷ octets) few))
    (λ none. same_skipped task place skipped octet octets more here none skip)
    (cases_Bool (begins (octet ∷ (octets ++ more)))))
    (λ (long : 4 ≤ length (octet ∷ octets)).
    let stays : begins (octet ∷ (octets ++ more)) ≡ begins (octet ∷ octets) = begins_stays (octet ∷ octets) more 0 (omega arith) in
    ⊎_elim
    (λ here. same_judged task lawful place skipped octet octets more (task.judge (octet ∷ octets)) here (stays ∙ here) refl later)
    (λ here. same_skipped task place skipped octet octets more here (stays ∙ here) skip)
    (cases_Bool (begins (octet ∷ octets))))
    (cases_lt (length (octet ∷ octets)) 4)

pub messages_taken : (task : Task) (taken more : List ℕ) → IsLawful task
    → (stream task.judge taken).messages ≡ messages_within (length taken) (stream task.judge (taken ++ more)).messages
messages_taken task taken more lawful =
    let bound : length taken ≡ 0 + length taken = omega arith in
    sym (ap (λ n. messages_within n (stream task.judge (taken ++ more)).messages) bound ∙ same_messages task lawful 0 0 0 taken more)
