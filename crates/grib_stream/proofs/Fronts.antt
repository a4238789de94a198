-- Where the octets stand that are still to be answered.
use Rattle.std.proofs.Common.{◌≡◌, ℕ, zero, suc, ◌+◌, ◌-◌, ◌≤◌, true, List, [], ◌∷◌, ◌++◌, length, take, drop, refl, sym, ap, ◌∙◌, subst, arith, ⊎_elim, append_assoc, append-nil, length-append, length-take-le, take-append-drop, drop_at}
use Rattle.std.proofs.lemmas.Bool.{cases_lt}
use Rattle.std.proofs.lemmas.List.{drop_all}
use Rattle.grib_stream.specs.Stream.{begins, Message, Found, message_after, Over, stream_of, followed_by, stream_from, stream}
use Rattle.grib_stream.specs.Searching.{Markless, Unmarked}
use Rattle.grib_stream.specs.Task.{Task, IsLawful}
use Rattle.grib_stream.specs.Cutting.{end_after, EndsAtMessage, message_count}
use Rattle.grib_stream.specs.Soon.{StandsAt}
use Rattle.grib_stream.proofs.Streams.{stream_message, stream_passed, begins_stays, unmarked_within, markless_more}
use Rattle.grib_stream.proofs.Cutting.{Joins, joined}
use Rattle.grib_stream.proofs.Parts.{joined_input}

-- behind messages, and octets in which none begins
pub record Fronted (task : Task) (taken : List ℕ) (count place : ℕ) (pending : List ℕ) : Type 0 where
  pub messages : List ℕ
  pub between : List ℕ
  pub is : taken ≡ messages ++ (between ++ pending)
  pub ends : EndsAtMessage task.judge messages
  pub counted : message_count task.judge messages ≡ count
  pub none : (more : List ℕ) → Markless (length between) (between ++ (pending ++ more))
  pub place_is : place ≡ length messages + length between

pub front_start : (task : Task) → Fronted task [] 0 0 []
front_start task = record {
  messages = [];
  between = [];
  is = refl;
  ends = refl;
  counted = refl;
  none = λ more. record { none = λ k low. absurd (omega (arith, low)) };
  place_is = refl;
}

-- more was taken
pub front_read : (task : Task) (taken : List ℕ) (count place : ℕ) (pending piece : List ℕ) → Fronted task taken count place pending
    → Fronted task (taken ++ piece) count place (pending ++ piece)
front_read task taken count place pending piece front = record {
  messages = front.messages;
  between = front.between;
  is = ap (λ xs. xs ++ piece) front.is
      ∙ (append_assoc front.messages (front.between ++ pending) piece ∙ ap (λ xs. front.messages ++ xs) (append_assoc front.between pending piece));
  ends = front.ends;
  counted = front.counted;
  none = λ more.
      subst (λ xs. Markless (length front.between) (front.between ++ xs)) (sym (append_assoc pending piece more)) (front.none (piece ++ more));
  place_is = front.place_is;
}

-- octets that begin no message were passed over
drop_past : (xs ys : List ℕ) (j : ℕ) → drop (length xs + j) (xs ++ ys) ≡ drop j ys
drop_past [] ys j =
    let e : length {A = ℕ} [] + j ≡ j = omega arith in ap (λ n. drop n ys) e
drop_past (x ∷ xs) ys j =
    let e : length (x ∷ xs) + j ≡ suc (length xs + j) = omega arith in
    ap (λ n. drop n (x ∷ (xs ++ ys))) e ∙ drop_past xs ys j

markless_both : (between octets : List ℕ) (n : ℕ) → Markless (length between) (between ++ octets) → Markless n octets → Markless (length between + n) (between ++ octets)
markless_both between octets n first then = record {
  none = λ k low.
      ⊎_elim (λ less. first.none k less)
      (λ (more : length between ≤ k).
      let e : k ≡ length between + (k - length between) = omega arith in
      ap (λ m. begins (drop m (between ++ octets))) e ∙ (ap begins (drop_past between octets (k - length between)) ∙ then.none (k - length between) (omega arith)))
      (cases_lt k (length between));
}

pub front_passed : (task : Task) (taken : List ℕ) (count place n : ℕ) (pending : List ℕ) → Unmarked n pending → Fronted task taken count place pending
    → Fronted task taken count (place + n) (drop n pending)
front_passed task taken count place n pending unmarked front =
    let within : n ≤ length pending = unmarked_within n pending unmarked in
    let size : length (front.between ++ take n pending) ≡ length front.between + n =
    length-append front.between (take n pending) ∙ ap (λ m. length front.between + m) (length-take-le n pending within) in
    let split = λ (more : List ℕ).
    let e : (front.between ++ take n pending) ++ (drop n pending ++ more) ≡ front.between ++ (pending ++ more) =
    append_assoc front.between (take n pending) (drop n pending ++ more)
    ∙ ap (λ xs. front.between ++ xs) (sym (append_assoc (take n pending) (drop n pending) more) ∙ ap (λ xs. xs ++ more) (take-append-drop n pending)) in
    e in
    record {
      messages = front.messages;
      between = front.between ++ take n pending;
      is = front.is
          ∙ ap (λ xs. front.messages ++ xs)
          (ap (λ xs. front.between ++ xs) (sym (take-append-drop n pending)) ∙ sym (append_assoc front.between (take n pending) (drop n pending)));
      ends = front.ends;
      counted = front.counted;
      none = λ more.
          subst (λ xs. Markless (length (front.between ++ take n pending)) xs) (sym (split more))
          (subst (λ m. Markless m (front.between ++ (pending ++ more))) (sym size)
          (markless_both front.between (pending ++ more) n (front.none more) (markless_more n pending more unmarked)));
      place_is = omega (arith, front.place_is, size);
    }

-- a message was passed over
end_of_last : (place : ℕ) (messages : List Found) (last : Found) → end_after place (messages ++ last ∷ []) ≡ last.before + length last.octets
end_of_last place [] last = refl
end_of_last place (found ∷ messages) last = end_of_last (found.before + length found.octets) messages last

-- a message alone
alone_is : (task : Task) (place skipped total : ℕ) (message : List ℕ) → 1 ≤ total → begins message ≡ true → task.judge message ≡ Message total → length message ≡ total
    → stream_from task.judge 0 place skipped message ≡ stream_of (message_after place (take total message) ∷ []) (Over skipped)
alone_is task place skipped zero message some begun is size = absurd (omega (arith, some))
alone_is task place skipped (suc k) message some begun is size =
    stream_message task.judge place skipped k message begun is
    ∙ ap (λ xs. followed_by (message_after place (take (suc k) message)) (stream_from task.judge 0 (place + suc k) skipped xs)) (drop_all (suc k) message (omega (arith, size)))

-- the message behind what is in between
markless_message : (between message more : List ℕ) → 4 ≤ length message → Markless (length between) (between ++ (message ++ more)) → Markless (length between) (between ++ message)
markless_message between message more four markless = record {
  none = λ k low.
      sym (begins_stays (between ++ message) more k (omega (arith, length-append between message)))
      ∙ (ap (λ xs. begins (drop k xs)) (append_assoc between message more) ∙ markless.none k low);
}

pub front_message : (task : Task) → IsLawful task → (taken : List ℕ) (count place total : ℕ) (pending : List ℕ) → begins pending ≡ true → task.judge pending ≡ Message total
    → Fronted task taken count place pending → Fronted task taken (count + 1) (place + total) (drop total pending)
front_message task lawful taken count place total pending begun is front =
    let message : List ℕ = take total pending in
    let within : total ≤ length pending = lawful.there pending total is in
    let least : 4 ≤ total = lawful.least pending total is in
    let size : length message ≡ total = length-take-le total pending within in
    let begun_message : begins message ≡ true =
    sym (begins_stays message (drop total pending) 0 (omega (arith, size, least))) ∙ (ap begins (take-append-drop total pending) ∙ begun) in
    let joins : Joins task.judge 0 0 0 front.messages (front.between ++ message) = joined_input task lawful front.messages (front.between ++ message) front.ends in
    let place_now : ℕ = 0 + length front.messages + length front.between in
    let skipped_now : ℕ = joins.passed + length front.between in
    let last : Found = message_after place_now (take total message) in
    let none : Markless (length front.between) (front.between ++ message) =
    markless_message front.between message (drop total pending) (omega (arith, size, least))
    (subst (λ xs. Markless (length front.between) (front.between ++ xs)) (append-nil pending ∙ sym (take-append-drop total pending)) (front.none [])) in
    let rest : stream_from task.judge 0 (0 + length front.messages) joins.passed (front.between ++ message) ≡ stream_of (last ∷ []) (Over skipped_now) =
    stream_passed task.judge (0 + length front.messages) joins.passed (length front.between) (front.between ++ message) (omega (arith, length-append front.between message)) none
    ∙ (ap (stream_from task.judge 0 place_now skipped_now) (drop_at front.between message (length front.between) refl)
    ∙ alone_is task place_now skipped_now total message (omega arith) begun_message (lawful.alone pending total is) size) in
    let whole : stream task.judge (front.messages ++ (front.between ++ message)) ≡ joined (stream task.judge front.messages).messages (stream_of (last ∷ []) (Over skipped_now)) =
    joins.whole ∙ ap (joined (stream task.judge front.messages).messages) rest in
    let last_size : length (take total message) ≡ total = length-take-le total message (omega (arith, size)) in
    let long : length (front.messages ++ (front.between ++ message)) ≡ length front.messages + (length front.between + total) =
    length-append front.messages (front.between ++ message)
    ∙ ap (λ m. length front.messages + m) (length-append front.between message ∙ ap (λ m. length front.between + m) size) in
    let end : end_after 0 ((stream task.judge front.messages).messages ++ last ∷ []) ≡ place_now + length (take total message) =
    end_of_last 0 (stream task.judge front.messages).messages last in
    record {
      messages = front.messages ++ (front.between ++ message);
      between = [];
      is = front.is
          ∙ (ap (λ xs. front.messages ++ (front.between ++ xs)) (sym (take-append-drop total pending))
          ∙ (ap (λ xs. front.messages ++ xs) (sym (append_assoc front.between message (drop total pending)))
          ∙ sym (append_assoc front.messages (front.between ++ message) (drop total pending))));
      ends = ap (λ x. end_after 0 x.messages) whole ∙ (end ∙ omega (arith, last_size, long));
      counted = ap (λ x. length x.messages) whole
          ∙ (length-append (stream task.judge front.messages).messages (last ∷ []) ∙ ap (λ m. m + 1) front.counted);
      none = λ more. record { none = λ k low. absurd (omega (arith, low)) };
      place_is = omega (arith, long, front.place_is);
    }

-- where the message stands that begins here
pub front_stands : (task : Task) (taken : List ℕ) (count place : ℕ) (pending : List ℕ) → begins pending ≡ true → Fronted task taken count place pending
    → StandsAt task.judge taken (count + 1) place pending
front_stands task taken count place pending begun front = record {
  messages = front.messages;
  between = front.between;
  is = front.is;
  ends = front.ends;
  counted = ap (λ m. m + 1) front.counted;
  none = subst (λ xs. Markless (length front.between) (front.between ++ xs)) (append-nil pending) (front.none []);
  before_is = front.place_is;
  begun = begun;
}
