-- The messages of a file, one after another, and their fields.
use Rattle.std.proofs.Common.{◌≡◌, ℕ, zero, suc, ◌+◌, ◌-◌, ◌<◌, ◌≤◌, true, List, [], ◌∷◌, ◌++◌, length, take, drop, map, refl, sym, ap, ◌∙◌, subst, arith, ⊎_elim, length-drop, length-take-le, append_assoc, Some}
use Rattle.std.specs.Prelude.{All, Option, None, Result, Ok, Err, MatchResult, IsErrAnd, option_map, slice_get, get_or}
use Rattle.std.specs.List.{flat_map, range_with_len}
use Rattle.std.proofs.lemmas.Bool.{cases_lt}
use Rattle.std.proofs.lemmas.List.{append-nil, drop-drop, drop_all, map-append}
use Rattle.std.proofs.lemmas.List.Elements.{All-nil, All-cons, All-append, All-map, All-weaker, All-get_or}
use Rattle.std.proofs.lemmas.List.FromFn.{map-range_with_len_more}
use Rattle.std.proofs.lemmas.Option.{slice_get-map, slice_get_read}
use Rattle.std.proofs.lemmas.Simd.{map-map}
use Rattle.grib_base.specs.declared.profile.Profile.{Profile}
use Rattle.grib_io.specs.Shelves.{Held, Tells}
use Rattle.grib_io.specs.Reading.{IsFirst, StopsAt}
use Rattle.grib_io.specs.declared.reading.ReadStop.{ReadStop}
use Rattle.grib_io.specs.declared.reading.ReadStop.TheVariants as reads
use Rattle.grib_file.specs.Stops.{stop_of_read}
use Rattle.grib_stream.specs.declared.outcome.FileRefusal.TheVariants as refusals
use Rattle.grib_stream.specs.Answer.{refusal_after}
use Rattle.grib_stream.specs.Searching.{Markless}
use Rattle.grib_stream.specs.Stream.{begins, Judgement, Message, Faulty, Found, message_after, End, Over, Refusing, Stream, stream_of, followed_by, stream, stream_from}
use Rattle.grib_stream.proofs.Streams.{none_in_few, stream_passed, stream_message, stream_refused}
use Rattle.grib_command.specs.Judging.{judge_under, fields_of}
use Rattle.grib_file.specs.Filed.{FieldOf, field_of, FileFields, Filed, Good, Refused, fields_in, filed_by, filed}
use Rattle.grib_file.specs.Read.{IsFieldOf, AreOfOneMessage, StandsAs, ReadsFile}
use Rattle.grib_file.specs.Entries.{IsEntryOf, field_at, fields_at, entry_at, entries_in}
use Rattle.grib_file.specs.Finding.{IsNext, IsSpan, IsStopAt, filed_behind_by, filed_behind, FoundSoFar, IsNoFile}
use Rattle.grib_file.specs.declared.entries.Entry.{Entry}
use Rattle.grib_file.specs.declared.entries.Span.{Span}
use Rattle.grib_file.specs.declared.stop.FileStop.{FileStop}
use Rattle.grib_file.specs.declared.stop.FileStop.TheVariants as stops

-- ---- a file of the fields so far, and of the messages behind them

behind_none : (messages : List Found) (end : End) → filed_by messages end ≡ filed_behind_by 0 [] messages end
behind_none messages (Over skipped) = refl
behind_none messages (Refusing fault) =
    let same : length messages ≡ 0 + length messages = omega arith in ap (λ n. Refused (refusals.Refused (refusal_after n fault))) same

behind_one : (n : ℕ) (fields : List FieldOf) (found : Found) (later : List Found) (end : End)
    → filed_behind_by n fields (found ∷ later) end ≡ filed_behind_by (n + 1) (fields ++ fields_in found) later end
behind_one n fields found later (Over skipped) = ap Good (sym (append_assoc fields (fields_in found) (flat_map fields_in later)))
behind_one n fields found later (Refusing fault) =
    let same : n + suc (length later) ≡ n + 1 + length later = omega arith in ap (λ m. Refused (refusals.Refused (refusal_after m fault))) same

-- ---- the octets before the next message

module _ (judge : List ℕ → Judgement) (octets : List ℕ) (place skipped : ℕ) where
  to_next : (start : ℕ) → IsNext octets place start
      → stream_from judge 0 place skipped (drop place octets) ≡ stream_from judge 0 start (skipped + (start - place)) (drop start octets)
  to_next start next =
      let n : ℕ = start - place in
      let there : place + n ≡ start = omega (arith, next.behind) in
      let fits : n ≤ length (drop place octets) = omega (arith, next.within, length-drop place octets) in
      stream_passed judge place skipped n (drop place octets) fits next.markless
      ∙ (ap (λ xs. stream_from judge 0 (place + n) (skipped + n) xs) (drop-drop n place octets)
      ∙ ap (λ p. stream_from judge 0 p (skipped + n) (drop p octets)) there)

  to_end : Markless (length octets - place) (drop place octets)
      → stream_from judge 0 place skipped (drop place octets) ≡ stream_of [] (Over (skipped + (length octets - place)))
  to_end markless =
      let n : ℕ = length octets - place in
      let fits : n ≤ length (drop place octets) = omega (arith, length-drop place octets) in
      let gone : drop n (drop place octets) ≡ [] = drop_all n (drop place octets) (omega (arith, length-drop place octets)) in
      stream_passed judge place skipped n (drop place octets) fits markless
      ∙ ap (λ xs. stream_from judge 0 (place + n) (skipped + n) xs) gone

-- ---- a message, and what is behind it

message_then : (judge : List ℕ → Judgement) (start skipped size : ℕ) (octets : List ℕ) → begins (drop start octets) ≡ true → judge (drop start octets) ≡ Message size → 1 ≤ size
    → stream_from judge 0 start skipped (drop start octets)
    ≡ followed_by (message_after start (take size (drop start octets))) (stream_from judge 0 (start + size) skipped (drop (start + size) octets))
message_then judge start skipped zero octets begun judged some = absurd (omega (arith, some))
message_then judge start skipped (suc k) octets begun judged some =
    stream_message judge start skipped k (drop start octets) begun judged
    ∙ ap (λ xs. followed_by (message_after start (take (suc k) (drop start octets))) (stream_from judge 0 (start + suc k) skipped xs)) (drop-drop (suc k) start octets)

-- its fields are those that stand there
fields_there : (octets : List ℕ) (start size count : ℕ) → fields_of (take size (drop start octets)) ≡ count
    → fields_at octets (entries_in start size count) ≡ fields_in (message_after start (take size (drop start octets)))
fields_there octets start size count is =
    map-map (field_at octets) (entry_at start size) (range_with_len 1 count)
    ∙ ap (λ n. map (field_of (take size (drop start octets))) (range_with_len 1 n)) (sym is)

-- what holds of each number from one on
all_in : (P : ℕ → Type 0) (first count : ℕ) → ((n : ℕ) → first ≤ n → n < first + count → P n) → All P (range_with_len first count)
all_in P first zero holds = All-nil P
all_in P first (suc count) holds =
    All-cons P first (range_with_len (first + 1) count) (holds first (omega arith) (omega arith))
    (all_in P (first + 1) count (λ n low high. holds n (omega arith) (omega arith)))

entries_are : (profile : Profile) (octets : List ℕ) (start : ℕ) (span : Span) → start ≤ length octets → IsSpan profile (drop start octets) span
    → All (IsEntryOf profile octets) (entries_in start span.length span.fields)
entries_are profile octets start span there is =
    All-map (IsEntryOf profile octets) (entry_at start span.length) (range_with_len 1 span.fields)
    (all_in (λ n. IsEntryOf profile octets (entry_at start span.length n)) 1 span.fields
    (λ n low high. record {
      within = omega (arith, is.within, length-drop start octets);
      field = record {
        begun = is.begun;
        accepted = is.accepted ∙ ap Message (sym (length-take-le span.length (drop start octets) is.within));
        first = low;
        last = omega (arith, is.fields);
      };
    }))

-- ---- step after step

pub none_found : (profile : Profile) (octets : List ℕ) → FoundSoFar profile octets 0 0 []
none_found profile octets = record {
  within = omega arith;
  few = omega arith;
  accepted = All-nil (IsEntryOf profile octets);
  skipped = 0;
  filed_is = behind_none (stream (judge_under profile) octets).messages (stream (judge_under profile) octets).end;
}

pub one_found : (profile : Profile) (octets : List ℕ) (place messages start : ℕ) (entries now : List Entry) (span : Span) → FoundSoFar profile octets place messages entries
    → IsNext octets place start → IsSpan profile (drop start octets) span → now ≡ entries ++ entries_in start span.length span.fields
    → FoundSoFar profile octets (start + span.length) (messages + 1) now
one_found profile octets place messages start entries now span so_far next is same =
    let judge = judge_under profile in
    let found : Found = message_after start (take span.length (drop start octets)) in
    let skipped : ℕ = so_far.skipped + (start - place) in
    let later : Stream = stream_from judge 0 (start + span.length) skipped (drop (start + span.length) octets) in
    let fields : fields_at octets now ≡ fields_at octets entries ++ fields_in found =
    ap (fields_at octets) same
    ∙ (map-append (field_at octets) entries (entries_in start span.length span.fields)
    ∙ ap (λ xs. fields_at octets entries ++ xs) (fields_there octets start span.length span.fields is.fields)) in
    record {
      within = omega (arith, is.within, next.within, length-drop start octets);
      few = omega (arith, so_far.few, next.behind, is.some);
      accepted = subst (All (IsEntryOf profile octets)) (sym same)
          (All-append (IsEntryOf profile octets) entries (entries_in start span.length span.fields) so_far.accepted (entries_are profile octets start span next.within is));
      skipped = skipped;
      filed_is =
          so_far.filed_is
          ∙ (ap (filed_behind messages (fields_at octets entries))
          (to_next judge octets place so_far.skipped start next ∙ message_then judge start skipped span.length octets next.begun is.judged is.some)
          ∙ (behind_one messages (fields_at octets entries) found later.messages later.end
          ∙ ap (λ xs. filed_behind (messages + 1) xs later) (sym fields)));
    }

pub all_found : (profile : Profile) (octets : List ℕ) (place messages : ℕ) (entries : List Entry) → FoundSoFar profile octets place messages entries
    → Markless (length octets - place) (drop place octets) → filed profile (Some octets) ≡ Good (fields_at octets entries)
all_found profile octets place messages entries so_far markless =
    so_far.filed_is
    ∙ (ap (filed_behind messages (fields_at octets entries)) (to_end (judge_under profile) octets place so_far.skipped markless)
    ∙ ap Good (append-nil (fields_at octets entries)))

pub none_filed : (profile : Profile) (octets : List ℕ) (place messages start : ℕ) (entries : List Entry) (stop : FileStop) → FoundSoFar profile octets place messages entries
    → IsNext octets place start → IsStopAt profile (drop start octets) messages stop → IsNoFile profile octets stop
none_filed profile octets place messages start entries (stops.Refused refusals.Absent) so_far next is = absurd is
none_filed profile octets place messages start entries (stops.Refused (refusals.Refused refusal)) so_far next is =
    let judge = judge_under profile in
    let skipped : ℕ = so_far.skipped + (start - place) in
    let number : refusal_after (messages + 0) refusal.fault ≡ refusal = (let e : messages + 0 ≡ messages = omega arith in ap (λ n. refusal_after n refusal.fault) e) ∙ sym is.0 in
    so_far.filed_is
    ∙ (ap (filed_behind messages (fields_at octets entries))
    (to_next judge octets place so_far.skipped start next
    ∙ stream_refused judge start skipped (drop start octets) (Faulty refusal.fault) (stream_of [] (Refusing refusal.fault)) next.begun is.1 (λ later. refl))
    ∙ ap (λ r. Refused (refusals.Refused r)) number)
none_filed profile octets place messages start entries stops.ShelfFault so_far next is = absurd is
none_filed profile octets place messages start entries stops.Memory so_far next is = tt

-- ---- where none begins

pub none_behind : (place n : ℕ) (octets rest : List ℕ) → rest ≡ drop place octets → Markless n rest → n ≤ length rest → length rest - n < 4 → Markless (length octets - place) (drop place octets)
none_behind place n octets rest same markless within few = subst (Markless (length octets - place)) same (record {
  none = λ k low.
      ⊎_elim (λ (before : k < n). markless.none k before)
      (λ (behind : n ≤ k). none_in_few (drop k rest) (omega (arith, length-drop k rest)))
      (cases_lt k n);
})

-- ---- what stands where entries say

pub fields_are : (profile : Profile) (octets : List ℕ) (entries : List Entry) → All (IsEntryOf profile octets) entries → All (IsFieldOf profile) (fields_at octets entries)
fields_are profile octets entries are =
    All-map (IsFieldOf profile) (field_at octets) entries
    (All-weaker (IsEntryOf profile octets) (λ entry. IsFieldOf profile (field_at octets entry)) (λ entry is. is.field) entries are)

entry_of : (profile : Profile) (octets : List ℕ) (entries : List Entry) (i : ℕ) (entry : Entry) → All (IsEntryOf profile octets) entries → i < length entries → entry ≡ get_or entries i entry
    → IsEntryOf profile octets entry
entry_of profile octets entries i entry are low is = subst (IsEntryOf profile octets) (sym is) (All-get_or (IsEntryOf profile octets) entries i entry low are)

-- as it is cut out
cut_out : (octets bytes : List ℕ) (entry : Entry) → bytes ≡ octets
    → field_of (take (entry.start + entry.length - entry.start) (drop entry.start bytes)) entry.number ≡ field_at octets entry
cut_out octets bytes entry same =
    let e : entry.start + entry.length - entry.start ≡ entry.length = omega arith in
    ap (λ n. field_of (take n (drop entry.start bytes)) entry.number) e ∙ ap (λ xs. field_of (take entry.length (drop entry.start xs)) entry.number) same

pub cut_is_field : (profile : Profile) (octets bytes : List ℕ) (entries : List Entry) (i : ℕ) (entry : Entry) → All (IsEntryOf profile octets) entries → i < length entries → entry ≡ get_or entries i entry
    → bytes ≡ octets → IsFieldOf profile (field_of (take (entry.start + entry.length - entry.start) (drop entry.start bytes)) entry.number)
cut_is_field profile octets bytes entries i entry are low is same =
    subst (IsFieldOf profile) (sym (cut_out octets bytes entry same)) (entry_of profile octets entries i entry are low is).field

got_of : (octets : List ℕ) (entries : List Entry) (i : ℕ) (entry : Entry) → i < length entries → entry ≡ get_or entries i entry → Some (field_at octets entry) ≡ slice_get (fields_at octets entries) i
got_of octets entries i entry low is =
    sym (slice_get-map (field_at octets) entries i ∙ ap (option_map (field_at octets)) (slice_get_read entries (length entries) i entry refl low is))

pub cut_is_got : (octets bytes : List ℕ) (entries : List Entry) (i : ℕ) (entry : Entry) (field : FieldOf) → i < length entries → entry ≡ get_or entries i entry → bytes ≡ octets
    → field ≡ field_of (take (entry.start + entry.length - entry.start) (drop entry.start bytes)) entry.number → Some field ≡ slice_get (fields_at octets entries) i
cut_is_got octets bytes entries i entry field low is same made =
    ap Some (made ∙ cut_out octets bytes entry same) ∙ got_of octets entries i entry low is

-- two fields that stand in the same place
pub of_one_message : (octets : List ℕ) (entries : List Entry) (i j : ℕ) (here there : Entry) → i < length entries → j < length entries → here ≡ get_or entries i here → there ≡ get_or entries j there
    → here.start ≡ there.start → here.length ≡ there.length → AreOfOneMessage (slice_get (fields_at octets entries) i) (slice_get (fields_at octets entries) j)
of_one_message octets entries i j here there low low_there is is_there same_start same_length =
    let same : take here.length (drop here.start octets) ≡ take there.length (drop there.start octets) =
    ap (λ n. take n (drop here.start octets)) same_length ∙ ap (λ start. take there.length (drop start octets)) same_start in
    subst (λ field. AreOfOneMessage field (slice_get (fields_at octets entries) j)) (got_of octets entries i here low is)
    (subst (AreOfOneMessage (Some (field_at octets here))) (got_of octets entries j there low_there is_there) same)

-- one field more of a message
pub one_more : (old items now : List Entry) (start size index : ℕ) → items ≡ old ++ entries_in start size index → now ≡ items ++ entry_at start size (index + 1) ∷ []
    → now ≡ old ++ entries_in start size (index + 1)
one_more old items now start size index so_far pushed =
    pushed
    ∙ (ap (λ xs. xs ++ entry_at start size (index + 1) ∷ []) so_far
    ∙ (append_assoc old (entries_in start size index) (entry_at start size (index + 1) ∷ [])
    ∙ ap (λ xs. old ++ xs) (sym (map-range_with_len_more (entry_at start size) 1 index (index + 1) (omega arith)))))

-- ---- why there is no file, as the exit of a call

pub exit_with : {T : Type 0} (P : T → Type 0) (profile : Profile) (octets : List ℕ) (result : Result T FileStop) (stop : FileStop) → IsNoFile profile octets stop → IsErrAnd result (λ e. e ≡ stop)
    → MatchResult result P (IsNoFile profile octets)
exit_with P profile octets (Ok value) stop none err = absurd err
exit_with P profile octets (Err e) stop none err = subst (IsNoFile profile octets) (sym err) none

-- ---- what stands under a name

-- all octets under a name are what stands there
all_stand : (profile : Profile) (octets : List ℕ) (text : Option (List ℕ)) → IsFirst None octets text → filed profile text ≡ filed profile (Some octets)
all_stand profile octets None is = absurd is
all_stand profile octets (Some all) is = ap (λ xs. filed profile (Some xs)) (sym is)

stands : (profile : Profile) (shelf : Option Held) (name octets : List ℕ) (file : Filed) → Tells shelf name (IsFirst None octets) → filed profile (Some octets) ≡ file
    → StandsAs profile shelf name file
stands profile None name octets file told is = (Some octets, tt, is)
stands profile (Some held) name octets file told is = (held name, refl, all_stand profile octets (held name) told ∙ is)

pub stands_good : (profile : Profile) (shelf : Option Held) (name octets : List ℕ) (file : FileFields) → Tells shelf name (IsFirst None octets) → file.profile ≡ profile
    → filed profile (Some octets) ≡ Good file.fields → ReadsFile (Ok file) profile shelf name
stands_good profile shelf name octets file told same is = (same, stands profile shelf name octets (Good file.fields) told is)

stands_none : (profile : Profile) (shelf : Option Held) (name octets : List ℕ) (stop : FileStop) → Tells shelf name (IsFirst None octets) → IsNoFile profile octets stop
    → ReadsFile (Err stop) profile shelf name
stands_none profile shelf name octets (stops.Refused refusal) told is = stands profile shelf name octets (Refused refusal) told is
stands_none profile shelf name octets stops.ShelfFault told is = tt
stands_none profile shelf name octets stops.Memory told is = tt

pub stands_exit : (profile : Profile) (shelf : Option Held) (name octets : List ℕ) (result : Result FileFields FileStop) (stop : FileStop) → Tells shelf name (IsFirst None octets)
    → IsNoFile profile octets stop → IsErrAnd result (λ e. e ≡ stop) → ReadsFile result profile shelf name
stands_exit profile shelf name octets (Ok file) stop told none err = absurd err
stands_exit profile shelf name octets (Err e) stop told none err = subst (λ s. ReadsFile (Err s) profile shelf name) (sym err) (stands_none profile shelf name octets stop told none)

-- nothing was read
absent : (profile : Profile) (shelf : Option Held) (name : List ℕ) → Tells shelf name (λ text. text ≡ None) → StandsAs profile shelf name (Refused refusals.Absent)
absent profile None name told = (None, tt, refl)
absent profile (Some held) name told = (held name, refl, ap (filed profile) told)

unread : (profile : Profile) (shelf : Option Held) (name : List ℕ) (stop : ReadStop) → Tells shelf name (StopsAt stop) → ReadsFile (Err (stop_of_read stop)) profile shelf name
unread profile shelf name reads.Absent told = absent profile shelf name told
unread profile shelf name reads.Failed told = tt
unread profile shelf name reads.Memory told = tt

pub by_stop : (profile : Profile) (shelf : Option Held) (name : List ℕ) (result : Result FileFields FileStop) (stop : ReadStop) → Tells shelf name (StopsAt stop)
    → IsErrAnd result (λ e. e ≡ stop_of_read stop) → ReadsFile result profile shelf name
by_stop profile shelf name (Ok file) stop told err = absurd err
by_stop profile shelf name (Err e) stop told err = subst (λ s. ReadsFile (Err s) profile shelf name) (sym err) (unread profile shelf name stop told)
