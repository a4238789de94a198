-- What `split` puts on a shelf.
use Rattle.std.proofs.Common.{◌≡◌, ◌≢◌, ℕ, zero, suc, ◌+◌, ◌-◌, ◌^◌, ◌<◌, ◌≤◌, ◌==◌, ◌&&◌, Bool, true, false, cond, unwrap_or, Option, Some, None, All, List, [], ◌∷◌, ◌++◌, length, map, take, refl, sym, ap, ◌∙◌, subst, arith, append-nil}
use Rattle.std.specs.List.{range_with_len}
use Rattle.std.specs.Str.{bytes_eq}
use Rattle.std.proofs.lemmas.List.Concat.{flat_map-append}
use Rattle.std.proofs.lemmas.List.Elements.{All-nil, All-cons, All-head, All-tail}
use Rattle.grib_base.specs.declared.fault.Fault.{Fault}
use Rattle.grib_base.specs.Rules.{choose}
use Rattle.grib_base.specs.declared.profile.Profile.{Profile}
use Rattle.grib_reasons.specs.declared.cause.Cause.TheVariants.{EditionOne}
use Rattle.grib_io.specs.Shelves.{Held}
use Rattle.grib2_sections.specs.Head.{edition}
use Rattle.grib2_message.specs.Message.{IsMessageUnder}
use Rattle.grib2_message.specs.Fields.{field_count}
use Rattle.grib_stream.specs.Acts.{Act, Writes, Makes, Adds, World, world, writes, held_after, Did, DidFront}
use Rattle.grib_stream.specs.Outcomes.{is_truncated}
use Rattle.grib_stream.specs.Stream.{Found, Judgement, Message, Faulty, begins}
use Rattle.grib_items.specs.declared.policy.Instead.{Instead}
use Rattle.grib_items.specs.declared.policy.Policy.{Policy}
use Rattle.grib_items.specs.Answer.{Counts, Answered, passes, no_counts, instead_of, is_copied, refused_instead, one_answered, one_kept, one_refused, place_by, on_given, on_comes, after, answers}
use Rattle.grib_items.specs.Deeds.{Deeds, deeds}
use Rattle.grib_items.specs.Items.{Passed, Item, Accepted, Refused, End, Over, Refusing, Open, Items, items_from, on_next}
use Rattle.grib_items.specs.Run.{answer_of}
use Rattle.grib_items.specs.Next.{Unknown, Refuses, next_judged, next_passed, passed}
use Rattle.grib_command.specs.Command.{task, under}
use Rattle.grib_command.specs.LawfulCommands.{under_lawful}
use Rattle.grib_command.specs.Judging.{judge_under, fields_of}
use Rattle.grib_command.specs.Texts.{texts}
use Rattle.grib_edit.specs.Parts.{Part, part, part_name, part_of, parts1_of, parts_of, adds, puts, puts_all, octets_within}
use Rattle.grib_edit.specs.Splitting.{split_command, split_lawful}
use Rattle.grib_dispatch.specs.Lawful.{lawful, fields_other}
use Rattle.grib_run_spec.specs.Stated.{plan_by}
use Rattle.grib_run_law.specs.Answered.{items_of}
use Rattle.grib_run_law.specs.Shelved.{OfNames, before_first_kept, reached, parts_here, parts_among, items_reached, parts_within, SplitsFields, StandFirst, StandAll}
use Rattle.grib_run_law.specs.Written.{stated_of}
use Rattle.grib_run_law.proofs.Accepting.{IsAccepted, OfMessage}
use Rattle.grib_run_law.proofs.Picking.{CutsOut, all_alone, all_fields}
use Rattle.grib_run_law.proofs.Standing.{Distinct, stand_first, stand_all, same_number}

-- ---- the acts that touch names

abbrev on_names : List Act → List Act
on_names [] = []
on_names (Writes octet ∷ acts) = on_names acts
on_names (Makes name ∷ acts) = Makes name ∷ on_names acts
on_names (Adds name octet ∷ acts) = Adds name octet ∷ on_names acts

on_names-append : (xs ys : List Act) → on_names (xs ++ ys) ≡ on_names xs ++ on_names ys
on_names-append [] ys = refl
on_names-append (Writes octet ∷ xs) ys = on_names-append xs ys
on_names-append (Makes name ∷ xs) ys = ap (λ acts. Makes name ∷ acts) (on_names-append xs ys)
on_names-append (Adds name octet ∷ xs) ys = ap (λ acts. Adds name octet ∷ acts) (on_names-append xs ys)

-- what is written does not change what stands under a name
held_alike : (name : List ℕ) (held : Option (List ℕ)) (acts : List Act) → held_after name held acts ≡ held_after name held (on_names acts)
held_alike name held [] = refl
held_alike name held (Writes octet ∷ acts) = held_alike name held acts
held_alike name held (Makes other ∷ acts) = held_alike name (cond (bytes_eq other name) (Some []) held) acts
held_alike name held (Adds other octet ∷ acts) = held_alike name (cond (bytes_eq other name) (Some (unwrap_or held [] ++ octet ∷ [])) held) acts

none_written : (octets : List ℕ) → on_names (writes octets) ≡ []
none_written [] = refl
none_written (octet ∷ octets) = none_written octets

all_adds : (name octets : List ℕ) → on_names (adds name octets) ≡ adds name octets
all_adds name [] = refl
all_adds name (octet ∷ octets) = ap (λ acts. Adds name octet ∷ acts) (all_adds name octets)

all_puts : (parts : List Part) → on_names (puts_all parts) ≡ puts_all parts
all_puts [] = refl
all_puts (p ∷ parts) =
    on_names-append (puts p) (puts_all parts)
    ∙ (ap (λ acts. (Makes p.name ∷ acts) ++ on_names (puts_all parts)) (all_adds p.name p.octets) ∙ ap (λ acts. puts p ++ acts) (all_puts parts))

-- ---- what stands on a shelf that tells its names

names_first : (parts : List Part) → Distinct parts → (acts : List Act) → on_names acts ≡ puts_all parts → (output output_now : Option (List ℕ)) (names names_now : Option Held)
    → DidFront (world output names) (world output_now names_now) acts → OfNames names names_now (λ held held_now. (count : ℕ) × StandFirst parts held held_now count)
names_first parts distinct acts are output output_now None names_now did = tt
names_first parts distinct acts are output output_now (Some held) None (front, rest, is, did) = did.names
names_first parts distinct acts are output output_now (Some held) (Some held_now) (front, rest, is, did) =
    stand_first parts distinct (on_names front) (on_names rest) (sym are ∙ (ap on_names is ∙ on_names-append front rest)) held held_now
    (λ name. did.names name ∙ held_alike name (held name) front)

names_all : (parts : List Part) → Distinct parts → (acts : List Act) → on_names acts ≡ puts_all parts → (output output_now : Option (List ℕ)) (names names_now : Option Held)
    → Did (world output names) (world output_now names_now) acts → OfNames names names_now (StandAll parts)
names_all parts distinct acts are output output_now None names_now did = tt
names_all parts distinct acts are output output_now (Some held) None did = did.names
names_all parts distinct acts are output output_now (Some held) (Some held_now) did =
    stand_all parts distinct held held_now (λ name. did.names name ∙ (held_alike name (held name) acts ∙ ap (held_after name (held name)) are))

-- ---- what an answer does to names

-- it puts these parts, and nothing is done at its end
record Puts (parts : List Part) (answer : Answered) : Type 0 where
  acts : on_names answer.deeds.acts ≡ puts_all parts
  ending : answer.ending ≡ []

puts_then : (here rest : List Part) (done : Deeds) (later : Answered) → on_names done.acts ≡ puts_all here → Puts rest later → Puts (here ++ rest) (after done later)
puts_then here rest done later own more = record {
  acts = on_names-append done.acts later.deeds.acts
      ∙ (ap (λ acts. acts ++ on_names later.deeds.acts) own ∙ (ap (λ acts. puts_all here ++ acts) more.acts ∙ sym (flat_map-append puts here rest)));
  ending = more.ending;
}

-- the parts of a message, by its edition
here_is : (edition_1 : Bool) (out : List ℕ) (before : ℕ) (message : List ℕ) (b : Bool) → (edition message == 1) ≡ b
    → parts_here edition_1 out before message ≡ choose b (λ _. cond edition_1 (parts1_of out before message) []) (λ _. parts_of out before message)
here_is edition_1 out before message b is = ap (λ c. choose c (λ _. cond edition_1 (parts1_of out before message) []) (λ _. parts_of out before message)) is

module _ (profile : Profile) (out : List ℕ) (policy : Policy) where
  -- where the next message is put as these parts
  parts_then : (edition_1 : Bool) (counts : Counts) (found : Found) (reached_later : List Item) (later : Counts → Answered) (here : List Part)
      → parts_here edition_1 out counts.fields found.octets ≡ here
      → ((counts : Counts) → Puts (parts_among edition_1 out counts.fields reached_later) (later counts))
      → Puts (parts_among edition_1 out counts.fields (Accepted found ∷ reached_later))
      (after (deeds (puts_all here) []) (later (one_answered counts (fields_of found.octets) (octets_within here))))
  parts_then edition_1 counts found reached_later later here is rest =
      let next = one_answered counts (fields_of found.octets) (octets_within here) in
      let others = parts_among edition_1 out (counts.fields + fields_of found.octets) reached_later in
      subst (λ (parts : List Part). Puts (parts ++ others) (after (deeds (puts_all here) []) (later next))) (sym is)
      (puts_then here others (deeds (puts_all here) []) (later next) (all_puts here) (rest next))

  message_then : (edition_1 : Bool) (instead : Option Instead) (b : Bool) (counts : Counts) (found : Found) (items : List Item) (later : Counts → Answered) → (edition found.octets == 1) ≡ b
      → ((counts : Counts) → Puts (parts_among edition_1 out counts.fields (reached edition_1 instead items)) (later counts))
      → Puts (parts_among edition_1 out counts.fields (reached edition_1 instead (Accepted found ∷ items)))
      (on_comes
      (on_given texts instead counts (place_by counts found.before) (fields_of found.octets) found.octets
      (choose b (λ _. (split_command edition_1 out).first (place_by counts found.before) found.octets) (λ _. (split_command edition_1 out).second (place_by counts found.before) found.octets)))
      (λ done counts. after done (later counts)))
  message_then true instead true counts found items later is rest =
      parts_then true counts found items later (parts1_of out counts.fields found.octets) (here_is true out counts.fields found.octets true is) rest
  message_then true instead false counts found items later is rest =
      parts_then true counts found items later (parts_of out counts.fields found.octets) (here_is true out counts.fields found.octets false is) rest
  message_then false None true counts found items later is rest = record {
    acts = ap (λ b. puts_all (parts_among false out counts.fields (choose b (λ _. []) (λ _. Accepted found ∷ before_first_kept items)))) (sym is);
    ending = refl;
  }
  message_then false None false counts found items later is rest =
      subst (λ b. Puts (parts_among false out counts.fields (choose b (λ _. []) (λ _. Accepted found ∷ before_first_kept items)))
      (after (deeds (puts_all (parts_of out counts.fields found.octets)) []) (later (one_answered counts (fields_of found.octets) (octets_within (parts_of out counts.fields found.octets))))))
      (sym is)
      (parts_then false counts found (before_first_kept items) later (parts_of out counts.fields found.octets) (here_is false out counts.fields found.octets false is) rest)
  message_then false (Some instead) true counts found items later is rest =
      let next = one_kept counts (fields_of found.octets) (length (instead_of instead found.octets)) in
      let line = texts.kept (place_by counts found.before) (record { message = (place_by counts found.before).message; cause = EditionOne }) in
      let others = parts_among false out (counts.fields + fields_of found.octets) items in
      subst (λ (parts : List Part). Puts (parts ++ others) (after (deeds (writes (instead_of instead found.octets)) (line ∷ [])) (later next)))
      (sym (here_is false out counts.fields found.octets true is))
      (puts_then [] others (deeds (writes (instead_of instead found.octets)) (line ∷ [])) (later next) (none_written (instead_of instead found.octets)) (rest next))
  message_then false (Some instead) false counts found items later is rest =
      parts_then false counts found items later (parts_of out counts.fields found.octets) (here_is false out counts.fields found.octets false is) rest

  -- a refusal has no part
  refused_then : (edition_1 : Bool) (before : ℕ) (instead : Option Instead) (refused : Passed) (items : List Item)
      → parts_among edition_1 out before (reached edition_1 instead items) ≡ parts_among edition_1 out before (reached edition_1 instead (Refused refused ∷ items))
  refused_then true before instead refused items = refl
  refused_then false before None refused items = refl
  refused_then false before (Some instead) refused items = refl

  none_reached : (edition_1 : Bool) (before : ℕ) (instead : Option Instead) → [] ≡ puts_all (parts_among edition_1 out before (reached edition_1 instead []))
  none_reached true before instead = refl
  none_reached false before None = refl
  none_reached false before (Some instead) = refl

  module _ (edition_1 : Bool) where
    acts_among : (counts : Counts) (items : List Item) (end : End)
        → Puts (parts_among edition_1 out counts.fields (reached edition_1 policy.kept items)) (answers (task (under profile (split_command edition_1 out))) texts policy counts items end)
    acts_among counts [] (Over skipped) = record { acts = none_reached edition_1 counts.fields policy.kept; ending = refl }
    acts_among counts [] (Refusing fault) = record { acts = none_reached edition_1 counts.fields policy.kept; ending = refl }
    acts_among counts [] Open = record { acts = none_reached edition_1 counts.fields policy.kept; ending = refl }
    acts_among counts (Accepted found ∷ items) end =
        message_then edition_1 policy.kept (edition found.octets == 1) counts found items (λ counts. answers (task (under profile (split_command edition_1 out))) texts policy counts items end) refl
        (λ counts. acts_among counts items end)
    acts_among counts (Refused refused ∷ items) end =
        let octets = refused_instead policy.refused refused.octets in
        let next = one_refused counts (length octets) in
        let line = texts.refused (is_copied policy.refused refused.octets) (place_by counts refused.before) refused.fault in
        subst (λ parts. Puts parts (after (deeds (writes octets) (line ∷ [])) (answers (task (under profile (split_command edition_1 out))) texts policy next items end)))
        (refused_then edition_1 counts.fields policy.kept refused items)
        (puts_then [] (parts_among edition_1 out counts.fields (reached edition_1 policy.kept items)) (deeds (writes octets) (line ∷ []))
        (answers (task (under profile (split_command edition_1 out))) texts policy next items end) (none_written octets) (acts_among next items end))

    -- what is done for octets of which more may follow, before their end
    acts_read : (octets : List ℕ)
        → on_names ((answer_of (plan_by (under profile (split_command edition_1 out)) policy) true octets).deeds.acts ++ []) ≡ puts_all (parts_within profile edition_1 out policy true octets)
    acts_read octets =
        let found = items_of profile policy true octets in
        ap on_names (append-nil (answers (task (under profile (split_command edition_1 out))) texts policy no_counts found.items found.end).deeds.acts)
        ∙ (acts_among no_counts found.items found.end).acts

    -- what is done for octets, of which more may follow or not
    acts_done : (more : Bool) (octets : List ℕ)
        → on_names (stated_of (under profile (split_command edition_1 out)) policy more octets).acts ≡ puts_all (parts_within profile edition_1 out policy more octets)
    acts_done more octets =
        let found = items_of profile policy more octets in
        let answer = answers (task (under profile (split_command edition_1 out))) texts policy no_counts found.items found.end in
        let own = acts_among no_counts found.items found.end in
        ap (λ ending. on_names (answer.deeds.acts ++ ending)) own.ending ∙ (ap on_names (append-nil answer.deeds.acts) ∙ own.acts)

-- ---- the names of the parts differ

fields_among : List Item → ℕ
fields_among [] = 0
fields_among (Accepted found ∷ later) = fields_of found.octets + fields_among later
fields_among (Refused refused ∷ later) = fields_among later

-- the parts of some fields of a message, and then others
apart_then : (out : List ℕ) (a before : ℕ) (message : List ℕ) (i n : ℕ) (rest : List Part) → a < before + i → before + (i + n) ≤ 2 ^ 64
    → All (λ (q : Part). q.name ≢ part_name out a) rest → All (λ (q : Part). q.name ≢ part_name out a) (map (part_of out before message) (range_with_len i n) ++ rest)
apart_then out a before message i zero rest low few others = others
apart_then out a before message i (suc n) rest low few others =
    All-cons (λ (q : Part). q.name ≢ part_name out a) (part_of out before message i) (map (part_of out before message) (range_with_len (i + 1) n) ++ rest)
    (λ is. absurd (let same = same_number out (before + i) a (omega arith) (omega arith) is in omega arith))
    (apart_then out a before message (i + 1) n rest (omega arith) (omega arith) others)

distinct_then : (out : List ℕ) (before : ℕ) (message : List ℕ) (i n : ℕ) (rest : List Part) → before + (i + n) ≤ 2 ^ 64
    → ((a : ℕ) → a < before + (i + n) → All (λ (q : Part). q.name ≢ part_name out a) rest) → Distinct rest → Distinct (map (part_of out before message) (range_with_len i n) ++ rest)
distinct_then out before message i zero rest few others distinct = distinct
distinct_then out before message i (suc n) rest few others distinct = (
  apart_then out (before + i) before message (i + 1) n rest (omega arith) (omega arith) (others (before + i) (omega arith)),
  distinct_then out before message (i + 1) n rest (omega arith) (λ a low. others a (omega arith)) distinct,
)

-- the part of a message of edition 1, where it has one, and then others
apart_first : (edition_1 : Bool) (out : List ℕ) (a before : ℕ) (message : List ℕ) (rest : List Part) → a ≤ before → before + 1 < 2 ^ 64
    → All (λ (q : Part). q.name ≢ part_name out a) rest → All (λ (q : Part). q.name ≢ part_name out a) (cond edition_1 (parts1_of out before message) [] ++ rest)
apart_first true out a before message rest low few others =
    All-cons (λ (q : Part). q.name ≢ part_name out a) (part (part_name out (before + 1)) message) rest
    (λ is. absurd (let same = same_number out (before + 1) a (omega arith) (omega arith) is in omega arith)) others
apart_first false out a before message rest low few others = others

distinct_first : (edition_1 : Bool) (out : List ℕ) (before : ℕ) (message : List ℕ) (rest : List Part)
    → All (λ (q : Part). q.name ≢ part_name out (before + 1)) rest → Distinct rest → Distinct (cond edition_1 (parts1_of out before message) [] ++ rest)
distinct_first true out before message rest others distinct = (others, distinct)
distinct_first false out before message rest others distinct = distinct

fields_one : (message : List ℕ) → (edition message == 1) ≡ true → fields_of message ≡ 1
fields_one message is = ap (λ b. choose b (λ _. 1) (λ _. field_count message)) is

-- the parts of a message, by its edition
apart_here : (edition_1 : Bool) (out : List ℕ) (a before : ℕ) (message : List ℕ) (rest : List Part) → a ≤ before → before + fields_of message < 2 ^ 64
    → (b : Bool) → (edition message == 1) ≡ b
    → All (λ (q : Part). q.name ≢ part_name out a) rest
    → All (λ (q : Part). q.name ≢ part_name out a) (choose b (λ _. cond edition_1 (parts1_of out before message) []) (λ _. parts_of out before message) ++ rest)
apart_here edition_1 out a before message rest low few true is others =
    let same : fields_of message ≡ 1 = fields_one message is in
    apart_first edition_1 out a before message rest low (omega arith) others
apart_here edition_1 out a before message rest low few false is others =
    let same : fields_of message ≡ field_count message = fields_other message is in
    apart_then out a before message 1 (field_count message) rest (omega arith) (omega arith) others

distinct_here : (edition_1 : Bool) (out : List ℕ) (before : ℕ) (message : List ℕ) (rest : List Part) → before + fields_of message < 2 ^ 64
    → (b : Bool) → (edition message == 1) ≡ b
    → ((a : ℕ) → a ≤ before + fields_of message → All (λ (q : Part). q.name ≢ part_name out a) rest) → Distinct rest
    → Distinct (choose b (λ _. cond edition_1 (parts1_of out before message) []) (λ _. parts_of out before message) ++ rest)
distinct_here edition_1 out before message rest few true is others distinct =
    let same : fields_of message ≡ 1 = fields_one message is in
    distinct_first edition_1 out before message rest (others (before + 1) (omega arith)) distinct
distinct_here edition_1 out before message rest few false is others distinct =
    let same : fields_of message ≡ field_count message = fields_other message is in
    distinct_then out before message 1 (field_count message) rest (omega arith) (λ a low. others a (omega arith)) distinct

-- no part of these items has the name of a number that is not above those before them
apart_among : (edition_1 : Bool) (out : List ℕ) (a before : ℕ) (items : List Item) → a ≤ before → before + fields_among items < 2 ^ 64
    → All (λ (q : Part). q.name ≢ part_name out a) (parts_among edition_1 out before items)
unfolding fields_among
apart_among edition_1 out a before [] low few = All-nil (λ (q : Part). q.name ≢ part_name out a)
apart_among edition_1 out a before (Accepted found ∷ later) low few =
    apart_here edition_1 out a before found.octets (parts_among edition_1 out (before + fields_of found.octets) later) low (omega arith) (edition found.octets == 1) refl
    (apart_among edition_1 out a (before + fields_of found.octets) later (omega arith) (omega arith))
apart_among edition_1 out a before (Refused refused ∷ later) low few = apart_among edition_1 out a before later low few

distinct_among : (edition_1 : Bool) (out : List ℕ) (before : ℕ) (items : List Item) → before + fields_among items < 2 ^ 64 → Distinct (parts_among edition_1 out before items)
unfolding fields_among
distinct_among edition_1 out before [] few = tt
distinct_among edition_1 out before (Accepted found ∷ later) few =
    distinct_here edition_1 out before found.octets (parts_among edition_1 out (before + fields_of found.octets) later) (omega arith) (edition found.octets == 1) refl
    (λ a low. apart_among edition_1 out a (before + fields_of found.octets) later low (omega arith))
    (distinct_among edition_1 out (before + fields_of found.octets) later (omega arith))
distinct_among edition_1 out before (Refused refused ∷ later) few = distinct_among edition_1 out before later few

-- ---- an input has no more fields than octets

few_choice : (b : Bool) (found : Found) (items : List Item) → fields_among (before_first_kept items) ≤ fields_among items
    → fields_among (choose b (λ _. []) (λ _. Accepted found ∷ before_first_kept items)) ≤ fields_among (Accepted found ∷ items)
unfolding fields_among
few_choice true found items few = omega arith
few_choice false found items few = omega arith

few_first : (items : List Item) → fields_among (before_first_kept items) ≤ fields_among items
unfolding fields_among
few_first [] = omega arith
few_first (Accepted found ∷ items) = few_choice (edition found.octets == 1) found items (few_first items)
few_first (Refused refused ∷ items) = few_first items

few_reached : (edition_1 : Bool) (instead : Option Instead) (items : List Item) → fields_among (reached edition_1 instead items) ≤ fields_among items
few_reached true instead items = omega arith
few_reached false None items = few_first items
few_reached false (Some instead) items = omega arith

module _ (profile : Profile) (place skipped n : ℕ) (octets : List ℕ) (size : n + 1 ≡ length octets) (go : ℕ → ℕ → Items) (later : (inside skipped : ℕ) → fields_among (go inside skipped).items ≤ n - inside) where
  few_refused : (waits passes : Bool) (fault : Fault) (far : Option ℕ)
      → fields_among (on_next (cond waits Unknown (cond passes (next_passed fault far) (Refuses fault))) place skipped octets go).items ≤ length octets
  unfolding fields_among
  few_refused true passes fault far = omega arith
  few_refused false false fault far = omega arith
  few_refused false true fault None = omega arith
  few_refused false true fault (Some octets_passed) = omega (arith, later (octets_passed - 1) (skipped + octets_passed), size)

  few_judged : (passes more : Bool) (j : Judgement) → judge_under profile octets ≡ j → fields_among (on_next (next_judged passes more octets j) place skipped octets go).items ≤ length octets
  unfolding fields_among
  few_judged passes more (Message total) is =
      let law = lawful (under profile (split_command false [])) (under_lawful profile (split_command false []) (split_lawful false [])) in
      let few : fields_of (take total octets) ≤ total = law.few_fields octets total is in
      let least : 4 ≤ total = law.least octets total is in
      let there : total ≤ length octets = law.there octets total is in
      let rest : fields_among (go (total - 1) skipped).items ≤ n - (total - 1) = later (total - 1) skipped in
      omega (arith, size)
  few_judged passes more (Faulty fault) is = few_refused (more && is_truncated fault.reason) passes fault (passed more octets)

few_begun : (b : Bool) (x y : Items) (n : ℕ) → (b ≡ true → fields_among x.items ≤ n) → fields_among y.items ≤ n → fields_among (choose b (λ _. x) (λ _. y)).items ≤ n
few_begun true x y n first second = first refl
few_begun false x y n first second = second

few_from : (profile : Profile) (passes more : Bool) (inside place skipped : ℕ) (octets : List ℕ) → fields_among (items_from (judge_under profile) passes more inside place skipped octets).items ≤ length octets - inside
unfolding fields_among
few_from profile passes more zero place skipped [] = omega arith
few_from profile passes more (suc inside) place skipped [] = omega arith
few_from profile passes more (suc inside) place skipped (octet ∷ octets) = let few = few_from profile passes more inside (place + 1) skipped octets in omega arith
few_from profile passes more zero place skipped (octet ∷ octets) =
    few_begun (begins (octet ∷ octets)) _ _ (length (octet ∷ octets) - 0)
    (λ begun. let few = few_judged profile place skipped (length octets) (octet ∷ octets) (omega arith) (λ inside skipped. items_from (judge_under profile) passes more inside (place + 1) skipped octets)
    (λ inside skipped. few_from profile passes more inside (place + 1) skipped octets) passes more (judge_under profile (octet ∷ octets)) refl in omega arith)
    (let few = few_from profile passes more zero (place + 1) (skipped + 1) octets in omega arith)

distinct : (profile : Profile) (edition_1 : Bool) (out : List ℕ) (policy : Policy) (more : Bool) (input : List ℕ) → length input < 2 ^ 64 → Distinct (parts_within profile edition_1 out policy more input)
distinct profile edition_1 out policy more input short =
    let found : List Item = (items_of profile policy more input).items in
    let few : fields_among found ≤ length input - 0 = few_from profile (passes policy) more 0 0 0 input in
    let fewer : fields_among (reached edition_1 policy.kept found) ≤ fields_among found = few_reached edition_1 policy.kept found in
    distinct_among edition_1 out 0 (reached edition_1 policy.kept found) (omega arith)

-- ---- the shelf

pub stands_first : (profile : Profile) (edition_1 : Bool) (out : List ℕ) (policy : Policy) (more : Bool) (octets : List ℕ) (before now : World) → length octets < 2 ^ 64
    → DidFront before now (stated_of (under profile (split_command edition_1 out)) policy more octets).acts
    → OfNames before.names now.names (λ held held_now. (count : ℕ) × StandFirst (parts_within profile edition_1 out policy more octets) held held_now count)
stands_first profile edition_1 out policy more octets before now short did =
    names_first (parts_within profile edition_1 out policy more octets) (distinct profile edition_1 out policy more octets short) _ (acts_done profile out policy edition_1 more octets) before.output now.output before.names now.names did

pub stands_all : (profile : Profile) (edition_1 : Bool) (out : List ℕ) (policy : Policy) (more : Bool) (octets : List ℕ) (before now : World) → length octets < 2 ^ 64
    → Did before now (stated_of (under profile (split_command edition_1 out)) policy more octets).acts → OfNames before.names now.names (StandAll (parts_within profile edition_1 out policy more octets))
stands_all profile edition_1 out policy more octets before now short did =
    names_all (parts_within profile edition_1 out policy more octets) (distinct profile edition_1 out policy more octets short) _ (acts_done profile out policy edition_1 more octets) before.output now.output before.names now.names did

pub read_all : (profile : Profile) (edition_1 : Bool) (out : List ℕ) (policy : Policy) (octets : List ℕ) (before now : World) → length octets < 2 ^ 64
    → Did before now ((answer_of (plan_by (under profile (split_command edition_1 out)) policy) true octets).deeds.acts ++ []) → OfNames before.names now.names (StandAll (parts_within profile edition_1 out policy true octets))
read_all profile edition_1 out policy octets before now short did =
    names_all (parts_within profile edition_1 out policy true octets) (distinct profile edition_1 out policy true octets short) _ (acts_read profile out policy edition_1 octets) before.output now.output before.names now.names did

-- ---- the fields of the parts

reached_chosen : (P : Item → Type 0) (b : Bool) (found : Found) (items : List Item) → P (Accepted found) → All P items → All P (choose b (λ _. []) (λ _. Accepted found ∷ items))
reached_chosen P true found items own all = All-nil P
reached_chosen P false found items own all = All-cons P (Accepted found) items own all

before_all : (P : Item → Type 0) (items : List Item) → All P items → All P (before_first_kept items)
before_all P [] all = All-nil P
before_all P (Refused refused ∷ items) all = All-cons P (Refused refused) (before_first_kept items) (All-head P (Refused refused) items all) (before_all P items (All-tail P (Refused refused) items all))
before_all P (Accepted found ∷ items) all =
    reached_chosen P (edition found.octets == 1) found (before_first_kept items) (All-head P (Accepted found) items all) (before_all P items (All-tail P (Accepted found) items all))

reached_all : (P : Item → Type 0) (edition_1 : Bool) (instead : Option Instead) (items : List Item) → All P items → All P (reached edition_1 instead items)
reached_all P true instead items all = all
reached_all P false None items all = before_all P items all
reached_all P false (Some instead) items all = all

pub splits : (profile : Profile) → ((message : List ℕ) (i : ℕ) → IsMessageUnder profile message → 1 ≤ i → i ≤ field_count message → CutsOut profile message i)
    → (edition_1 : Bool) (out : List ℕ) (policy : Policy) (more : Bool) (octets : List ℕ)
    → All (OfMessage (IsAccepted profile)) (items_of profile policy more octets).items → SplitsFields profile edition_1 out policy more octets
splits profile law edition_1 out policy more octets accepted =
    let all = reached_all (OfMessage (IsAccepted profile)) edition_1 policy.kept (items_of profile policy more octets).items accepted in
    let found = items_reached profile edition_1 policy more octets in
    record { alone = all_alone profile law edition_1 out 0 found all; fields = all_fields profile law edition_1 out 0 found all }
