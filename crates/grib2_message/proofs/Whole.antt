-- Whole messages: Section 0 before the sections.
use Rattle.std.proofs.Common.{◌≡◌, ◌≢◌, ℕ, ◌+◌, ◌-◌, ◌<◌, ◌≤◌, true, false, not, ◌||◌, List, [], ◌++◌, length, take, drop, All, nat_lt, ◌==◌, refl, ap, sym, ◌∙◌, arith, append_assoc, append-nil, length-append, length-take-le, take-append-drop, take-take, take_at, drop_at, ltb-false, le-ltb, eq-eqb, ne_eqb, eqb-true}
use Rattle.std.specs.List.{concat}
use Rattle.std.proofs.lemmas.Bool.{and_left, and_right, or_parts, or_from, not-false, not_from_true, not_from_false}
use Rattle.std.proofs.lemmas.List.{drop-take}
use Rattle.grib_bits.specs.Octets.{octets, num_on}
use Rattle.grib_base.specs.declared.profile.Profile.{Profile}
use Rattle.grib_base.specs.Rules.{first_fault}
use Rattle.grib2_sections.specs.Verdict.{Accepted}
use Rattle.grib2_sections.specs.Head.{indicator, end_mark, edition, total_length, total_length_1, head_rules}
use Rattle.grib2_message.specs.Acceptance.{verdict_under, verdict_from}
use Rattle.grib2_message.specs.Grammar.{GrammarUnder}
use Rattle.grib2_message.specs.Fields.{sections_of}
use Rattle.grib2_message.proofs.Passed.{AllPass, passes_from_none, none_from_passes, unless_tells, unless_none}
use Rattle.grib2_message.proofs.Walk.{Found, walked, second_fails}
use Rattle.grib2_message.proofs.Joined.{Stand, rejoined}
use Rattle.grib2_message.proofs.Placing.{placed_from, found_from}

-- the number of some octets within the front of a message is that in the whole
pub octets_of_front : (m : List ℕ) (n first last : ℕ) → 1 ≤ first → first ≤ last → last ≤ n → octets (take n m) first last ≡ octets m first last
octets_of_front m n first last low order within =
    let split : n ≡ (first - 1) + (n - (first - 1)) = omega arith in
    let fits : last + 1 - first ≤ n - (first - 1) = omega arith in
    ap (λ k. num_on 0 (take (last + 1 - first) (drop (first - 1) (take k m)))) split
    ∙ (ap (λ xs. num_on 0 (take (last + 1 - first) xs)) (drop-take (first - 1) (n - (first - 1)) m)
    ∙ ap (num_on 0) (take-take (last + 1 - first) (n - (first - 1)) (drop (first - 1) m) fits))

-- and that before whatever comes after
pub octets_before : (message after : List ℕ) (first last : ℕ) → 1 ≤ first → first ≤ last → last ≤ length message
    → octets (message ++ after) first last ≡ octets message first last
octets_before message after first last low order within =
    sym (octets_of_front (message ++ after) (length message) first last low order within)
    ∙ ap (λ xs. octets xs first last) (take_at message after (length message) refl)

-- what the rules of Section 0 say of edition 2 where they pass
pub record HeadPasses (m : List ℕ) : Type 0 where
  pub second_edition : edition m ≡ 2
  pub there : 16 ≤ length m
  pub least : 20 ≤ total_length m
  pub most : total_length m ≤ 268435456

-- they say so where the edition is not 1
pub head_passes : (m : List ℕ) → edition m ≢ 1 → AllPass (head_rules m) → HeadPasses m
head_passes m other p =
    let is_other : (edition m == 1) ≡ false = ne_eqb (edition m) 1 other in
    let is_second : (edition m == 2) ≡ true =
    not-false (edition m == 2) (second_fails (not (edition m == 1)) (not (edition m == 2)) p.1.0 (not_from_false (edition m == 1) is_other)) in
    let bounds = or_parts (nat_lt (total_length m) 20) (nat_lt 268435456 (total_length m))
    (second_fails (edition m == 2) (nat_lt (total_length m) 20 || nat_lt 268435456 (total_length m)) p.1.1.1.0 is_second) in
    record {
      second_edition = eqb-true (edition m) 2 is_second;
      there = ltb-false (length m) 16 (second_fails (edition m == 2) (nat_lt (length m) 16) p.1.1.0 is_second);
      least = ltb-false (total_length m) 20 bounds.0;
      most = ltb-false 268435456 (total_length m) bounds.1;
    }

-- and they pass where that is so
pub head_pass : (m : List ℕ) → edition m ≡ 2 → 16 ≤ length m → 20 ≤ total_length m → total_length m ≤ 268435456 → AllPass (head_rules m)
head_pass m second there least most =
    let not_first : (edition m == 1) ≡ false = ne_eqb (edition m) 1 (λ same. omega arith) in
    let is_second : (edition m == 2) ≡ true = eq-eqb (edition m) 2 second in (
      le-ltb (length m) 8 (omega arith),
      (
        and_right (not (edition m == 1)) (not (edition m == 2)) (not_from_true (edition m == 2) is_second),
        (
          and_right (edition m == 2) (nat_lt (length m) 16) (le-ltb (length m) 16 there),
          (
            and_right (edition m == 2) (nat_lt (total_length m) 20 || nat_lt 268435456 (total_length m))
                (or_from (nat_lt (total_length m) 20) (nat_lt 268435456 (total_length m)) (le-ltb (total_length m) 20 least) (le-ltb 268435456 (total_length m) most)),
            (and_left (edition m == 1) (nat_lt (total_length_1 m) 12) not_first, tt),
          ),
        ),
      ),
    )

-- a front, sections and an End Section, and what comes after
regroup : (front body after : List ℕ) → ((front ++ body) ++ end_mark) ++ after ≡ front ++ ((body ++ end_mark) ++ after)
regroup front body after = simp append_assoc

-- sections after 16 octets are in the grammar with them
in_grammar : (profile : Profile) (rest : List ℕ) (total : ℕ) → take 4 rest ≡ indicator → HeadPasses rest → (f : Found profile rest [] 17 total)
    → (total ≤ length rest) × GrammarUnder profile (take total rest) f.sections
in_grammar profile rest total starts p f =
    let body : List ℕ = concat f.sections in
    let front : List ℕ = take 16 rest in
    let sixteen : length front ≡ 16 = length-take-le 16 rest p.there in
    let whole : rest ≡ ((front ++ body) ++ end_mark) ++ f.after =
    sym (take-append-drop 16 rest) ∙ (ap (λ xs. front ++ xs) f.joined ∙ sym (regroup front body f.after)) in
    let size : length ((front ++ body) ++ end_mark) ≡ total =
    length-append (front ++ body) end_mark ∙ (let e : length (front ++ body) + 4 ≡ total = omega (arith, length-append front body, f.ends, sixteen) in e) in
    let within : total ≤ length rest =
    omega (arith, ap length whole, length-append ((front ++ body) ++ end_mark) f.after, size) in
    let is : take total rest ≡ (front ++ body) ++ end_mark =
    ap (take total) whole ∙ take_at ((front ++ body) ++ end_mark) f.after total size in
    let enough : 20 ≤ total = omega (arith, f.states, p.least) in
    let sixteen_in : take 16 (take total rest) ≡ front = take-take 16 total rest (omega arith) in
    let long : length (take total rest) ≡ total = length-take-le total rest within in (
      within,
      record {
        joined = is ∙ ap (λ xs. (xs ++ body) ++ end_mark) (sym sixteen_in);
        indicated = take-take 4 total rest (omega arith) ∙ starts;
        edition_stands = octets_of_front rest total 8 8 (omega arith) (omega arith) (omega arith) ∙ p.second_edition;
        total_stands = octets_of_front rest total 9 16 (omega arith) (omega arith) (omega arith) ∙ (f.states ∙ sym long);
        least = omega (arith, long, enough);
        most = omega (arith, long, f.states, p.most);
        sections_follow = f.follow;
      },
    )

-- what is accepted is in the grammar
pub accepted_in_grammar : (profile : Profile) (rest : List ℕ) (total : ℕ) → All (λ octet. octet < 256) (take total rest) → take 4 rest ≡ indicator → edition rest ≢ 1
    → verdict_under profile rest ≡ Accepted total → (sections : List (List ℕ)) × (total ≤ length rest) × GrammarUnder profile (take total rest) sections
accepted_in_grammar profile rest total small starts other e =
    let told = unless_tells (first_fault (head_rules rest)) (λ _. verdict_from profile (length rest + 1) rest [] 17) total e in
    let p = head_passes rest other (passes_from_none (head_rules rest) told.0) in
    let f = walked profile (length rest + 1) rest [] 17 total small (omega arith) (omega (arith, p.least)) told.1 in
    let g = in_grammar profile rest total starts p f in
    (f.sections, g.0, g.1)

-- the sections of a message stand from octet 17 on, whatever comes after it
stand_after : (profile : Profile) (message after : List ℕ) (sections : List (List ℕ)) → GrammarUnder profile message sections → Stand (message ++ after) 17 (length message) sections after
stand_after profile message after sections g =
    let front : List ℕ = take 16 message in
    let sixteen : length front ≡ 16 = length-take-le 16 message (omega (arith, g.least)) in
    let whole : message ++ after ≡ front ++ ((concat sections ++ end_mark) ++ after) =
    ap (λ xs. xs ++ after) g.joined ∙ regroup front (concat sections) after in
    let size : length message ≡ (16 + length (concat sections)) + 4 =
    ap length g.joined ∙ (length-append (front ++ concat sections) end_mark
    ∙ (let e : length (front ++ concat sections) + 4 ≡ (16 + length (concat sections)) + 4 = omega (arith, length-append front (concat sections), sixteen) in e)) in
    record {
      joined = ap (drop 16) whole ∙ drop_at front ((concat sections ++ end_mark) ++ after) 16 sixteen;
      low = omega arith;
      ends = omega (arith, size);
      most = g.most;
    }

-- what is in the grammar is accepted, whatever comes after it
pub grammar_accepted : (profile : Profile) (message after : List ℕ) (sections : List (List ℕ)) → GrammarUnder profile message sections
    → verdict_under profile (message ++ after) ≡ Accepted (length message)
grammar_accepted profile message after sections g =
    let m : List ℕ = message ++ after in
    let long : length m ≡ length message + length after = length-append message after in
    let least : 20 ≤ length message = g.least in
    let stands : total_length m ≡ length message = octets_before message after 9 16 (omega arith) (omega arith) (omega arith) ∙ g.total_stands in
    let second : edition m ≡ 2 = octets_before message after 8 8 (omega arith) (omega arith) (omega arith) ∙ g.edition_stands in
    let head = head_pass m second (omega arith) (omega arith) (omega (arith, g.most)) in
    let s = stand_after profile message after sections g in
    let h : Stand m 17 (total_length m) sections after = rw stands s in
    unless_none (first_fault (head_rules m)) (λ _. verdict_from profile (length m + 1) m [] 17) (none_from_passes (head_rules m) head)
    ∙ (rejoined profile sections (length m + 1) m [] 17 after g.sections_follow h (omega (arith, s.ends)) ∙ ap Accepted stands)

-- the sections that are found are those of the grammar, with their places, whatever comes after the message
pub sections_placed : (profile : Profile) (message after : List ℕ) (sections : List (List ℕ)) → GrammarUnder profile message sections
    → sections_of (message ++ after) ≡ placed_from 17 sections
sections_placed profile message after sections g =
    let s = stand_after profile message after sections g in
    found_from profile sections (length (message ++ after)) (message ++ after) [] 17 (length message) after g.sections_follow s
    (omega (arith, s.ends, length-append message after))

-- and where nothing comes after it
pub sections_alone : (profile : Profile) (message : List ℕ) (sections : List (List ℕ)) → GrammarUnder profile message sections → sections_of message ≡ placed_from 17 sections
sections_alone profile message sections g = ap sections_of (sym (append-nil message)) ∙ sections_placed profile message [] sections g
