-- An accepted message is Section 0, its sections, each where the grammar lets it stand, and the End
-- Section.
use Rattle.std.proofs.Common.{◌≡◌, ◌≢◌, ℕ, zero, suc, ◌+◌, ◌≤◌, false, List, [], ◌∷◌, ◌++◌, length, take, inl, inr, sym, ap, ◌∙◌, arith, append_assoc, length-append, take_at}
use Rattle.std.proofs.lemmas.List.{take-append-le}
use Rattle.std.specs.List.{concat}
use Rattle.grib_base.specs.declared.profile.Profile.{Profile}
use Rattle.grib_base.specs.Rules.{first_fault}
use Rattle.grib2_sections.specs.Verdict.{Accepted}
use Rattle.grib2_sections.specs.Head.{indicator, end_mark, edition, total_length, head_rules}
use Rattle.grib2_sections.specs.Frame.{Placed, section_at, ends_at}
use Rattle.grib2_message.specs.View.{last_number}
use Rattle.grib2_message.specs.Acceptance.{verdict_from}
use Rattle.grib2_message.specs.Grammar.{AreSections, GrammarUnder}
use Rattle.grib2_message.specs.Fields.{sections_from}
use Rattle.grib2_message.specs.Message.{IsMessageUnder}
use Rattle.grib2_message.proofs.Passed.{passes_from_none, unless_tells}
use Rattle.grib2_message.proofs.Steps.{here, step_tells}
use Rattle.grib2_message.proofs.Walk.{mark_passes, frame_passes, stands}
use Rattle.grib2_message.proofs.Placing.{placed_from, none_found, some_found}
use Rattle.grib2_message.proofs.Fronts.{accepted_states}
use Rattle.grib2_message.proofs.Whole.{octets_before, head_passes}

-- the sections that stand from octet q on
pub record Parted (profile : Profile) (m : List ℕ) (before : List Placed) (q turns : ℕ) : Type 0 where
  pub sections : List (List ℕ)
  pub follow : AreSections profile before q sections
  pub found : sections_from turns m q ≡ placed_from q sections
  pub ends : q + length (concat sections) + 3 ≡ total_length m

-- a section before those that were found
parted_more : (profile : Profile) (m : List ℕ) (before : List Placed) (q turns : ℕ) → ends_at m q ≡ false → (f : Parted profile m (here m q ∷ before) (q + length (section_at m q)) turns)
    → AreSections profile before q (section_at m q ∷ f.sections) → Parted profile m before q (suc turns)
parted_more profile m before q turns goes f follow = record {
  sections = section_at m q ∷ f.sections;
  follow = follow;
  found = some_found (ends_at m q) (λ _. here m q ∷ sections_from turns m (q + length (section_at m q))) goes ∙ ap (λ xs. here m q ∷ xs) f.found;
  ends = omega (arith, f.ends, length-append (section_at m q) (concat f.sections));
}

-- the walk that accepts finds them
pub parted : (profile : Profile) (turns more : ℕ) (m : List ℕ) (before : List Placed) (q total : ℕ) → verdict_from profile turns m before q ≡ Accepted total → 1 ≤ q
    → q + 3 ≤ total_length m → total_length m ≤ q + more → Parted profile m before q more
parted profile zero more m before q total e low room enough = cc
parted profile (suc turns) zero m before q total e low room enough = absurd (omega arith)
parted profile (suc turns) (suc more) m before q total e low room enough =
    let told = step_tells profile turns m before q total e in
    let mark = mark_passes m (total_length m) (last_number before) q told.0 in
    elim told.1 [
      | inl ended ↦ record {
        sections = [];
        follow = mark.may_end ended.ends;
        found = none_found (ends_at m q) (λ _. here m q ∷ sections_from more m (q + length (section_at m q))) ended.ends;
        ends = (let last = mark.at_end ended.ends in omega arith);
      }
      | inr went ↦
          let frame = frame_passes m (total_length m) (last_number before) q went.frame in
          let s = stands profile m before q (total_length m) low frame went.contents in
          let f = parted profile turns more m (here m q ∷ before) (q + length (section_at m q)) total went.next (omega arith)
          (omega (arith, s.as_long, frame.room)) (omega (arith, s.as_long, frame.least)) in
          parted_more profile m before q more went.goes f (s.is_section, f.follow)
    ]

-- the edition of a message is not 1
pub second_edition : (profile : Profile) (m : List ℕ) → IsMessageUnder profile m → edition m ≢ 1
second_edition profile m h first = absurd (omega (arith, h.edition_stands))

pub message_states : (profile : Profile) (m : List ℕ) → IsMessageUnder profile m → total_length m ≡ length m
message_states profile m h = accepted_states profile m (length m) (second_edition profile m h) h.accepted

-- the sections of a message
pub message_parted : (profile : Profile) (m : List ℕ) → IsMessageUnder profile m → Parted profile m [] 17 (length m)
message_parted profile m h =
    let told = unless_tells (first_fault (head_rules m)) (λ _. verdict_from profile (length m + 1) m [] 17) (length m) h.accepted in
    let p = head_passes m (second_edition profile m h) (passes_from_none (head_rules m) told.0) in
    parted profile (length m + 1) (length m) m [] 17 (length m) told.1 (omega arith) (omega (arith, p.least)) (omega (arith, message_states profile m h))

-- sixteen octets that may be Section 0 of a message of this length
pub record IsHead (head : List ℕ) (total : ℕ) : Type 0 where
  pub as_long : length head ≡ 16
  pub indicated : take 4 head ≡ indicator
  pub edition_stands : edition head ≡ 2
  pub total_stands : total_length head ≡ total

-- it has 20 octets at least
pub message_least : (profile : Profile) (m : List ℕ) → IsMessageUnder profile m → 20 ≤ length m
message_least profile m h =
    let told = unless_tells (first_fault (head_rules m)) (λ _. verdict_from profile (length m + 1) m [] 17) (length m) h.accepted in
    let p = head_passes m (second_edition profile m h) (passes_from_none (head_rules m) told.0) in
    omega (arith, p.least, message_states profile m h)

-- Section 0, sections that may follow one another, and the End Section are in the grammar
pub joined_grammar : (profile : Profile) (head : List ℕ) (sections : List (List ℕ)) → IsHead head (16 + length (concat sections) + 4) → 16 + length (concat sections) + 4 ≤ 268435456
    → AreSections profile [] 17 sections → GrammarUnder profile (head ++ (concat sections ++ end_mark)) sections
joined_grammar profile head sections h most follow =
    let body : List ℕ = concat sections in
    let m : List ℕ = head ++ (body ++ end_mark) in
    let sixteen : length head ≡ 16 = h.as_long in
    let long : length m ≡ 16 + length body + 4 = omega (arith, length-append head (body ++ end_mark), length-append body end_mark) in
    let front : take 16 m ≡ head = take_at head (body ++ end_mark) 16 sixteen in
    record {
      joined = sym (append_assoc head body end_mark) ∙ ap (λ (xs : List ℕ). (xs ++ body) ++ end_mark) (sym front);
      indicated = take-append-le 4 head (body ++ end_mark) (omega arith) ∙ h.indicated;
      edition_stands = octets_before head (body ++ end_mark) 8 8 (omega arith) (omega arith) (omega arith) ∙ h.edition_stands;
      total_stands = octets_before head (body ++ end_mark) 9 16 (omega arith) (omega arith) (omega arith) ∙ h.total_stands ∙ sym long;
      least = omega arith;
      most = omega arith;
      sections_follow = follow;
    }

-- and 268,435,456 at most
pub message_most : (profile : Profile) (m : List ℕ) → IsMessageUnder profile m → length m ≤ 268435456
message_most profile m h =
    let told = unless_tells (first_fault (head_rules m)) (λ _. verdict_from profile (length m + 1) m [] 17) (length m) h.accepted in
    let p = head_passes m (second_edition profile m h) (passes_from_none (head_rules m) told.0) in
    omega (arith, p.most, message_states profile m h)
