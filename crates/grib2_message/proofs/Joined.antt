-- Sections one after another, and the End Section, are accepted by the walk.
use Rattle.std.proofs.Common.{◌≡◌, ℕ, zero, suc, ◌+◌, ◌-◌, ◌<◌, ◌≤◌, true, false, not, IsTrue, None, List, [], ◌∷◌, ◌++◌, length, take, drop, nat_lt, ◌==◌, refl, ap, sym, ◌∙◌, arith, append_assoc, length-drop, length-append, drop-drop, take_at, drop_at, le-ltb, eq-eqb, ne_eqb}
use Rattle.std.specs.List.{concat}
use Rattle.std.proofs.lemmas.Bool.{and_left, and_right, or_from, not_from_true}
use Rattle.std.proofs.lemmas.List.{take-append-le, drop-append-le}
use Rattle.grib_bits.specs.Octets.{octets, num_on}
use Rattle.grib_base.specs.declared.profile.Profile.{Profile}
use Rattle.grib_base.specs.Rules.{first_fault}
use Rattle.grib2_sections.specs.Verdict.{Accepted}
use Rattle.grib2_sections.specs.Head.{total_length, end_mark}
use Rattle.grib2_sections.specs.Frame.{Placed, placed_at, section_at, section_length, section_number, may_follow, may_end, ends_at, mark_rules, frame_rules}
use Rattle.grib2_message.specs.View.{last_number}
use Rattle.grib2_message.specs.Acceptance.{section_fault_under, verdict_from}
use Rattle.grib2_message.specs.Grammar.{IsSection, AreSections}
use Rattle.grib2_message.proofs.Passed.{AllPass, none_from_passes, mark_ends, mark_goes, unless_none}
use Rattle.grib2_message.proofs.Parts.{from, four_at, fifth_at, section_is}
use Rattle.grib2_message.proofs.Steps.{here, after_section, at_contents, at_section, walk_is}

-- sections, the End Section and whatever comes after stand from octet q on, and end with octet
-- `total`
pub record Stand (m : List ℕ) (q total : ℕ) (sections : List (List ℕ)) (after : List ℕ) : Type 0 where
  pub joined : from q m ≡ (concat sections ++ end_mark) ++ after
  pub low : 1 ≤ q
  pub ends : q + length (concat sections) + 3 ≡ total
  pub most : total ≤ 268435456

-- the first section, the others, the End Section and what comes after it
apart : (s body after : List ℕ) → ((s ++ body) ++ end_mark) ++ after ≡ s ++ ((body ++ end_mark) ++ after)
apart s body after = simp append_assoc

-- the message has the octets up to its End Section
long_enough : (m : List ℕ) (q total : ℕ) (sections : List (List ℕ)) (after : List ℕ) → Stand m q total sections after → total ≤ length m
long_enough m q total sections after h =
    let e : length (from q m) ≡ (length (concat sections) + 4) + length after =
    ap length h.joined ∙ (length-append (concat sections ++ end_mark) after ∙ ap (λ n. n + length after) (length-append (concat sections) end_mark)) in
    omega (arith, h.low, h.ends, length-drop (q - 1) m, e)

-- where no section is left, the End Section stands at q
pub ends_here : (m : List ℕ) (q total : ℕ) (after : List ℕ) → Stand m q total [] after → ends_at m q ≡ true
ends_here m q total after h =
    eq-eqb (octets m q (q + 3)) 926365495 (ap (num_on 0) (four_at m q) ∙ ap (λ xs. num_on 0 (take 4 xs)) h.joined)

-- and the rules of a mark pass there
pub marks_pass : (m : List ℕ) (total last q : ℕ) → ends_at m q ≡ true → q + 3 ≡ total → total ≤ length m → IsTrue (may_end last)
    → AllPass (mark_rules m total last q)
marks_pass m total last q ends at long may = (
  le-ltb (length m) (q + 3) (omega arith),
  (
    and_right (ends_at m q) (not (may_end last)) (not_from_true (may_end last) may),
    (
      and_right (ends_at m q) (nat_lt (q + 3) total) (le-ltb (q + 3) total (omega arith)),
      (and_left (not (ends_at m q)) (q + 3 == total) (not_from_true (ends_at m q) ends), tt),
    ),
  ),
)

-- what is so where a section stands at q before others
pub record Begins (m : List ℕ) (q total : ℕ) (s : List ℕ) (sections : List (List ℕ)) (after : List ℕ) : Type 0 where
  pub goes : ends_at m q ≡ false
  pub states : octets m q (q + 3) ≡ length s
  pub numbered : octets m (q + 4) (q + 4) ≡ section_number s
  pub is : section_at m q ≡ s
  pub more : Stand m (q + length s) total sections after

-- it is so where the section states its own length
pub begins : (m : List ℕ) (q total : ℕ) (s : List ℕ) (sections : List (List ℕ)) (after : List ℕ)
    → section_length s ≡ length s → 5 ≤ length s → Stand m q total (s ∷ sections) after → Begins m q total s sections after
begins m q total s sections after length_stands least h =
    let rest : List ℕ = (concat sections ++ end_mark) ++ after in
    let joined : from q m ≡ s ++ rest = h.joined ∙ apart s (concat sections) after in
    let states : octets m q (q + 3) ≡ length s =
    ap (num_on 0) (four_at m q) ∙ (ap (λ xs. num_on 0 (take 4 xs)) joined
    ∙ (ap (num_on 0) (take-append-le 4 s rest (omega arith)) ∙ length_stands)) in
    let fifth : 1 ≤ length (drop 4 s) = omega (arith, length-drop 4 s) in
    let numbered : octets m (q + 4) (q + 4) ≡ section_number s =
    ap (num_on 0) (fifth_at m q h.low) ∙ (ap (λ xs. num_on 0 (take 1 (drop 4 xs))) joined
    ∙ (ap (λ xs. num_on 0 (take 1 xs)) (drop-append-le 4 s rest (omega arith)) ∙ ap (num_on 0) (take-append-le 1 (drop 4 s) rest fifth))) in
    let bounded : length s < 926365495 = omega (arith, h.ends, h.most, length-append s (concat sections)) in
    record {
      goes = ne_eqb (octets m q (q + 3)) 926365495 (λ same. omega arith);
      states = states;
      numbered = numbered;
      is = section_is m q (length s) h.low states ∙ (ap (take (length s)) joined ∙ take_at s rest (length s) refl);
      more = record {
        joined =
            ap (λ k. drop k m) (let e : (q + length s) - 1 ≡ (q - 1) + length s = omega (arith, h.low) in e)
            ∙ (sym (drop-drop (length s) (q - 1) m) ∙ (ap (drop (length s)) joined ∙ drop_at s rest (length s) refl));
        low = omega (arith, h.low);
        ends = omega (arith, h.ends, length-append s (concat sections));
        most = h.most;
      };
    }

-- the rules of a mark pass where no End Section stands, before the end
pub goes_pass : (m : List ℕ) (total last q : ℕ) → ends_at m q ≡ false → q + 3 < total → total ≤ length m
    → AllPass (mark_rules m total last q)
goes_pass m total last q goes before_end long = (
  le-ltb (length m) (q + 3) (omega arith),
  (
    and_left (ends_at m q) (not (may_end last)) goes,
    (
      and_left (ends_at m q) (nat_lt (q + 3) total) goes,
      (and_right (not (ends_at m q)) (q + 3 == total) (ne_eqb (q + 3) total (λ same. omega arith)), tt),
    ),
  ),
)

-- and the rules of a frame pass where the section may follow and has room
pub frame_pass : (m : List ℕ) (total last q l number : ℕ) → octets m q (q + 3) ≡ l → octets m (q + 4) (q + 4) ≡ number
    → 1 ≤ q → 5 ≤ l → q - 1 + l + 4 ≤ total → total ≤ length m → IsTrue (may_follow last number)
    → AllPass (frame_rules m total last q)
frame_pass m total last q l number states numbered low least room long follows = (
  le-ltb (length m) (q + 4) (omega arith),
  (
    or_from (nat_lt (octets m q (q + 3)) 5) (nat_lt total (q - 1 + octets m q (q + 3) + 4))
        (le-ltb (octets m q (q + 3)) 5 (omega arith)) (le-ltb total (q - 1 + octets m q (q + 3) + 4) (omega arith)),
    (
      not_from_true (may_follow last (octets m (q + 4) (q + 4))) (ap (may_follow last) numbered ∙ follows),
      (le-ltb (length m) (q - 1 + octets m q (q + 3)) (omega arith), tt),
    ),
  ),
)

-- the walk goes on after a section that no rule refuses
pub goes_on : (profile : Profile) (turns : ℕ) (m : List ℕ) (before : List Placed) (q : ℕ) → ends_at m q ≡ false
    → AllPass (mark_rules m (total_length m) (last_number before) q) → AllPass (frame_rules m (total_length m) (last_number before) q)
    → section_fault_under profile before (here m q) ≡ None → verdict_from profile (suc turns) m before q ≡ after_section profile turns m before q
goes_on profile turns m before q goes marks frame contents =
    let mark = none_from_passes (mark_rules m (total_length m) (last_number before) q) marks in
    let framed = none_from_passes (frame_rules m (total_length m) (last_number before) q) frame in
    walk_is profile turns m before q
    ∙ mark_goes (first_fault (mark_rules m (total_length m) (last_number before) q)) (ends_at m q) (total_length m) (λ _. at_section profile turns m before q) mark goes
    ∙ (unless_none (first_fault (frame_rules m (total_length m) (last_number before) q)) (λ _. at_contents profile turns m before q) framed
    ∙ unless_none (section_fault_under profile before (here m q)) (λ _. after_section profile turns m before q) contents)

-- the walk ends at the End Section
pub stops : (profile : Profile) (turns : ℕ) (m : List ℕ) (before : List Placed) (q : ℕ) → ends_at m q ≡ true
    → AllPass (mark_rules m (total_length m) (last_number before) q) → verdict_from profile (suc turns) m before q ≡ Accepted (total_length m)
stops profile turns m before q ends marks =
    walk_is profile turns m before q
    ∙ mark_ends (first_fault (mark_rules m (total_length m) (last_number before) q)) (ends_at m q) (total_length m) (λ _. at_section profile turns m before q)
    (none_from_passes (mark_rules m (total_length m) (last_number before) q) marks) ends

-- the walk over a section, where it stands before others
steps_over : (profile : Profile) (turns : ℕ) (m : List ℕ) (before : List Placed) (q : ℕ) (s : List ℕ) (sections : List (List ℕ)) (after : List ℕ)
    → IsSection profile before q s → Stand m q (total_length m) (s ∷ sections) after → Begins m q (total_length m) s sections after
    → verdict_from profile (suc turns) m before q ≡ verdict_from profile turns m (placed_at q s ∷ before) (q + length s)
steps_over profile turns m before q s sections after is h b =
    let long : total_length m ≤ length m = long_enough m q (total_length m) (s ∷ sections) after h in
    let least : 5 ≤ length s = is.least in
    let low : 1 ≤ q = h.low in
    let ends : q + length (s ++ concat sections) + 3 ≡ total_length m = h.ends in
    let room : q - 1 + length s + 4 ≤ total_length m = omega (arith, length-append s (concat sections)) in
    let marks = goes_pass m (total_length m) (last_number before) q b.goes (omega arith) long in
    let frame = frame_pass m (total_length m) (last_number before) q (length s) (section_number s) b.states b.numbered low least room long is.follows in
    let contents : section_fault_under profile before (here m q) ≡ None = ap (λ x. section_fault_under profile before (placed_at q x)) b.is ∙ is.rules_hold in
    goes_on profile turns m before q b.goes marks frame contents
    ∙ ap (λ x. verdict_from profile turns m (placed_at q x ∷ before) (q + length x)) b.is

-- sections that stand from octet q on are accepted
pub rejoined : (profile : Profile) (sections : List (List ℕ)) (turns : ℕ) (m : List ℕ) (before : List Placed) (q : ℕ) (after : List ℕ)
    → AreSections profile before q sections → Stand m q (total_length m) sections after → length (concat sections) < turns
    → verdict_from profile turns m before q ≡ Accepted (total_length m)
rejoined profile sections zero m before q after follow h more = absurd (omega arith)
rejoined profile [] (suc turns) m before q after follow h more =
    let ends = ends_here m q (total_length m) after h in
    stops profile turns m before q ends (marks_pass m (total_length m) (last_number before) q ends (omega (arith, h.ends)) (long_enough m q (total_length m) [] after h) follow)
rejoined profile (s ∷ sections) (suc turns) m before q after follow h more =
    let is = follow.0 in
    let b = begins m q (total_length m) s sections after is.length_stands is.least h in
    steps_over profile turns m before q s sections after is h b
    ∙ rejoined profile sections turns m (placed_at q s ∷ before) (q + length s) after follow.1 b.more (omega (arith, is.least, length-append s (concat sections)))
