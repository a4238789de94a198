-- What the walk accepts is sections one after another, and the End Section.
use Rattle.std.proofs.Common.{◌≡◌, ℕ, zero, suc, ◌+◌, ◌-◌, ◌<◌, ◌≤◌, Bool, true, false, not, ◌&&◌, IsTrue, None, List, [], ◌∷◌, ◌++◌, length, take, drop, All, nat_lt, inl, inr, refl, ap, sym, ◌∙◌, arith, append_assoc, length-drop, length-take-le, length-append, take-append-drop, drop-drop, ltb-false, eqb-true}
use Rattle.std.specs.List.{concat}
use Rattle.std.proofs.lemmas.Bool.{or_parts, not-false}
use Rattle.std.proofs.lemmas.List.Elements.{All-drop, All-same}
use Rattle.std.proofs.lemmas.List.{drop-take}
use Rattle.grib_base.specs.declared.profile.Profile.{Profile}
use Rattle.grib_bits.specs.Octets.{octets, num_on}
use Rattle.grib2_sections.specs.Verdict.{Accepted}
use Rattle.grib2_sections.specs.Head.{total_length, end_mark}
use Rattle.grib2_sections.specs.Frame.{Placed, section_at, section_length, section_number, may_follow, may_end, ends_at, mark_rules, frame_rules}
use Rattle.grib2_message.specs.View.{last_number}
use Rattle.grib2_message.specs.Acceptance.{section_fault_under, verdict_from}
use Rattle.grib2_message.specs.Grammar.{IsSection, AreSections}
use Rattle.grib2_message.proofs.Passed.{AllPass}
use Rattle.grib2_message.proofs.Parts.{from, four_at, fifth_at, section_is, front_length, front_number, mark_from_number}
use Rattle.grib2_message.proofs.Steps.{here, Ended, step_tells}

-- where two tests do not both hold and the first does, the second does not
pub second_fails : (a b : Bool) → (a && b) ≡ false → a ≡ true → b ≡ false
second_fails true b e on = e
second_fails false b e on = cc

-- and where its opposite does not, it does
second_holds : (a b : Bool) → (a && not b) ≡ false → a ≡ true → b ≡ true
second_holds a b e on = not-false b (second_fails a (not b) e on)

-- what the rules of a mark say where they pass
pub record MarkPasses (m : List ℕ) (total last q : ℕ) : Type 0 where
  pub there : q + 3 ≤ length m
  pub may_end : ends_at m q ≡ true → IsTrue (may_end last)
  pub at_end : ends_at m q ≡ true → total ≤ q + 3

-- they say so
pub mark_passes : (m : List ℕ) (total last q : ℕ) → AllPass (mark_rules m total last q) → MarkPasses m total last q
mark_passes m total last q p = record {
  there = ltb-false (length m) (q + 3) p.0;
  may_end = λ ends. second_holds (ends_at m q) (may_end last) p.1.0 ends;
  at_end = λ ends. ltb-false (q + 3) total (second_fails (ends_at m q) (nat_lt (q + 3) total) p.1.1.0 ends);
}

-- and what the rules of a frame say
pub record FramePasses (m : List ℕ) (total last q : ℕ) : Type 0 where
  pub least : 5 ≤ octets m q (q + 3)
  pub room : q - 1 + octets m q (q + 3) + 4 ≤ total
  pub follows : IsTrue (may_follow last (octets m (q + 4) (q + 4)))
  pub there : q - 1 + octets m q (q + 3) ≤ length m

-- they say so
pub frame_passes : (m : List ℕ) (total last q : ℕ) → AllPass (frame_rules m total last q) → FramePasses m total last q
frame_passes m total last q p =
    let sized = or_parts (nat_lt (octets m q (q + 3)) 5) (nat_lt total (q - 1 + octets m q (q + 3) + 4)) p.1.0 in
    record {
      least = ltb-false (octets m q (q + 3)) 5 sized.0;
      room = ltb-false total (q - 1 + octets m q (q + 3) + 4) sized.1;
      follows = not-false (may_follow last (octets m (q + 4) (q + 4))) p.1.1.0;
      there = ltb-false (length m) (q - 1 + octets m q (q + 3)) p.1.1.1.0;
    }

-- sections from octet q on, and the End Section, and whatever comes after
pub record Found (profile : Profile) (m : List ℕ) (before : List Placed) (q total : ℕ) : Type 0 where
  pub sections : List (List ℕ)
  pub after : List ℕ
  pub follow : AreSections profile before q sections
  pub joined : from q m ≡ (concat sections ++ end_mark) ++ after
  pub ends : q + length (concat sections) + 3 ≡ total
  pub states : total_length m ≡ total

-- the last n octets of a front
last_octets : (before n whole : ℕ) (m : List ℕ) → whole ≡ before + n → drop before (take whole m) ≡ take n (drop before m)
last_octets before n whole m e = ap (λ k. drop before (take k m)) e ∙ drop-take before n m

-- none but the End Section, where it stands at q
found_end : (profile : Profile) (m : List ℕ) (before : List Placed) (q total : ℕ) → 1 ≤ q → All (λ octet. octet < 256) (take total m) → q + 3 ≤ total_length m
    → MarkPasses m (total_length m) (last_number before) q → Ended m q total → Found profile m before q total
found_end profile m before q total low small room p e =
    let long : 4 ≤ length (from q m) = omega (arith, length-drop (q - 1) m, p.there) in
    let number : num_on 0 (take 4 (from q m)) ≡ 926365495 = ap (num_on 0) (sym (four_at m q)) ∙ eqb-true (octets m q (q + 3)) 926365495 e.ends in
    let ends : total_length m ≤ q + 3 = p.at_end e.ends in
    let last_four : drop (q - 1) (take total m) ≡ take 4 (from q m) = last_octets (q - 1) 4 total m (omega (arith, e.states)) in
    let below : All (λ octet. octet < 256) (take 4 (from q m)) =
    All-same (λ octet. octet < 256) (take 4 (from q m)) (drop (q - 1) (take total m)) (sym last_four) (All-drop (λ octet. octet < 256) (q - 1) (take total m) small) in
    let stands : take 4 (from q m) ≡ end_mark = mark_from_number (from q m) long below number in
    record {
      sections = [];
      after = drop 4 (from q m);
      follow = p.may_end e.ends;
      joined = sym (take-append-drop 4 (from q m)) ∙ ap (λ xs. xs ++ drop 4 (from q m)) stands;
      ends = omega (arith, e.states);
      states = e.states;
    }

-- the section at q may stand there, and what is left from its end on comes after it
pub record Stands (profile : Profile) (m : List ℕ) (before : List Placed) (q : ℕ) : Type 0 where
  pub is_section : IsSection profile before q (section_at m q)
  pub as_long : length (section_at m q) ≡ octets m q (q + 3)
  pub joined : from q m ≡ section_at m q ++ from (q + length (section_at m q)) m

-- it is so where no rule refuses it
pub stands : (profile : Profile) (m : List ℕ) (before : List Placed) (q total : ℕ) → 1 ≤ q
    → FramePasses m total (last_number before) q → section_fault_under profile before (here m q) ≡ None → Stands profile m before q
stands profile m before q total low p contents =
    let is : section_at m q ≡ take (octets m q (q + 3)) (from q m) = section_is m q (octets m q (q + 3)) low refl in
    let long : octets m q (q + 3) ≤ length (from q m) = omega (arith, length-drop (q - 1) m, p.there) in
    let as_long : length (section_at m q) ≡ octets m q (q + 3) = ap length is ∙ length-take-le (octets m q (q + 3)) (from q m) long in
    let states : section_length (section_at m q) ≡ octets m q (q + 3) =
    ap section_length is ∙ (front_length (from q m) (octets m q (q + 3)) p.least ∙ ap (num_on 0) (sym (four_at m q))) in
    let numbered : section_number (section_at m q) ≡ octets m (q + 4) (q + 4) =
    ap section_number is ∙ (front_number (from q m) (octets m q (q + 3)) p.least ∙ ap (num_on 0) (sym (fifth_at m q low))) in
    let rest : drop (octets m q (q + 3)) (from q m) ≡ from (q + length (section_at m q)) m =
    drop-drop (octets m q (q + 3)) (q - 1) m
    ∙ ap (λ k. drop k m) (let e : (q - 1) + octets m q (q + 3) ≡ (q + length (section_at m q)) - 1 = omega (arith, as_long) in e) in
    record {
      is_section = record {
        length_stands = states ∙ sym as_long;
        least = omega (arith, as_long, p.least);
        follows = ap (may_follow (last_number before)) numbered ∙ p.follows;
        rules_hold = contents;
      };
      as_long = as_long;
      joined = sym (take-append-drop (octets m q (q + 3)) (from q m)) ∙ (ap (λ xs. xs ++ drop (octets m q (q + 3)) (from q m)) (sym is) ∙ ap (λ xs. section_at m q ++ xs) rest);
    }

-- a section before those that were found
found_more : (profile : Profile) (m : List ℕ) (before : List Placed) (q total : ℕ) → Stands profile m before q
    → Found profile m (here m q ∷ before) (q + length (section_at m q)) total → Found profile m before q total
found_more profile m before q total s f = record {
  sections = section_at m q ∷ f.sections;
  after = f.after;
  follow = (s.is_section, f.follow);
  joined = s.joined ∙ (ap (λ xs. section_at m q ++ xs) f.joined
      ∙ (sym (append_assoc (section_at m q) (concat f.sections ++ end_mark) f.after)
      ∙ ap (λ xs. xs ++ f.after) (sym (append_assoc (section_at m q) (concat f.sections) end_mark))));
  ends = omega (arith, f.ends, length-append (section_at m q) (concat f.sections));
  states = f.states;
}

-- what the walk accepts from octet q on
pub walked : (profile : Profile) (turns : ℕ) (m : List ℕ) (before : List Placed) (q total : ℕ) → All (λ octet. octet < 256) (take total m) → 1 ≤ q → q + 3 ≤ total_length m
    → verdict_from profile turns m before q ≡ Accepted total → Found profile m before q total
walked profile zero m before q total small low room e = cc
walked profile (suc turns) m before q total small low room e =
    let told = step_tells profile turns m before q total e in
    let mark = mark_passes m (total_length m) (last_number before) q told.0 in
    elim told.1 [
      | inl ended ↦ found_end profile m before q total low small room mark ended
      | inr went ↦
          let frame = frame_passes m (total_length m) (last_number before) q went.frame in
          let s = stands profile m before q (total_length m) low frame went.contents in
          found_more profile m before q total s
          (walked profile turns m (here m q ∷ before) (q + length (section_at m q)) total small (omega arith) (omega (arith, s.as_long, frame.room)) went.next)
    ]
