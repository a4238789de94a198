-- Where a walk over the sections of a message stands, and how it goes on.
use Rattle.std.proofs.Common.{◌≡◌, ◌≢◌, ℕ, zero, suc, ◌+◌, ◌-◌, ◌*◌, ◌≤◌, Bool, true, false, cond, ◌&&◌, Option, Some, None, List, [], ◌∷◌, length, take, ◌==◌, refl, sym, ap, ap₂, ◌∙◌, arith, subst, add-one, zero-add, eq-eqb, ne_eqb, eqb-true, inl, inr}
use Rattle.std.specs.List.{count_by}
use Rattle.std.proofs.lemmas.Bool.{cases_eq}
use Rattle.std.proofs.lemmas.List.Sums.{sum_by-cons}
use Rattle.grib_bits.specs.Bits.{digit}
use Rattle.grib_bits.specs.Octets.{octets, num_on, StatesItself}
use Rattle.grib_base.specs.declared.profile.Profile.{Profile}
use Rattle.grib_base.specs.declared.fault.Fault.{Fault}
use Rattle.grib_base.specs.Rules.{first_fault, choose}
use Rattle.grib2_sections.specs.Verdict.{Verdict, Accepted, Refused}
use Rattle.grib2_sections.specs.Head.{edition, total_length, head_rules}
use Rattle.grib2_sections.specs.Frame.{Placed, placed_at, Position, position_after, section_at, section_number, ends_at, may_follow, mark_rules, frame_rules, Step, End, Fails, Next, unless_fails, step, step_from}
use Rattle.grib2_message.specs.View.{is_numbered, last_number, section_count}
use Rattle.grib2_message.specs.Acceptance.{section_fault_under, unless_refused, verdict_at, verdict_from, verdict_under}
use Rattle.grib2_message.specs.Fields.{sections_from, field_count, sections_up_to_field, field_sections}
use Rattle.grib2_message.specs.Kept.{Comes}
use Rattle.grib_base.specs.Faults.{IsReadFault}
use Rattle.grib2_sections.specs.Refused.{IsVerdict}
use Rattle.grib_base.specs.declared.fault.ReadFault.{ReadFault}
use Rattle.grib_base.specs.declared.fault.ReadFault.TheVariants.{Refused as ReadRefused, Memory as ReadMemory}
use Rattle.grib2_message.proofs.Passed.{passes_from_none, unless_none}
use Rattle.grib2_message.proofs.Parts.{from, fifth_at, section_is, front_number}
use Rattle.grib2_message.proofs.Walk.{mark_passes, frame_passes, FramePasses, stands}
use Rattle.grib2_message.proofs.Whole.{head_passes}
use Rattle.grib2_message.proofs.Sound.{count_same, count_other}

-- ---- what a step tells

tells_next : (mark : Option Fault) (ends : Bool) (frame : Option Fault) (x s : List ℕ)
    → unless_fails mark (λ _. choose ends (λ _. End) (λ _. unless_fails frame (λ _. Next x))) ≡ Next s
    → (mark ≡ None) × (ends ≡ false) × (frame ≡ None) × (s ≡ x)
tells_next (Some fault) ends frame x s e = cc
tells_next None true frame x s e = cc
tells_next None false (Some fault) x s e = cc
tells_next None false None x s e = (refl, refl, refl, cc)

pub tells_end : (mark : Option Fault) (ends : Bool) (frame : Option Fault) (x : List ℕ)
    → unless_fails mark (λ _. choose ends (λ _. End) (λ _. unless_fails frame (λ _. Next x))) ≡ End
    → (mark ≡ None) × (ends ≡ true)
tells_end (Some fault) ends frame x e = cc
tells_end None true frame x e = (refl, refl)
tells_end None false (Some fault) x e = cc
tells_end None false None x e = cc

-- a section that the frame gives
pub record Given (m : List ℕ) (total last q : ℕ) (s : List ℕ) : Type 0 where
  pub goes : ends_at m q ≡ false
  pub frame : FramePasses m total last q
  pub octets_are : s ≡ section_at m q

pub given : (m : List ℕ) (total last q : ℕ) (s : List ℕ) → step m total last q ≡ Next s → Given m total last q s
given m total last q s e =
    let told = tells_next (first_fault (mark_rules m total last q)) (ends_at m q) (first_fault (frame_rules m total last q)) (section_at m q) s e in
    record {
      goes = told.1;
      frame = frame_passes m total last q (passes_from_none (frame_rules m total last q) told.2);
      octets_are = told.3;
    }

-- ---- the sections up to a field, by one more section

up_to : (ends one : Bool) (k : ℕ) (p : Placed) (before rest : List Placed) → List Placed
up_to ends one k p before rest = cond (ends && one) (p ∷ before) (sections_up_to_field k (p ∷ before) rest)

module _ (p : Placed) (before rest : List Placed) where
  pub up_here : section_number p.octets ≡ 7 → sections_up_to_field 1 before (p ∷ rest) ≡ p ∷ before
  unfolding up_to
  up_here seven =
      ap (λ (b : Bool). up_to b true (1 - digit b) p before rest) (eq-eqb (section_number p.octets) 7 seven)

  pub up_more : (i : ℕ) → section_number p.octets ≡ 7 → sections_up_to_field (suc (suc i)) before (p ∷ rest) ≡ sections_up_to_field (suc i) (p ∷ before) rest
  unfolding up_to
  up_more i seven =
      ap₂ (λ (b one : Bool). up_to b one (suc (suc i) - digit b) p before rest)
      (eq-eqb (section_number p.octets) 7 seven) (ne_eqb (suc (suc i)) 1 (λ same. absurd (omega arith)))
      ∙ ap (λ (k : ℕ). sections_up_to_field k (p ∷ before) rest) (let e : suc (suc i) - 1 ≡ suc i = omega arith in e)

  pub up_other : (i : ℕ) → section_number p.octets ≢ 7 → sections_up_to_field (suc i) before (p ∷ rest) ≡ sections_up_to_field (suc i) (p ∷ before) rest
  unfolding up_to
  up_other i other =
      ap (λ (b : Bool). up_to b (suc i == 1) (suc i - digit b) p before rest) (ne_eqb (section_number p.octets) 7 other)
      ∙ ap (λ (k : ℕ). sections_up_to_field k (p ∷ before) rest) (let e : suc i - 0 ≡ suc i = omega arith in e)

-- ---- where the walk stands

pub record OnWay (profile : Profile) (m : List ℕ) (turns : ℕ) (before : List Placed) (at : Position) : Type 0 where
  pub states : total_length m ≡ at.total
  pub last_is : last_number before ≡ at.last
  pub left : turns + length before ≡ length m
  pub room : 17 + 5 * length before ≤ at.place
  pub within : at.place + 3 ≤ at.total
  pub longest : at.total ≤ 268435456
  pub there : at.place ≤ length m + 1
  pub verdict : verdict_under profile m ≡ verdict_from profile (suc turns) m before at.place
  pub fields : (i : ℕ) → field_sections m (section_count 7 before + suc i) ≡ sections_up_to_field (suc i) before (sections_from turns m at.place)
  pub count : field_count m ≡ section_count 7 before + count_by (is_numbered 7) (sections_from turns m at.place)

-- at first
pub way_start : (profile : Profile) (m : List ℕ) (total : ℕ) → edition m ≡ 2 → first_fault (head_rules m) ≡ None → total ≡ total_length m
    → OnWay profile m (length m) [] (record { total = total; place = 17; last = 0 })
way_start profile m total second none is =
    let p = head_passes m (λ first. absurd (omega arith)) (passes_from_none (head_rules m) none) in
    record {
      states = sym is;
      last_is = refl;
      left = omega arith;
      room = omega arith;
      within = omega (arith, p.least);
      longest = omega (arith, p.most);
      there = omega (arith, p.there);
      verdict = unless_none (first_fault (head_rules m)) (λ _. verdict_from profile (length m + 1) m [] 17) none
          ∙ ap (λ (t : ℕ). verdict_from profile t m [] 17) (add-one (length m));
      fields = λ i. ap (λ (n : ℕ). field_sections m n) (zero-add (suc i));
      count = sym (zero-add (field_count m));
    }

-- what is said of the walk is said of the step that it takes
way_verdict : (profile : Profile) (m : List ℕ) (turns : ℕ) (before : List Placed) (at : Position) (st : Step) → OnWay profile m turns before at → step_from m at ≡ st
    → verdict_under profile m ≡ verdict_at profile before at.place at.total st (λ s. verdict_from profile turns m (placed_at at.place s ∷ before) (at.place + length s))
way_verdict profile m turns before at st w e =
    let next : List ℕ → Verdict = λ s. verdict_from profile turns m (placed_at at.place s ∷ before) (at.place + length s) in
    w.verdict
    ∙ (λ i. verdict_at profile before at.place (w.states i) (step m (w.states i) (w.last_is i) at.place) next)
    ∙ ap (λ (x : Step). verdict_at profile before at.place at.total x next) e

pub way_fails : (profile : Profile) (m : List ℕ) (turns : ℕ) (before : List Placed) (at : Position) (fault : Fault) → OnWay profile m turns before at → step_from m at ≡ Fails fault
    → verdict_under profile m ≡ Refused fault
way_fails profile m turns before at fault w e = way_verdict profile m turns before at (Fails fault) w e

pub way_refused : (profile : Profile) (m : List ℕ) (turns : ℕ) (before : List Placed) (at : Position) (s : List ℕ) (fault : Fault) → OnWay profile m turns before at → step_from m at ≡ Next s
    → section_fault_under profile before (placed_at at.place s) ≡ Some fault → verdict_under profile m ≡ Refused fault
way_refused profile m turns before at s fault w e refused =
    way_verdict profile m turns before at (Next s) w e
    ∙ ap (λ (o : Option Fault). unless_refused o (λ _. verdict_from profile turns m (placed_at at.place s ∷ before) (at.place + length s))) refused

-- at the End Section
pub no_sections : (turns : ℕ) (m : List ℕ) (q : ℕ) → ends_at m q ≡ true → sections_from turns m q ≡ []
no_sections zero m q ends = refl
no_sections (suc turns) m q ends =
    ap (λ (b : Bool). choose b (λ _. []) (λ _. placed_at q (section_at m q) ∷ sections_from turns m (q + length (section_at m q)))) ends

some_field : (before : List Placed) → last_number before ≡ 7 → 1 ≤ section_count 7 before
some_field [] e = absurd (omega arith)
some_field (s ∷ before) e = omega (arith, count_same s before 7 e)

pub record AtEnd (profile : Profile) (m : List ℕ) (before : List Placed) (total : ℕ) : Type 0 where
  pub accepted : verdict_under profile m ≡ Accepted total
  pub count : field_count m ≡ section_count 7 before
  pub some : 1 ≤ section_count 7 before

pub way_end : (profile : Profile) (m : List ℕ) (turns : ℕ) (before : List Placed) (at : Position) → OnWay profile m turns before at → step_from m at ≡ End → AtEnd profile m before at.total
way_end profile m turns before at w e =
    let told = tells_end (first_fault (mark_rules m at.total at.last at.place)) (ends_at m at.place) (first_fault (frame_rules m at.total at.last at.place)) (section_at m at.place) e in
    let none = no_sections turns m at.place told.1 in
    let mark = mark_passes m at.total at.last at.place (passes_from_none (mark_rules m at.total at.last at.place) told.0) in
    let last : last_number before ≡ 7 = w.last_is ∙ eqb-true at.last 7 (mark.may_end told.1) in
    record {
      accepted = way_verdict profile m turns before at End w e;
      count = (let counted : count_by (is_numbered 7) (sections_from turns m at.place) ≡ 0 = ap (count_by (is_numbered 7)) none in omega (arith, w.count));
      some = some_field before last;
    }

module _ (profile : Profile) (m : List ℕ) (before : List Placed) (at : Position) (s : List ℕ) (e : step_from m at ≡ Next s) where
  here : Given m at.total at.last at.place s
  here = given m at.total at.last at.place s e

  number_here : 1 ≤ at.place → section_number (section_at m at.place) ≡ octets m (at.place + 4) (at.place + 4)
  number_here low =
      let q = at.place in
      let l = octets m q (q + 3) in
      let is : section_at m q ≡ take l (from q m) = section_is m q l low refl in
      ap section_number is ∙ (front_number (from q m) l here.frame.least ∙ ap (num_on 0) (sym (fifth_at m q low)))

  -- a section that comes
  pub way_comes : (turns number : ℕ) → OnWay profile m turns before at → StatesItself number s → Comes m before number at.place s
  way_comes turns number w itself =
      let f = here.frame in
      let numbered : octets m (at.place + 4) (at.place + 4) ≡ number =
      sym (number_here (omega (arith, w.room))) ∙ ap section_number (sym here.octets_are) ∙ itself.number_stands in
      record {
        stands = record {
          low = omega (arith, w.room);
          high = omega (arith, w.within, w.longest);
          there = omega (arith, f.least, f.there, w.room);
          least = f.least;
          whole = f.there;
          room = omega (arith, f.room, w.states, w.room);
          numbered = numbered;
        };
        octets_are = here.octets_are;
        itself = itself;
        follows = ap₂ may_follow w.last_is (sym numbered) ∙ f.follows;
      }

  -- after a section that is not refused
  after : (t : ℕ) → OnWay profile m (suc t) before at → section_fault_under profile before (placed_at at.place s) ≡ None → OnWay profile m t (placed_at at.place s ∷ before) (position_after at s)
  after t w none =
      let q = at.place in
      let p = placed_at q s in
      let f = here.frame in
      let rest = sections_from t m (q + length s) in
      let contents : section_fault_under profile before (placed_at q (section_at m q)) ≡ None = ap (λ x. section_fault_under profile before (placed_at q x)) (sym here.octets_are) ∙ none in
      let framed : FramePasses m at.total (last_number before) q = subst (λ (n : ℕ). FramePasses m at.total n q) (sym w.last_is) f in
      let st = stands profile m before q at.total (omega (arith, w.room)) framed contents in
      let long : length s ≡ octets m q (q + 3) = ap length here.octets_are ∙ st.as_long in
      let more : sections_from (suc t) m q ≡ p ∷ rest =
      ap (λ (b : Bool). choose b (λ _. []) (λ _. placed_at q (section_at m q) ∷ sections_from t m (q + length (section_at m q)))) here.goes
      ∙ ap (λ x. placed_at q x ∷ sections_from t m (q + length x)) (sym here.octets_are) in
      record {
        states = w.states;
        last_is = refl;
        left = omega (arith, w.left);
        room = omega (arith, w.room, long, f.least);
        within = omega (arith, long, f.room, w.room);
        longest = w.longest;
        there = omega (arith, long, f.there, w.room);
        verdict = way_verdict profile m (suc t) before at (Next s) w e
            ∙ unless_none (section_fault_under profile before p) (λ _. verdict_from profile (suc t) m (p ∷ before) (q + length s)) none;
        fields = λ i. elim (cases_eq (section_number s) 7) [
          | inl seven ↦
              let count = count_same p before 7 seven in
              let sum : section_count 7 (p ∷ before) + suc i ≡ section_count 7 before + suc (suc i) = omega arith in
              ap (λ (n : ℕ). field_sections m n) sum
              ∙ w.fields (suc i)
              ∙ ap (λ x. sections_up_to_field (suc (suc i)) before x) more
              ∙ up_more p before rest i seven
          | inr other ↦
              let count = count_other p before 7 other in
              ap (λ (c : ℕ). field_sections m (c + suc i)) count
              ∙ w.fields i
              ∙ ap (λ x. sections_up_to_field (suc i) before x) more
              ∙ up_other p before rest i other
        ];
        count =
            let counted : count_by (is_numbered 7) (sections_from (suc t) m q) ≡ count_by (is_numbered 7) (p ∷ rest) = ap (count_by (is_numbered 7)) more in
            let first : count_by (is_numbered 7) (p ∷ rest) ≡ cond (is_numbered 7 p) 1 0 + count_by (is_numbered 7) rest = sum_by-cons (λ t'. cond (is_numbered 7 t') 1 0) p rest in
            let second : section_count 7 (p ∷ before) ≡ cond (is_numbered 7 p) 1 0 + section_count 7 before = sum_by-cons (λ t'. cond (is_numbered 7 t') 1 0) p before in
            omega (arith, w.count);
      }

-- the way goes on after a section that is not refused
pub record GoesOn (profile : Profile) (m : List ℕ) (before : List Placed) (at : Position) (turns : ℕ) (s : List ℕ) : Type 0 where
  pub turns_left : ℕ
  pub way : OnWay profile m turns_left (placed_at at.place s ∷ before) (position_after at s)
  pub ends_field : section_number s ≡ 7 → field_sections m (section_count 7 before + 1) ≡ placed_at at.place s ∷ before
  pub found : sections_from turns m at.place ≡ placed_at at.place s ∷ sections_from turns_left m (at.place + length s)

pub way_next : (profile : Profile) (turns : ℕ) (m : List ℕ) (before : List Placed) (at : Position) (s : List ℕ) → OnWay profile m turns before at → step_from m at ≡ Next s
    → section_fault_under profile before (placed_at at.place s) ≡ None → GoesOn profile m before at turns s
way_next profile zero m before at s w e none =
    let f = (here profile m before at s e).frame in
    absurd (omega (arith, w.left, w.room, f.least, f.there))
way_next profile (suc t) m before at s w e none =
    let q = at.place in
    let p = placed_at q s in
    let g = here profile m before at s e in
    let rest = sections_from t m (q + length s) in
    let more : sections_from (suc t) m q ≡ p ∷ rest =
    ap (λ (b : Bool). choose b (λ _. []) (λ _. placed_at q (section_at m q) ∷ sections_from t m (q + length (section_at m q)))) g.goes
    ∙ ap (λ x. placed_at q x ∷ sections_from t m (q + length x)) (sym g.octets_are) in
    record {
      turns_left = t;
      way = after profile m before at s e t w none;
      ends_field = λ seven. w.fields 0 ∙ ap (λ x. sections_up_to_field 1 before x) more ∙ up_here p before rest seven;
      found = more;
    }

-- ---- the same, with the octet and the position as the code has them

-- the refusal of a section is that of the message
pub way_read_fault : (profile : Profile) (m : List ℕ) (turns : ℕ) (before : List Placed) (at : Position) (start : ℕ) (s : List ℕ) (fault : ReadFault) → OnWay profile m turns before at → step_from m at ≡ Next s
    → start ≡ at.place → IsReadFault (section_fault_under profile before (placed_at start s)) fault → IsVerdict (verdict_under profile m) fault
way_read_fault profile m turns before at start s (ReadRefused fault) w e is refused =
    way_refused profile m turns before at s fault w e (ap (λ (q : ℕ). section_fault_under profile before (placed_at q s)) (sym is) ∙ refused)
way_read_fault profile m turns before at start s ReadMemory w e is refused = tt

pub way_comes_at : (profile : Profile) (m : List ℕ) (turns : ℕ) (before : List Placed) (at : Position) (number start : ℕ) (s : List ℕ) → OnWay profile m turns before at → step_from m at ≡ Next s
    → start ≡ at.place → StatesItself number s → Comes m before number start s
way_comes_at profile m turns before at number start s w e is itself =
    subst (λ (q : ℕ). Comes m before number q s) (sym is) (way_comes profile m before at s e turns number w itself)

-- the position after it, and the sections with it
pub record GoesOnAt (profile : Profile) (m : List ℕ) (before : List Placed) (start : ℕ) (s : List ℕ) (next_at : Position) : Type 0 where
  pub turns_left : ℕ
  pub way : OnWay profile m turns_left (placed_at start s ∷ before) next_at
  pub ends_field : section_number s ≡ 7 → field_sections m (section_count 7 before + 1) ≡ placed_at start s ∷ before

pub way_next_at : (profile : Profile) (m : List ℕ) (turns : ℕ) (before : List Placed) (at next_at : Position) (start : ℕ) (s : List ℕ) → OnWay profile m turns before at → step_from m at ≡ Next s
    → start ≡ at.place → next_at ≡ position_after at s → section_fault_under profile before (placed_at start s) ≡ None → GoesOnAt profile m before start s next_at
way_next_at profile m turns before at next_at start s w e is next_is none =
    let g = way_next profile turns m before at s w e (ap (λ (q : ℕ). section_fault_under profile before (placed_at q s)) (sym is) ∙ none) in
    subst (λ (x : Position). GoesOnAt profile m before start s x) (sym next_is)
    (subst (λ (q : ℕ). GoesOnAt profile m before q s (position_after at s)) (sym is)
    (record { turns_left = g.turns_left; way = g.way; ends_field = g.ends_field }))
