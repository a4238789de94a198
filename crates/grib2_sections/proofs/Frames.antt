-- Lemmas on the section that stands at an octet of a message.
use Rattle.std.proofs.Common.{◌≡◌, ℕ, ◌+◌, ◌-◌, ◌<◌, ◌≤◌, Bool, true, false, cond, ◌||◌, not, Option, Some, None, List, length, take, drop, get_or, nat_lt, refl, sym, ap, ◌∙◌, add-zero, arith, le-ltb, take-take, drop-drop, lt-ltb}
use Rattle.std.proofs.lemmas.List.{drop-take, length-drop, length-take-le, get_or-drop}
use Rattle.grib_base.specs.declared.fault.Fault.{Fault}
use Rattle.grib_base.specs.declared.fault.Reason.TheVariants.{SectionLength, SectionOrder, Truncated}
use Rattle.grib_base.specs.Rules.{refusal, choose}
use Rattle.grib_bits.specs.Octets.{num_on, octets, StatesItself}
use Rattle.grib_bits.proofs.OctetBits.{AreOctets}
use Rattle.grib_bits.proofs.OctetNumbers.{big_number-octets}
use Rattle.grib2_sections.specs.Frame.{Position, mark_fault, frame_fault, end_fault, opening_fault, may_follow, section_at, Step, End, Fails, Next, unless_fails, ends_at, step_from}

-- the number of one octet
pub octet_alone : (m : List ℕ) (first : ℕ) → AreOctets m → 1 ≤ first → first ≤ length m → get_or m (first - 1) 0 ≡ octets m first first
octet_alone m first known counted within =
    let e = big_number-octets m first first 1 known counted (omega arith) within in
    let place : get_or (drop (first - 1) m) 0 0 ≡ get_or m (first - 1) 0 = get_or-drop (first - 1) m 0 0 ∙ ap (λ (i : ℕ). get_or m i 0) (add-zero (first - 1)) in
    let alone : get_or (drop (first - 1) m) 0 0 ≡ octets m first first = omega (arith, e) in
    sym place ∙ alone

-- ---- the rules of a frame

-- what comes after rules that do not refuse, and what they refuse
after_two : (a b : Bool) (fa fb : Fault) (later : Option Fault) → cond a (Some fa) (cond b (Some fb) None) ≡ None
    → cond a (Some fa) (cond b (Some fb) later) ≡ later
after_two true b fa fb later e = cc
after_two false true fa fb later e = cc
after_two false false fa fb later e = refl

of_two : (a b : Bool) (fa fb fault : Fault) (later : Option Fault) → cond a (Some fa) (cond b (Some fb) None) ≡ Some fault
    → cond a (Some fa) (cond b (Some fb) later) ≡ Some fault
of_two true b fa fb fault later e = e
of_two false true fa fb fault later e = e
of_two false false fa fb fault later e = cc

module _ (m : List ℕ) (at : Position) where
  -- the refusal where these octets are all that there is
  abbrev pub cut_off : Fault
  cut_off = refusal (length m + 1) Truncated (length m)

  abbrev mark : ℕ
  mark = octets m at.place (at.place + 3)

  pub mark_cut : length m < at.place + 3 → mark_fault m at ≡ Some cut_off
  mark_cut short = ap (λ (b : Bool). cond b (Some cut_off) (end_fault at mark)) (lt-ltb (length m) (at.place + 3) short)

  pub mark_there : at.place + 3 ≤ length m → mark_fault m at ≡ end_fault at mark
  mark_there there = ap (λ (b : Bool). cond b (Some cut_off) (end_fault at mark)) (le-ltb (length m) (at.place + 3) there)

  abbrev number : ℕ
  number = octets m (at.place + 4) (at.place + 4)

  -- the frame, by the tests of its rules
  abbrev unsized : Bool
  unsized = nat_lt mark 5 || nat_lt at.total (at.place - 1 + mark + 4)

  abbrev misplaced : Bool
  misplaced = not (may_follow at.last number)

  abbrev by_rules : Bool → Bool → Option Fault
  by_rules cut short =
      cond cut (Some cut_off)
      (cond unsized (Some (refusal at.place SectionLength mark))
      (cond misplaced (Some (refusal (at.place + 4) SectionOrder number)) (cond short (Some cut_off) None)))

  pub frame_cut : length m < at.place + 4 → frame_fault m at ≡ Some cut_off
  frame_cut short = ap (λ (b : Bool). by_rules b (nat_lt (length m) (at.place - 1 + mark))) (lt-ltb (length m) (at.place + 4) short)

  module _ (there : at.place + 4 ≤ length m) where
    frame_there : (short : Bool) → nat_lt (length m) (at.place - 1 + mark) ≡ short → frame_fault m at ≡ by_rules false short
    frame_there short is = λ i. by_rules (le-ltb (length m) (at.place + 4) there i) (is i)

    goes_on : (later : Option Fault) → opening_fault at mark number ≡ None
        → cond unsized (Some (refusal at.place SectionLength mark)) (cond misplaced (Some (refusal (at.place + 4) SectionOrder number)) later) ≡ later
    goes_on later e = after_two unsized misplaced (refusal at.place SectionLength mark) (refusal (at.place + 4) SectionOrder number) later e

    pub frame_refused : (fault : Fault) → opening_fault at mark number ≡ Some fault → frame_fault m at ≡ Some fault
    frame_refused fault e =
        frame_there (nat_lt (length m) (at.place - 1 + mark)) refl
        ∙ of_two unsized misplaced (refusal at.place SectionLength mark) (refusal (at.place + 4) SectionOrder number) fault _ e

    pub frame_short : opening_fault at mark number ≡ None → length m < at.place - 1 + mark → frame_fault m at ≡ Some cut_off
    frame_short e short = frame_there true (lt-ltb (length m) (at.place - 1 + mark) short) ∙ goes_on (Some cut_off) e

    pub frame_passes : opening_fault at mark number ≡ None → at.place - 1 + mark ≤ length m → frame_fault m at ≡ None
    frame_passes e whole = frame_there false (le-ltb (length m) (at.place - 1 + mark) whole) ∙ goes_on None e

  -- ---- the step

  abbrev by_faults : Option Fault → Bool → Option Fault → Step
  by_faults first ends second = unless_fails first (λ _. choose ends (λ _. End) (λ _. unless_fails second (λ _. Next (section_at m at.place))))

  pub step_refused : (fault : Fault) → mark_fault m at ≡ Some fault → step_from m at ≡ Fails fault
  step_refused fault e = ap (λ (o : Option Fault). by_faults o (ends_at m at.place) (frame_fault m at)) e

  module _ (passes : mark_fault m at ≡ None) where
    pub step_ends : ends_at m at.place ≡ true → step_from m at ≡ End
    step_ends on = λ i. by_faults (passes i) (on i) (frame_fault m at)

    module _ (off : ends_at m at.place ≡ false) where
      pub step_frame : (fault : Fault) → frame_fault m at ≡ Some fault → step_from m at ≡ Fails fault
      step_frame fault e = λ i. by_faults (passes i) (off i) (e i)

      pub step_next : frame_fault m at ≡ None → step_from m at ≡ Next (section_at m at.place)
      step_next e = λ i. by_faults (passes i) (off i) (e i)

-- ---- the section

-- it has the length and the number that stand at its place
pub states_itself : (m : List ℕ) (q l number : ℕ) → 1 ≤ q → octets m q (q + 3) ≡ l → octets m (q + 4) (q + 4) ≡ number
    → 5 ≤ l → q - 1 + l ≤ length m → StatesItself number (take l (drop (q - 1) m))
states_itself m q l number low is_length is_number least whole =
    let left = drop (q - 1) m in
    let long : length (take l left) ≡ l = length-take-le l left (omega (arith, length-drop (q - 1) m)) in
    let four : (q + 3) + 1 - q ≡ 4 = omega arith in
    let one : (q + 4) + 1 - (q + 4) ≡ 1 = omega arith in
    let place : (q + 4) - 1 ≡ (q - 1) + 4 = omega arith in
    let parts : l ≡ 4 + (l - 4) = omega arith in
    record {
      length_stands = ap (num_on 0) (take-take 4 l left (omega arith)) ∙ ap (λ k. num_on 0 (take k left)) (sym four) ∙ is_length ∙ sym long;
      least = omega arith;
      number_stands = ap (λ k. num_on 0 (take 1 (drop 4 (take k left)))) parts
          ∙ ap (λ xs. num_on 0 (take 1 xs)) (drop-take 4 (l - 4) left)
          ∙ ap (num_on 0) (take-take 1 (l - 4) (drop 4 left) (omega arith))
          ∙ ap (λ xs. num_on 0 (take 1 xs)) (drop-drop 4 (q - 1) m)
          ∙ ap (λ k. num_on 0 (take 1 (drop k m))) (sym place)
          ∙ ap (λ k. num_on 0 (take k (drop ((q + 4) - 1) m))) (sym one)
          ∙ is_number;
    }
