-- The octets that begin a message with changes, as they are written.
use Rattle.std.proofs.Common.{◌≡◌, ℕ, ◌+◌, ◌-◌, ◌<◌, ◌≤◌, Bool, true, false, ◌||◌, ◌==◌, List, [], ◌∷◌, ◌++◌, All, length, take, drop, map, refl, sym, ap, ◌∙◌, arith, subst, append_assoc, length-append, length-take-le, length-drop, drop-drop, take_at, drop_at, eq-eqb}
use Rattle.std.specs.List.{concat}
use Rattle.std.proofs.lemmas.List.{take_all, take_rest, take-append-drop}
use Rattle.grib_bits.specs.Octets.{StatesItself}
use Rattle.grib_base.specs.Rules.{choose}
use Rattle.grib_base.specs.declared.profile.Profile.TheVariants.{Open}
use Rattle.grib2_sections.specs.Frame.{Placed, placed_at, Position, position_after, End, Next, step_from}
use Rattle.grib2_sections.specs.Head.{end_mark}
use Rattle.grib2_message.specs.View.{last_number}
use Rattle.grib2_message.specs.Fields.{sections_of}
use Rattle.grib2_message.specs.Grammar.{GrammarUnder}
use Rattle.grib2_message.specs.Message.{IsAnyMessage}
use Rattle.grib2_message.proofs.Ahead.{Ahead, First, ahead_start, ahead_next, ahead_end, contents_pass}
use Rattle.grib2_message.proofs.Order.{follows_tells, in_range}
use Rattle.grib2_message.proofs.Parted.{message_least, second_edition}
use Rattle.grib2_message.proofs.Placing.{octets_placed}
use Rattle.grib2_message.proofs.Ways.{way_comes_at}
use Rattle.grib2_message.proofs.Whole.{accepted_in_grammar, sections_alone}
use Rattle.grib_keys.specs.declared.condition.Change.{Change}
use Rattle.grib_keys.specs.Keys.{row_of}
use Rattle.grib_select.specs.Values.{HasKeys}
use Rattle.grib_select.specs.Changed.{with_changes, changed, with_keys, has_change_in, up_to, with_section, IsChangedFront}
use Rattle.grib_select.proofs.Changes.{CanBeSet, changes_alike, ready, with_key_other}
use Rattle.grib_select.proofs.Sections.{changed_next, section_keys}
use Rattle.grib_select.proofs.Within.{has_keys, head_within}

-- ---- a section with no key of a change

neither : (a b : Bool) → (a || b) ≡ false → (a ≡ false) × (b ≡ false)
neither true b e = absurd (cc)
neither false b e = (refl, e)

untouched : (changes : List Change) (number : ℕ) (s : List ℕ) → has_change_in changes number ≡ false → with_changes changes number s ≡ s
untouched [] number s none = refl
untouched (change ∷ changes) number s none =
    let both = neither ((row_of change.key).section == number) (has_change_in changes number) none in
    ap (with_changes changes number)
    (with_key_other change number s (λ same. (let clash : true ≡ false = sym (eq-eqb (row_of change.key).section number same) ∙ both.0 in absurd (cc))))
    ∙ untouched changes number s both.1

-- ---- the octets that come next

module _ (end : ℕ) (m out : List ℕ) (more : length out ≤ end) (there : end ≤ length m) where
  pub length-up_to : length (up_to end m out) ≡ end
  length-up_to =
      let rest = drop (length out) m in
      let k = end - length out in
      omega (arith, length-append out (take k rest), length-take-le k rest (omega (arith, length-drop (length out) m)), length-drop (length out) m)

  -- and those after them
  pub goes_on : up_to end m out ++ drop (length (up_to end m out)) m ≡ out ++ drop (length out) m
  goes_on =
      let n = length out in
      let k = end - n in
      let rest = drop n m in
      append_assoc out (take k rest) (drop (length (up_to end m out)) m)
      ∙ ap (λ (j : ℕ). out ++ (take k rest ++ drop j m)) (length-up_to ∙ (let e : end ≡ n + k = omega arith in e))
      ∙ ap (λ (xs : List ℕ). out ++ (take k rest ++ xs)) (sym (drop-drop k n m))
      ∙ ap (λ (xs : List ℕ). out ++ xs) (take-append-drop k rest)

-- up to the end of the message
pub up_to_last : (m out : List ℕ) → up_to (length m) m out ≡ out ++ drop (length out) m
up_to_last m out = ap (λ (xs : List ℕ). out ++ xs) (take_rest m (length out))

-- ---- what was written, and what is left

-- octets that were left out so far stand between what was written and the sections that are left
pub record Written (m : List ℕ) (changes : List Change) (at : Position) (out : List ℕ) : Type 0 where
  pub left : List Placed
  pub between : List ℕ
  pub ahead : Ahead Open m at left
  pub place : length out + length between + 1 ≡ at.place
  pub rest : drop (length out) m ≡ between ++ (concat (map (λ s. s.octets) left) ++ end_mark)
  pub whole : out ++ (between ++ (concat (map (λ s. changed changes s.octets) left) ++ end_mark)) ≡ with_keys m changes

-- a message after Section 0
sections_joined : (m : List ℕ) → IsAnyMessage m → All (λ octet. octet < 256) m → drop 16 m ≡ concat (map (λ s. s.octets) (sections_of m)) ++ end_mark
sections_joined m h small =
    let all : take (length m) m ≡ m = take_all (length m) m (omega arith) in
    let found = accepted_in_grammar Open m (length m) (subst (All (λ octet. octet < 256)) (sym all) small) h.indicated (second_edition Open m h) h.accepted in
    let sections = found.0 in
    let g : GrammarUnder Open m sections = subst (λ (x : List ℕ). GrammarUnder Open x sections) all found.2 in
    let sixteen : length (take 16 m) ≡ 16 = length-take-le 16 m (omega (arith, g.least)) in
    ap (drop 16) (g.joined ∙ append_assoc (take 16 m) (concat sections) end_mark)
    ∙ drop_at (take 16 m) (concat sections ++ end_mark) 16 sixteen
    ∙ ap (λ (xs : List (List ℕ)). concat xs ++ end_mark) (sym (ap (map (λ s. s.octets)) (sections_alone Open m sections g) ∙ octets_placed 17 sections))

pub written_start : (m : List ℕ) (changes : List Change) (at : Position) → IsAnyMessage m → All (λ octet. octet < 256) m → CanBeSet changes
    → at ≡ record { total = length m; place = 17; last = 0 } → Written m changes at (with_changes changes 0 (take 16 m))
written_start m changes at h small set is =
    let least = message_least Open m h in
    let s = take 16 m in
    let sixteen : length s ≡ 16 = length-take-le 16 m (omega arith) in
    let alike = changes_alike changes 0 s (ready 0 s (has_keys 0 s (head_within s (omega arith)) (λ e. omega (arith, e)))) set in
    let long : length (with_changes changes 0 s) ≡ 16 = alike.long ∙ sixteen in
    record {
      left = sections_of m;
      between = [];
      ahead = ahead_start Open m at h is;
      place = omega (arith, long, ap (λ (x : Position). x.place) is);
      rest = ap (λ (n : ℕ). drop n m) long ∙ sections_joined m h small;
      whole = refl;
    }

regroup : (a b c d : List ℕ) → a ++ ((b ++ c) ++ d) ≡ (a ++ b) ++ (c ++ d)
regroup a b c d = simp append_assoc

-- the keys of the next section stand in it
pub keys_here : (m : List ℕ) (changes : List Change) (at : Position) (out : List ℕ) (start number : ℕ) (s : List ℕ) → Written m changes at out → step_from m at ≡ Next s → start ≡ at.place
    → StatesItself number s → HasKeys number s
keys_here m changes at out start number s w comes start_is itself =
    let before = w.ahead.before in
    let here = way_comes_at Open m w.ahead.turns before at number start s w.ahead.way comes start_is itself in
    let range = in_range (last_number before) number (follows_tells (last_number before) number here.follows) in
    section_keys Open before (placed_at at.place s) number itself.number_stands range.0 range.1 (contents_pass Open m at w.left s w.ahead comes)

-- the next section, which is left out or written with what was left out before it
module _ (m : List ℕ) (changes : List Change) (at next_at : Position) (out next_out : List ℕ) (start number : ℕ) (s : List ℕ) (set : CanBeSet changes)
    (w : Written m changes at out) (comes : step_from m at ≡ Next s) (start_is : start ≡ at.place) (next_is : next_at ≡ position_after at s)
    (itself : StatesItself number s) (is : next_out ≡ with_section changes m out start number s) where
  first : First Open m next_at start s w.left
  first = ahead_next Open m at next_at start s w.left w.ahead comes start_is next_is

  after : next_at.place ≡ at.place + length s
  after = ap (λ (x : Position). x.place) next_is

  abbrev t : List ℕ
  t = with_changes changes number s

  abbrev others : List ℕ
  others = concat (map (λ p. p.octets) first.rest)

  abbrev changed_others : List ℕ
  changed_others = concat (map (λ p. changed changes p.octets) first.rest)

  rest_is : drop (length out) m ≡ (w.between ++ s) ++ (others ++ end_mark)
  rest_is =
      w.rest
      ∙ ap (λ (xs : List Placed). w.between ++ (concat (map (λ p. p.octets) xs) ++ end_mark)) first.are
      ∙ regroup w.between s others end_mark

  whole_is : out ++ ((w.between ++ t) ++ (changed_others ++ end_mark)) ≡ with_keys m changes
  whole_is =
      ap (λ (xs : List ℕ). out ++ xs) (sym (regroup w.between t changed_others end_mark))
      ∙ ap (λ (xs : List ℕ). out ++ (w.between ++ (xs ++ end_mark))) (sym (changed_next changes w.left first.rest start number s first.are itself.number_stands))
      ∙ w.whole

  by_choice : (b : Bool) → has_change_in changes number ≡ b → next_out ≡ choose b (λ _. up_to (start - 1) m out ++ t) (λ _. out)
  by_choice b e = is ∙ ap (λ (x : Bool). choose x (λ _. up_to (start - 1) m out ++ t) (λ _. out)) e

  left_out : has_change_in changes number ≡ false → Written m changes next_at next_out
  left_out none =
      subst (Written m changes next_at) (sym (by_choice false none))
      (record {
        left = first.rest;
        between = w.between ++ s;
        ahead = first.ahead;
        place = omega (arith, w.place, after, length-append w.between s);
        rest = rest_is;
        whole = ap (λ (xs : List ℕ). out ++ ((w.between ++ xs) ++ (changed_others ++ end_mark))) (sym (untouched changes number s none)) ∙ whole_is;
      })

  up_to_section : up_to (start - 1) m out ≡ out ++ w.between
  up_to_section =
      let k = length w.between in
      let count : start - 1 - length out ≡ k = omega (arith, w.place, start_is) in
      ap (λ (j : ℕ). out ++ take j (drop (length out) m)) count
      ∙ ap (λ (xs : List ℕ). out ++ take k xs) (rest_is ∙ append_assoc w.between s (others ++ end_mark))
      ∙ ap (λ (xs : List ℕ). out ++ xs) (take_at w.between (s ++ (others ++ end_mark)) k refl)

  written_out : has_change_in changes number ≡ true → Written m changes next_at next_out
  written_out some =
      let n = length w.between + length s in
      let long : length t ≡ length s = (changes_alike changes number s (ready number s (keys_here m changes at out start number s w comes start_is itself)) set).long in
      let same : next_out ≡ (out ++ w.between) ++ t = by_choice true some ∙ ap (λ (xs : List ℕ). xs ++ t) up_to_section in
      let size : length ((out ++ w.between) ++ t) ≡ length out + n = omega (arith, length-append (out ++ w.between) t, length-append out w.between, long) in
      subst (Written m changes next_at) (sym same)
      (record {
        left = first.rest;
        between = [];
        ahead = first.ahead;
        place = omega (arith, w.place, after, size);
        rest =
            ap (λ (j : ℕ). drop j m) size ∙ sym (drop-drop n (length out) m) ∙ ap (drop n) rest_is
            ∙ drop_at (w.between ++ s) (others ++ end_mark) n (length-append w.between s);
        whole = ap (λ (xs : List ℕ). xs ++ (changed_others ++ end_mark)) (append_assoc out w.between t) ∙ append_assoc out (w.between ++ t) (changed_others ++ end_mark) ∙ whole_is;
      })

  pub written_next : Written m changes next_at next_out
  written_next = by (has_change_in changes number) refl
    where
      by : (b : Bool) → has_change_in changes number ≡ b → Written m changes next_at next_out
      by true e = written_out e
      by false e = left_out e

-- what is left at the End Section stays
pub written_end : (m : List ℕ) (changes : List Change) (at : Position) (out : List ℕ) → Written m changes at out → step_from m at ≡ End → out ++ drop (length out) m ≡ with_keys m changes
written_end m changes at out w e =
    let none = ahead_end Open m at w.left w.ahead e in
    ap (λ (xs : List ℕ). out ++ xs) (w.rest ∙ ap (λ (xs : List Placed). w.between ++ (concat (map (λ s. s.octets) xs) ++ end_mark)) none)
    ∙ ap (λ (xs : List Placed). out ++ (w.between ++ (concat (map (λ s. changed changes s.octets) xs) ++ end_mark))) (sym none)
    ∙ w.whole

-- it is within the message
pub written_within : (m : List ℕ) (changes : List Change) (at : Position) (out : List ℕ) → Written m changes at out → length out < at.place
written_within m changes at out w = omega (arith, w.place)

pub written_there : (m : List ℕ) (changes : List Change) (at : Position) (out : List ℕ) → Written m changes at out → at.place ≤ length m + 1
written_there m changes at out w = w.ahead.way.there

-- the front is made of it
pub front_made : (m : List ℕ) (changes : List Change) (at : Position) (out front : List ℕ) (end : ℕ) → Written m changes at out → step_from m at ≡ End → length out ≤ end → 35 ≤ end → end ≤ length m
    → front ≡ up_to end m out → IsChangedFront m changes front
front_made m changes at out front end w e more least there is =
    let long = length-up_to end m out more there in
    subst (IsChangedFront m changes) (sym is)
    (record {
      joined = goes_on end m out more there ∙ written_end m changes at out w e;
      within = omega (arith, long, there);
      least = omega (arith, long, least);
    })
