-- The sections that are left of an accepted message, from where a walk over it stands.
use Rattle.std.proofs.Common.{◌≡◌, ℕ, ◌+◌, ◌*◌, ◌≤◌, ◌<◌, ◌^◌, Bool, true, false, cond, None, List, [], ◌∷◌, ◌++◌, All, length, drop, ◌==◌, inl, inr, refl, sym, ap, ap₂, ◌∙◌, arith, subst, eqb-true, append_assoc, append-nil, length-append}
use Rattle.std.specs.List.{concat}
use Rattle.std.proofs.lemmas.List.Elements.{All-drop}
use Rattle.grib_bits.specs.Octets.{StatesItself}
use Rattle.grib_base.specs.declared.profile.Profile.{Profile}
use Rattle.grib_base.specs.declared.fault.Fault.{Fault}
use Rattle.grib_base.specs.Rules.{first_fault}
use Rattle.grib2_sections.specs.Head.{head_rules}
use Rattle.grib2_sections.specs.Frame.{Placed, placed_at, Position, position_after, section_at, section_number, ends_at, mark_rules, frame_rules, End, Fails, Next, step_from}
use Rattle.grib_packing.specs.declared.written.Packed.{Packed}
use Rattle.grib2_message.specs.Acceptance.{section_fault_under, verdict_from}
use Rattle.grib2_message.specs.Fields.{sections_from, sections_of, field_count, part_octets}
use Rattle.grib2_message.specs.View.{is_numbered}
use Rattle.grib2_message.specs.Message.{IsMessageUnder}
use Rattle.grib2_message.specs.Assembled.{in_place, in_place_with, replaced, replaced_with, assembled_body, assembled_body_with, assembled, assembled_with, as_it_is, IsShort}
use Rattle.grib2_message.proofs.Parted.{message_states, message_least}
use Rattle.grib2_message.proofs.PutTogether.{assembled_long, each_grid_of}
use Rattle.grib2_message.proofs.Replaced.{EachGrid}
use Rattle.grib2_message.proofs.Passed.{unless_tells}
use Rattle.grib2_message.proofs.Steps.{step_tells}
use Rattle.grib2_message.proofs.Ways.{OnWay, way_start, way_next, way_fails, given, tells_end, no_sections}

pub record Ahead (profile : Profile) (m : List ℕ) (at : Position) (left : List Placed) : Type 0 where
  pub turns : ℕ
  pub before : List Placed
  pub way : OnWay profile m turns before at
  pub are : left ≡ sections_from turns m at.place
  pub accepted : IsMessageUnder profile m

-- all of them at first
pub ahead_start : (profile : Profile) (m : List ℕ) (at : Position) → IsMessageUnder profile m → at ≡ record { total = length m; place = 17; last = 0 } → Ahead profile m at (sections_of m)
ahead_start profile m at h is =
    let told = unless_tells (first_fault (head_rules m)) (λ _. verdict_from profile (length m + 1) m [] 17) (length m) h.accepted in
    subst (λ (x : Position). Ahead profile m x (sections_of m)) (sym is)
    (record {
      turns = length m;
      before = [];
      way = way_start profile m (length m) h.edition_stands told.0 (sym (message_states profile m h));
      are = refl;
      accepted = h;
    })

-- a section, and those after it
pub record First (profile : Profile) (m : List ℕ) (next_at : Position) (start : ℕ) (s : List ℕ) (left : List Placed) : Type 0 where
  pub rest : List Placed
  pub are : left ≡ placed_at start s ∷ rest
  pub ahead : Ahead profile m next_at rest
  pub shorter : length s ≤ 268435456

-- no rule refuses what comes
pub contents_pass : (profile : Profile) (m : List ℕ) (at : Position) (left : List Placed) (s : List ℕ) (h : Ahead profile m at left) → step_from m at ≡ Next s
    → section_fault_under profile h.before (placed_at at.place s) ≡ None
contents_pass profile m at left s h e =
    let g = given m at.total at.last at.place s e in
    let told = step_tells profile h.turns m h.before at.place (length m) (sym h.way.verdict ∙ h.accepted.accepted) in
    elim told.1 [
      | inl ended ↦ (let clash : true ≡ false = sym ended.ends ∙ g.goes in absurd (cc))
      | inr went ↦ ap (λ (x : List ℕ). section_fault_under profile h.before (placed_at at.place x)) g.octets_are ∙ went.contents
    ]

pub ahead_next : (profile : Profile) (m : List ℕ) (at next_at : Position) (start : ℕ) (s : List ℕ) (left : List Placed) → Ahead profile m at left → step_from m at ≡ Next s
    → start ≡ at.place → next_at ≡ position_after at s → First profile m next_at start s left
ahead_next profile m at next_at start s left h e is next_is =
    let g = given m at.total at.last at.place s e in
    let o = way_next profile h.turns m h.before at s h.way e (contents_pass profile m at left s h e) in
    subst (λ (x : Position). First profile m x start s left) (sym next_is)
    (record {
      rest = sections_from o.turns_left m (at.place + length s);
      are = h.are ∙ o.found ∙ ap (λ (q : ℕ). placed_at q s ∷ sections_from o.turns_left m (at.place + length s)) (sym is);
      ahead = record { turns = o.turns_left; before = placed_at at.place s ∷ h.before; way = o.way; are = refl; accepted = h.accepted };
      shorter = omega (arith, o.way.within, o.way.longest);
    })

-- none at the End Section
pub ahead_end : (profile : Profile) (m : List ℕ) (at : Position) (left : List Placed) → Ahead profile m at left → step_from m at ≡ End → left ≡ []
ahead_end profile m at left h e =
    let told = tells_end (first_fault (mark_rules m at.total at.last at.place)) (ends_at m at.place) (first_fault (frame_rules m at.total at.last at.place)) (section_at m at.place) e in
    h.are ∙ no_sections h.turns m at.place told.1

-- and nothing is refused
pub ahead_passes : (profile : Profile) (m : List ℕ) (at : Position) (left : List Placed) (fault : Fault) → Ahead profile m at left → step_from m at ≡ Fails fault → ⊥
ahead_passes profile m at left fault h e =
    let clash = sym (way_fails profile m h.turns h.before at fault h.way e) ∙ h.accepted.accepted in
    absurd (cc)

-- ---- the parts that are left

-- the lengths so far are those of the sections that are passed
pub record Counting (profile : Profile) (m : List ℕ) (packed : List Packed) (at : Position) (parts : List Packed) (total : ℕ) : Type 0 where
  pub left : List Placed
  pub ahead : Ahead profile m at left
  pub short : All IsShort parts
  pub sum : total + length (concat (replaced left parts)) ≡ 20 + length (assembled_body m packed)
  pub bound : total ≤ 4294967296 * at.place

-- The octets so far are those of the sections that are passed, with what `grid` makes of each Section 3; and
-- P is so of each that is left.
pub record Copying (profile : Profile) (grid : List ℕ → List ℕ) (P : List ℕ → Type 0) (m : List ℕ) (packed : List Packed) (at : Position) (parts : List Packed) (before out : List ℕ) : Type 0 where
  pub left : List Placed
  pub ahead : Ahead profile m at left
  pub each : EachGrid P left
  pub same : out ++ concat (replaced_with grid left parts) ≡ before ++ assembled_body_with grid m packed

pub counting_start : (profile : Profile) (m : List ℕ) (packed : List Packed) (at : Position) → IsMessageUnder profile m → at ≡ record { total = length m; place = 17; last = 0 } → All IsShort packed
    → Counting profile m packed at packed 20
counting_start profile m packed at h is short = record {
  left = sections_of m;
  ahead = ahead_start profile m at h is;
  short = short;
  sum = refl;
  bound = omega (arith, ap (λ (x : Position). x.place) is);
}

pub copying_start : (profile : Profile) (grid : List ℕ → List ℕ) (P : List ℕ → Type 0) (m : List ℕ) (packed : List Packed) (at : Position) (before : List ℕ) → IsMessageUnder profile m
    → ((i : ℕ) → 1 ≤ i → i ≤ field_count m → P (part_octets m i 3)) → at ≡ record { total = length m; place = 17; last = 0 }
    → Copying profile grid P m packed at packed before before
copying_start profile grid P m packed at before h grids is = record { left = sections_of m; ahead = ahead_start profile m at h is; each = each_grid_of profile P m h grids; same = refl }

short_choice : (b : Bool) (xs ys : List ℕ) → length xs < 2 ^ 32 → length ys < 2 ^ 32 → length (cond b xs ys) < 2 ^ 32
short_choice true xs ys h k = h
short_choice false xs ys h k = k

all_choice : (b : Bool) (parts : List Packed) → All IsShort parts → All IsShort (cond b (drop 1 parts) parts)
all_choice true parts short = All-drop IsShort 1 parts short
all_choice false parts short = short

-- what stands in place of a section is no longer than its length can say
in_place_short : (parts : List Packed) (s : List ℕ) → All IsShort parts → length s < 2 ^ 32 → length (in_place parts s) < 2 ^ 32
in_place_short [] s short low = low
in_place_short (part ∷ parts) s short low =
    let is : IsShort part = short 0 part (omega arith) in
    short_choice (section_number s == 5) part.section5 (cond (section_number s == 6) part.section6 (cond (section_number s == 7) part.section7 s)) is.short_5
    (short_choice (section_number s == 6) part.section6 (cond (section_number s == 7) part.section7 s) is.short_6
    (short_choice (section_number s == 7) part.section7 s is.short_7 low))

-- the first section that is left, and the others
first_replaced : (grid : List ℕ → List ℕ) (left rest : List Placed) (start number : ℕ) (s : List ℕ) (parts : List Packed) → left ≡ placed_at start s ∷ rest
    → section_number s ≡ number
    → concat (replaced_with grid left parts) ≡ in_place_with grid parts s ++ concat (replaced_with grid rest (cond (number == 7) (drop 1 parts) parts))
first_replaced grid left rest start number s parts are numbered =
    ap (λ (xs : List Placed). concat (replaced_with grid xs parts)) are
    ∙ ap (λ (n : ℕ). in_place_with grid parts s ++ concat (replaced_with grid rest (cond (n == 7) (drop 1 parts) parts))) numbered

-- a Section 3 stays where no other is made of it
grid_stays : (parts : List Packed) (s : List ℕ) → section_number s ≡ 3 → s ≡ in_place parts s
grid_stays [] s e = refl
grid_stays (part ∷ parts) s e =
    sym (ap (λ (n : ℕ). cond (n == 5) part.section5 (cond (n == 6) part.section6 (cond (n == 7) part.section7 s))) e)

stays_by : (b : Bool) (s t : List ℕ) → (b ≡ true → s ≡ t) → cond b s t ≡ t
stays_by true s t h = h refl
stays_by false s t h = refl

in_place_as_it_is : (parts : List Packed) (s : List ℕ) → in_place_with as_it_is parts s ≡ in_place parts s
in_place_as_it_is parts s =
    stays_by (section_number s == 3) s (in_place parts s) (λ e. grid_stays parts s (eqb-true (section_number s) 3 e))

module _ (profile : Profile) (m : List ℕ) (packed : List Packed) (at next_at : Position) (start number : ℕ) (s : List ℕ) (parts parts_next : List Packed)
    (e : step_from m at ≡ Next s) (itself : StatesItself number s) (is : start ≡ at.place) (next_is : next_at ≡ position_after at s)
    (parts_are : parts_next ≡ cond (number == 7) (drop 1 parts) parts) where
  pub counting_next : (total : ℕ) (put : List ℕ) → Counting profile m packed at parts total → put ≡ in_place parts s
      → Counting profile m packed next_at parts_next (total + length put)
  counting_next total put h put_is =
      let f = ahead_next profile m at next_at start s h.left h.ahead e is next_is in
      let others = concat (replaced f.rest (cond (number == 7) (drop 1 parts) parts)) in
      let first = first_replaced as_it_is h.left f.rest start number s parts f.are itself.number_stands ∙ ap (λ (xs : List ℕ). xs ++ others) (in_place_as_it_is parts s) in
      let small : length (in_place parts s) < 2 ^ 32 = in_place_short parts s h.short (omega (arith, f.shorter)) in
      let size : length (concat (replaced h.left parts)) ≡ length (in_place parts s) + length others =
      ap length first ∙ length-append (in_place parts s) others in
      subst (λ (xs : List Packed). Counting profile m packed next_at xs (total + length put)) (sym parts_are)
      (record {
        left = f.rest;
        ahead = f.ahead;
        short = all_choice (number == 7) parts h.short;
        sum = omega (arith, h.sum, size, ap length put_is);
        bound = omega (arith, h.bound, small, ap length put_is, itself.least, ap (λ (x : Position). x.place) next_is);
      })

  -- P is so of the section at hand, if it is a Section 3
  pub copying_here : (grid : List ℕ → List ℕ) (P : List ℕ → Type 0) (before out : List ℕ) → Copying profile grid P m packed at parts before out → number ≡ 3 → P s
  copying_here grid P before out h three =
      let f = ahead_next profile m at next_at start s h.left h.ahead e is next_is in
      let each : EachGrid P (placed_at start s ∷ f.rest) = subst (EachGrid P) f.are h.each in
      each.0 (itself.number_stands ∙ three)

  pub copying_next : (grid : List ℕ → List ℕ) (P : List ℕ → Type 0) (before out new : List ℕ) → Copying profile grid P m packed at parts before out
      → new ≡ out ++ in_place_with grid parts s → Copying profile grid P m packed next_at parts_next before new
  copying_next grid P before out new h new_is =
      let f = ahead_next profile m at next_at start s h.left h.ahead e is next_is in
      let first = first_replaced grid h.left f.rest start number s parts f.are itself.number_stands in
      let put = in_place_with grid parts s in
      let others = concat (replaced_with grid f.rest (cond (number == 7) (drop 1 parts) parts)) in
      let each : EachGrid P (placed_at start s ∷ f.rest) = subst (EachGrid P) f.are h.each in
      subst (λ (xs : List Packed). Copying profile grid P m packed next_at xs before new) (sym parts_are)
      (record {
        left = f.rest;
        ahead = f.ahead;
        each = each.1;
        same = ap (λ (xs : List ℕ). xs ++ others) new_is ∙ append_assoc out put others ∙ ap (λ (xs : List ℕ). out ++ xs) (sym first) ∙ h.same;
      })

-- at the End Section
pub counting_end : (profile : Profile) (m : List ℕ) (packed : List Packed) (at : Position) (parts : List Packed) (total : ℕ) → Counting profile m packed at parts total → step_from m at ≡ End
    → total ≡ length (assembled m packed)
counting_end profile m packed at parts total h e =
    let none : length (concat (replaced h.left parts)) ≡ 0 = ap (λ (xs : List Placed). length (concat (replaced xs parts))) (ahead_end profile m at h.left h.ahead e) in
    omega (arith, h.sum, none, assembled_long as_it_is m packed (omega (arith, message_least profile m h.ahead.accepted)))

pub copying_end : (profile : Profile) (grid : List ℕ → List ℕ) (P : List ℕ → Type 0) (m : List ℕ) (packed : List Packed) (at : Position) (parts : List Packed) (before out : List ℕ)
    → Copying profile grid P m packed at parts before out → step_from m at ≡ End → out ≡ before ++ assembled_body_with grid m packed
copying_end profile grid P m packed at parts before out h e =
    sym (append-nil out) ∙ ap (λ (xs : List Placed). out ++ concat (replaced_with grid xs parts)) (sym (ahead_end profile m at h.left h.ahead e)) ∙ h.same

-- ---- Sections 3 of the lengths that they had

abbrev pub KeepsLength : (List ℕ → List ℕ) → List ℕ → Type 0
KeepsLength grid s = length (grid s) ≡ length s

in_place_as_long : (grid : List ℕ → List ℕ) (parts : List Packed) (s : List ℕ) → (section_number s ≡ 3 → KeepsLength grid s)
    → length (in_place_with grid parts s) ≡ length (in_place_with as_it_is parts s)
in_place_as_long grid parts s same =
    by (section_number s == 3) (in_place parts s) (λ e. same (eqb-true (section_number s) 3 e)) where
      by : (b : Bool) (other : List ℕ) → (b ≡ true → KeepsLength grid s) → length (cond b (grid s) other) ≡ length (cond b s other)
      by true other h = h refl
      by false other h = refl

replaced_as_long : (grid : List ℕ → List ℕ) (sections : List Placed) (parts : List Packed) → EachGrid (KeepsLength grid) sections
    → length (concat (replaced_with grid sections parts)) ≡ length (concat (replaced sections parts))
replaced_as_long grid [] parts each = refl
replaced_as_long grid (s ∷ sections) parts each =
    let after = cond (is_numbered 7 s) (drop 1 parts) parts in
    let here = in_place_as_long grid parts s.octets each.0 in
    let rest = replaced_as_long grid sections after each.1 in
    length-append (in_place_with grid parts s.octets) (concat (replaced_with grid sections after))
    ∙ ap₂ (λ (a b : ℕ). a + b) here rest
    ∙ sym (length-append (in_place_with as_it_is parts s.octets) (concat (replaced sections after)))

-- the message is as long as with the Sections 3 that it had
pub assembled_as_long : (profile : Profile) (grid : List ℕ → List ℕ) (m : List ℕ) (packed : List Packed) → IsMessageUnder profile m
    → ((i : ℕ) → 1 ≤ i → i ≤ field_count m → KeepsLength grid (part_octets m i 3))
    → length (assembled_with grid m packed) ≡ length (assembled m packed)
assembled_as_long profile grid m packed h same =
    let least = message_least profile m h in
    let body = replaced_as_long grid (sections_of m) packed (each_grid_of profile (KeepsLength grid) m h same) in
    omega (arith, assembled_long grid m packed (omega (arith, least)), assembled_long as_it_is m packed (omega (arith, least)), body)
