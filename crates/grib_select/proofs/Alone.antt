-- A field cut out of an accepted message.
use Rattle.std.proofs.Common.{◌≡◌, ◌≢◌, ℕ, ◌+◌, ◌-◌, ◌≤◌, ◌⊎◌, List, [], ◌∷◌, ◌++◌, length, take, inl, inr, refl, sym, ap, ◌∙◌, arith, subst, Bool, eq-eqb, ne_eqb, append_assoc, length-append}
use Rattle.std.specs.List.{concat, count_by}
use Rattle.std.proofs.lemmas.Bool.{cases_eq}
use Rattle.grib_bits.specs.Octets.{StatesItself}
use Rattle.grib_base.specs.Rules.{located, choose}
use Rattle.grib_base.specs.declared.limits.TheConstants.{MOST_OCTETS}
use Rattle.grib_packing.specs.Entries.{column_from}
use Rattle.grib_bitmap.specs.Mask.{bitmap_indicator}
use Rattle.grib_bits.specs.Encoding.{octets_of}
use Rattle.grib_base.specs.declared.profile.Profile.{Profile}
use Rattle.grib2_sections.specs.Head.{end_mark}
use Rattle.grib2_sections.specs.Frame.{Placed, placed_at, section_number, may_follow}
use Rattle.grib2_message.specs.View.{is_numbered, octets_in_force, earlier_bitmap, first_octets, own_bitmap, mask_in_force}
use Rattle.grib2_message.specs.Grammar.{GrammarUnder, IsSection, AreSections}
use Rattle.grib2_message.specs.Fields.{field_count, field_sections, sections_up_to_field, part_octets, column_of}
use Rattle.grib2_message.specs.Message.{IsMessageUnder}
use Rattle.grib2_message.proofs.Placing.{placed_from}
use Rattle.grib2_message.proofs.Latest.{octets_same, octets_other, own_alone, own_repeated}
use Rattle.grib2_message.proofs.Sound.{bitmap_own, bitmap_kept, bitmap_not_own, count_other}
use Rattle.grib2_message.proofs.Whole.{sections_alone}
use Rattle.grib_select.specs.Single.{field_part, first_parts, single_of}
use Rattle.grib_select.proofs.Accepted.{octets_of_all, sound_of, UpTo, field_up_to, part_itself, local_itself, count_none}
use Rattle.grib2_message.proofs.Ways.{up_other}
use Rattle.grib2_message.proofs.Parted.{IsHead, joined_grammar, message_least}
use Rattle.grib2_message.proofs.PutTogether.{head_of}
use Rattle.grib_select.proofs.Composed.{message_in_grammar, message_most}
use Rattle.grib_select.proofs.Cut.{StandsAlone, stands_alone, stands_here, Parts, all_parts, five_all, seven_all, mask_all, parts_follow, up_to_end, one_end}

-- ---- how long the sections of a field are together

-- numbers for Sections 1 to 7, of which that of section n becomes l, or grows by l
sum_grows : (n l a1 a2 a3 a4 a5 b a7 c1 c2 c3 c4 c5 d c7 : ℕ)
    → ((n ≡ 1 → c1 ≡ l) × (n ≢ 1 → c1 ≡ a1)) → ((n ≡ 2 → c2 ≡ l) × (n ≢ 2 → c2 ≡ a2)) → ((n ≡ 3 → c3 ≡ l) × (n ≢ 3 → c3 ≡ a3))
    → ((n ≡ 4 → c4 ≡ l) × (n ≢ 4 → c4 ≡ a4)) → ((n ≡ 5 → c5 ≡ l) × (n ≢ 5 → c5 ≡ a5)) → ((n ≡ 6 → d ≤ b + l) × (n ≢ 6 → d ≡ b))
    → ((n ≡ 7 → c7 ≡ l) × (n ≢ 7 → c7 ≡ a7)) → c1 + c2 + c3 + c4 + c5 + d + c7 ≤ l + (a1 + a2 + a3 + a4 + a5 + b + a7)
sum_grows n l a1 a2 a3 a4 a5 b a7 c1 c2 c3 c4 c5 d c7 h1 h2 h3 h4 h5 h6 h7 =
    let r1 : (c1 ≡ l) × (n ≡ 1) ⊎ (c1 ≡ a1) = elim (cases_eq n 1) [ inl e ↦ inl (h1.0 e, e) | inr o ↦ inr (h1.1 o) ] in
    let r2 : (c2 ≡ l) × (n ≡ 2) ⊎ (c2 ≡ a2) = elim (cases_eq n 2) [ inl e ↦ inl (h2.0 e, e) | inr o ↦ inr (h2.1 o) ] in
    let r3 : (c3 ≡ l) × (n ≡ 3) ⊎ (c3 ≡ a3) = elim (cases_eq n 3) [ inl e ↦ inl (h3.0 e, e) | inr o ↦ inr (h3.1 o) ] in
    let r4 : (c4 ≡ l) × (n ≡ 4) ⊎ (c4 ≡ a4) = elim (cases_eq n 4) [ inl e ↦ inl (h4.0 e, e) | inr o ↦ inr (h4.1 o) ] in
    let r5 : (c5 ≡ l) × (n ≡ 5) ⊎ (c5 ≡ a5) = elim (cases_eq n 5) [ inl e ↦ inl (h5.0 e, e) | inr o ↦ inr (h5.1 o) ] in
    let r6 : (d ≤ b + l) × (n ≡ 6) ⊎ (d ≡ b) = elim (cases_eq n 6) [ inl e ↦ inl (h6.0 e, e) | inr o ↦ inr (h6.1 o) ] in
    let r7 : (c7 ≡ l) × (n ≡ 7) ⊎ (c7 ≡ a7) = elim (cases_eq n 7) [ inl e ↦ inl (h7.0 e, e) | inr o ↦ inr (h7.1 o) ] in
    omega arith

-- how many octets of a section are in force
abbrev size_in_force : ℕ → List Placed → ℕ
size_in_force k before = length (octets_in_force k before)

in_force_grows : (k : ℕ) (s : Placed) (before : List Placed)
    → (section_number s.octets ≡ k → size_in_force k (s ∷ before) ≡ length s.octets) × (section_number s.octets ≢ k → size_in_force k (s ∷ before) ≡ size_in_force k before)
in_force_grows k s before = (λ same. ap length (octets_same s before k same), λ other. ap length (octets_other s before k other))

-- all sections in force, with some bits for Section 6
abbrev together : List Placed → ℕ → ℕ
together before bits =
    size_in_force 1 before + size_in_force 2 before + size_in_force 3 before + size_in_force 4 before + size_in_force 5 before + bits + size_in_force 7 before

module _ (bits : List Placed → ℕ) (none : bits [] ≡ 0)
    (grows : (s : Placed) (before : List Placed) → (section_number s.octets ≡ 6 → bits (s ∷ before) ≤ bits before + length s.octets) × (section_number s.octets ≢ 6 → bits (s ∷ before) ≡ bits before)) where
  together_short : (before : List Placed) → together before (bits before) ≤ octets_of_all before
  together_short [] = omega (arith, none)
  together_short (s ∷ before) =
      let more = sum_grows (section_number s.octets) (length s.octets) (size_in_force 1 before) (size_in_force 2 before) (size_in_force 3 before) (size_in_force 4 before)
      (size_in_force 5 before) (bits before) (size_in_force 7 before) (size_in_force 1 (s ∷ before)) (size_in_force 2 (s ∷ before)) (size_in_force 3 (s ∷ before))
      (size_in_force 4 (s ∷ before)) (size_in_force 5 (s ∷ before)) (bits (s ∷ before)) (size_in_force 7 (s ∷ before))
      (in_force_grows 1 s before) (in_force_grows 2 s before) (in_force_grows 3 s before) (in_force_grows 4 s before) (in_force_grows 5 s before) (grows s before) (in_force_grows 7 s before) in
      let rest = together_short before in
      omega arith

-- with the last Section 6
short_in_force : (before : List Placed) → together before (size_in_force 6 before) ≤ octets_of_all before
short_in_force before =
    together_short (size_in_force 6) refl
    (λ s rest. (let g = in_force_grows 6 s rest in (λ same. (let e = g.0 same in omega arith), g.1))) before

-- and with the last one that has bits of its own
earlier_grows : (s : Placed) (before : List Placed)
    → (section_number s.octets ≡ 6 → length (first_octets (earlier_bitmap (s ∷ before))) ≤ length (first_octets (earlier_bitmap before)) + length s.octets)
    × (section_number s.octets ≢ 6 → length (first_octets (earlier_bitmap (s ∷ before))) ≡ length (first_octets (earlier_bitmap before)))
earlier_grows s before = (
  λ six. elim (cases_eq (bitmap_indicator s.octets) 0) [
    | inl own ↦ (let e : length (first_octets (earlier_bitmap (s ∷ before))) ≡ length s.octets = ap (λ xs. length (first_octets xs)) (bitmap_own s before six own) in omega arith)
    | inr other ↦ (let e : length (first_octets (earlier_bitmap (s ∷ before))) ≡ length (first_octets (earlier_bitmap before)) = ap (λ xs. length (first_octets xs)) (bitmap_not_own s before six other) in omega arith)
  ],
  λ other. ap (λ xs. length (first_octets xs)) (bitmap_kept s before other),
)

short_earlier : (before : List Placed) → together before (length (first_octets (earlier_bitmap before))) ≤ octets_of_all before
short_earlier before = together_short (λ xs. length (first_octets (earlier_bitmap xs))) refl earlier_grows before

short_own : (before : List Placed) → together before (length (own_bitmap before)) ≤ octets_of_all before
short_own before = elim (cases_eq (bitmap_indicator (octets_in_force 6 before)) 254) [
  | inl repeats ↦ subst (λ (b : List ℕ). together before (length b) ≤ octets_of_all before) (sym (own_repeated before repeats)) (short_earlier before)
  | inr other ↦ subst (λ (b : List ℕ). together before (length b) ≤ octets_of_all before) (sym (own_alone before other)) (short_in_force before)
]

-- each of them
size_short : (k : ℕ) (before : List Placed) → size_in_force k before ≤ octets_of_all before
size_short k [] = omega arith
size_short k (s ∷ before) =
    let g = in_force_grows k s before in
    let rest = size_short k before in
    elim (cases_eq (section_number s.octets) k) [
      | inl same ↦ (let e = g.0 same in omega arith)
      | inr other ↦ (let e = g.1 other in omega arith)
    ]

-- and what stands in a message of one field
pub part_short : (profile : Profile) (m : List ℕ) (i k : ℕ) → IsMessageUnder profile m → 1 ≤ i → i ≤ field_count m → length (field_part m i k) ≤ MOST_OCTETS
part_short profile m i k h low high =
    let xs = field_sections m i in
    let up = field_up_to profile m i h low high in
    let most = message_most profile m h in
    let part = size_short k xs in
    let own = short_own xs in
    elim (cases_eq k 6) [
      | inl six ↦ (let e : length (field_part m i k) ≡ length (own_bitmap xs) = ap length (ap (λ (b : Bool). choose b (λ _. own_bitmap xs) (λ _. part_octets m i k)) (eq-eqb k 6 six)) in omega (arith, up.short))
      | inr other ↦ (let e : length (field_part m i k) ≡ length (part_octets m i k) = ap length (ap (λ (b : Bool). choose b (λ _. own_bitmap xs) (λ _. part_octets m i k)) (ne_eqb k 6 other)) in omega (arith, up.short))
    ]

-- ---- the sections of the new message

-- what is known of it
pub record Cut (profile : Profile) (m : List ℕ) (i : ℕ) (sections : List (List ℕ)) (head : List Placed) (q : ℕ) : Type 0 where
  pub body : first_parts m i 7 ≡ concat sections
  pub follow : AreSections profile [] 17 sections
  pub count : count_by (is_numbered 7) (placed_from 17 sections) ≡ 1
  pub field : sections_up_to_field 1 [] (placed_from 17 sections) ≡ all_parts head q (part_octets m i 3) (part_octets m i 4) (part_octets m i 5) (own_bitmap (field_sections m i)) (part_octets m i 7)

module _ (profile : Profile) (m : List ℕ) (i : ℕ) (h : IsMessageUnder profile m) (low : 1 ≤ i) (high : i ≤ field_count m) where
  up : UpTo profile (field_sections m i) (length m - 20)
  up = field_up_to profile m i h low high

  b : StandsAlone (field_sections m i) (own_bitmap (field_sections m i))
  b = stands_alone profile (field_sections m i) up.accepted up.ends

  pub parts : Parts profile (part_octets m i 3) (part_octets m i 4) (part_octets m i 5) (own_bitmap (field_sections m i)) (part_octets m i 7)
  parts =
      let xs = field_sections m i in
      let sound = sound_of profile xs up.accepted in
      record {
        itself_3 = part_itself profile 3 xs up.accepted (omega arith) (omega (arith, up.ends)) (λ e. absurd (omega arith));
        itself_4 = part_itself profile 4 xs up.accepted (omega arith) (omega (arith, up.ends)) (λ e. absurd (omega arith));
        itself_5 = part_itself profile 5 xs up.accepted (omega arith) (omega (arith, up.ends)) (λ e. absurd (omega arith));
        itself_6 = b.itself;
        itself_7 = part_itself profile 7 xs up.accepted (omega arith) (omega (arith, up.ends)) (λ e. absurd (omega arith));
        grid = sound.grid (omega (arith, up.ends));
        product = sound.product (omega (arith, up.ends));
        packing = sound.packing (omega (arith, up.ends));
        alone = b.alone;
        bitmap = b.rules;
        values = sound.values (omega (arith, up.ends));
      }

  itself_1 : StatesItself 1 (part_octets m i 1)
  itself_1 = part_itself profile 1 (field_sections m i) up.accepted (omega arith) (omega (arith, up.ends)) (λ e. absurd (omega arith))

  first_stands : IsSection profile [] 17 (part_octets m i 1)
  first_stands =
      stands_here profile [] 17 1 (part_octets m i 1) itself_1 refl (ap (located 17) ((sound_of profile (field_sections m i) up.accepted).identification (omega (arith, up.ends))))

  not_1 : (k : ℕ) → 1 ≢ k → section_number (part_octets m i 1) ≢ k
  not_1 k other same = other (sym itself_1.number_stands ∙ same)

  -- where Section 2 is absent
  cut_without : part_octets m i 2 ≡ []
      → Cut profile m i (part_octets m i 1 ∷ part_octets m i 3 ∷ part_octets m i 4 ∷ part_octets m i 5 ∷ own_bitmap (field_sections m i) ∷ part_octets m i 7 ∷ [])
      (placed_at 17 (part_octets m i 1) ∷ []) (17 + length (part_octets m i 1))
  cut_without none =
      let p1 = part_octets m i 1 in
      let p3 = part_octets m i 3 in
      let p4 = part_octets m i 4 in
      let p5 = part_octets m i 5 in
      let p6 = own_bitmap (field_sections m i) in
      let p7 = part_octets m i 7 in
      let s1 = placed_at 17 p1 in
      let head = s1 ∷ [] in
      let q = 17 + length p1 in
      let found = placed_from q (p3 ∷ p4 ∷ p5 ∷ p6 ∷ p7 ∷ []) in
      record {
        body = ap (λ (x : List ℕ). p1 ++ (x ++ (p3 ++ (p4 ++ (p5 ++ (p6 ++ (p7 ++ []))))))) none;
        follow = (
          first_stands,
          parts_follow profile head q p3 p4 p5 p6 p7 parts (ap (λ (n : ℕ). may_follow n 3) itself_1.number_stands) (count_other s1 [] 4 (not_1 4 (λ e. absurd (omega arith)))),
        );
        count = count_none s1 found (not_1 7 (λ e. absurd (omega arith))) ∙ one_end profile head q p3 p4 p5 p6 p7 parts;
        field = up_other s1 [] found 0 (not_1 7 (λ e. absurd (omega arith))) ∙ up_to_end profile head q p3 p4 p5 p6 p7 parts;
      }

  -- where it is there
  cut_with : StatesItself 2 (part_octets m i 2)
      → Cut profile m i (part_octets m i 1 ∷ part_octets m i 2 ∷ part_octets m i 3 ∷ part_octets m i 4 ∷ part_octets m i 5 ∷ own_bitmap (field_sections m i) ∷ part_octets m i 7 ∷ [])
      (placed_at (17 + length (part_octets m i 1)) (part_octets m i 2) ∷ placed_at 17 (part_octets m i 1) ∷ []) (17 + length (part_octets m i 1) + length (part_octets m i 2))
  cut_with itself_2 =
      let p1 = part_octets m i 1 in
      let p2 = part_octets m i 2 in
      let p3 = part_octets m i 3 in
      let p4 = part_octets m i 4 in
      let p5 = part_octets m i 5 in
      let p6 = own_bitmap (field_sections m i) in
      let p7 = part_octets m i 7 in
      let s1 = placed_at 17 p1 in
      let s2 = placed_at (17 + length p1) p2 in
      let head = s2 ∷ s1 ∷ [] in
      let q = 17 + length p1 + length p2 in
      let found = placed_from q (p3 ∷ p4 ∷ p5 ∷ p6 ∷ p7 ∷ []) in
      let not_2 : (k : ℕ) → 2 ≢ k → section_number p2 ≢ k = λ k other same. other (sym itself_2.number_stands ∙ same) in
      record {
        body = refl;
        follow = (
          first_stands,
          (
            stands_here profile (s1 ∷ []) (17 + length p1) 2 p2 itself_2 (ap (λ (n : ℕ). may_follow n 2) itself_1.number_stands) refl,
            parts_follow profile head q p3 p4 p5 p6 p7 parts (ap (λ (n : ℕ). may_follow n 3) itself_2.number_stands)
                (count_other s2 (s1 ∷ []) 4 (not_2 4 (λ e. absurd (omega arith))) ∙ count_other s1 [] 4 (not_1 4 (λ e. absurd (omega arith)))),
          ),
        );
        count =
            count_none s1 (s2 ∷ found) (not_1 7 (λ e. absurd (omega arith))) ∙ count_none s2 found (not_2 7 (λ e. absurd (omega arith)))
            ∙ one_end profile head q p3 p4 p5 p6 p7 parts;
        field =
            up_other s1 [] (s2 ∷ found) 0 (not_1 7 (λ e. absurd (omega arith))) ∙ up_other s2 (s1 ∷ []) found 0 (not_2 7 (λ e. absurd (omega arith)))
            ∙ up_to_end profile head q p3 p4 p5 p6 p7 parts;
      }

  -- the sections, and where those from Section 3 on stand
  pub record SomeCut : Type 0 where
    pub sections : List (List ℕ)
    pub head : List Placed
    pub place : ℕ
    pub cut : Cut profile m i sections head place

  some_cut : SomeCut
  some_cut = elim (local_itself profile (field_sections m i) up.accepted) [
    | inl none ↦ record { sections = _; head = _; place = _; cut = cut_without none }
    | inr itself_2 ↦ record { sections = _; head = _; place = _; cut = cut_with itself_2 }
  ]

  -- how long it is
  short : 16 + length (first_parts m i 7) + 4 ≤ length m
  short =
      let xs = field_sections m i in
      let least = message_least profile m h in
      let p1 = part_octets m i 1 in
      let p2 = part_octets m i 2 in
      let p3 = part_octets m i 3 in
      let p4 = part_octets m i 4 in
      let p5 = part_octets m i 5 in
      let p6 = own_bitmap xs in
      let p7 = part_octets m i 7 in
      let e7 = length-append p7 [] in
      let e6 = length-append p6 (p7 ++ []) in
      let e5 = length-append p5 (p6 ++ (p7 ++ [])) in
      let e4 = length-append p4 (p5 ++ (p6 ++ (p7 ++ []))) in
      let e3 = length-append p3 (p4 ++ (p5 ++ (p6 ++ (p7 ++ [])))) in
      let e2 = length-append p2 (p3 ++ (p4 ++ (p5 ++ (p6 ++ (p7 ++ []))))) in
      let e1 = length-append p1 (p2 ++ (p3 ++ (p4 ++ (p5 ++ (p6 ++ (p7 ++ [])))))) in
      let own = short_own xs in
      let all = up.short in
      omega arith

  grammar : (c : SomeCut) → GrammarUnder profile (single_of m i) c.sections
  grammar c =
      let n = 16 + length (first_parts m i 7) + 4 in
      let same : n ≡ 16 + length (concat c.sections) + 4 = ap (λ (xs : List ℕ). 16 + length xs + 4) c.cut.body in
      let few : n ≤ MOST_OCTETS = omega (arith, short, message_most profile m h) in
      let head_octets : List ℕ = take 8 m ++ octets_of 8 n in
      let is : single_of m i ≡ head_octets ++ (concat c.sections ++ end_mark) =
      sym (append_assoc (take 8 m) (octets_of 8 n) (first_parts m i 7 ++ end_mark))
      ∙ ap (λ (xs : List ℕ). head_octets ++ (xs ++ end_mark)) c.cut.body in
      subst (λ (x : List ℕ). GrammarUnder profile x c.sections) (sym is)
      (joined_grammar profile head_octets c.sections (subst (λ (x : ℕ). IsHead head_octets x) same (head_of profile m n h few)) (omega (arith, few, same)) c.cut.follow)

  pub single_accepted : IsMessageUnder profile (single_of m i)
  single_accepted = message_in_grammar profile (single_of m i) some_cut.sections (grammar some_cut)

  pub single_count : field_count (single_of m i) ≡ 1
  single_count = ap (count_by (is_numbered 7)) (sections_alone profile (single_of m i) some_cut.sections (grammar some_cut)) ∙ some_cut.cut.count

  single_field : (c : SomeCut) → field_sections (single_of m i) 1
      ≡ all_parts c.head c.place (part_octets m i 3) (part_octets m i 4) (part_octets m i 5) (own_bitmap (field_sections m i)) (part_octets m i 7)
  single_field c = ap (sections_up_to_field 1 []) (sections_alone profile (single_of m i) c.sections (grammar c)) ∙ c.cut.field

  single_column_by : (c : SomeCut) → column_of (single_of m i) 1 ≡ column_of m i
  single_column_by c =
      let p3 = part_octets m i 3 in
      let p4 = part_octets m i 4 in
      let p5 = part_octets m i 5 in
      let p6 = own_bitmap (field_sections m i) in
      let p7 = part_octets m i 7 in
      let five = five_all profile c.head c.place p3 p4 p5 p6 p7 parts in
      let seven = seven_all profile c.head c.place p3 p4 p5 p6 p7 parts in
      let mask = mask_all profile c.head c.place p3 p4 p5 p6 p7 parts ∙ b.mask in
      ap (λ (xs : List Placed). column_from (octets_in_force 5 xs) (mask_in_force xs) (octets_in_force 7 xs)) (single_field c)
      ∙ (λ j. column_from (five j) (mask j) (seven j))

  pub single_column : column_of (single_of m i) 1 ≡ column_of m i
  single_column = single_column_by some_cut
