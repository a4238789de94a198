-- A message with changes in Section 1 is accepted, with the same column.
use Rattle.std.proofs.Common.{◌≡◌, inl, inr, ℕ, ◌+◌, ◌<◌, not, Option, List, [], ◌∷◌, ◌++◌, length, take, drop, IsTrue, slice_index_or, refl, sym, ap, ◌∙◌, subst, arith, append_assoc, append-nil, length-append, length-take-le, take_all, drop_at}
use Rattle.std.specs.Prelude.{All, unwrap_or}
use Rattle.grib_bits.specs.Bits.{bit}
use Rattle.grib_bits.specs.Octets.{num_on, octets}
use Rattle.grib_base.specs.declared.fault.Reason.TheVariants.{NoGridSection}
use Rattle.grib_base.specs.Rules.{Rule, rule, first_fault}
use Rattle.grib2_sections.specs.Head.{end_mark}
use Rattle.grib_packing.specs.declared.column.Column.{Column}
use Rattle.grib1_sections.specs.Acceptance.{identification, grid, bitmap, data_section, verdict_1}
use Rattle.grib1_sections.specs.Identification.{identification_rules, flags_bitmap}
use Rattle.grib1_sections.specs.Grid.{grid_points}
use Rattle.grib1_sections.specs.Bitmap.{mask_of}
use Rattle.grib1_sections.specs.Grammar.{Sections, IsSection, Grammar1}
use Rattle.grib_keys.specs.Keys1.{can_set1}
use Rattle.grib1_sections.specs.Column.{column_from, column1_of}
use Rattle.grib1_sections.specs.Message.{IsMessage1}
use Rattle.grib1_sections.proofs.Joined.{accepted_in_grammar, grammar_accepted, rejoined}
use Rattle.grib1_select.specs.declared.condition.Change1.{Change1}
use Rattle.grib1_select.specs.Changed.{with_changes1, with_keys1}
use Rattle.grib1_select.proofs.Places.{set_apart, set_before}
use Rattle.grib1_select.proofs.Changes.{stays}
use Rattle.grib1_select.proofs.Set.{opens, new_long, length-with_keys1, front_stays, states_same, new_identification}

-- the rules of a Section 1 with these flags
abbrev rules_of : ℕ → List Rule
rules_of flags = rule (not (bit 1 flags)) 8 NoGridSection flags ∷ []

joined_again : (f t b c d e : List ℕ) → f ++ (t ++ ((b ++ (c ++ d)) ++ e)) ≡ (f ++ (t ++ (b ++ (c ++ d)))) ++ e
joined_again f t b c d e = simp append_assoc

-- what stands behind Section 1
behind_first : (m f a more e : List ℕ) → m ≡ (f ++ (a ++ more)) ++ e → length f ≡ 8 → drop (8 + length a) m ≡ more ++ e
behind_first m f a more e is eight =
    ap (drop (8 + length a)) (is ∙ (let regroup : (f ++ (a ++ more)) ++ e ≡ (f ++ a) ++ (more ++ e) = simp append_assoc in regroup))
    ∙ drop_at (f ++ a) (more ++ e) (8 + length a) (omega (arith, length-append f a, eight))

module _ (m : List ℕ) (changes : List Change1) (small : All (λ octet. octet < 256) m) (h : IsMessage1 m) (can : All (λ c. IsTrue (can_set1 c.key)) changes) where
  all_there : take (length m) m ≡ m
  all_there = take_all (length m) m (omega arith)

  -- the sections of the message
  pub record Known : Type 0 where
    pub sections : Sections
    pub grammar : Grammar1 m sections

  pub known : Known
  known =
      let g = accepted_in_grammar m (length m) (subst (All (λ octet. octet < 256)) (sym all_there) small) h.indicated h.edition_stands h.accepted in
      record { sections = g.0; grammar = subst (λ (xs : List ℕ). Grammar1 xs g.0) all_there g.2 }

  flags_same : octets (with_changes1 changes (identification m)) 8 8 ≡ octets (identification m) 8 8
  flags_same =
      ap (num_on 0)
      (stays changes (identification m) 8 8 (opens m h).long (omega arith) (omega arith)
      (λ k d lt. elim (set_apart (slice_index_or changes k d).key (can k d lt)) [ inl before ↦ inr before | inr behind ↦ inl behind ]))

  scale_same : octets (with_changes1 changes (identification m)) 27 28 ≡ octets (identification m) 27 28
  scale_same =
      ap (num_on 0)
      (stays changes (identification m) 27 28 (opens m h).long (omega arith) (omega arith)
      (λ k d lt. inr (set_before (slice_index_or changes k d).key (can k d lt))))

  pub sections_with : Sections
  sections_with = record known.sections { identification = with_changes1 changes (identification m) }

  pub new_grammar : Grammar1 (with_keys1 m changes) sections_with
  unfolding sections_with
  new_grammar =
      let g = known.grammar in
      let a = known.sections.identification in
      let b = known.sections.grid in
      let c = unwrap_or known.sections.bitmap [] in
      let d = known.sections.data_section in
      let t = with_changes1 changes (identification m) in
      let o = opens m h in
      let r = rejoined m known.sections g in
      let first : identification m ≡ a = r.identification_is in
      let eight : length (take 8 m) ≡ 8 = length-take-le 8 m (omega (arith, o.there)) in
      let rest : drop (8 + length (identification m)) m ≡ (b ++ (c ++ d)) ++ end_mark =
      ap (λ (xs : List ℕ). drop (8 + length xs) m) first ∙ behind_first m (take 8 m) a (b ++ (c ++ d)) end_mark g.joined eight in
      let head : take 8 (with_keys1 m changes) ≡ take 8 m = front_stays m changes o 1 8 (omega arith) (omega arith) (omega arith) in
      let was : IsSection 28 identification_rules (identification m) = subst (IsSection 28 identification_rules) (sym first) g.identification_stands in
      record {
        joined =
            ap (λ (xs : List ℕ). take 8 m ++ (t ++ xs)) rest ∙ joined_again (take 8 m) t b c d end_mark
            ∙ ap (λ (f : List ℕ). (f ++ (t ++ (b ++ (c ++ d)))) ++ end_mark) (sym head);
        indicated = front_stays m changes o 1 4 (omega arith) (omega arith) (omega arith) ∙ h.indicated;
        edition_stands = ap (num_on 0) (front_stays m changes o 8 8 (omega arith) (omega arith) (omega arith)) ∙ h.edition_stands;
        total_stands =
            ap (num_on 0) (front_stays m changes o 5 7 (omega arith) (omega arith) (omega arith)) ∙ g.total_stands ∙ sym (length-with_keys1 m changes o);
        identification_stands = record {
          length_stands = ap (num_on 0) (states_same m changes o) ∙ o.states ∙ sym (new_long m changes o);
          long = omega (arith, new_long m changes o, o.long);
          rules_hold = ap (λ (n : ℕ). first_fault (rules_of n)) flags_same ∙ was.rules_hold;
        };
        grid_stands = g.grid_stands;
        flagged = g.flagged ∙ ap flags_bitmap (sym first) ∙ ap (bit 2) (sym flags_same);
        bitmap_stands = g.bitmap_stands;
        data_stands = g.data_stands;
      }

  pub new_message : IsMessage1 (with_keys1 m changes)
  new_message =
      let g = new_grammar in
      record {
        indicated = g.indicated;
        edition_stands = g.edition_stands;
        accepted = ap verdict_1 (sym (append-nil (with_keys1 m changes))) ∙ grammar_accepted (with_keys1 m changes) [] sections_with g;
      }

  column_by : (w : List ℕ) (s3 : Option (List ℕ)) (s2 s4 : List ℕ) → bitmap w ≡ s3 → grid w ≡ s2 → data_section w ≡ s4 → (d : ℕ) → octets (identification w) 27 28 ≡ d
      → column1_of w ≡ record (column_from (identification w) (mask_of s3 (grid_points s2)) s4) { d = d }
  column_by w s3 s2 s4 e f g d is =
      ap (λ (s : Option (List ℕ)). column_from (identification w) (mask_of s (grid_points (grid w))) (data_section w)) e
      ∙ ap (λ (s : List ℕ). column_from (identification w) (mask_of s3 (grid_points s)) (data_section w)) f
      ∙ ap (λ (s : List ℕ). column_from (identification w) (mask_of s3 (grid_points s2)) s) g
      ∙ ap (λ (n : ℕ). (let c : Column = record (column_from (identification w) (mask_of s3 (grid_points s2)) s4) { d = n } in c)) is

  pub new_column : column1_of (with_keys1 m changes) ≡ column1_of m
  unfolding sections_with
  new_column =
      let w = with_keys1 m changes in
      let r = rejoined m known.sections known.grammar in
      let n = rejoined w sections_with new_grammar in
      let scale : octets (identification w) 27 28 ≡ octets (identification m) 27 28 =
      ap (λ (s : List ℕ). octets s 27 28) (new_identification m changes (opens m h)) ∙ scale_same in
      column_by w known.sections.bitmap known.sections.grid known.sections.data_section n.bitmap_is n.grid_is n.data_is (octets (identification m) 27 28) scale
      ∙ sym (column_by m known.sections.bitmap known.sections.grid known.sections.data_section r.bitmap_is r.grid_is r.data_is (octets (identification m) 27 28) refl)
