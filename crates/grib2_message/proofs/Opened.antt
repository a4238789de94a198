-- What the profile of the stated templates accepts, each profile accepts; and where no template is another, it accepts what
-- each profile accepts.
use Rattle.std.proofs.Common.{◌≡◌, ℕ, zero, suc, ◌+◌, None, List, [], ◌∷◌, length, get_or, inl, inr, refl, sym, ap, ◌∙◌, subst, add-one}
use Rattle.grib_base.specs.Rules.{Rule, first_fault, first_fault_at, located}
use Rattle.grib_base.specs.declared.profile.Profile.{Profile}
use Rattle.grib_base.specs.declared.profile.Profile.TheVariants.{Stated, Open}
use Rattle.grib2_sections.specs.Verdict.{Accepted}
use Rattle.grib2_sections.specs.Head.{head_rules}
use Rattle.grib2_sections.specs.Frame.{Placed, section_at, section_number, ends_at}
use Rattle.grib2_grids.specs.Grid.{grid_points, grid_rules}
use Rattle.grib2_grids.proofs.Under.{same_grid_rules, grid_accepted}
use Rattle.grib2_products.specs.Product.{product_rules}
use Rattle.grib2_products.proofs.Under.{same_product_rules, product_accepted}
use Rattle.grib_packing.specs.Entries.{packing_fault_under}
use Rattle.grib_packing.proofs.OpaquePackings.{accepted_known, opened_under, read_under, stated_accepts, stated_under}
use Rattle.grib2_message.specs.View.{points_in_force, section_count}
use Rattle.grib2_message.specs.Acceptance.{contents_faults, no_rules, section_fault_under, verdict_from, verdict_under}
use Rattle.grib2_message.specs.Fields.{sections_from, sections_of, part_octets}
use Rattle.grib2_message.specs.Grammar.{HasStatedTemplate, HaveStatedTemplates}
use Rattle.grib2_message.specs.Message.{IsMessageUnder, IsAnyMessage, FieldPassesUnder, AnyFieldPasses, FieldReadsUnder, HasValues}
use Rattle.grib2_message.proofs.Passed.{unless_tells, unless_none}
use Rattle.grib2_message.proofs.Steps.{here, step_tells}
use Rattle.grib2_message.proofs.Sound.{none_located}
use Rattle.grib2_message.proofs.Placing.{some_found}
use Rattle.grib2_message.proofs.Joined.{goes_on, stops}

module _ (profile : Profile) where
  by_number : (n : ℕ) (before : List Placed) (s : Placed) → get_or (contents_faults Stated) n no_rules before s ≡ None → get_or (contents_faults profile) n no_rules before s ≡ None
  by_number zero before s none = none
  by_number (suc zero) before s none = none
  by_number (suc (suc zero)) before s none = none
  by_number (suc (suc (suc zero))) before s none =
      ap (located s.start) (grid_accepted profile s.octets (none_located s.start (first_fault (grid_rules s.octets)) none))
  by_number (suc (suc (suc (suc zero)))) before s none =
      let n = section_count 4 before + 1 in
      ap (located s.start) (product_accepted profile s.octets n (none_located s.start (first_fault (product_rules s.octets n)) none))
  by_number (suc (suc (suc (suc (suc zero))))) before s none =
      let points = points_in_force before in
      ap (located s.start) (opened_under profile s.octets points (none_located s.start (packing_fault_under Stated s.octets points) none))
  by_number (suc (suc (suc (suc (suc (suc zero)))))) before s none = none
  by_number (suc (suc (suc (suc (suc (suc (suc zero))))))) before s none = none
  by_number (suc (suc (suc (suc (suc (suc (suc (suc n)))))))) before s none = none

  -- a section
  pub contents_opened : (before : List Placed) (s : Placed) → section_fault_under Stated before s ≡ None → section_fault_under profile before s ≡ None
  contents_opened before s none = by_number (section_number s.octets) before s none

  -- the sections from octet q on
  walk_opened : (turns : ℕ) (m : List ℕ) (before : List Placed) (q total : ℕ) → verdict_from Stated turns m before q ≡ Accepted total → verdict_from profile turns m before q ≡ Accepted total
  walk_opened zero m before q total e = cc
  walk_opened (suc turns) m before q total e =
      let told = step_tells Stated turns m before q total e in
      elim told.1 [
        | inl ended ↦ stops profile turns m before q ended.ends told.0 ∙ ap Accepted ended.states
        | inr went ↦
            goes_on profile turns m before q went.goes told.0 went.frame (contents_opened before (here m q) went.contents)
            ∙ walk_opened turns m (here m q ∷ before) (q + length (section_at m q)) total went.next
      ]

  -- the first octets of an input
  pub verdict_opened : (rest : List ℕ) (total : ℕ) → verdict_under Stated rest ≡ Accepted total → verdict_under profile rest ≡ Accepted total
  verdict_opened rest total e =
      let told = unless_tells (first_fault (head_rules rest)) (λ _. verdict_from Stated (length rest + 1) rest [] 17) total e in
      unless_none (first_fault (head_rules rest)) (λ _. verdict_from profile (length rest + 1) rest [] 17) told.0
      ∙ walk_opened (length rest + 1) rest [] 17 total told.1

  -- a message
  pub message_opened : (m : List ℕ) → IsMessageUnder Stated m → IsMessageUnder profile m
  message_opened m h = record { indicated = h.indicated; edition_stands = h.edition_stands; accepted = verdict_opened m (length m) h.accepted }

  -- ---- where all templates are stated ones

  closed_number : (n : ℕ) (before : List Placed) (s : Placed) → section_number s.octets ≡ n → HasStatedTemplate s
      → get_or (contents_faults profile) n no_rules before s ≡ None → get_or (contents_faults Stated) n no_rules before s ≡ None
  closed_number zero before s e h none = none
  closed_number (suc zero) before s e h none = none
  closed_number (suc (suc zero)) before s e h none = none
  closed_number (suc (suc (suc zero))) before s e h none = ap (λ (rules : List Rule). first_fault_at s.start rules) (sym (same_grid_rules profile s.octets (h.grid e))) ∙ none
  closed_number (suc (suc (suc (suc zero)))) before s e h none =
      ap (λ (rules : List Rule). first_fault_at s.start rules) (sym (same_product_rules profile s.octets (section_count 4 before + 1) (h.product e))) ∙ none
  closed_number (suc (suc (suc (suc (suc zero))))) before s e h none =
      let points = points_in_force before in
      ap (located s.start) (stated_under Stated s.octets points (h.packing e) ∙ sym (stated_under profile s.octets points (h.packing e))) ∙ none
  closed_number (suc (suc (suc (suc (suc (suc zero)))))) before s e h none = none
  closed_number (suc (suc (suc (suc (suc (suc (suc zero))))))) before s e h none = none
  closed_number (suc (suc (suc (suc (suc (suc (suc (suc n)))))))) before s e h none = none

  contents_closed : (before : List Placed) (s : Placed) → HasStatedTemplate s → section_fault_under profile before s ≡ None → section_fault_under Stated before s ≡ None
  contents_closed before s h none = closed_number (section_number s.octets) before s refl h none

  walk_closed : (turns : ℕ) (m : List ℕ) (before : List Placed) (q total : ℕ) → HaveStatedTemplates (sections_from turns m q)
      → verdict_from profile (suc turns) m before q ≡ Accepted total → verdict_from Stated (suc turns) m before q ≡ Accepted total
  walk_closed zero m before q total h e =
      let told = step_tells profile zero m before q total e in
      elim told.1 [
        | inl ended ↦ stops Stated zero m before q ended.ends told.0 ∙ ap Accepted ended.states
        | inr went ↦ (let never = went.next in cc)
      ]
  walk_closed (suc turns) m before q total h e =
      let told = step_tells profile (suc turns) m before q total e in
      elim told.1 [
        | inl ended ↦ stops Stated (suc turns) m before q ended.ends told.0 ∙ ap Accepted ended.states
        | inr went ↦
            let each : HaveStatedTemplates (here m q ∷ sections_from turns m (q + length (section_at m q))) =
            subst HaveStatedTemplates (some_found (ends_at m q) (λ _. here m q ∷ sections_from turns m (q + length (section_at m q))) went.goes) h in
            goes_on Stated (suc turns) m before q went.goes told.0 went.frame (contents_closed before (here m q) each.0 went.contents)
            ∙ walk_closed turns m (here m q ∷ before) (q + length (section_at m q)) total each.1 went.next
      ]

  pub verdict_closed : (rest : List ℕ) (total : ℕ) → HaveStatedTemplates (sections_of rest) → verdict_under profile rest ≡ Accepted total → verdict_under Stated rest ≡ Accepted total
  verdict_closed rest total h e =
      let told = unless_tells (first_fault (head_rules rest)) (λ _. verdict_from profile (length rest + 1) rest [] 17) total e in
      unless_none (first_fault (head_rules rest)) (λ _. verdict_from Stated (length rest + 1) rest [] 17) told.0
      ∙ ap (λ (t : ℕ). verdict_from Stated t rest [] 17) (add-one (length rest))
      ∙ walk_closed (length rest) rest [] 17 total h (ap (λ (t : ℕ). verdict_from profile t rest [] 17) (sym (add-one (length rest))) ∙ told.1)

-- no rule of the open profile refuses the sections of a field that no rule of another refuses
pub field_opened : (profile : Profile) (m : List ℕ) (i : ℕ) → FieldPassesUnder profile m i → AnyFieldPasses m i
field_opened Open m i h = h
field_opened Stated m i h = record {
  identification = h.identification;
  grid = grid_accepted Open (part_octets m i 3) h.grid;
  product = product_accepted Open (part_octets m i 4) 1 h.product;
  packing = opened_under Open (part_octets m i 5) (grid_points (part_octets m i 3)) h.packing;
  values = h.values;
}

-- and each message that a profile accepts
pub any_message : (profile : Profile) (m : List ℕ) → IsMessageUnder profile m → IsAnyMessage m
any_message Open m h = h
any_message Stated m h = message_opened Open m h

-- the values of a field can be read
pub field_read : (profile : Profile) (m : List ℕ) (i : ℕ) → FieldPassesUnder profile m i → HasValues m i → FieldReadsUnder profile m i
field_read profile m i h read = record {
  identification = h.identification;
  grid = h.grid;
  product = h.product;
  packing = read_under profile (part_octets m i 5) (grid_points (part_octets m i 3)) read h.packing;
  values = h.values;
}

-- each packing that the profile of the stated templates accepts is one
pub stated_read : (m : List ℕ) (i : ℕ) → FieldPassesUnder Stated m i → HasValues m i
stated_read m i h =
    let s5 = part_octets m i 5 in
    let points = grid_points (part_octets m i 3) in
    accepted_known s5 points (stated_accepts s5 points h.packing).1
