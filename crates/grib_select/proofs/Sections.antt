-- Sections of an accepted message as changes are made in them.
use Rattle.std.proofs.Common.{◌≡◌, ◌≢◌, ℕ, ◌+◌, ◌-◌, ◌≤◌, true, false, not, ◌==◌, Some, None, unwrap_or, List, [], ◌∷◌, ◌++◌, length, take, drop, map, inl, inr, refl, sym, ap, ap₂, ◌∙◌, arith, subst, eq-eqb, append-nil, drop-drop, length-drop}
use Rattle.std.specs.List.{concat}
use Rattle.std.proofs.lemmas.Bool.{cases_eq}
use Rattle.std.proofs.lemmas.List.{take_rest, drop_all}
use borrow.Rule.Slice.PartMut.{put_mid, post_of}
use Rattle.grib_base.specs.Rules.{first_fault}
use Rattle.grib_packing.specs.Entries.{packing_fault_under}
use Rattle.grib_bits.specs.Encoding.{octets_of}
use Rattle.grib_base.specs.declared.profile.Profile.{Profile}
use Rattle.grib2_sections.specs.Frame.{Placed, placed_at, section_number}
use Rattle.grib2_sections.specs.Identification.{identification_rules}
use Rattle.grib_bits.proofs.Encoding.{length-octets_of}
use Rattle.grib2_grids.specs.Opaque.{grid_rules_under}
use Rattle.grib2_products.specs.Opaque.{product_rules_under}
use Rattle.grib2_message.specs.View.{points_in_force, section_count}
use Rattle.grib2_message.specs.Acceptance.{section_fault_under}
use Rattle.grib2_message.proofs.Sound.{none_located, fault_of}
use Rattle.grib_keys.specs.declared.key.Key.{Key}
use Rattle.grib_keys.specs.declared.key.Key.TheVariants.{Discipline}
use Rattle.grib_keys.specs.declared.condition.Change.{Change}
use Rattle.grib_keys.specs.Keys.{row_of, key_place}
use Rattle.grib_keys.specs.declared.table.Octets.{Octets}
use Rattle.grib_select.specs.Values.{layout_of, octet_count, HasKeys, IsWithin}
use Rattle.grib_select.specs.Changed.{new_number, put_number, with_key, with_changes, changed}
use Rattle.grib_select.proofs.Changes.{with_key_here}
use Rattle.grib_select.proofs.Within.{has_keys, product_has_keys, identification_within, grid_within, packing_within}

-- ---- the keys of a section that no rule refuses stand in it

-- no key stands in Sections 2, 6 and 7
nowhere_2 : (key : Key) → not ((row_of key).section == 2) ≡ true
nowhere_2 Discipline = refl
nowhere_2 key = refl

nowhere_6 : (key : Key) → not ((row_of key).section == 6) ≡ true
nowhere_6 Discipline = refl
nowhere_6 key = refl

nowhere_7 : (key : Key) → not ((row_of key).section == 7) ≡ true
nowhere_7 Discipline = refl
nowhere_7 key = refl

none_there : (n : ℕ) (s : List ℕ) → ((key : Key) → not ((row_of key).section == n) ≡ true) → n ≢ 4 → HasKeys n s
none_there n s nowhere other = record {
  keys = λ key p section place. (let told : false ≡ true = sym (ap not (eq-eqb (row_of key).section n section)) ∙ nowhere key in absurd (cc));
  counted = λ e. absurd (other e);
}

pub section_keys : (profile : Profile) (before : List Placed) (p : Placed) (n : ℕ) → section_number p.octets ≡ n → 1 ≤ n → n ≤ 7 → section_fault_under profile before p ≡ None → HasKeys n p.octets
section_keys profile before p n is low high none =
    let s = p.octets in
    let P : ℕ → Type 0 = λ k. HasKeys k s in
    let fault = λ (k : ℕ) (e : n ≡ k). sym (fault_of profile before p k (is ∙ e)) ∙ none in
    elim (cases_eq n 1) [
      | inl e ↦ subst P (sym e) (has_keys 1 s (identification_within s (none_located p.start (first_fault (identification_rules s)) (fault 1 e))) (λ f. omega (arith, f)))
      | inr not_1 ↦ elim (cases_eq n 2) [
        | inl e ↦ subst P (sym e) (none_there 2 s nowhere_2 (λ f. omega (arith, f)))
        | inr not_2 ↦ elim (cases_eq n 3) [
          | inl e ↦ subst P (sym e) (has_keys 3 s (grid_within profile s (none_located p.start (first_fault (grid_rules_under profile s)) (fault 3 e))) (λ f. omega (arith, f)))
          | inr not_3 ↦ elim (cases_eq n 4) [
            | inl e ↦
                subst P (sym e) (product_has_keys profile s (section_count 4 before + 1)
                (none_located p.start (first_fault (product_rules_under profile s (section_count 4 before + 1))) (fault 4 e)))
            | inr not_4 ↦ elim (cases_eq n 5) [
              | inl e ↦
                  subst P (sym e) (has_keys 5 s (packing_within profile s (points_in_force before)
                  (none_located p.start (packing_fault_under profile s (points_in_force before)) (fault 5 e))) (λ f. omega (arith, f)))
              | inr not_5 ↦ elim (cases_eq n 6) [
                | inl e ↦ subst P (sym e) (none_there 6 s nowhere_6 (λ f. omega (arith, f)))
                | inr not_6 ↦ (let e : n ≡ 7 = omega arith in subst P (sym e) (none_there 7 s nowhere_7 (λ f. omega (arith, f))))
              ]
            ]
          ]
        ]
      ]
    ]

-- ---- a change as it is written

pub put_is : (change : Change) (number : ℕ) (s : List ℕ) (p : Octets) (ys : List ℕ) → (row_of change.key).section ≡ number
    → Some p ≡ key_place change.key (layout_of (row_of change.key).section s) → IsWithin (length s) p
    → ys ≡ octets_of (octet_count p) (unwrap_or (new_number change) 0) ++ drop (octet_count p) (take (length s - (p.first - 1)) (drop (p.first - 1) s))
    → put_mid (p.first - 1) (length s - (p.first - 1)) s ys ≡ with_key change number s
put_is change number s p ys section place within is =
    let a = p.first - 1 in
    let k = length s - a in
    let n = octet_count p in
    let low : 1 ≤ p.first = within.low in
    let some : p.first ≤ p.last = within.some in
    let high : p.last ≤ length s = within.high in
    let count : n ≡ p.last + 1 - p.first = refl in
    let raw = unwrap_or (new_number change) 0 in
    let xs = octets_of n raw in
    let long : length xs ≡ n = length-octets_of n raw in
    let rest : drop n (take k (drop a s)) ≡ drop (a + length xs) s =
    ap (drop n) (take_rest s a) ∙ drop-drop n a s ∙ ap (λ (j : ℕ). drop j s) (let e : a + n ≡ a + length xs = omega arith in e) in
    let none : post_of a k s ≡ [] = drop_all k (drop a s) (omega (arith, length-drop a s)) in
    let there : key_place change.key (layout_of number s) ≡ Some p =
    ap (λ (j : ℕ). key_place change.key (layout_of j s)) (sym section) ∙ sym place in
    ap₂ (λ (zs ws : List ℕ). take a s ++ (zs ++ ws)) (is ∙ ap (λ (zs : List ℕ). xs ++ zs) rest) none
    ∙ ap (λ (zs : List ℕ). take a s ++ zs) (append-nil (xs ++ drop (a + length xs) s))
    ∙ sym (with_key_here change number s section ∙ ap (put_number change s) there)

-- ---- sections as they are written

-- the next section with its changes
pub changed_next : (changes : List Change) (left rest : List Placed) (start number : ℕ) (s : List ℕ) → left ≡ placed_at start s ∷ rest → section_number s ≡ number
    → concat (map (λ p. changed changes p.octets) left) ≡ with_changes changes number s ++ concat (map (λ p. changed changes p.octets) rest)
changed_next changes left rest start number s are is =
    ap (λ (xs : List Placed). concat (map (λ p. changed changes p.octets) xs)) are
    ∙ ap (λ (n : ℕ). with_changes changes n s ++ concat (map (λ p. changed changes p.octets) rest)) is
