-- Lemmas on groups that are all alike.
use Rattle.std.proofs.Common.{◌≡◌, ◌⊎◌, ℕ, zero, suc, ◌+◌, ◌-◌, ◌*◌, ◌/◌, ◌<◌, ◌≤◌, Bool, false, ltb, cond, true, None, List, [], ◌∷◌, ◌++◌, length, drop, map, replicate, sum, refl, sym, ap, ap₂, ◌∙◌, arith, le-ltb, add-mul, inl, inr}
use Rattle.std.proofs.Math.Nat.{mul-le-mul_right}
use Rattle.std.proofs.lemmas.Nat.{div-add-mod', mod_below}
use Rattle.std.proofs.lemmas.List.{length-append, length-replicate, map-append}
use Rattle.std.proofs.lemmas.List.Sums.{sum_by-cons}
use Rattle.grib_bits.specs.Bits.{bits}
use Rattle.grib_bits.specs.Plain.{plain}
use Rattle.grib_base.specs.declared.code.Code.{Code}
use Rattle.grib_base.specs.Rules.{first_place}
use Rattle.grib_base.proofs.Places.{NoneOf, first_place-none}
use Rattle.grib_packing.specs.declared.group.Group.{Group}
use Rattle.grib_packing.specs.declared.layout.Layout.{Layout}
use Rattle.grib_packing.specs.Groups.{code_of, codes_from, first_past, groups, groups_from, lengths, list_octets, packed_bits, reference_octets, references, width_octets, widths}
use Rattle.grib_packing.proofs.Fields.{plain-add}
use Rattle.grib_group_reading.specs.Lists.{lists_fault}
use Rattle.grib_group_reading.specs.Taking.{values}
use Rattle.grib_group_reading.proofs.Faults.{fit_from}
use Rattle.grib_group_reading.proofs.Listed.{values-groups_from}
use Rattle.grib_group_reading.proofs.Places.{first_past-over, first_past-within}
use Rattle.grib_group_reading.proofs.Reading.{last_set}
use Rattle.grib_group_reading.proofs.Taken.{packed_bits-cons}
use Rattle.grib_complex_reading.specs.Alike.{AreAlike}

-- ---- numbers of no bits

pub no_bits : (xs : List Bool) (n : ℕ) → plain xs 0 n ≡ replicate n 0
no_bits xs zero = refl
no_bits xs (suc n) =
    let more : suc n ≡ 1 + n = omega arith in
    ap (plain xs 0) more ∙ plain-add xs 0 1 n ∙ ap (λ (ns : List ℕ). 0 ∷ ns) (no_bits xs n)

pub map_same : {X Y : Type 0} (f : X → Y) (x : X) (n : ℕ) → map f (replicate n x) ≡ replicate n (f x)
map_same f x zero = refl
map_same f x (suc n) = ap (λ ys. f x ∷ ys) (map_same f x n)

none_wide : (n w : ℕ) → w ≤ 32 → NoneOf (λ k. ltb 32 k) (replicate n w)
none_wide zero w narrow = tt
none_wide (suc n) w narrow = (le-ltb 32 w narrow, none_wide n w narrow)

pub sum_same : (n each last : ℕ) → sum (replicate n each ++ last ∷ []) ≡ n * each + last
sum_same zero each last = omega (arith, sum_by-cons (λ (k : ℕ). k) last [])
sum_same (suc n) each last =
    omega (arith, sum_by-cons (λ (k : ℕ). k) each (replicate n each ++ last ∷ []), sum_same n each last, add-mul n 1 each)

-- ---- groups of one reference and one width

pub packed_same : (r w : ℕ) (ns : List ℕ) (n : ℕ) → length ns ≡ n → packed_bits (groups_from (replicate n r) (replicate n w) ns) ≡ sum ns * w
packed_same r w [] zero long = omega arith
packed_same r w [] (suc n) long = absurd (omega arith)
packed_same r w (k ∷ ns) zero long = absurd (omega arith)
packed_same r w (k ∷ ns) (suc n) long =
    let all : sum (k ∷ ns) * w ≡ (k + sum ns) * w = ap (λ (m : ℕ). m * w) (sum_by-cons (λ (k : ℕ). k) k ns) in
    packed_bits-cons (record { reference = r; width = w; count = k }) (groups_from (replicate n r) (replicate n w) ns)
    ∙ omega (arith, packed_same r w ns n (omega (arith, long)), all, add-mul k (sum ns) w)

-- they have the codes of one group that is as long as all together
pub codes_same : (layout : Layout) (r w : ℕ) (ns : List ℕ) (n : ℕ) (xs : List Bool) → length ns ≡ n
    → codes_from layout (groups_from (replicate n r) (replicate n w) ns) xs ≡ map (code_of layout (record { reference = r; width = w; count = 0 })) (plain xs w (sum ns))
codes_same layout r w [] zero xs long = refl
codes_same layout r w [] (suc n) xs long = absurd (omega arith)
codes_same layout r w (k ∷ ns) zero xs long = absurd (omega arith)
codes_same layout r w (k ∷ ns) (suc n) xs long =
    let code = code_of layout (record { reference = r; width = w; count = 0 }) in
    let rest = drop (w * k) xs in
    ap (λ (cs : List Code). map code (plain xs w k) ++ cs) (codes_same layout r w ns n rest (omega (arith, long)))
    ∙ sym (map-append code (plain xs w k) (plain rest w (sum ns)))
    ∙ ap (map code) (sym (plain-add xs w k (sum ns)))
    ∙ ap (λ (m : ℕ). map code (plain xs w m)) (sym (sum_by-cons (λ (k : ℕ). k) k ns))

-- ---- the first group past the values

past_none : (most n each last before : ℕ) → before * each ≤ most → first_past most n (replicate before each ++ last ∷ []) ≡ n + before + 1
past_none most n each last zero within = elim (ltb most last) as (λ b. cond b (n + 1) (n + 1) ≡ n + 0 + 1) [ true ↦ omega arith | false ↦ omega arith ]
past_none most n each last (suc before) within =
    let parts : suc before * each ≡ each + before * each = omega (arith, add-mul before 1 each) in
    first_past-within most n each (replicate before each ++ last ∷ []) (omega (arith, parts, within))
    ∙ past_none (most - each) (n + 1) each last before (omega (arith, parts, within)) ∙ omega arith

past_some : (most n each last before q : ℕ) → q * each ≤ most → most < q * each + each → q < before → first_past most n (replicate before each ++ last ∷ []) ≡ n + q + 1
past_some most n each last zero q low high some = absurd (omega arith)
past_some most n each last (suc before) zero low high some =
    first_past-over most n each (replicate before each ++ last ∷ []) (omega (arith, high)) ∙ omega arith
past_some most n each last (suc before) (suc q) low high some =
    let parts : suc q * each ≡ each + q * each = omega (arith, add-mul q 1 each) in
    first_past-within most n each (replicate before each ++ last ∷ []) (omega (arith, parts, low))
    ∙ past_some (most - each) (n + 1) each last before q (omega (arith, parts, low)) (omega (arith, parts, low, high)) (omega arith) ∙ omega arith

-- ---- the lists

module _ (layout : Layout) (alike : AreAlike layout) where
  pub no_octets : list_octets layout ≡ 0
  no_octets =
      let n = layout.groups in
      let first : n * layout.reference_bits ≡ n * 0 = ap (λ (w : ℕ). n * w) alike.references in
      let second : n * layout.width_bits ≡ n * 0 = ap (λ (w : ℕ). n * w) alike.widths in
      let third : n * layout.length_bits ≡ n * 0 = ap (λ (w : ℕ). n * w) alike.lengths in
      omega (arith, first, second, third)

  module _ (octets : List ℕ) where
    references_are : references layout octets ≡ replicate layout.groups 0
    references_are = ap (λ (w : ℕ). plain (bits octets) w layout.groups) alike.references ∙ no_bits (bits octets) layout.groups

    widths_are : widths layout octets ≡ replicate layout.groups layout.width_reference
    widths_are =
        let w = layout.width_reference in
        let n = layout.groups in
        let xs = bits (drop (reference_octets layout) octets) in
        let same : w + 0 ≡ w = omega arith in
        ap (map (λ coded. w + coded)) (ap (λ (b : ℕ). plain xs b n) alike.widths ∙ no_bits xs n)
        ∙ map_same (λ coded. w + coded) 0 n ∙ ap (replicate n) same

    lengths_are : 1 ≤ layout.groups → lengths layout octets ≡ replicate (layout.groups - 1) layout.length_reference ++ layout.last_length ∷ []
    lengths_are some =
        let f = λ (n : ℕ). layout.length_reference + layout.length_increment * n in
        let before = layout.groups - 1 in
        let xs = bits (drop (reference_octets layout + width_octets layout) octets) in
        let same : layout.length_reference + layout.length_increment * 0 ≡ layout.length_reference = omega arith in
        sym (last_set f xs layout.length_bits layout.groups layout.last_length some)
        ∙ ap (λ (ns : List ℕ). map f ns ++ layout.last_length ∷ []) (ap (λ (b : ℕ). plain xs b before) alike.lengths ∙ no_bits xs before)
        ∙ ap (λ (ns : List ℕ). ns ++ layout.last_length ∷ []) (map_same f 0 before ∙ ap (replicate before) same)

    pub sum_is : 1 ≤ layout.groups → sum (lengths layout octets) ≡ (layout.groups - 1) * layout.length_reference + layout.last_length
    sum_is some = ap sum (lengths_are some) ∙ sum_same (layout.groups - 1) layout.length_reference layout.last_length

    pub past_is : 1 ≤ layout.groups → (most : ℕ) → first_past most 0 (replicate (layout.groups - 1) layout.length_reference ++ layout.last_length ∷ []) ≡ first_past most 0 (lengths layout octets)
    past_is some most = ap (first_past most 0) (sym (lengths_are some))

    pub narrow_all : first_place (λ w. ltb 32 w) (widths layout octets) ≡ 0
    narrow_all =
        ap (first_place (λ w. ltb 32 w)) widths_are
        ∙ first_place-none (λ w. ltb 32 w) (replicate layout.groups layout.width_reference) (none_wide layout.groups layout.width_reference alike.narrow)

    long : 1 ≤ layout.groups → length (lengths layout octets) ≡ layout.groups
    long some = omega (arith, some, ap length (lengths_are some), length-append (replicate (layout.groups - 1) layout.length_reference) (layout.last_length ∷ []), length-replicate {A = ℕ} (layout.groups - 1) layout.length_reference)

    groups_are : groups layout octets ≡ groups_from (replicate layout.groups 0) (replicate layout.groups layout.width_reference) (lengths layout octets)
    groups_are = ap₂ (λ (rs ws : List ℕ). groups_from rs ws (lengths layout octets)) references_are widths_are

    pub packed_is : 1 ≤ layout.groups → packed_bits (groups layout octets) ≡ sum (lengths layout octets) * layout.width_reference
    packed_is some = ap packed_bits groups_are ∙ packed_same 0 layout.width_reference (lengths layout octets) layout.groups (long some)

    -- the number of values, where the lists are not refused
    pub values_are : 1 ≤ layout.groups → (start skip l count : ℕ) → lists_fault layout start skip l count (references layout octets) (widths layout octets) (lengths layout octets) ≡ None
        → values (groups layout octets) ≡ count
    values_are some start skip l count none =
        let fit = fit_from layout start skip l count (references layout octets) (widths layout octets) (lengths layout octets) none in
        values-groups_from (references layout octets) (widths layout octets) (lengths layout octets)
        (omega (arith, long some, ap length references_are, length-replicate {A = ℕ} layout.groups 0))
        (omega (arith, long some, ap length widths_are, length-replicate {A = ℕ} layout.groups layout.width_reference))
        ∙ fit.right

    -- and their codes, where no packed number has any bits
    pub codes_are : 1 ≤ layout.groups → layout.width_reference ≡ 0 → (start skip l count : ℕ) → lists_fault layout start skip l count (references layout octets) (widths layout octets) (lengths layout octets) ≡ None
        → (xs : List Bool) → codes_from layout (groups layout octets) xs ≡ replicate count (code_of layout (record { reference = 0; width = 0; count = 0 }) 0)
    codes_are some no_width start skip l count none xs =
        let fit = fit_from layout start skip l count (references layout octets) (widths layout octets) (lengths layout octets) none in
        let code = λ (w : ℕ). code_of layout (record { reference = 0; width = w; count = 0 }) in
        ap (λ (gs : List Group). codes_from layout gs xs) groups_are
        ∙ codes_same layout 0 layout.width_reference (lengths layout octets) layout.groups xs (long some)
        ∙ ap₂ (λ (w n : ℕ). map (code w) (plain xs w n)) no_width fit.right
        ∙ ap (map (code 0)) (no_bits xs count) ∙ map_same (code 0) 0 count

-- ---- the place of the first group past the values

pub past_within : (most each last before : ℕ) → 0 < each → most / each < before → most / each + 1 ≡ first_past most 0 (replicate before each ++ last ∷ [])
past_within most each last before some few =
    let q = most / each in
    let split = div-add-mod' most each in
    let small = mod_below most each some in
    sym (past_some most 0 each last before q (omega (arith, split)) (omega (arith, split, small)) few ∙ omega arith)

pub past_last : (most each last before : ℕ) → (each ≡ 0) ⊎ (before ≤ most / each) → before + 1 ≡ first_past most 0 (replicate before each ++ last ∷ [])
past_last most each last before few =
    let within : before * each ≤ most = elim few [
      | inl none ↦ let e : before * each ≡ before * 0 = ap (λ (k : ℕ). before * k) none in omega (arith, e)
      | inr more ↦ omega (arith, mul-le-mul_right each more, div-add-mod' most each)
    ] in
    sym (past_none most 0 each last before within ∙ omega arith)
