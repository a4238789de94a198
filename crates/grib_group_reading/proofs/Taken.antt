-- Lemmas on codes that are taken from groups and bits.
use Rattle.std.proofs.Common.{◌≡◌, ℕ, ◌+◌, ◌-◌, ◌*◌, ◌/◌, ◌<◌, ◌≤◌, Bool, ltb, le-ltb, List, [], ◌∷◌, ◌++◌, length, take, drop, map, refl, sym, ap, ap₂, ◌∙◌, arith, append_assoc, add-mul, mul_comm, inl, inr}
use Rattle.std.proofs.lemmas.Bool.{cases_lt, cond-false, cond-true, lt-ltb}
use Rattle.std.proofs.lemmas.List.{append-nil, map-append, drop-drop, drop-append-le, length-append, length-drop, length-map, take-append-drop, nil_from_length}
use Rattle.std.proofs.lemmas.List.Sums.{sum_by-cons}
use Rattle.std.proofs.Math.Nat.{mul-le-mul_right, mul-add-div_right, div-lt_iff_lt-mul, div-eq_of_lt}
use Rattle.grib_bits.specs.Plain.{plain}
use Rattle.grib_base.specs.declared.code.Code.{Code}
use Rattle.grib_packing.specs.declared.group.Group.{Group}
use Rattle.grib_packing.specs.declared.layout.Layout.{Layout}
use Rattle.grib_packing.specs.Groups.{code_of, codes_from, packed_bits}
use Rattle.grib_packing.proofs.Fields.{plain-add, length-plain}
use Rattle.grib_group_reading.specs.Taking.{values, values_within, Taken}
use Rattle.grib_group_reading.proofs.Plain.{plain-append}

pub values-cons : (group : Group) (groups : List Group) → values (group ∷ groups) ≡ group.count + values groups
values-cons group groups = sum_by-cons (λ (g : Group). g.count) group groups

pub packed_bits-cons : (group : Group) (groups : List Group) → packed_bits (group ∷ groups) ≡ group.count * group.width + packed_bits groups
packed_bits-cons group groups = sum_by-cons (λ (g : Group). g.count * g.width) group groups

-- there is a code for each value
pub length-codes_from : (layout : Layout) (groups : List Group) (numbers : List Bool) → length (codes_from layout groups numbers) ≡ values groups
length-codes_from layout [] numbers = refl
length-codes_from layout (group ∷ groups) numbers =
    let first = plain numbers group.width group.count in
    let rest = drop (group.width * group.count) numbers in
    omega (arith, length-append (map (code_of layout group) first) (codes_from layout groups rest), length-map first (code_of layout group), length-plain numbers group.width group.count, length-codes_from layout groups rest, values-cons group groups)

no_codes : (layout : Layout) (groups : List Group) (numbers : List Bool) → values groups ≡ 0 → codes_from layout groups numbers ≡ []
no_codes layout groups numbers none = nil_from_length (codes_from layout groups numbers) (length-codes_from layout groups numbers ∙ none)

-- ---- numbers that end within some bits

-- those of the first group do
module _ (group : Group) (groups : List Group) (size : ℕ) where
  within_group : group.count * group.width ≤ size → values_within (group ∷ groups) size ≡ group.count + values_within groups (size - group.count * group.width)
  within_group enough = cond-false (ltb size (group.count * group.width)) _ _ (le-ltb size (group.count * group.width) enough)

  -- or some of them
  within_some : size < group.count * group.width → values_within (group ∷ groups) size ≡ size / group.width
  within_some short = cond-true (ltb size (group.count * group.width)) _ _ (lt-ltb size (group.count * group.width) short)

  has_width : size < group.count * group.width → 0 < group.width
  has_width short = elim (cases_lt 0 group.width) [
    | inl some ↦ some
    | inr none ↦
        let zero_width : group.width ≡ 0 = omega arith in
        let nowhere : group.count * 0 ≡ 0 = omega arith in
        let nothing : group.count * group.width ≡ 0 = ap (λ (w : ℕ). group.count * w) zero_width ∙ nowhere in
        absurd (omega (arith, nothing))
  ]

  -- there are no more than all
  within_few : values_within groups (size - group.count * group.width) ≤ values groups → values_within (group ∷ groups) size ≤ values (group ∷ groups)
  within_few rest = elim (cases_lt size (group.count * group.width)) [
    | inl short ↦
        let few : size / group.width < group.count = (div-lt_iff_lt-mul (has_width short)).1 short in
        omega (arith, within_some short, values-cons group groups)
    | inr enough ↦ omega (arith, within_group enough, values-cons group groups)
  ]

  -- nothing is left of the first group
  within_next : group.count ≡ 0 → values_within (group ∷ groups) size ≡ values_within groups size
  within_next empty =
      let nowhere : 0 * group.width ≡ 0 = omega arith in
      let nothing : group.count * group.width ≡ 0 = ap (λ (n : ℕ). n * group.width) empty ∙ nowhere in
      let same : size - group.count * group.width ≡ size = omega (arith, nothing) in
      let rest = ap (values_within groups) same in
      omega (arith, within_group (omega (arith, nothing)), empty, rest)

  -- the next number is longer
  pub within_short : 0 < group.count → size < group.width → values_within (group ∷ groups) size ≡ 0
  within_short some short =
      let one : 1 * group.width ≤ group.count * group.width = mul-le-mul_right group.width some in
      within_some (omega (arith, one)) ∙ div-eq_of_lt short

within_all : (groups : List Group) (size : ℕ) → values_within groups size ≤ values groups
within_all [] size = omega arith
within_all (group ∷ groups) size = within_few group groups size (within_all groups (size - group.count * group.width))

-- after the first m of the m + n numbers of a group
within_part : (group : Group) (groups : List Group) (m n size : ℕ) → group.count ≡ m + n
    → values_within (group ∷ groups) (m * group.width + size) ≡ m + values_within (record group { count = n } ∷ groups) size
within_part group groups m n size parts =
    let w = group.width in
    let left : Group = record group { count = n } in
    let product : group.count * w ≡ m * w + n * w = ap (λ (k : ℕ). k * w) parts ∙ add-mul m n w in
    elim (cases_lt size (n * w)) [
      | inl short ↦
          within_some group groups (m * w + size) (omega (arith, product))
          ∙ mul-add-div_right (has_width left groups size short) m size
          ∙ ap (λ (k : ℕ). m + k) (sym (within_some left groups size short))
      | inr enough ↦
          let same : m * w + size - group.count * w ≡ size - n * w = omega (arith, product) in
          let rest = ap (values_within groups) same in
          omega (arith, within_group group groups (m * w + size) (omega (arith, product)), within_group left groups size enough, rest, parts)
    ]

-- nothing was taken
pub taken_none : (layout : Layout) (groups : List Group) (bits : List Bool) → Taken layout groups bits [] groups bits
taken_none layout groups bits = record {
  agree = λ more. refl;
  counted = omega arith;
  within = λ more. omega arith;
  used = λ some. refl;
  ends = record { before = []; joined = refl };
}

-- one taking after another
pub taken_then : {layout : Layout} {groups left after : List Group} {bits rest last : List Bool} {codes more_codes : List Code}
    → Taken layout groups bits codes left rest → Taken layout left rest more_codes after last → Taken layout groups bits (codes ++ more_codes) after last
taken_then {layout} {groups} {left} {after} {bits} {rest} {last} {codes} {more_codes} first second = record {
  agree = λ more. first.agree more ∙ ap (λ cs. codes ++ cs) (second.agree more) ∙ sym (append_assoc codes more_codes (codes_from layout after (last ++ more)));
  counted = omega (arith, length-append codes more_codes, first.counted, second.counted);
  within = λ more. omega (arith, first.within more, second.within more, length-append codes more_codes);
  used = λ some.
      let here : 0 < values left = omega (arith, second.counted) in
      omega (arith, first.used here, second.used some);
  ends = record {
    before = first.ends.before ++ second.ends.before;
    joined = append_assoc first.ends.before second.ends.before last ∙ ap (λ bs. first.ends.before ++ bs) second.ends.joined ∙ first.ends.joined;
  };
}

-- what was taken, with more bits behind
pub taken_on : {layout : Layout} {groups left : List Group} {bits rest : List Bool} {codes : List Code} (behind : List Bool)
    → Taken layout groups bits codes left rest → Taken layout groups (bits ++ behind) codes left (rest ++ behind)
taken_on {layout} {groups} {left} {bits} {rest} {codes} behind taken = record {
  agree = λ more.
      ap (codes_from layout groups) (append_assoc bits behind more)
      ∙ taken.agree (behind ++ more)
      ∙ ap (λ bs. codes ++ codes_from layout left bs) (sym (append_assoc rest behind more));
  counted = taken.counted;
  within = λ more.
      let before : length (bits ++ behind) + more ≡ length bits + (length behind + more) = omega (arith, length-append bits behind) in
      let after : length rest + (length behind + more) ≡ length (rest ++ behind) + more = omega (arith, length-append rest behind) in
      ap (values_within groups) before ∙ taken.within (length behind + more) ∙ ap (λ (n : ℕ). length codes + values_within left n) after;
  used = λ some. omega (arith, length-append bits behind, length-append rest behind, taken.used some);
  ends = record {
    before = taken.ends.before;
    joined = sym (append_assoc taken.ends.before rest behind) ∙ ap (λ bs. bs ++ behind) taken.ends.joined;
  };
}

-- the first m of the m + n numbers of a group
module _ (layout : Layout) (group : Group) (groups : List Group) (bits : List Bool) (m n : ℕ) (parts : group.count ≡ m + n) (within : group.width * m ≤ length bits) where
  pub taken_run : Taken layout (group ∷ groups) bits (map (code_of layout group) (plain bits group.width m)) (record group { count = n } ∷ groups) (drop (group.width * m) bits)
  taken_run =
      let w = group.width in
      let code = code_of layout group in
      let rest = drop (w * m) bits in
      let left : Group = record group { count = n } in
      let product : group.count * w ≡ m * w + n * w = ap (λ (k : ℕ). k * w) parts ∙ add-mul m n w in
      record {
        agree = λ more.
            let all = bits ++ more in
            let behind : drop (w * m) all ≡ rest ++ more = drop-append-le (w * m) bits more within in
            let split : plain all w (m + n) ≡ plain bits w m ++ plain (rest ++ more) w n =
            plain-add all w m n ∙ ap₂ (λ xs ys. xs ++ plain ys w n) (plain-append bits more w m within) behind in
            let place : w * (m + n) ≡ w * m + w * n = omega (arith, mul_comm w (m + n), add-mul m n w, mul_comm w m, mul_comm w n) in
            let after : drop (w * (m + n)) all ≡ drop (w * n) (rest ++ more) =
            ap (λ (k : ℕ). drop k all) place ∙ sym (drop-drop (w * n) (w * m) all) ∙ ap (drop (w * n)) behind in
            ap (λ (k : ℕ). map code (plain all w k) ++ codes_from layout groups (drop (w * k) all)) parts
            ∙ ap₂ (λ xs ys. map code xs ++ codes_from layout groups ys) split after
            ∙ ap (λ cs. cs ++ codes_from layout groups (drop (w * n) (rest ++ more))) (map-append code (plain bits w m) (plain (rest ++ more) w n))
            ∙ append_assoc (map code (plain bits w m)) (map code (plain (rest ++ more) w n)) (codes_from layout groups (drop (w * n) (rest ++ more)));
        within = λ more.
            let size : length bits + more ≡ m * w + (length rest + more) = omega (arith, within, mul_comm w m, length-drop (w * m) bits) in
            ap (values_within (group ∷ groups)) size ∙ within_part group groups m n (length rest + more) parts
            ∙ ap (λ (k : ℕ). k + values_within (left ∷ groups) (length rest + more)) (sym (length-map (plain bits w m) code ∙ length-plain bits w m));
        counted = omega (arith, parts, values-cons group groups, values-cons left groups, length-map (plain bits w m) code, length-plain bits w m);
        used = λ some. omega (arith, within, product, mul_comm w m, length-drop (w * m) bits, packed_bits-cons group groups, packed_bits-cons left groups);
        ends = record { before = take (w * m) bits; joined = take-append-drop (w * m) bits };
      }

-- a group with nothing left gives way to the next
pub taken_next : (layout : Layout) (group : Group) (groups : List Group) (bits : List Bool) → group.count ≡ 0 → Taken layout (group ∷ groups) bits [] groups bits
taken_next layout group groups bits empty = record {
  agree = λ more.
      let all = bits ++ more in
      let nowhere : group.width * 0 ≡ 0 = omega arith in
      ap (λ (k : ℕ). map (code_of layout group) (plain all group.width k) ++ codes_from layout groups (drop (group.width * k) all)) empty
      ∙ ap (λ (k : ℕ). codes_from layout groups (drop k all)) nowhere;
  counted = omega (arith, empty, values-cons group groups);
  within = λ more. omega (arith, within_next group groups (length bits + more) empty);
  used = λ some.
      let nowhere : group.width * 0 ≡ 0 = omega arith in
      let none : group.count * group.width ≡ 0 = ap (λ (k : ℕ). k * group.width) empty ∙ mul_comm 0 group.width ∙ nowhere in
      omega (arith, none, packed_bits-cons group groups);
  ends = record { before = []; joined = refl };
}

-- and a group with no values may stand before the others
pub taken_before : (layout : Layout) (group : Group) (groups : List Group) (bits : List Bool) → group.count ≡ 0 → Taken layout groups bits [] (group ∷ groups) bits
taken_before layout group groups bits empty =
    let next = taken_next layout group groups bits empty in
    record {
      agree = λ more. sym (next.agree more);
      counted = omega (arith, next.counted);
      within = λ more. omega (arith, next.within more);
      used = λ some. sym (next.used (omega (arith, some, values-cons group groups, empty)));
      ends = record { before = []; joined = refl };
    }

-- where no value is left, no bits are needed
pub taken_all : (layout : Layout) (groups : List Group) (bits : List Bool) → values groups ≡ 0 → Taken layout groups bits [] groups []
taken_all layout groups bits none = record {
  agree = λ more. no_codes layout groups (bits ++ more) none ∙ sym (no_codes layout groups more none);
  counted = omega arith;
  within = λ more.
      let no_bits : List Bool = [] in
      omega (arith, none, within_all groups (length bits + more), within_all groups (length no_bits + more));
  used = λ some. absurd (omega (arith, none));
  ends = record { before = bits; joined = append-nil bits };
}

-- Where the bits of all numbers were there, and what is left of them is too short for the groups that
-- are left, all codes were taken.
pub taken_whole : {layout : Layout} {groups left : List Group} {bits rest : List Bool} {codes : List Code} → Taken layout groups bits codes left rest
    → packed_bits groups ≤ length bits → (0 < values left → length rest < packed_bits left) → codes ≡ codes_from layout groups bits
taken_whole {layout} {groups} {left} {bits} {rest} {codes} taken enough short = elim (cases_lt 0 (values left)) [
  | inl some ↦ absurd (omega (arith, taken.used some, short some))
  | inr none ↦
      let empty : values left ≡ 0 = omega arith in
      sym (append-nil codes)
      ∙ ap (λ cs. codes ++ cs) (sym (no_codes layout left (rest ++ []) empty))
      ∙ sym (taken.agree [])
      ∙ ap (codes_from layout groups) (append-nil bits)
]

-- Where no further number ends in what is left of the bits, there are codes for all numbers that end in the bits.
pub taken_within : {layout : Layout} {groups left : List Group} {bits rest : List Bool} {codes : List Code} → Taken layout groups bits codes left rest
    → values_within left (length rest) ≡ 0 → length codes ≡ values_within groups (length bits)
taken_within {layout} {groups} {left} {bits} {rest} {codes} taken none =
    let before : length bits + 0 ≡ length bits = omega arith in
    let after : length rest + 0 ≡ length rest = omega arith in
    omega (arith, taken.within 0, ap (values_within groups) before, ap (values_within left) after)

pub none_within : (groups : List Group) (size : ℕ) → values groups ≡ 0 → values_within groups size ≡ 0
none_within groups size empty = omega (arith, within_all groups size)

-- a group that has values and is wider than these bits
pub short_of_group : (group : Group) (groups : List Group) (n : ℕ) → 0 < group.count → n < group.width → n < packed_bits (group ∷ groups)
short_of_group group groups n some short =
    let one : 1 * group.width ≤ group.count * group.width = mul-le-mul_right group.width some in
    omega (arith, one, packed_bits-cons group groups)
