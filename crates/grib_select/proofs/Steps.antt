-- One step of the walks over changes, fields and parts.
use Rattle.std.proofs.Common.{◌≡◌, ℕ, zero, suc, ◌+◌, ◌-◌, ◌≤◌, Bool, true, false, cond, Some, is_none, List, [], ◌∷◌, ◌++◌, map, ap, ◌∙◌, arith, append-nil}
use Rattle.std.specs.List.{concat, range_with_len}
use Rattle.std.proofs.lemmas.List.Folds.{concat-append}
use Rattle.std.proofs.lemmas.List.FromFn.{map-range_with_len_more}
use Rattle.grib_select.specs.Single.{field_part, first_parts}
use Rattle.grib_select.specs.declared.changing.SetFault.TheVariants.{KeyAbsent}
use Rattle.grib_select.specs.Values.{key_value_of}
use Rattle.grib_select.specs.Changed.{first_without}
use Rattle.grib_keys.specs.declared.key.Key.{Key}

-- one part more
pub parts_more : (m : List ℕ) (i k j : ℕ) → 1 + k ≡ j → first_parts m i (k + 1) ≡ first_parts m i k ++ field_part m i j
parts_more m i k j e =
    ap concat (map-range_with_len_more (field_part m i) 1 k j e)
    ∙ concat-append (map (field_part m i) (range_with_len 1 k)) (field_part m i j ∷ [])
    ∙ ap (λ (xs : List ℕ). first_parts m i k ++ xs) (append-nil (field_part m i j))

-- the next of some fields, and those after it
next_field : (a n : ℕ) → 1 ≤ n → range_with_len a n ≡ a ∷ range_with_len (a + 1) (n - 1)
next_field a zero some = absurd (omega arith)
next_field a (suc n) some = ap (λ (k : ℕ). a ∷ range_with_len (a + 1) k) (let e : n ≡ suc n - 1 = omega arith in e)

-- a field that has the key
pub field_has : (m : List ℕ) (key : Key) (a n : ℕ) → 1 ≤ n → is_none (key_value_of m a key) ≡ false
    → first_without m key (range_with_len a n) ≡ first_without m key (range_with_len (a + 1) (n - 1))
field_has m key a n some has =
    ap (first_without m key) (next_field a n some)
    ∙ ap (λ (b : Bool). cond b (Some (KeyAbsent a key)) (first_without m key (range_with_len (a + 1) (n - 1)))) has

-- and one that lacks it
pub field_lacks : (m : List ℕ) (key : Key) (a n : ℕ) → 1 ≤ n → is_none (key_value_of m a key) ≡ true
    → first_without m key (range_with_len a n) ≡ Some (KeyAbsent a key)
field_lacks m key a n some lacks =
    ap (first_without m key) (next_field a n some)
    ∙ ap (λ (b : Bool). cond b (Some (KeyAbsent a key)) (first_without m key (range_with_len (a + 1) (n - 1)))) lacks
