-- Lemmas on numbers that stand one after another.
use Rattle.std.proofs.Common.{◌≡◌, ℕ, ◌+◌, ◌*◌, ◌<◌, ◌≤◌, List, [], ◌∷◌, ◌++◌, length, take, get_or, subst, refl, sym, ap, ◌∙◌, arith, append_assoc, append-nil}
use Rattle.std.proofs.lemmas.List.{length-append, take_more}
use Rattle.std.specs.Prelude.{Result, Ok, Err, OnOk}
use Rattle.grib_bits.specs.declared.adding.Number.{Number}
use Rattle.grib_bits.specs.declared.adding.Number.TheVariants.{One, Two, Three, Four}
use Rattle.grib_bits.specs.Encoding.{number_octets, all_octets}

pub all_octets-append : (xs ys : List Number) → all_octets (xs ++ ys) ≡ all_octets xs ++ all_octets ys
all_octets-append [] ys = refl
all_octets-append (x ∷ xs) ys =
    ap (λ (zs : List ℕ). number_octets x ++ zs) (all_octets-append xs ys) ∙ sym (append_assoc (number_octets x) (all_octets xs) (all_octets ys))

all_octets-more : (numbers : List Number) (k : ℕ) (d : Number) → k < length numbers → all_octets (take (k + 1) numbers) ≡ all_octets (take k numbers) ++ number_octets (get_or numbers k d)
all_octets-more numbers k d within =
    ap all_octets (take_more numbers k d within) ∙ all_octets-append (take k numbers) (get_or numbers k d ∷ [])
    ∙ ap (λ (xs : List ℕ). all_octets (take k numbers) ++ xs) (append-nil (number_octets (get_or numbers k d)))

number-few : (x : Number) → length (number_octets x) ≤ 4
number-few (One value) = omega arith
number-few (Two value) = omega arith
number-few (Three value) = omega arith
number-few (Four value) = omega arith

pub length-all_octets : (numbers : List Number) → length (all_octets numbers) ≤ 4 * length numbers
length-all_octets [] = omega arith
length-all_octets (x ∷ xs) = omega (arith, length-all_octets xs, number-few x, length-append (number_octets x) (all_octets xs))

pub all_octets-step : (numbers : List Number) (k : ℕ) (d : Number) (old before now : List ℕ) → k < length numbers → before ≡ old ++ all_octets (take k numbers)
    → now ≡ before ++ number_octets (get_or numbers k d) → now ≡ old ++ all_octets (take (k + 1) numbers)
all_octets-step numbers k d old before now within is_before is_now =
    is_now ∙ ap (λ (xs : List ℕ). xs ++ number_octets (get_or numbers k d)) is_before
    ∙ append_assoc old (all_octets (take k numbers)) (number_octets (get_or numbers k d))
    ∙ ap (λ (xs : List ℕ). old ++ xs) (sym (all_octets-more numbers k d within))

-- numbers behind others
pub octets_behind : (old before now : List ℕ) (xs ys : List Number) → before ≡ old ++ all_octets xs → now ≡ before ++ all_octets ys → now ≡ old ++ all_octets (xs ++ ys)
octets_behind old before now xs ys first second =
    second ∙ ap (λ (zs : List ℕ). zs ++ all_octets ys) first ∙ append_assoc old (all_octets xs) (all_octets ys)
    ∙ ap (λ (zs : List ℕ). old ++ zs) (sym (all_octets-append xs ys))

-- the same of what was added where there was memory
pub added_behind : {E : Type 0} (old before now : List ℕ) (xs ys : List Number) (result : Result (Unit {0}) E) → before ≡ old ++ all_octets xs → OnOk result (now ≡ before ++ all_octets ys)
    → OnOk result (now ≡ old ++ all_octets (xs ++ ys))
added_behind old before now xs ys (Ok done) first second = octets_behind old before now xs ys first second
added_behind old before now xs ys (Err fault) first second = tt

pub added_same : {E : Type 0} (old now : List ℕ) (xs ys : List Number) (result : Result (Unit {0}) E) → xs ≡ ys → OnOk result (now ≡ old ++ all_octets xs) → OnOk result (now ≡ old ++ all_octets ys)
added_same old now xs ys result same added = subst (λ (zs : List Number). OnOk result (now ≡ old ++ all_octets zs)) same added
