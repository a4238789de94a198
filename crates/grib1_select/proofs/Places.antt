-- The places of the numbers of Section 1: no two of them have an octet in common.
use Rattle.std.proofs.Common.{◌≡◌, ◌≢◌, ◌⊎◌, inl, inr, ℕ, ◌+◌, ◌≤◌, ◌<◌, not, ◌&&◌, nat_lt, Some, IsTrue, refl, sym, ap, ◌∙◌, arith}
use Rattle.std.specs.declared.option.Option.{Option}
use Rattle.std.specs.Prelude.{find}
use Rattle.std.proofs.lemmas.Bool.{cases_lt}
use Rattle.grib_keys.specs.declared.key1.Key1.{Key1}
use Rattle.grib_keys.specs.declared.key1.Key1.TheVariants.{Version, Centre, Process, GridNumber, Flags, Level, AverageCount, DecimalScale}
use Rattle.grib_keys.specs.Keys1.{place_of, keys1, can_set1}

pub record IsPlace (first last : ℕ) : Type 0 where
  pub low : 4 ≤ first
  pub some : first ≤ last
  pub word : last ≤ first + 1
  pub high : last ≤ 28

pub place_is : (key : Key1) → IsPlace (place_of key).first (place_of key).last
place_is Version = record { low = omega arith; some = omega arith; word = omega arith; high = omega arith }
place_is Level = record { low = omega arith; some = omega arith; word = omega arith; high = omega arith }
place_is AverageCount = record { low = omega arith; some = omega arith; word = omega arith; high = omega arith }
place_is DecimalScale = record { low = omega arith; some = omega arith; word = omega arith; high = omega arith }
place_is key = record { low = omega arith; some = omega arith; word = omega arith; high = omega arith }

-- the key at an octet
key_at : ℕ → Option Key1
key_at q = find (λ key. not (nat_lt q (place_of key).first) && not (nat_lt (place_of key).last q)) keys1

at_first : (key : Key1) → key_at (place_of key).first ≡ Some key
unfolding key_at
at_first Version = refl
at_first key = refl

at_last : (key : Key1) → key_at (place_of key).last ≡ Some key
unfolding key_at
at_last Version = refl
at_last key = refl

same : (a b : Key1) (q : ℕ) → key_at q ≡ Some a → key_at q ≡ Some b → a ≡ b
same a b q e f = let both : Some a ≡ Some b = sym e ∙ f in cc

-- at an octet of its place stands the key
at_place : (key : Key1) (q : ℕ) → (place_of key).first ≤ q → q ≤ (place_of key).last → key_at q ≡ Some key
at_place key q low high = by (cases_lt (place_of key).first q)
  where
    by : ((place_of key).first < q) ⊎ (q ≤ (place_of key).first) → key_at q ≡ Some key
    by (inl behind) = let e : q ≡ (place_of key).last = omega (arith, (place_is key).word) in ap key_at e ∙ at_last key
    by (inr here) = let e : q ≡ (place_of key).first = omega arith in ap key_at e ∙ at_first key

pub apart : (a b : Key1) → a ≢ b → ((place_of a).last < (place_of b).first) ⊎ ((place_of b).last < (place_of a).first)
apart a b differ = by (cases_lt (place_of a).last (place_of b).first) (cases_lt (place_of b).last (place_of a).first) (cases_lt (place_of a).first (place_of b).first)
  where
    by : ((place_of a).last < (place_of b).first) ⊎ ((place_of b).first ≤ (place_of a).last)
        → ((place_of b).last < (place_of a).first) ⊎ ((place_of a).first ≤ (place_of b).last)
        → ((place_of a).first < (place_of b).first) ⊎ ((place_of b).first ≤ (place_of a).first)
        → ((place_of a).last < (place_of b).first) ⊎ ((place_of b).last < (place_of a).first)
    by (inl x) y z = inl x
    by (inr x) (inl y) z = inr y
    by (inr x) (inr y) (inl z) = absurd (differ (same a b (place_of b).first (at_place a (place_of b).first (omega arith) x) (at_first b)))
    by (inr x) (inr y) (inr z) = absurd (differ (same a b (place_of a).first (at_first a) (at_place b (place_of a).first z y)))

-- what can be set is neither the flags nor the decimal scale factor
pub set_apart : (key : Key1) → IsTrue (can_set1 key) → ((place_of key).last < 8) ⊎ (8 < (place_of key).first)
set_apart Version can = inl (omega arith)
set_apart Centre can = inl (omega arith)
set_apart Process can = inl (omega arith)
set_apart GridNumber can = inl (omega arith)
set_apart Flags can = absurd (cc)
set_apart key can = inr (omega arith)

pub set_before : (key : Key1) → IsTrue (can_set1 key) → (place_of key).last < 27
set_before Version can = omega arith
set_before DecimalScale can = absurd (cc)
set_before key can = omega arith
