-- What a test says of each key of the list of all keys it says of every key.
use Rattle.std.proofs.Common.{◌≡◌, ℕ, zero, suc, ◌<◌, Bool, true, false, ◌&&◌, nat_lt, List, [], ◌∷◌, length, get_or, unwrap_or, refl, arith, subst, ltb-true}
use Rattle.std.specs.Prelude.{position}
use Rattle.std.specs.List.{list_all}
use Rattle.std.specs.Str.{bytes_eq}
use Rattle.grib_keys.specs.declared.key.Key.{Key}
use Rattle.grib_keys.specs.declared.key.Key.TheVariants.{Discipline}
use Rattle.grib_keys.specs.Keys.{name_of, keys}

-- the number of a key in the list
abbrev pub index : Key → ℕ
index key = unwrap_or (position (λ k. bytes_eq (name_of k) (name_of key)) keys) 0

pub at_index : (key : Key) → get_or keys (index key) Discipline ≡ key
at_index Discipline = refl
at_index key = refl

index_low : (key : Key) → nat_lt (index key) (length keys) ≡ true
index_low Discipline = refl
index_low key = refl

pub both : (a b : Bool) → (a && b) ≡ true → (a ≡ true) × (b ≡ true)
both true b e = (refl, e)
both false b e = absurd (cc)

all_at : (f : Key → Bool) (xs : List Key) (i : ℕ) → i < length xs → list_all f xs ≡ true → f (get_or xs i Discipline) ≡ true
all_at f [] i low e = absurd (omega arith)
all_at f (x ∷ xs) zero low e = (both (f x) (list_all f xs) e).0
all_at f (x ∷ xs) (suc i) low e = all_at f xs i (omega arith) (both (f x) (list_all f xs) e).1

pub of_each : (f : Key → Bool) → list_all f keys ≡ true → (key : Key) → f key ≡ true
of_each f e key =
    let low : index key < length keys = ltb-true (index key) (length keys) (index_low key) in
    subst (λ (k : Key). f k ≡ true) (at_index key) (all_at f keys (index key) low e)
