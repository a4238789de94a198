-- Octets of numbers in turn that go through a buffer to a sink.
use Rattle.std.proofs.Common.{◌≡◌, ℕ, ◌+◌, ◌-◌, ◌<◌, List, [], ◌++◌, ap, sym, ◌∙◌, append_assoc, append-nil, subst, arith}
use Rattle.std.specs.declared.option.Option.{Option}
use Rattle.std.specs.List.{range_with_len}
use Rattle.std.specs.Prelude.{flat_map}
use Rattle.std.proofs.lemmas.Grind.{flat_map-append}
use Rattle.grib_bits.proofs.Arithmetic.{range_append}
use Rattle.grib_io.specs.Outside.{AppendsFront}
use Rattle.grib_command.specs.Pending.{AppendsAllBut}
use Rattle.grib_command.proofs.Outside.{front_more}
use Rattle.grib_report.proofs.Pending.{pending_more, pending_front}

flat_parts : (f : ℕ → List ℕ) (m n : ℕ) → flat_map f (range_with_len 0 (m + n)) ≡ flat_map f (range_with_len 0 m) ++ flat_map f (range_with_len m n)
flat_parts f m n =
    let e : 0 + m ≡ m = omega arith in
    ap (flat_map f) (range_append 0 m n) ∙ flat_map-append f (range_with_len 0 m) (range_with_len (0 + m) n)
    ∙ ap (λ (x : ℕ). flat_map f (range_with_len 0 m) ++ flat_map f (range_with_len x n)) e

flat_next : (f : ℕ → List ℕ) (old : List ℕ) (i : ℕ) → (old ++ flat_map f (range_with_len 0 i)) ++ f i ≡ old ++ flat_map f (range_with_len 0 (i + 1))
flat_next f old i =
    append_assoc old (flat_map f (range_with_len 0 i)) (f i)
    ∙ ap (λ (xs : List ℕ). old ++ xs) (ap (λ (xs : List ℕ). flat_map f (range_with_len 0 i) ++ xs) (sym (append-nil (f i))) ∙ sym (flat_parts f i 1))

-- a step of the loop that wrote the octets of a number, but for the buffer
pub number_written : (f : ℕ → List ℕ) (a b c : Option (List ℕ)) (old pending left : List ℕ) (i : ℕ)
    → AppendsAllBut a b (old ++ flat_map f (range_with_len 0 i)) pending → AppendsAllBut b c (pending ++ f i) left
    → AppendsAllBut a c (old ++ flat_map f (range_with_len 0 (i + 1))) left
number_written f a b c old pending left i before now =
    subst (λ octets. AppendsAllBut a c octets left) (flat_next f old i)
    (pending_more a b c (old ++ flat_map f (range_with_len 0 i)) pending (f i) left before now)

-- and one that wrote a front of them
pub number_refused : (f : ℕ → List ℕ) (a b c : Option (List ℕ)) (old pending : List ℕ) (i n : ℕ) → i < n
    → AppendsAllBut a b (old ++ flat_map f (range_with_len 0 i)) pending → AppendsFront b c (pending ++ f i)
    → AppendsFront a c (old ++ flat_map f (range_with_len 0 n))
number_refused f a b c old pending i n less before front =
    let some : AppendsFront a c (old ++ flat_map f (range_with_len 0 (i + 1))) =
    subst (AppendsFront a c) (flat_next f old i) (pending_front a b c (old ++ flat_map f (range_with_len 0 i)) pending (f i) before front) in
    let rest : List ℕ = flat_map f (range_with_len (i + 1) (n - (i + 1))) in
    let count : (i + 1) + (n - (i + 1)) ≡ n = omega arith in
    let all : flat_map f (range_with_len 0 (i + 1)) ++ rest ≡ flat_map f (range_with_len 0 n) =
    sym (flat_parts f (i + 1) (n - (i + 1))) ∙ ap (λ (k : ℕ). flat_map f (range_with_len 0 k)) count in
    subst (AppendsFront a c) (append_assoc old (flat_map f (range_with_len 0 (i + 1))) rest ∙ ap (λ (xs : List ℕ). old ++ xs) all)
    (front_more a c (old ++ flat_map f (range_with_len 0 (i + 1))) rest some)
