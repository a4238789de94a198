-- What several writes after one another do to the octets of a sink.
use Rattle.std.proofs.Common.{◌≡◌, ℕ, Bool, true, false, ◌&&◌, refl, ◌+◌, ◌-◌, List, ◌++◌, length, take, drop, ap, sym, ◌∙◌, subst, take-append-drop}
use Rattle.std.specs.declared.option.Option.{Option}
use Rattle.std.specs.Io.KnownBytes.{Appends, Keeps}
use Rattle.std.proofs.KnownBytes.{Appends-trans, Appends-kept}
use Rattle.std.proofs.lemmas.List.{take_rest}
use Rattle.std.proofs.Math.Seq.{take-add}
use Rattle.grib_io.specs.Outside.{AppendsFront, Counted, CountsStop}
use Rattle.grib_io.specs.declared.outside.Stop.{Stop}
use Rattle.grib_io.specs.declared.outside.Stop.TheVariants.{Failed, Memory}

-- what was written before, and then of the rest of the piece
pub written_more : (a b c : Option (List ℕ)) (xs : List ℕ) (n k : ℕ) → Appends a b (take n xs)
    → Appends b c (take k (take (length xs - n) (drop n xs))) → Appends a c (take (n + k) xs)
written_more a b c xs n k before now =
    let rest : take (length xs - n) (drop n xs) ≡ drop n xs = take_rest xs n in
    subst (Appends a c) (ap (λ ys. take n xs ++ take k ys) rest ∙ sym (take-add n k xs))
    (Appends-trans a b c (take n xs) (take k (take (length xs - n) (drop n xs))) before now)

-- the front that was written where the rest is refused
pub written_front : (a b c : Option (List ℕ)) (xs : List ℕ) (n : ℕ) → Appends a b (take n xs) → Keeps b c → AppendsFront a c xs
written_front a b c xs n before kept = (take n xs, drop n xs, sym (take-append-drop n xs), Appends-kept a b c (take n xs) before kept)

-- the count after a write that stopped
pub failed_counted : (stop : Stop) (first before now : ℕ) → stop ≡ Failed → CountsStop stop before now → before ≡ first → Counted first now
failed_counted Failed first before now is counted same = subst (λ n. Counted n now) same counted
failed_counted Memory first before now is counted same = let no : ⊥ = cc in absurd no

pub memory_calm : (stop : Stop) (first before now : ℕ) → stop ≡ Memory → CountsStop stop before now → before ≡ first → now ≡ first
memory_calm Failed first before now is counted same = let no : ⊥ = cc in absurd no
memory_calm Memory first before now is counted same = counted ∙ same

-- what still holds of both held of the first
pub left_true : (b c : Bool) → (b && c) ≡ true → b ≡ true
left_true true c is = refl
left_true false c is = is
