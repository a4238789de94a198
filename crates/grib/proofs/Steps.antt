-- A call that gave the first of what was left.
use Rattle.std.proofs.Common.{◌≡◌, ◌<◌, List, ◌∷◌, Some, length, sym, subst, arith}
use Rattle.std.specs.Iterator.{MakesProgress, item_count}

pub goes_on : {S A B : Type 0} (view : A → B) (rest : S → List B) (s t : S) (x : A) → rest s ≡ view x ∷ rest t → MakesProgress (λ _. Unit {0}) (item_count rest) s (Some x) t
goes_on view rest s t x e = record {
  on = λ _. (tt, tt, subst (λ l. length (rest t) < length l) (sym e) (omega arith));
  keeps = tt;
  rests = λ _. tt;
}
