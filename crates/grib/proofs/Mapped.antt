-- Two maps, one after the other.
use Rattle.std.proofs.Common.{◌≡◌, List, [], ◌∷◌, map, refl, ap}

pub mapped_twice : {X Y Z : Type 0} (g : Y → Z) (f : X → Y) (xs : List X) → map (λ x. g (f x)) xs ≡ map g (map f xs)
mapped_twice g f [] = refl
mapped_twice g f (x ∷ xs) = ap (λ rest. g (f x) ∷ rest) (mapped_twice g f xs)
