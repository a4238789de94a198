-- Octets written in hexadecimal, as the tables of docs/WORKED.md write them, and edits of messages.
use Rattle.std.specs.Prelude.{ℕ, ◌+◌, ◌-◌, ◌*◌, not, cond, List, [], ◌∷◌, ◌++◌, length, take, drop, nat_lt, ◌==◌, filter, codes}
use Prim.Native.String.{String}

-- what a character 0 to 9 or A to F counts
abbrev pub hex_digit : ℕ → ℕ
hex_digit c = cond (nat_lt c 65) (c - 48) (c - 55)

abbrev pub hex_pairs : List ℕ → List ℕ
hex_pairs [] = []
hex_pairs (c ∷ []) = []
hex_pairs (c ∷ d ∷ text) = (16 * hex_digit c + hex_digit d) ∷ hex_pairs text

-- the octets of a text, in which spaces (32) count nothing
abbrev pub hex : String → List ℕ
hex text = hex_pairs (filter (λ c. not (c == 32)) (codes text))

-- a message whose octets from `first` on, counted from 1, are replaced by these
abbrev pub put : List ℕ → ℕ → List ℕ → List ℕ
put message first octets = take (first - 1) message ++ octets ++ drop (first - 1 + length octets) message
