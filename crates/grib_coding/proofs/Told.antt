-- Numbers and what tells them.
use Rattle.std.proofs.Common.{◌≡◌, ℕ, ◌+◌, ◌≤◌, Bool, true, false, cond, List, [], ◌∷◌, refl, sym, ap, ap₂, ◌∙◌, arith}
use Rattle.std.specs.List.{All}
use Rattle.std.proofs.lemmas.List.Elements.{All-head, All-tail}
use Rattle.grib_coding.specs.Mapped.{mapped, unmapped}
use Rattle.grib_coding.proofs.Folds as folds
use Rattle.grib_coding.specs.declared.coding.Coding.{Coding}
use Rattle.grib_coding.specs.Coding.{greatest, is_mapped}
use Rattle.grib_coding.specs.Numbers.{Told, Reference, Code, told, is_reference, told_after, number_told, numbers_told, AreTold}

-- a number is told by a reference, by its code, or as it is
once : (most last number : ℕ) (referred mapped_ones : Bool) → last ≤ most → number ≤ most
    → (c : Coding) → greatest c ≡ most → is_mapped c ≡ mapped_ones
    → number_told c last (cond referred (Reference number) (Code (cond mapped_ones (mapped most last number) number))) ≡ number
once most last number true mapped_ones l n c g m = refl
once most last number false true l n c g m =
    ap (λ (b : Bool). cond b (unmapped (greatest c) last (mapped most last number)) (mapped most last number)) m
    ∙ ap (λ (top : ℕ). unmapped top last (mapped most last number)) g ∙ folds.found_again most last number l n
once most last number false false l n c g m = ap (λ (b : Bool). cond b (unmapped (greatest c) last number) number) m

one : (c : Coding) (place last number : ℕ) → last ≤ greatest c → number ≤ greatest c → number_told c last (told c place last number) ≡ number
one c place last number l n = once (greatest c) last number (is_reference c place) (is_mapped c) l n c refl refl

pub all_found : (c : Coding) (place last : ℕ) (numbers : List ℕ) → last ≤ greatest c → All (λ number. number ≤ greatest c) numbers
    → numbers_told c last (told_after c place last numbers) ≡ numbers
all_found c place last [] l all = refl
all_found c place last (number ∷ numbers) l all =
    let here : number ≤ greatest c = All-head (λ n. n ≤ greatest c) number numbers all in
    let is = one c place last number l here in
    ap (λ (n : ℕ). n ∷ numbers_told c n (told_after c (place + 1) number numbers)) is
    ∙ ap (λ (ns : List ℕ). number ∷ ns) (all_found c (place + 1) number numbers here (All-tail (λ n. n ≤ greatest c) number numbers all))

pub found_again : (c : Coding) (entries : List Told) (numbers : List ℕ) → AreTold c entries numbers → numbers_told c 0 entries ≡ numbers
found_again c entries numbers h =
    ap (numbers_told c 0) (sym h.entries_stand) ∙ all_found c 0 0 numbers (omega arith) h.within
