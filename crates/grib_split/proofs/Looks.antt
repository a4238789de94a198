-- A look at one code more, and what a run of the codes so far allows.
use Rattle.std.proofs.Common.{◌≡◌, ◌⊎◌, inl, inr, ℕ, suc, ◌+◌, ◌-◌, ◌*◌, ◌<◌, ◌≤◌, min, List, [], ◌∷◌, ◌++◌, length, take, drop, get_or, ap, sym, ◌∙◌, subst, arith, length-drop, drop-drop, All}
use Rattle.std.specs.Prelude.{slice_index}
use Rattle.std.proofs.Math.Seq.{take-suc}
use Rattle.std.proofs.lemmas.List.{take-take, drop-take, length-take-le, get_or-drop}
use Rattle.grib_base.specs.declared.code.Code.{Code}
use Rattle.grib_base.specs.declared.code.Code.TheVariants.{Present}
use Rattle.grib_codes.specs.Span.{IsBelow, IsSpan}
use Rattle.grib_codes.specs.declared.span.Span.{Span}
use Rattle.grib_codes.proofs.Spans.{span-behind}
use Rattle.grib_split.specs.Bound.{NoneTakesFewer}
use Rattle.grib_split.proofs.Cut.{none_fewer_first}

-- a code is as small as all codes
pub below_at : (k : ℕ) (codes : List Code) (place : ℕ) (code : Code) → All (IsBelow k) codes → place < length codes
    → code ≡ get_or codes place (Present 0) → IsBelow k code
below_at k codes place code all within is = subst (IsBelow k) (sym is) (all place (Present 0) within)

-- the span of one code more
pub span_more : (span : Span) (code d : Code) (codes : List Code) (from at : ℕ) → code ≡ get_or codes (from + at) d → from + at < length codes
    → IsSpan span (code ∷ take at (drop from codes)) → IsSpan span (take (at + 1) (drop from codes))
span_more span code d codes from at here within is =
    let run = drop from codes in
    let next : suc at ≡ at + 1 = omega arith in
    let code_is : code ≡ get_or run at d = here ∙ sym (get_or-drop from codes at d) in
    let whole : take at run ++ get_or run at d ∷ [] ≡ take (at + 1) run =
    sym (take-suc run at d (omega (arith, within, length-drop from codes))) ∙ ap (λ (k : ℕ). take k run) next in
    let Before : Code → Type 0 = λ first. IsSpan span (first ∷ take at run) in
    subst (IsSpan span) whole (span-behind span (get_or run at d) (take at run) (subst Before code_is is))

-- the least of the costs so far and of one more
pub least_more : (cost : ℕ → ℕ) (best here now at : ℕ) → now ≡ min best here → here ≡ cost (at + 1)
    → ((n : ℕ) → 1 ≤ n → n ≤ at → best ≤ cost n) → (n : ℕ) → 1 ≤ n → n ≤ at + 1 → now ≤ cost n
least_more cost best here now at is here_is least n some within = elim (before_or_here n at within) [
  | inl before ↦ omega (arith, is, least n some before)
  | inr last ↦ let P : ℕ → Type 0 = λ k. now ≤ cost k in subst P (sym last) (omega (arith, is, here_is))
]
  where
    before_or_here : (n at : ℕ) → n ≤ at + 1 → (n ≤ at) ⊎ (n ≡ at + 1)
    before_or_here n at within = grind arith

-- the least of the costs of all first runs, with bits of the codes behind them
pub none_fewer_run : (header : ℕ) (width : List Code → ℕ) (codes : List Code) (from count best : ℕ) (rest : List ℕ) → 1 ≤ count → from + count ≤ length codes
    → ((l : ℕ) → 1 ≤ l → l ≤ count → best ≤ header + l * width (take l (drop from codes)) + slice_index rest (count - l))
    → ((l : ℕ) → 1 ≤ l → l ≤ count → NoneTakesFewer header width (take (count - l) (drop (from + l) codes)) (slice_index rest (count - l)))
    → NoneTakesFewer header width (take count (drop from codes)) best
none_fewer_run header width codes from count best rest some fits least behind =
    let run = drop from codes in
    let long : length (take count run) ≡ count = length-take-le count run (omega (arith, fits, length-drop from codes)) in
    none_fewer_first header width (take count run) best (λ l. slice_index rest (count - l)) (omega (arith, long, some))
    (λ l more within.
    let short : l ≤ count = omega (arith, long, within) in
    let P : List Code → Type 0 = λ xs. best ≤ header + l * width xs + slice_index rest (count - l) in
    subst P (sym (take-take l count run short)) (least l more short))
    (λ l more within.
    let short : l ≤ count = omega (arith, long, within) in
    let P : List Code → Type 0 = λ xs. NoneTakesFewer header width xs (slice_index rest (count - l)) in
    let sum : count ≡ l + (count - l) = omega (arith, short) in
    let after : drop l (take count run) ≡ take (count - l) (drop (from + l) codes) =
    ap (λ m. drop l (take m run)) sum ∙ (drop-take l (count - l) run ∙ ap (take (count - l)) (drop-drop l from codes)) in
    subst P (sym after) (behind l more short))
