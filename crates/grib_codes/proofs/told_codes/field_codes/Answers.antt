use Rattle.std.proofs.Common.{◌≡◌, ℕ, zero, suc, ◌<◌, List, [], ◌∷◌, length, get_or, replicate, slice_index, refl, sym, ap, ap₂, ◌∙◌, arith, subst}
use Rattle.grib_base.specs.declared.code.Code.{Code}
use Rattle.grib_codes.specs.Words.{code_of, codes_of}
use Rattle.grib_codes.proofs.told_codes.field_codes.Goals as goal

all_same : (k : ℕ) (words : List ℕ) (word : ℕ) → ((i : ℕ) → i < length words → slice_index words i ≡ word) → codes_of k words ≡ replicate (length words) (code_of k word)
all_same k [] word each = refl
all_same k (w ∷ words) word each =
    ap₂ (λ (c : Code) (cs : List Code). c ∷ cs) (ap (code_of k) (each 0 (omega arith))) (all_same k words word (λ i within. each (suc i) (omega arith)))

first_same : (n : ℕ) (code : Code) → get_or (replicate n code) 0 code ≡ code
first_same zero code = refl
first_same (suc n) code = refl

pub returns-then-are_all : goal.returns-then-are_all
returns-then-are_all c =
    let words = c.args.words.items in
    let k = c.args.management in
    let first = c.index-first.result.now in
    let each : (i : ℕ) → i < length words → slice_index words i ≡ first =
    subst (λ (ws : List ℕ). (i : ℕ) → i < length ws → slice_index ws i ≡ first) c.deref.ensures.value (c.are_all.ensures c.if-are_all.true) in
    let same = all_same k words first each in
    let codes : c.of.result ≡ replicate (length words) (code_of k first) = c.of.ensures.is ∙ ap₂ codes_of c.from.ensures c.deref-then-are_all.ensures.value ∙ same in
    let code : c.at-code.result ≡ code_of k first =
    c.at-code.ensures (code_of k first) ∙ ap (λ (cs : List Code). get_or cs 0 (code_of k first)) codes ∙ first_same (length words) (code_of k first) in
    let count : c.len.result ≡ length words = omega (arith, c.len.ensures, c.args.words.ok.0) in
    ap₂ replicate count code ∙ sym same
