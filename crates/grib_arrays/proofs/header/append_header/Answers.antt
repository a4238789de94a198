use Rattle.std.proofs.Common.{◌≡◌, ℕ, ◌-◌, List, [], ◌∷◌, ◌++◌, length, replicate, sym, ap, ◌∙◌, append_assoc}
use Rattle.grib_arrays.specs.Header.{dictionary}
use Rattle.grib_arrays.proofs.header.append_header.Goals as goal

joined : (old head text blanks end : List ℕ) → (((old ++ head) ++ text) ++ blanks) ++ end ≡ old ++ (head ++ ((text ++ blanks) ++ end))
joined old head text blanks end = simp append_assoc

pub returns : goal.returns
returns c =
    let old = c.args.octets.now.items in
    let head : List ℕ = 147 ∷ 78 ∷ 85 ∷ 77 ∷ 80 ∷ 89 ∷ 1 ∷ 0 ∷ 118 ∷ 0 ∷ [] in
    let shown = c.as_slice.result.now in
    let blanks : ℕ = c.saturating_sub.result in
    let text : shown ≡ dictionary c.args.format c.args.shape = c.as_slice.ensures.value ∙ c.in_ok-dictionary.ensures in
    let size : blanks ≡ 117 - length shown = c.saturating_sub.ensures ∙ ap (λ n. 117 - n) (c.len.ensures ∙ sym c.as_slice.ensures.len) in
    c.in_ok-push.ensures.items
    ∙ ap (λ xs. xs ++ 10 ∷ []) (c.in_ok-append_blanks.ensures
    ∙ ap (λ xs. xs ++ replicate blanks 32) (c.in_ok-extend_from_slice-2.ensures.items ∙ ap (λ xs. xs ++ shown) c.in_ok-extend_from_slice.ensures.items))
    ∙ joined old head shown (replicate blanks 32) (10 ∷ [])
    ∙ ap (λ n. old ++ (head ++ ((shown ++ replicate n 32) ++ 10 ∷ []))) size
    ∙ ap (λ t. old ++ (head ++ ((t ++ replicate (117 - length t) 32) ++ 10 ∷ []))) text
