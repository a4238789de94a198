-- A message put together of its parts.
use Rattle.std.proofs.Common.{◌≡◌, ℕ, ◌+◌, List, [], ◌∷◌, ◌++◌, length, ap, ◌∙◌, arith, append_assoc}
use Rattle.std.proofs.lemmas.List.{length-append}
use Rattle.grib_bits.specs.Encoding.{octets_of}
use Rattle.grib2_sections.specs.Head.{end_mark}
use Rattle.grib_migrate.specs.Migrated.{message_with}

behind : (h n x y : List ℕ) → (h ++ (n ++ x)) ++ y ≡ h ++ (n ++ (x ++ y))
behind h n x y = append_assoc h (n ++ x) y ∙ ap (λ (zs : List ℕ). h ++ zs) (append_assoc n x y)

pub whole_joined : (discipline total : ℕ) (front s6 s7 a b c d e f g : List ℕ) → a ≡ [] → b ≡ a ++ (71 ∷ 82 ∷ 73 ∷ 66 ∷ 0 ∷ 0 ∷ discipline ∷ 2 ∷ [])
    → c ≡ b ++ octets_of 8 total → d ≡ c ++ front → e ≡ d ++ s6 → f ≡ e ++ s7 → g ≡ f ++ end_mark → total ≡ 16 + length front + length s6 + length s7 + 4
    → g ≡ message_with discipline (16 + length (front ++ (s6 ++ s7)) + 4) (front ++ (s6 ++ s7))
whole_joined discipline total front s6 s7 a b c d e f g e0 e1 e2 e3 e4 e5 e6 stated =
    let h : List ℕ = 71 ∷ 82 ∷ 73 ∷ 66 ∷ 0 ∷ 0 ∷ discipline ∷ 2 ∷ [] in
    let n = octets_of 8 total in
    let b_is : b ≡ h = e1 ∙ ap (λ (zs : List ℕ). zs ++ h) e0 in
    let c_is : c ≡ h ++ n = e2 ∙ ap (λ (zs : List ℕ). zs ++ n) b_is in
    let d_is : d ≡ h ++ (n ++ front) = e3 ∙ ap (λ (zs : List ℕ). zs ++ front) c_is ∙ append_assoc h n front in
    let e_is : e ≡ h ++ (n ++ (front ++ s6)) = e4 ∙ ap (λ (zs : List ℕ). zs ++ s6) d_is ∙ behind h n front s6 in
    let f_is : f ≡ h ++ (n ++ (front ++ (s6 ++ s7))) =
    e5 ∙ ap (λ (zs : List ℕ). zs ++ s7) e_is ∙ behind h n (front ++ s6) s7 ∙ ap (λ (zs : List ℕ). h ++ (n ++ zs)) (append_assoc front s6 s7) in
    let long : total ≡ 16 + length (front ++ (s6 ++ s7)) + 4 = omega (arith, stated, length-append front (s6 ++ s7), length-append s6 s7) in
    e6 ∙ ap (λ (zs : List ℕ). zs ++ end_mark) f_is ∙ behind h n (front ++ (s6 ++ s7)) end_mark
    ∙ ap (λ (t : ℕ). message_with discipline t (front ++ (s6 ++ s7))) long
