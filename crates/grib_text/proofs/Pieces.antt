-- A text that is printed piece by piece is the line.
use Rattle.std.proofs.Common.{◌≡◌, ℕ, ◌-◌, ◌^◌, Bool, true, false, IsTrue, ◌↔◌, List, [], ◌∷◌, ◌++◌, ℤ, pos, negsuc, ◌<ℤ◌, nat_abs, codes, length, replicate, refl, ap, ◌∙◌, arith, append_assoc, append-nil}
use Rattle.std.proofs.lemmas.Int.{ints}
use Rattle.std.specs.Fmt.{decimal, signed_decimal, sign_text, padded_integral, format_spec, char_count}
use Rattle.grib_base.specs.declared.fault.Fault.{Fault}
use Rattle.grib_base.specs.Reason.{name_of}
use Rattle.grib_dyadic.specs.Reference.{Binary}
use Rattle.grib_text.specs.Words.{filled_decimal}
use Rattle.grib2_message.specs.declared.summary.FieldSummary.{FieldSummary}
use Rattle.grib_text.specs.Lines.{reference_line, time_of, time_text, origin_of, grid_of, instant_of, product_text, known_bits, packing_of, summary_text}
use Rattle.grib_text.specs.Notes.{refusal_text}

refusal_text-regroup : (a b c d : List ℕ) → a ++ (codes " octet " ++ (b ++ (codes " " ++ (c ++ (codes " " ++ (d ++ 10 ∷ [])))))) ≡ a ++ codes " octet " ++ b ++ codes " " ++ c ++ codes " " ++ d ++ 10 ∷ []
refusal_text-regroup a b c d = simp append_assoc

pub refusal_text-pieces : (head : List ℕ) (fault : Fault) → head ++ (codes " octet " ++ (decimal fault.octet ++ (codes " " ++ (name_of fault.reason ++ (codes " " ++ (decimal fault.detail ++ 10 ∷ [])))))) ≡ refusal_text head fault
refusal_text-pieces head fault = refusal_text-regroup head (decimal fault.octet) (name_of fault.reason) (decimal fault.detail)

-- a number is its sign and its magnitude
signed_decimal-pieces : (negative : Bool) (z : ℤ) → IsTrue negative ↔ (z <ℤ pos 0) → sign_text negative ++ decimal (nat_abs z) ≡ signed_decimal z
signed_decimal-pieces true (pos n) h = let l = h.0 refl in absurd (omega (arith, ints))
signed_decimal-pieces true (negsuc n) h = refl
signed_decimal-pieces false (pos n) h = refl
signed_decimal-pieces false (negsuc n) h = let e : false ≡ true = h.1 (omega (arith, ints)) in cc

reference_line-regroup : (sign m x y z : List ℕ) → codes "reference " ++ (sign ++ (m ++ (codes "*2^" ++ (x ++ (codes " binary " ++ (y ++ (codes " decimal " ++ (z ++ 10 ∷ [])))))))) ≡ codes "reference " ++ (sign ++ m) ++ codes "*2^" ++ x ++ codes " binary " ++ y ++ codes " decimal " ++ z ++ 10 ∷ []
reference_line-regroup sign m x y z = simp append_assoc

pub reference_line-pieces : (r : Binary) (e d : ℤ) (negative : Bool) (sign : List ℕ) (m : ℕ) (x y z : ℤ) → IsTrue negative ↔ (r.mantissa <ℤ pos 0) → sign ≡ sign_text negative → m ≡ nat_abs r.mantissa → x ≡ r.exponent → y ≡ e → z ≡ d → codes "reference " ++ (sign ++ (decimal m ++ (codes "*2^" ++ (signed_decimal x ++ (codes " binary " ++ (signed_decimal y ++ (codes " decimal " ++ (signed_decimal z ++ 10 ∷ [])))))))) ≡ reference_line r e d
reference_line-pieces r e d negative sign m x y z h p q i j k =
    let mantissa : sign ++ decimal m ≡ signed_decimal r.mantissa = ap (λ s. s ++ decimal m) p ∙ ap (λ n. sign_text negative ++ decimal n) q ∙ signed_decimal-pieces negative r.mantissa h in
    reference_line-regroup sign (decimal m) (signed_decimal x) (signed_decimal y) (signed_decimal z)
    ∙ ap (λ s. codes "reference " ++ s ++ codes "*2^" ++ signed_decimal x ++ codes " binary " ++ signed_decimal y ++ codes " decimal " ++ signed_decimal z ++ 10 ∷ []) mantissa
    ∙ ap (λ n. codes "reference " ++ signed_decimal r.mantissa ++ codes "*2^" ++ signed_decimal n ++ codes " binary " ++ signed_decimal y ++ codes " decimal " ++ signed_decimal z ++ 10 ∷ []) i
    ∙ ap (λ n. codes "reference " ++ signed_decimal r.mantissa ++ codes "*2^" ++ signed_decimal r.exponent ++ codes " binary " ++ signed_decimal n ++ codes " decimal " ++ signed_decimal z ++ 10 ∷ []) j
    ∙ ap (λ n. codes "reference " ++ signed_decimal r.mantissa ++ codes "*2^" ++ signed_decimal r.exponent ++ codes " binary " ++ signed_decimal e ++ codes " decimal " ++ signed_decimal n ++ 10 ∷ []) k

-- what `{:04}` and the like print
pub padded-filled_decimal : (width n : ℕ) → padded_integral (format_spec 32 0 4 width (2 ^ 64 - 1)) false [] (decimal n) ≡ filled_decimal width n
unfolding padded_integral char_count
padded-filled_decimal width n =
    let e : width - length (decimal n) - 0 - 0 ≡ width - length (decimal n) = omega arith in
    ap (λ k. replicate k 48 ++ (decimal n ++ [])) e ∙ ap (λ t. replicate (width - length (decimal n)) 48 ++ t) (append-nil (decimal n))

time_of-regroup : (y m d h i s : List ℕ) → y ++ (codes "-" ++ (m ++ (codes "-" ++ (d ++ (codes "T" ++ (h ++ (codes ":" ++ (i ++ (codes ":" ++ s))))))))) ≡ y ++ codes "-" ++ m ++ codes "-" ++ d ++ codes "T" ++ h ++ codes ":" ++ i ++ codes ":" ++ s
time_of-regroup y m d h i s = simp append_assoc

-- a time is printed number by number
pub record IsTime (y m d h i s : ℕ) (ys ms ds hs is ss : List ℕ) : Type 0 where
  pub year : ys ≡ filled_decimal 4 y
  pub month : ms ≡ filled_decimal 2 m
  pub day : ds ≡ filled_decimal 2 d
  pub hour : hs ≡ filled_decimal 2 h
  pub minute : is ≡ filled_decimal 2 i
  pub second : ss ≡ filled_decimal 2 s

pub time_of-pieces : (y m d h i s : ℕ) (ys ms ds hs is ss : List ℕ) → IsTime y m d h i s ys ms ds hs is ss → ys ++ (codes "-" ++ (ms ++ (codes "-" ++ (ds ++ (codes "T" ++ (hs ++ (codes ":" ++ (is ++ (codes ":" ++ ss))))))))) ≡ time_of y m d h i s
time_of-pieces y m d h i s ys ms ds hs is ss t =
    rw (t.year, t.month, t.day, t.hour, t.minute, t.second) (time_of-regroup (filled_decimal 4 y) (filled_decimal 2 m) (filled_decimal 2 d) (filled_decimal 2 h) (filled_decimal 2 i) (filled_decimal 2 s))

summary_text-regroup : (m i o g p k : List ℕ) → m ++ (codes "." ++ (i ++ (codes " ed=2 " ++ (o ++ (codes " " ++ (g ++ (codes " " ++ (p ++ (codes " " ++ k))))))))) ≡ m ++ codes "." ++ i ++ codes " ed=2 " ++ o ++ codes " " ++ g ++ codes " " ++ p ++ codes " " ++ k
summary_text-regroup m i o g p k = simp append_assoc

pub summary_text-pieces : (m i : ℕ) (s : FieldSummary) (o g p k : List ℕ) → o ≡ origin_of s.identification.centre (time_text s.identification) → g ≡ grid_of s.grid s.points → p ≡ product_text s → k ≡ packing_of s.packing (known_bits s) s.values
    → decimal m ++ (codes "." ++ (decimal i ++ (codes " ed=2 " ++ (o ++ (codes " " ++ (g ++ (codes " " ++ (p ++ (codes " " ++ k))))))))) ≡ summary_text s m i
summary_text-pieces m i s o g p k e f h j =
    rw (e, f, h, j) (summary_text-regroup (decimal m) (decimal i) (origin_of s.identification.centre (time_text s.identification)) (grid_of s.grid s.points) (product_text s) (packing_of s.packing (known_bits s) s.values))

instant_of-regroup : (u a s : List ℕ) → codes "unit=" ++ (u ++ (codes " ahead=" ++ (a ++ (codes " surface=" ++ s)))) ≡ codes "unit=" ++ u ++ codes " ahead=" ++ a ++ codes " surface=" ++ s
instant_of-regroup u a s = simp append_assoc

pub instant_of-pieces : (unit : ℕ) (x ahead : ℤ) (s : List ℕ) → x ≡ ahead → codes "unit=" ++ (decimal unit ++ (codes " ahead=" ++ (signed_decimal x ++ (codes " surface=" ++ s)))) ≡ instant_of unit ahead s
instant_of-pieces unit x ahead s e = rw e (instant_of-regroup (decimal unit) (signed_decimal ahead) s)
