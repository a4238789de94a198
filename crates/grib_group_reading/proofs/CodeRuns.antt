-- Lemmas on codes of a group that follow one another.
use Rattle.std.proofs.Common.{◌≡◌, ℕ, zero, suc, ◌+◌, ◌*◌, ◌-◌, ◌≤◌, Bool, List, [], ◌∷◌, ◌++◌, length, take, drop, map, replicate, refl, sym, subst, ap, ap₂, ◌∙◌, arith, append_assoc}
use Rattle.std.proofs.lemmas.List.{append-nil, drop-drop, length-map, nil_from_length}
use Rattle.grib_bits.specs.Bits.{num}
use Rattle.grib_bits.specs.Plain.{plain}
use Rattle.grib_base.specs.declared.code.Code.{Code}
use Rattle.grib_packing.proofs.Fields.{length-plain, plain-add}
use Rattle.grib_group_reading.specs.CodeRuns.{Passed}

-- one number, and then those after it
pub plain_first : (bits : List Bool) (at width count : ℕ) → 1 ≤ count
    → plain (drop at bits) width count ≡ num (take width (drop at bits)) ∷ plain (drop (at + width) bits) width (count - 1)
plain_first bits at width count some =
    let all : count ≡ 1 + (count - 1) = omega arith in
    let once : width * 1 ≡ width = omega arith in
    let here : 0 * width ≡ 0 = omega arith in
    ap (plain (drop at bits) width) all
    ∙ plain-add (drop at bits) width 1 (count - 1)
    ∙ ap₂ (λ (k : ℕ) (ys : List Bool). num (take width (drop k (drop at bits))) ∷ plain ys width (count - 1)) here
    (ap (λ (k : ℕ). drop k (drop at bits)) once ∙ drop-drop width at bits)

pub length-codes : (f : ℕ → Code) (bits : List Bool) (width count : ℕ) → length (map f (plain bits width count)) ≡ count
length-codes f bits width count = length-map (plain bits width count) f ∙ length-plain bits width count

-- ---- codes of a run that went to what takes them

module _ {S : Type 0} (took : S → List Code → S → Type 0) (start : S) where
  pub passed_none : (none : (taker : S) → took taker [] taker) → (all : List Code) → Passed (took start) all all start
  passed_none none all = record { codes = []; joined = refl; passed = none start }

  pub passed_next : (more : (before between after : S) (codes more_codes : List Code) → took before codes between → took between more_codes after → took before (codes ++ more_codes) after)
      → {all left rest : List Code} {code : Code} {before after : S} → Passed (took start) all left before → left ≡ code ∷ rest → took before (code ∷ []) after → Passed (took start) all rest after
  passed_next more {rest = rest} {code = code} {before = before} {after = after} so_far first step = record {
    codes = so_far.codes ++ code ∷ [];
    joined = append_assoc so_far.codes (code ∷ []) rest ∙ ap (λ cs. so_far.codes ++ cs) (sym first) ∙ so_far.joined;
    passed = more start before after so_far.codes (code ∷ []) so_far.passed step;
  }

  -- none is left
  pub passed_all : {all left : List Code} {after : S} → Passed (took start) all left after → length left ≡ 0 → took start all after
  passed_all {all} {left} {after} so_far none =
      let nothing : left ≡ [] = nil_from_length left none in
      subst (λ (cs : List Code). took start cs after) (sym (append-nil so_far.codes) ∙ ap (λ cs. so_far.codes ++ cs) (sym nothing) ∙ so_far.joined) so_far.passed

-- ---- numbers of no bits

pub plain_zeros : (f : ℕ → Code) (bits : List Bool) (count : ℕ) → map f (plain bits 0 count) ≡ replicate count (f 0)
plain_zeros f bits zero = refl
plain_zeros f bits (suc count) =
    let less : suc count - 1 ≡ count = omega arith in
    ap (map f) (plain_first bits 0 0 (suc count) (omega arith))
    ∙ ap (λ (k : ℕ). f 0 ∷ map f (plain bits 0 k)) less
    ∙ ap (λ cs. f 0 ∷ cs) (plain_zeros f bits count)
