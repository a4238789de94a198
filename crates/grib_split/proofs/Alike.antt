-- Codes that are all the same, and the runs of them.
use Rattle.std.proofs.Common.{◌≡◌, ℕ, zero, suc, ◌+◌, ◌-◌, ◌%◌, ◌<◌, ◌≤◌, ◌||◌, max, Bool, true, false, cond, List, [], ◌∷◌, length, take, drop, replicate, refl, ap, ap₂, sym, ◌∙◌, subst, arith}
use Rattle.std.specs.Prelude.{slice_index}
use Rattle.std.specs.List.{list_any}
use Rattle.grib_base.specs.declared.code.Code.{Code}
use Rattle.grib_base.specs.declared.code.Code.TheVariants.{Present, Primary, Secondary}
use Rattle.grib_packing.specs.Groupings.{width_of, greatest, smallest, present_codes, is_present, is_primary, is_secondary}
use Rattle.grib_codes.proofs.Spans.{width_of-by}
use Rattle.grib_split.specs.Alike.{Alike, code_at}
use Rattle.grib_split.specs.declared.slots.Slots.{Slots}
use Rattle.grib_split.specs.Runs.{Run, Runs, Tells, Told, Wide, Holds, length_to, SameNumbers, SameMarks, SameWidths}
use Rattle.grib_split.proofs.Bounds.{single_width}
use Rattle.grib_split.proofs.Kept.{told_same, wide_as}
use Rattle.grib_split.proofs.Going.{run_more, back, length_some, length_most}

-- ---- runs of one code

any_same : (f : Code → Bool) (c : Code) (n : ℕ) → list_any f (replicate (suc n) c) ≡ list_any f (c ∷ [])
any_same f c zero = refl
any_same f c (suc n) = ap (λ (b : Bool). f c || b) (any_same f c n) ∙ twice (f c) where
  twice : (b : Bool) → (b || (b || false)) ≡ (b || false)
  twice true = refl
  twice false = refl

least_same : (c : Code) (n : ℕ) → smallest (present_codes (replicate (suc n) c)) ≡ smallest (present_codes (c ∷ []))
least_same c zero = refl
least_same (Present x) (suc n) = let same : smallest (present_codes (replicate (suc n) (Present x))) ≡ x = least_same (Present x) n in omega (arith, same)
least_same Primary (suc n) = least_same Primary n
least_same Secondary (suc n) = least_same Secondary n

most_same : (c : Code) (n : ℕ) → greatest (present_codes (replicate (suc n) c)) ≡ greatest (present_codes (c ∷ []))
most_same c zero = refl
most_same (Present x) (suc n) = let same : greatest (present_codes (replicate (suc n) (Present x))) ≡ max x 0 = most_same (Present x) n in omega (arith, same)
most_same Primary (suc n) = most_same Primary n
most_same Secondary (suc n) = most_same Secondary n

width_none : (k : ℕ) (c : Code) (n : ℕ) → width_of k (replicate (suc n) c) ≡ 0
width_none k c n =
    width_of-by k (replicate (suc n) c)
    ∙ (rw (any_same is_present c n, any_same is_primary c n, any_same is_secondary c n, least_same c n, most_same c n) (sym (width_of-by k (c ∷ []))) ∙ single_width k c)

pub tells_one : (low high p s : ℕ) (c : Code) (m n : ℕ) → Tells low high p s (replicate (suc m) c) → Tells low high p s (replicate (suc n) c)
tells_one low high p s c m n t = record {
  least = t.least ∙ ap₂ (λ (b : Bool) (v : ℕ). cond b v 4294967295) (any_same is_present c m ∙ sym (any_same is_present c n)) (least_same c m ∙ sym (least_same c n));
  most = t.most ∙ (most_same c m ∙ sym (most_same c n));
  primary = t.primary ∙ ap (λ (b : Bool). cond b 1 0) (any_same is_primary c m ∙ sym (any_same is_primary c n));
  secondary = t.secondary ∙ ap (λ (b : Bool). cond b 1 0) (any_same is_secondary c m ∙ sym (any_same is_secondary c n));
}

pub wide_one : (k bits limit : ℕ) (c : Code) (m n : ℕ) → Wide k bits limit (replicate (suc m) c) → Wide k bits limit (replicate (suc n) c)
wide_one k bits limit c m n w = record {
  is = w.is ∙ (width_none k c m ∙ sym (width_none k c n));
  few = w.few;
  none = λ e long. w.none (any_same is_present c m ∙ (sym (any_same is_present c n) ∙ e)) (omega arith);
  stays = w.stays;
}

-- ---- codes that are the same from a place on

pub run_alike : (codes : List Code) (at l : ℕ) (c : Code) → at + l ≤ length codes → ((i : ℕ) → i < l → code_at codes (at + i) ≡ c)
    → take l (drop at codes) ≡ replicate l c
run_alike codes at zero c fits same = refl
run_alike codes at (suc l) c fits same =
    let here : code_at codes at ≡ c = (let e : at ≡ at + 0 = omega arith in ap (code_at codes) e) ∙ same 0 (omega arith) in
    let less : suc l - 1 ≡ l = omega arith in
    let next : (i : ℕ) → i < l → code_at codes (at + 1 + i) ≡ c =
    λ i within. (let e : at + 1 + i ≡ at + suc i = omega arith in ap (code_at codes) e) ∙ same (suc i) (omega arith) in
    run_more codes at (suc l) (Present 0) (omega arith) (omega arith)
    ∙ ap₂ (λ (x : Code) (xs : List Code). x ∷ xs) here (ap (λ n. take n (drop (at + 1) codes)) less ∙ run_alike codes (at + 1) l c (omega arith) next)

pub run_of : (codes : List Code) (at l : ℕ) → Alike codes at 64 → l ≤ 64 → take l (drop at codes) ≡ replicate l (code_at codes at)
run_of codes at l alike few =
    run_alike codes at l (code_at codes at) (omega (arith, alike.fits)) (λ i within. alike.same i (omega arith))

pub width_alike : (k : ℕ) (codes : List Code) (at l : ℕ) → Alike codes at 64 → 1 ≤ l → l ≤ 64 → width_of k (take l (drop at codes)) ≡ 0
width_alike k codes at zero alike some few = absurd (omega arith)
width_alike k codes at (suc n) alike some few = ap (width_of k) (run_of codes at (suc n) alike few) ∙ width_none k (code_at codes at) n

-- one more of the same codes
pub one_more : (codes : List Code) (at after : ℕ) → code_at codes at ≡ code_at codes (at + 1) → Alike codes (at + 1) after
    → (i : ℕ) → i < after + 1 → code_at codes (at + i) ≡ code_at codes at
one_more codes at after is alike zero within = let e : at + 0 ≡ at = omega arith in ap (code_at codes) e
one_more codes at after is alike (suc i) within =
    let e : at + suc i ≡ at + 1 + i = omega arith in
    ap (code_at codes) e ∙ (alike.same i (omega arith) ∙ sym is)

pub alike_more : (codes : List Code) (at : ℕ) → code_at codes at ≡ code_at codes (at + 1) → Alike codes (at + 1) 64 → Alike codes at 64
alike_more codes at is alike = record {
  most = omega arith;
  fits = omega (arith, alike.fits);
  same = λ i within. one_more codes at 64 is alike i (omega (arith, within));
}

-- the code at the place before is the same where both begin 64 codes that are
pub code_same : (codes : List Code) (at : ℕ) → Alike codes at 64 → code_at codes (at + 1) ≡ code_at codes at
code_same codes at alike = alike.same 1 (omega arith)

-- ---- slots that hold one code

told_hold : (slots : Slots) (p m : ℕ) (c : Code) → Told slots p (replicate (suc m) c) → (n : ℕ) → 1 ≤ n → Told slots p (replicate n c)
told_hold slots p m c t zero some = absurd (omega arith)
told_hold slots p m c t (suc n) some = record { tells = tells_one (slice_index slots.least p) (slice_index slots.greatest p) (slice_index slots.primary p) (slice_index slots.secondary p) c m n t.tells }

wide_hold : (k bits limit m : ℕ) (c : Code) → Wide k bits limit (replicate (suc m) c) → (n : ℕ) → 1 ≤ n → Wide k bits limit (replicate n c)
wide_hold k bits limit m c w zero some = absurd (omega arith)
wide_hold k bits limit m c w (suc n) some = wide_one k bits limit c m n w

run_at : (k : ℕ) (codes : List Code) (at p : ℕ) (slots : Slots) → Alike codes at 64 → Runs k codes at slots → p < 64
    → Run k slots p (replicate (suc (length_to at p - 1)) (code_at codes at))
run_at k codes at p slots alike runs within =
    let l = length_to at p in
    let P : ℕ → Type 0 = λ q. Run k slots q (take l (drop at codes)) in
    let Q : List Code → Type 0 = λ run. Run k slots p run in
    let R : ℕ → Type 0 = λ n. Run k slots p (replicate n (code_at codes at)) in
    let more : l ≡ suc (l - 1) = omega (arith, length_some at p) in
    subst R more (subst Q (run_of codes at l alike (length_most at p)) (subst P (back at p within) (runs l (length_some at p) (length_most at p))))

pub holds_of_runs : (k : ℕ) (codes : List Code) (at : ℕ) (slots : Slots) → Alike codes at 64 → Runs k codes at slots → Holds k slots (code_at codes at)
holds_of_runs k codes at slots alike runs = record {
  told = λ p n within some. told_hold slots p (length_to at p - 1) (code_at codes at) (run_at k codes at p slots alike runs within).told n some;
  wide = λ p n within some.
      wide_hold k (slice_index slots.width p) (slice_index slots.limit p) (length_to at p - 1) (code_at codes at) (run_at k codes at p slots alike runs within).wide n some;
}

pub holds_same : (k : ℕ) (a b : Slots) (c : Code) → SameNumbers a b → SameMarks a b → SameWidths a b → Holds k a c → Holds k b c
holds_same k a b c numbers marks widths h = record {
  told = λ p n within some. told_same a b p (replicate n c) numbers marks (h.told p n within some);
  wide = λ p n within some.
      wide_as k a b p (replicate n c) (ap (λ xs. slice_index xs p) widths.width) (ap (λ xs. slice_index xs p) widths.limit) (h.wide p n within some);
}

-- the runs are right
pub runs_of_holds : (k : ℕ) (codes : List Code) (at : ℕ) (slots : Slots) → Alike codes at 64 → Holds k slots (code_at codes at) → Runs k codes at slots
runs_of_holds k codes at slots alike h l some most =
    let p = (at + l) % 64 in
    let within : p < 64 = omega arith in
    let P : List Code → Type 0 = λ run. Run k slots p run in
    subst P (sym (run_of codes at l alike most)) (record { told = h.told p l within some; wide = h.wide p l within some })
