-- Runs of no codes, and the runs of a place as those of the place before it.
use Rattle.std.proofs.Common.{◌≡◌, ◌≢◌, ℕ, zero, suc, ◌+◌, ◌-◌, ◌%◌, ◌<◌, ◌≤◌, inl, List, [], ◌∷◌, length, take, drop, refl, ap, sym, ◌∙◌, subst, arith, length-drop}
use Rattle.std.specs.Prelude.{slice_index, slice_set}
use Rattle.std.proofs.lemmas.Simd.{get_or-replicate}
use Rattle.std.specs.Prelude.{replicate}
use Rattle.grib_base.specs.declared.code.Code.{Code}
use Rattle.grib_packing.specs.Groupings.{width_of}
use Rattle.grib_split.specs.declared.slots.Slots.{Slots}
use Rattle.grib_split.specs.Least.{IsLeast}
use Rattle.grib_split.specs.Runs.{Run, Runs, Waits, After, Afters, Begun, IsLow, OthersStay, cost_at}
use Rattle.grib_split.proofs.Widths.{tells_as}
use Rattle.grib_split.proofs.Kept.{wide_as, other_at}
use Rattle.grib_split.proofs.Following.{none_chosen}

empty_run : (k : ℕ) (slots : Slots) (p : ℕ) → slice_index slots.least p ≡ 4294967295 → slice_index slots.greatest p ≡ 0
    → slice_index slots.primary p ≡ 0 → slice_index slots.secondary p ≡ 0 → slice_index slots.width p ≡ 0 → slice_index slots.limit p ≤ 1
    → Run k slots p []
empty_run k slots p low high primary secondary width limit = record {
  told = record { tells = record { least = low; most = high; primary = primary; secondary = secondary } };
  wide = record { is = width; few = omega (arith, width); none = λ e long. absurd (omega (arith, long)); stays = inl limit };
}

-- slots that hold the same at a place
pub record Same (a b : Slots) (p : ℕ) : Type 0 where
  pub least : slice_index b.least p ≡ slice_index a.least p
  pub greatest : slice_index b.greatest p ≡ slice_index a.greatest p
  pub primary : slice_index b.primary p ≡ slice_index a.primary p
  pub secondary : slice_index b.secondary p ≡ slice_index a.secondary p
  pub width : slice_index b.width p ≡ slice_index a.width p
  pub limit : slice_index b.limit p ≡ slice_index a.limit p

pub same_but : (a b : Slots) (here : ℕ) (low high p s w l : ℕ)
    → b.least ≡ slice_set a.least here low → b.greatest ≡ slice_set a.greatest here high → b.primary ≡ slice_set a.primary here p
    → b.secondary ≡ slice_set a.secondary here s → b.width ≡ slice_set a.width here w → b.limit ≡ slice_set a.limit here l
    → (q : ℕ) → here ≢ q → Same a b q
same_but a b here low high p s w l e1 e2 e3 e4 e5 e6 q other = record {
  least = other_at a.least b.least here q low other e1;
  greatest = other_at a.greatest b.greatest here q high other e2;
  primary = other_at a.primary b.primary here q p other e3;
  secondary = other_at a.secondary b.secondary here q s other e4;
  width = other_at a.width b.width here q w other e5;
  limit = other_at a.limit b.limit here q l other e6;
}

run_same : (k : ℕ) (a b : Slots) (p : ℕ) (run : List Code) → Same a b p → Run k a p run → Run k b p run
run_same k a b p run s r = record {
  told = record { tells = tells_as _ _ _ _ (slice_index b.least p) (slice_index b.greatest p) (slice_index b.primary p) (slice_index b.secondary p) run r.told.tells s.least s.greatest s.primary s.secondary };
  wide = wide_as k a b p run s.width s.limit r.wide;
}

-- places that are less than 64 apart are kept apart
pub apart : (at m : ℕ) → 1 < m → m ≤ 64 → (at + 1) % 64 ≢ (at + m) % 64
apart at m below near e = omega arith

pub waits_begun : (k : ℕ) (codes : List Code) (at cost : ℕ) (a b : Slots) → Begun b ((at + 1) % 64) cost
    → ((p : ℕ) → (at + 1) % 64 ≢ p → Same a b p) → Runs k codes (at + 1) a → Waits k codes at b
waits_begun k codes at cost a b here same runs zero some most = absurd (omega arith)
waits_begun k codes at cost a b here same runs (suc zero) some most =
    empty_run k b ((at + 1) % 64) here.least here.greatest here.primary here.secondary here.width (omega (arith, here.limit))
waits_begun k codes at cost a b here same runs (suc (suc m)) some most =
    let n : ℕ = suc (suc m) in
    let p = (at + n) % 64 in
    let e : at + 1 + suc m ≡ at + n = omega arith in
    let P : ℕ → Type 0 = λ q. Run k a (q % 64) (take (suc m) (drop (at + 1) codes)) in
    let R : ℕ → Type 0 = λ j. Run k b p (take j (drop (at + 1) codes)) in
    let one_less : suc m ≡ suc (suc m) - 1 = omega arith in
    subst R one_less
    (run_same k a b p (take (suc m) (drop (at + 1) codes)) (same p (apart at n (omega arith) most))
    (subst P e (runs (suc m) (omega arith) (omega arith))))

pub afters_put : (header k : ℕ) (codes : List Code) (at cost : ℕ) (a b : Slots) → at < length codes → cost_at b.after ((at + 1) % 64) ≡ cost
    → OthersStay a b ((at + 1) % 64) → IsLeast header (width_of k) (drop (at + 1) codes) cost
    → Afters header k codes (at + 1) a → Afters header k codes at b
afters_put header k codes at cost a b place here same is afters zero some most = absurd (omega arith)
afters_put header k codes at cost a b place here same is afters (suc zero) some most = record {
  some = λ within. let P : ℕ → Type 0 = λ c. IsLeast header (width_of k) (drop (at + 1) codes) c in subst P (sym here) is;
  none = λ outside. absurd (omega arith);
}
afters_put header k codes at cost a b place here same is afters (suc (suc m)) some most =
    let n : ℕ = suc (suc m) in
    let p = (at + n) % 64 in
    let e : at + 1 + suc m ≡ at + n = omega arith in
    let P : ℕ → Type 0 = λ q. After header k codes q (cost_at a.after (q % 64)) in
    let Q : ℕ → Type 0 = λ c. After header k codes (at + n) c in
    subst Q (sym (same p (omega arith) (λ e. apart at n (omega arith) most (sym e)))) (subst P e (afters (suc m) (omega arith) (omega arith)))

pub afters_begun : (header k : ℕ) (codes : List Code) (at cost : ℕ) (a b : Slots) → at < length codes → Begun b ((at + 1) % 64) cost
    → OthersStay a b ((at + 1) % 64) → IsLeast header (width_of k) (drop (at + 1) codes) cost
    → Afters header k codes (at + 1) a → Afters header k codes at b
afters_begun header k codes at cost a b place here same is afters =
    afters_put header k codes at cost a b place here.after same is afters

-- ---- before any code

take_none : (l : ℕ) (xs : List Code) → length xs ≡ 0 → take l xs ≡ []
take_none zero xs e = refl
take_none (suc l) [] e = refl
take_none (suc l) (x ∷ xs) e = absurd (omega arith)

pub least_none : (header k : ℕ) (codes : List Code) → length codes ≡ 0 → IsLeast header (width_of k) codes 0
least_none header k codes none = record {
  lengths = [];
  grouping = (none_chosen header (width_of k) codes none).grouping;
  reached = refl;
  least = λ other g. omega arith;
}

-- at each place what slots have behind all codes
pub record Blank (slots : Slots) : Type 0 where
  pub least : slots.least ≡ replicate 64 4294967295
  pub greatest : slots.greatest ≡ replicate 64 0
  pub limit : slots.limit ≡ replicate 64 0
  pub width : slots.width ≡ replicate 64 0
  pub base : slots.after.base ≡ 0
  pub after : slots.after.above ≡ replicate 64 60000
  pub primary : slots.primary ≡ replicate 64 0
  pub secondary : slots.secondary ≡ replicate 64 0

all_at : (xs : List ℕ) (x p : ℕ) → xs ≡ replicate 64 x → p < 64 → slice_index xs p ≡ x
all_at xs x p is within = ap (λ ys. slice_index ys p) is ∙ get_or-replicate 64 p x 0 within

pub runs_none : (k : ℕ) (codes : List Code) (at : ℕ) (slots : Slots) → length codes ≤ at → Blank slots → Runs k codes at slots
runs_none k codes at slots end b l some most =
    let p = (at + l) % 64 in
    let within : p < 64 = omega arith in
    let none : take l (drop at codes) ≡ [] = take_none l (drop at codes) (omega (arith, length-drop at codes)) in
    let P : List Code → Type 0 = λ run. Run k slots p run in
    subst P (sym none)
    (empty_run k slots p (all_at slots.least 4294967295 p b.least within) (all_at slots.greatest 0 p b.greatest within) (all_at slots.primary 0 p b.primary within)
    (all_at slots.secondary 0 p b.secondary within) (all_at slots.width 0 p b.width within) (omega (arith, all_at slots.limit 0 p b.limit within)))

pub afters_none : (header k : ℕ) (codes : List Code) (at : ℕ) (slots : Slots) → length codes ≤ at → Blank slots → Afters header k codes at slots
afters_none header k codes at slots end b l some most = record {
  some = λ within. absurd (omega arith);
  none = λ outside. omega (arith, b.base, all_at slots.after.above 60000 ((at + l) % 64) b.after (omega arith));
}

pub low_none : (slots : Slots) → Blank slots → IsLow slots.after
low_none slots b place within = omega (arith, all_at slots.after.above 60000 place b.after within)
