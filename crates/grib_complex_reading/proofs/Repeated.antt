-- Lemmas on the points of codes that are the same.
use Rattle.std.proofs.Common.{◌≡◌, ℕ, zero, suc, ◌+◌, ◌-◌, ◌%◌, ◌<◌, ◌^◌, true, List, [], ◌∷◌, ◌++◌, All, length, replicate, refl, sym, ap, ◌∙◌, arith, append_assoc}
use Rattle.std.proofs.lemmas.List.{length-append, length-replicate}
use Rattle.std.proofs.lemmas.List.Elements.{All-nil, All-cons}
use Rattle.grib_base.specs.declared.code.Code.{Code}
use Rattle.grib_base.specs.declared.code.Code.TheVariants.{Present, Primary, Secondary}
use Rattle.grib_base.specs.Rules.{first_place}
use Rattle.grib_packing.specs.declared.column.Point.{Point}
use Rattle.grib_packing.specs.Entries.{is_out_of_range}
use Rattle.grib_group_reading.proofs.Places.{place_there}
use Rattle.grib_complex_reading.specs.Running.{Run, after_code}
use Rattle.grib_complex_reading.specs.Same.{StaysWithin, after_same}
use Rattle.grib_complex_reading.specs.declared.telling.Teller.{Teller}
use Rattle.grib_complex_reading.specs.Told.{Telling, point_of, telling_after, told, after, undoing}
use Rattle.grib_complex_reading.specs.Tells.{IsWithin, Tells, telling_of}
use Rattle.grib_complex_reading.specs.Laws.{told-append}
use Rattle.grib_complex_reading.proofs.AtOnce.{before_more, nowhere_more}
use Rattle.grib_complex_reading.proofs.Told.{length-told, undoing-after}

-- ---- marks

pub primary_within : (t : Telling) (n : ℕ) → All IsWithin (told t (replicate n Primary))
primary_within t zero = All-nil IsWithin
primary_within t (suc n) = All-cons IsWithin _ _ refl (primary_within t n)

pub secondary_within : (t : Telling) (n : ℕ) → All IsWithin (told t (replicate n Secondary))
secondary_within t zero = All-nil IsWithin
secondary_within t (suc n) = All-cons IsWithin _ _ refl (secondary_within t n)

pub after_primary : (t : Telling) (n : ℕ) → t ≡ after t (replicate n Primary)
after_primary t zero = refl
after_primary t (suc n) = after_primary t n

pub after_secondary : (t : Telling) (n : ℕ) → t ≡ after t (replicate n Secondary)
after_secondary t zero = refl
after_secondary t (suc n) = after_secondary t n

-- ---- numbers

pub same_within : (run : Run) (code n : ℕ) → StaysWithin run code n → All IsWithin (told (telling_of run) (replicate n (Present code)))
same_within run code zero stays = All-nil IsWithin
same_within run code (suc n) stays = All-cons IsWithin _ _ stays.0 (same_within (after_code run code) code n stays.1)

pub same_after : (run : Run) (code n : ℕ) → after (telling_of run) (replicate n (Present code)) ≡ telling_of (after_same run code n)
same_after run code zero = refl
same_after run code (suc n) = same_after (after_code run code) code n

pub same_undone : (run : Run) (code n : ℕ) → undoing (telling_of (after_same run code n)) ≡ undoing (telling_of run)
same_undone run code n = sym (ap undoing (same_after run code n)) ∙ undoing-after (telling_of run) (replicate n (Present code))

-- this many, one and the others
parts : (code : Code) (m n : ℕ) → m < n → replicate n code ≡ replicate m code ++ code ∷ replicate (n - suc m) code
parts code m zero within = absurd (omega arith)
parts code zero (suc n) within = let rest : n ≡ suc n - 1 = omega arith in ap (λ (k : ℕ). code ∷ replicate k code) rest
parts code (suc m) (suc n) within =
    let rest : n - suc m ≡ suc n - suc (suc m) = omega arith in
    ap (λ (cs : List Code). code ∷ cs) (parts code m n (omega arith) ∙ ap (λ (k : ℕ). replicate m code ++ code ∷ replicate k code) rest)

-- the first of them that is out of range
pub tells_out : (start : Telling) (seen : List Code) (before last : Teller) (code : Code) (within count : ℕ) → length seen + count < 2 ^ 63 → Tells start seen before → within < count
    → last.place ≡ (before.place + count) % 2 ^ 64 → before.beyond ≡ 0 → last.beyond ≡ (before.place + (within + 1)) % 2 ^ 64
    → All IsWithin (told (after start seen) (replicate within code)) → is_out_of_range (point_of (after (after start seen) (replicate within code)) code) ≡ true
    → Tells start (seen ++ replicate count code) last
tells_out start seen before last code within count room tells some is_place none noted first out =
    let t = after start seen in
    let points = told start seen in
    let near = replicate within code in
    let far = replicate (count - suc within) code in
    let u = after t near in
    let point = point_of u code in
    let front = points ++ told t near in
    let rest = told (telling_after u code) far in
    let split : told start (seen ++ replicate count code) ≡ (front ++ point ∷ []) ++ rest =
    told-append start seen (replicate count code) ∙ ap (λ (cs : List Code). points ++ told t cs) (parts code within count some)
    ∙ ap (λ (ps : List Point). points ++ ps) (told-append t near (code ∷ far))
    ∙ sym (append_assoc points (told t near) (point ∷ rest)) ∙ sym (append_assoc front (point ∷ []) rest) in
    let nowhere = nowhere_more points (told t near) (sym tells.beyond ∙ none) first in
    let there : first_place is_out_of_range (front ++ point ∷ []) ≡ length front + 1 = place_there is_out_of_range front point nowhere out in
    let long : length front ≡ length seen + within = omega (arith, length-append points (told t near), length-told start seen, length-told t near, length-replicate {A = Code} within code) in
    let all = before_more (front ++ point ∷ []) rest (omega (arith, there)) in
    let here : first_place is_out_of_range (told start (seen ++ replicate count code)) ≡ length seen + within + 1 = ap (first_place is_out_of_range) split ∙ all ∙ omega (arith, there, long) in
    let is_beyond : last.beyond ≡ length seen + within + 1 = omega (arith, noted, tells.place, room) in
    record {
      place = omega (arith, is_place, tells.place, length-append seen (replicate count code), length-replicate {A = Code} count code);
      beyond = is_beyond ∙ sym here;
      telling = λ nowhere_now. absurd (omega (arith, is_beyond));
    }
