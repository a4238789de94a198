use Rattle.std.proofs.Common.{◌≡◌, ℕ, ◌+◌, ◌%◌, ◌<◌, ◌^◌, true, All, length, replicate, refl, sym, ap, ◌∙◌, subst, arith}
use Rattle.std.proofs.lemmas.List.{length-replicate}
use Rattle.grib_base.specs.declared.code.Code.{Code}
use Rattle.grib_base.specs.declared.code.Code.TheVariants.{Present}
use Rattle.grib_packing.specs.Differences.{is_beyond}
use Rattle.grib_packing.specs.Entries.{is_out_of_range}
use Rattle.grib_complex_reading.specs.Running.{Run, next_of}
use Rattle.grib_complex_reading.specs.Same.{StaysWithin, after_same}
use Rattle.grib_complex_reading.specs.Told.{Telling, point_of, told, after, undoing}
use Rattle.grib_complex_reading.specs.Tells.{IsWithin, telling_of}
use Rattle.grib_complex_reading.proofs.AtOnce.{tells_run}
use Rattle.grib_complex_reading.proofs.Repeated.{after_primary, after_secondary, primary_within, same_after, same_undone, same_within, secondary_within, tells_out}
use Rattle.grib_complex_reading.proofs.telling.Teller.tell_same.Goals as goal
use Rattle.grib_complex_reading.proofs.telling.Teller.tell_same.Goals.{else-within-count-via-then-within-count+else-self-eq0, else-within-count-via-else-within-count}

further : (place count n : ℕ) (code : Code) → n ≡ count → (place + n) % 2 ^ 64 ≡ (place + length (replicate count code)) % 2 ^ 64
further place count n code is = ap (λ (k : ℕ). (place + k) % 2 ^ 64) (is ∙ sym (length-replicate {A = Code} count code))

pub returns-in-Primary-clause-tells : goal.returns-in-Primary-clause-tells
returns-in-Primary-clause-tells c = λ start seen room tells.
    let t = after start seen in
    let n = c.args.count in
    let is = sym c.in-Primary.is in
    tells_run start seen (replicate n c.args.code) c.args.self.now _ (omega (arith, room, length-replicate {A = Code} n c.args.code)) tells (further c.args.self.now.place n c.from.result c.args.code c.from.ensures) refl
    (λ none. subst (λ (code : Code). All IsWithin (told t (replicate n code))) is (primary_within t n))
    (λ none. tells.telling none ∙ after_primary t n ∙ ap (λ (code : Code). after t (replicate n code)) is)

pub returns-in-Secondary-clause-tells : goal.returns-in-Secondary-clause-tells
returns-in-Secondary-clause-tells c = λ start seen room tells.
    let t = after start seen in
    let n = c.args.count in
    let is = sym c.in-Secondary.is in
    tells_run start seen (replicate n c.args.code) c.args.self.now _ (omega (arith, room, length-replicate {A = Code} n c.args.code)) tells (further c.args.self.now.place n c.from.result c.args.code c.from.ensures) refl
    (λ none. subst (λ (code : Code). All IsWithin (told t (replicate n code))) is (secondary_within t n))
    (λ none. tells.telling none ∙ after_secondary t n ∙ ap (λ (code : Code). after t (replicate n code)) is)

-- the codes of a run
run_within : (t : Telling) (code : Code) (run : Run) (number n : ℕ) → code ≡ Present number → telling_of run ≡ t → StaysWithin run number n → All IsWithin (told t (replicate n code))
run_within t code run number n is_code is_run stays =
    subst (λ (c : Code). All IsWithin (told t (replicate n c))) (sym is_code)
    (subst (λ (u : Telling). All IsWithin (told u (replicate n (Present number)))) is_run (same_within run number n stays))

run_after : (t : Telling) (code : Code) (run : Run) (number n : ℕ) → code ≡ Present number → telling_of run ≡ t → telling_of (after_same run number n) ≡ after t (replicate n code)
run_after t code run number n is_code is_run =
    sym (same_after run number n) ∙ ap (λ (u : Telling). after u (replicate n (Present number))) is_run
    ∙ ap (λ (c : Code). after t (replicate n c)) (sym is_code)

pub returns-then-self-eq0-clause-undoes : goal.returns-then-self-eq0-clause-undoes
returns-then-self-eq0-clause-undoes c =
    ap (λ (r : Run). undoing (telling_of r)) c.push_same-within.ensures.after ∙ same_undone c.args.self.now.running c.in-Present.number c.push_same-within.result

pub returns-else-within-count-clause-undoes : goal.returns-else-within-count-clause-undoes
returns-else-within-count-clause-undoes c =
    ap (λ (r : Run). undoing (telling_of r)) c.push_same-within.ensures.after ∙ same_undone c.args.self.now.running c.in-Present.number c.push_same-within.result

pub returns-then-self-eq0-clause-tells : goal.returns-then-self-eq0-clause-tells
returns-then-self-eq0-clause-tells c = λ start seen room tells.
    let t = after start seen in
    let n = c.args.count in
    let before = c.args.self.now in
    let run = before.running in
    let number = c.in-Present.number in
    let within = c.push_same-within.result in
    let none = c.if-self-eq0.true in
    let is_run : telling_of run ≡ t = tells.telling none in
    let now = after_same run number within in
    let out_now : is_beyond (next_of now number) ≡ true =
    ap (λ (r : Run). is_beyond (next_of r number)) (sym c.push_same-within.ensures.after) ∙ c.push_same-within.ensures.beyond c.if-within-count.true in
    let out : is_out_of_range (point_of (after t (replicate within c.args.code)) c.args.code) ≡ true =
    ap (λ (u : Telling). is_out_of_range (point_of u c.args.code)) (sym (run_after t c.args.code run number within c.in-Present.is is_run))
    ∙ ap (λ (code : Code). is_out_of_range (point_of (telling_of now) code)) c.in-Present.is ∙ out_now in
    tells_out start seen before _ c.args.code within n room tells c.if-within-count.true
    (ap (λ (k : ℕ). (before.place + k) % 2 ^ 64) c.from.ensures) none
    (ap (λ (k : ℕ). (before.place + (k + 1)) % 2 ^ 64) c.from-then-self-eq0.ensures)
    (run_within t c.args.code run number within c.in-Present.is is_run c.push_same-within.ensures.within) out

pub returns-else-within-count-clause-tells : goal.returns-else-within-count-clause-tells
returns-else-within-count-clause-tells c = λ start seen room tells.
    let t = after start seen in
    let n = c.args.count in
    let before = c.args.self.now in
    let run = before.running in
    let number = c.in-Present.number in
    let small : length seen + length (replicate n c.args.code) < 2 ^ 63 = omega (arith, room, length-replicate {A = Code} n c.args.code) in
    let place = further before.place n c.from.result c.args.code c.from.ensures in
    elim c.else-within-count.branch [
      | else-within-count-via-then-within-count+else-self-eq0 w ↦
          tells_run start seen (replicate n c.args.code) before _ small tells place refl (λ none. absurd (w.if-self-eq0.false none)) (λ none. absurd (w.if-self-eq0.false none))
      | else-within-count-via-else-within-count w ↦
          let all : c.push_same-within.result ≡ n = omega (arith, w.if-within-count.false, c.push_same-within.ensures.most) in
          let stays = subst (λ (k : ℕ). StaysWithin run number k) all c.push_same-within.ensures.within in
          tells_run start seen (replicate n c.args.code) before _ small tells place refl
          (λ none. run_within t c.args.code run number n c.in-Present.is (tells.telling none) stays)
          (λ none. ap telling_of (c.push_same-within.ensures.after ∙ ap (after_same run number) all) ∙ run_after t c.args.code run number n c.in-Present.is (tells.telling none))
    ]
