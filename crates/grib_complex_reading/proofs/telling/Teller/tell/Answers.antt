use Rattle.std.proofs.Common.{◌≡◌, ℕ, Bool, true, false, refl, sym, ap, ◌∙◌}
use Rattle.grib_base.specs.declared.code.Code.{Code}
use Rattle.grib_base.specs.declared.code.Code.TheVariants.{Present, Primary, Secondary}
use Rattle.grib_packing.specs.Entries.{is_out_of_range}
use Rattle.grib_complex_reading.specs.Running.{Run}
use Rattle.grib_complex_reading.specs.Told.{Telling, After, point_of, telling_after, after}
use Rattle.grib_complex_reading.proofs.Told.{tells_within, tells_beyond}
use Rattle.grib_complex_reading.proofs.telling.Teller.tell.Goals as goal

-- a mark tells no number
primary_within : (t : Telling) → is_out_of_range (point_of t Primary) ≡ false
primary_within t = refl

secondary_within : (t : Telling) → is_out_of_range (point_of t Secondary) ≡ false
secondary_within t = refl

pub returns-in-Primary-clause-tells : goal.returns-in-Primary-clause-tells
returns-in-Primary-clause-tells c = λ start seen room tells.
    let t = after start seen in
    tells_within start seen c.args.self.now _ c.args.code room tells refl refl
    (λ _. ap (λ (code : Code). is_out_of_range (point_of t code)) c.in-Primary.is)
    (λ none. tells.telling none ∙ ap (telling_after t) (sym c.in-Primary.is))

pub returns-in-Secondary-clause-tells : goal.returns-in-Secondary-clause-tells
returns-in-Secondary-clause-tells c = λ start seen room tells.
    let t = after start seen in
    tells_within start seen c.args.self.now _ c.args.code room tells refl refl
    (λ _. ap (λ (code : Code). is_out_of_range (point_of t code)) c.in-Secondary.is)
    (λ none. tells.telling none ∙ ap (telling_after t) (sym c.in-Secondary.is))

-- a number of a run
run_point : (t : Telling) (code : Code) (run : Run) (n : ℕ) (b : Bool) → code ≡ Present n → After run.told run.last ≡ t → is_out_of_range (point_of (After run.told run.last) (Present n)) ≡ b
    → is_out_of_range (point_of t code) ≡ b
run_point t code run n b is_code is_run is_out =
    ap (λ (u : Telling). is_out_of_range (point_of u code)) (sym is_run)
    ∙ ap (λ (c : Code). is_out_of_range (point_of (After run.told run.last) c)) is_code ∙ is_out

run_after : (t : Telling) (code : Code) (run : Run) (n : ℕ) → code ≡ Present n → After run.told run.last ≡ t → telling_after (After run.told run.last) (Present n) ≡ telling_after t code
run_after t code run n is_code is_run =
    ap (λ (u : Telling). telling_after u (Present n)) is_run ∙ ap (telling_after t) (sym is_code)

pub returns-in-Ok-clause-tells : goal.returns-in-Ok-clause-tells
returns-in-Ok-clause-tells c = λ start seen room tells.
    let t = after start seen in
    let run = c.args.self.now.running in
    let is_run = λ (none : c.args.self.now.beyond ≡ 0). tells.telling none in
    tells_within start seen c.args.self.now _ c.args.code room tells refl refl
    (λ none. run_point t c.args.code run c.in-Present.number false c.in-Present.is (is_run none) c.in-Ok.ensures.within)
    (λ none. ap (λ (r : Run). After r.told r.last) c.in-Ok.ensures.after ∙ run_after t c.args.code run c.in-Present.number c.in-Present.is (is_run none))

pub returns-then-self-eq0-clause-tells : goal.returns-then-self-eq0-clause-tells
returns-then-self-eq0-clause-tells c = λ start seen room tells.
    let t = after start seen in
    let run = c.args.self.now.running in
    let none = c.if-self-eq0.true in
    let is_run = tells.telling none in
    tells_beyond start seen c.args.self.now _ c.args.code room tells refl none refl
    (run_point t c.args.code run c.in-Present.number true c.in-Present.is is_run c.in-Err.ensures.beyond)

pub returns-else-self-eq0-clause-tells : goal.returns-else-self-eq0-clause-tells
returns-else-self-eq0-clause-tells c = λ start seen room tells.
    tells_within start seen c.args.self.now _ c.args.code room tells refl refl (λ none. absurd (c.if-self-eq0.false none)) (λ none. absurd (c.if-self-eq0.false none))
