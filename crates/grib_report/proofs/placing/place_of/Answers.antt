use Rattle.std.proofs.Common.{◌≡◌, ◌+◌, ◌-◌, Bool, List, cond, ◌++◌, drop, replicate, true, false, ap, ◌∙◌, arith}
use Rattle.grib_bitmap.specs.Mask.{present_count}
use Rattle.grib_bitmap.proofs.Runs.{present_count-run}
use Rattle.grib_report.specs.Placed.{place_in}
use Rattle.grib_report.proofs.Walk.{behind_absent, among_present, behind_present}
use Rattle.grib_report.proofs.placing.place_of.Goals as goal
use Rattle.grib_report.proofs.placing.place_of.Goals.{then-run+else-left-run, else-run}

pub returns-then-left-run : goal.returns-then-left-run
returns-then-left-run c =
    let mask = c.args.mask.now in
    let l = c.loop-place in
    let n = c.run-run.result.length in
    let rest = drop (l.place + n) mask in
    let run : drop l.place mask ≡ replicate n true ++ rest = c.run-run.ensures.same ∙ ap (λ (b : Bool). replicate n b ++ rest) c.if-run.true in
    let here : place_in (drop l.place mask) l.left ≡ l.left = ap (λ (xs : List Bool). place_in xs l.left) run ∙ among_present n rest l.left l.invariant.1 (omega arith) in
    omega (arith, here, l.invariant.3)

pub loop-place-preserved : goal.loop-place-preserved
loop-place-preserved c =
    let mask = c.args.mask.now in
    let l = c.loop-place in
    let n = c.run-run.result.length in
    let rest = drop (l.place + n) mask in
    let after = ap present_count c.run-run.ensures.same ∙ present_count-run n c.run-run.result.present rest in
    elim c.if-run.branch [
      | then-run+else-left-run w ↦
          let run : drop l.place mask ≡ replicate n true ++ rest = c.run-run.ensures.same ∙ ap (λ (b : Bool). replicate n b ++ rest) w.if-run.true in
          let count : present_count (drop l.place mask) ≡ n + present_count rest = after ∙ ap (λ (b : Bool). cond b n 0 + present_count rest) w.if-run.true in
          let behind : place_in (drop l.place mask) l.left ≡ n + place_in rest (l.left - n) =
          ap (λ (xs : List Bool). place_in xs l.left) run ∙ behind_present n rest l.left (omega (arith, w.if-left-run.false)) in
          rw w.left-is (c.run-run.ensures.within, omega (arith, w.if-left-run.false), omega (arith, count, l.invariant.2), omega (arith, behind, l.invariant.3))
      | else-run w ↦
          let run : drop l.place mask ≡ replicate n false ++ rest = c.run-run.ensures.same ∙ ap (λ (b : Bool). replicate n b ++ rest) w.if-run.false in
          let count : present_count (drop l.place mask) ≡ present_count rest = after ∙ ap (λ (b : Bool). cond b n 0 + present_count rest) w.if-run.false ∙ omega arith in
          let behind : place_in (drop l.place mask) l.left ≡ n + place_in rest l.left =
          ap (λ (xs : List Bool). place_in xs l.left) run ∙ behind_absent n rest l.left in
          rw w.left-is (c.run-run.ensures.within, l.invariant.1, omega (arith, count, l.invariant.2), omega (arith, behind, l.invariant.3))
    ]
