use Rattle.std.proofs.Common.{◌≡◌, ◌^◌, ℕ, List, [], ◌∷◌, ◌++◌, Bool, length, refl, sym, ap, ◌∙◌, arith}
use Rattle.std.proofs.lemmas.List.{append-nil}
use Rattle.std.proofs.lemmas.Nat.{pow_pos}
use Rattle.grib_packing.specs.Packed.{fields, simple_numbers}
use Rattle.grib_simple.proofs.Fitting.{greatest_below}
use Rattle.grib_simple.proofs.writing.put_numbers.Goals as goal

no_bits : (numbers : List ℕ) → fields 0 numbers ≡ []
no_bits [] = refl
no_bits (n ∷ numbers) = no_bits numbers

no_fields : (w : ℕ) (numbers : List ℕ) → w ≡ 0 → fields w numbers ≡ []
no_fields w numbers none = ap (λ (k : ℕ). fields k numbers) none ∙ no_bits numbers

pub put_same-requires-clause-fits : goal.put_same-requires-clause-fits
put_same-requires-clause-fits c =
    let most = greatest_below (2 ^ c.args.bits) (simple_numbers c.args.points.now) (pow_pos c.args.bits) c.requires.fits in
    omega (arith, most, c.requires.survey.greatest_is)

pub returns-then-bits-eq0-clause-bits : goal.returns-then-bits-eq0-clause-bits
returns-then-bits-eq0-clause-bits c =
    let none = no_fields c.args.bits (simple_numbers c.args.points.now) (omega arith) in
    sym (append-nil c.args.out.now.bits) ∙ ap (λ (xs : List Bool). c.args.out.now.bits ++ xs) (sym none)

pub returns-then-bits-eq0-clause-spare : goal.returns-then-bits-eq0-clause-spare
returns-then-bits-eq0-clause-spare c =
    let none = no_fields c.args.bits (simple_numbers c.args.points.now) (omega arith) in
    omega (arith, ap length none)
