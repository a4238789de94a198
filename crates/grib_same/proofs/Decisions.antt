-- How the tests of the code decide points.
use Rattle.std.proofs.Common.{◌≡◌, ◌↔◌, Bool, true, false, nat_eq, FitsSigned, to_z, of_z, to_z-of_z, ℤ, pos, ◌+ℤ◌, ◌*ℤ◌, refl, sym, ap, ◌∙◌, arith}
use Rattle.std.proofs.lemmas.Bool.Decides.{Decides-eqb}
use Rattle.std.proofs.lemmas.Int.{ints}
use Rattle.std.specs.Int.{w128}
use Rattle.grib_dyadic.specs.Value.{Exact, Same}
use Rattle.grib_packing.specs.declared.column.Point.{Point}
use Rattle.grib_packing.specs.declared.column.Point.TheVariants.{Scaled, Missing, Missing2}
use Rattle.grib_same.specs.declared.scale.ValueScale.{ValueScale}
use Rattle.grib_same.specs.declared.side.Side.{Side}
use Rattle.grib_same.specs.declared.side.Level.{Level}
use Rattle.grib_same.specs.Levels.{IsSideOf, IsBelow, whole_at}
use Rattle.grib_same.specs.Sameness.{is_same, is_same_point}
use Rattle.grib_same.specs.Scales.{meant_by, value_by}
use Rattle.grib_same.proofs.Differences.{same_decides}
use Rattle.grib_same.proofs.Levels.{side_value, side_same, sides_decide, sides_in_units, sides_alike}

-- two tests of one fact
pub same_tests : (P : Type 0) (s t : Bool) → (s ≡ true) ↔ P → (t ≡ true) ↔ P → s ≡ t
same_tests P true true p q = refl
same_tests P true false p q = sym (q.1 (p.0 refl))
same_tests P false true p q = p.1 (q.0 refl)
same_tests P false false p q = refl

bits_decide : (a b : ℤ) → FitsSigned w128 a → FitsSigned w128 b → (nat_eq (of_z w128 a) (of_z w128 b) ≡ true) ↔ (a ≡ b)
bits_decide a b a_fits b_fits =
    let d = Decides-eqb (of_z w128 a) (of_z w128 b) in
    (λ e. sym (to_z-of_z a_fits) ∙ ap (to_z w128) (d.0 e) ∙ to_z-of_z b_fits, λ e. d.1 (ap (of_z w128) e))

-- the test of two numbers of lines
pub line_test : (a b : ℤ) (v w : Exact) → FitsSigned w128 a → FitsSigned w128 b → (a ≡ b) ↔ Same v w → nat_eq (of_z w128 a) (of_z w128 b) ≡ is_same v w
line_test a b v w a_fits b_fits both =
    let bits = bits_decide a b a_fits b_fits in
    let same = same_decides v w in
    same_tests (Same v w) (nat_eq (of_z w128 a) (of_z w128 b)) (is_same v w) (λ e. both.0 (bits.0 e), λ s. bits.1 (both.1 s)) same

-- a number and what is none
pub value_alone : (l r : ValueScale) (x : ℤ) (p : Point) → ((y : ℤ) → p ≡ Scaled y → ⊥) → false ≡ is_same_point (meant_by l (Scaled x)) (meant_by r p)
value_alone l r x (Scaled y) none = absurd (none y refl)
value_alone l r x Missing none = refl
value_alone l r x Missing2 none = refl

-- in common units
pub units_decide : (left right : ValueScale) (ls rs : Side) (level : Level) (o s o' s' : ℤ) → IsSideOf ls left → IsSideOf rs right → IsBelow level ls → IsBelow level rs → ((x : ℤ) → (o +ℤ (x *ℤ s)) ≡ whole_at ls level x) → ((x : ℤ) → (o' +ℤ (x *ℤ s')) ≡ whole_at rs level x) → (x y : ℤ) → ((o +ℤ (x *ℤ s)) ≡ (o' +ℤ (y *ℤ s'))) ↔ Same (value_by left x) (value_by right y)
units_decide left right ls rs level o s o' s' is is' below below' l r x y =
    let both = sides_in_units ls rs level x y below below' in
    sides_decide ((o +ℤ (x *ℤ s)) ≡ (o' +ℤ (y *ℤ s'))) (value_by left x) (value_by right y) (side_value ls x) (side_value rs y)
    (side_same left.reference _ _ x ls is.reference is.e_is is.d_is) (side_same right.reference _ _ y rs is'.reference is'.e_is is'.d_is)
    (λ e. both.0 (sym (l x) ∙ e ∙ r y), λ q. l x ∙ both.1 q ∙ sym (r y))

plain_is : (o s x : ℤ) → o ≡ pos 0 → s ≡ pos 1 → (o +ℤ (x *ℤ s)) ≡ x
plain_is o s x origin stride = rw (origin, stride) (omega (arith, ints))

-- by the scaled numbers themselves
pub alike_decides : (left right : ValueScale) (ls rs : Side) (o s o' s' : ℤ) → IsSideOf ls left → IsSideOf rs right → ls.mantissa ≡ rs.mantissa → ls.exponent ≡ rs.exponent → ls.e ≡ rs.e → ls.d ≡ rs.d → o ≡ pos 0 → s ≡ pos 1 → o' ≡ pos 0 → s' ≡ pos 1 → (x y : ℤ) → ((o +ℤ (x *ℤ s)) ≡ (o' +ℤ (y *ℤ s'))) ↔ Same (value_by left x) (value_by right y)
alike_decides left right ls rs o s o' s' is is' m k e d o_is s_is o'_is s'_is x y =
    let both = sides_alike ls rs x y m k e d in
    let l = plain_is o s x o_is s_is in
    let r = plain_is o' s' y o'_is s'_is in
    sides_decide ((o +ℤ (x *ℤ s)) ≡ (o' +ℤ (y *ℤ s'))) (value_by left x) (value_by right y) (side_value ls x) (side_value rs y)
    (side_same left.reference _ _ x ls is.reference is.e_is is.d_is) (side_same right.reference _ _ y rs is'.reference is'.e_is is'.d_is)
    (λ q. both.0 (sym l ∙ q ∙ r), λ q. l ∙ both.1 q ∙ sym r)

-- by numbers of any length
pub wholes_decide : (left right : ValueScale) (ls rs : Side) (level : Level) (x y a b : ℤ) (t : Bool) → IsSideOf ls left → IsSideOf rs right → IsBelow level ls → IsBelow level rs → a ≡ whole_at ls level x → b ≡ whole_at rs level y → (t ≡ true) ↔ (a ≡ b) → t ≡ is_same (value_by left x) (value_by right y)
wholes_decide left right ls rs level x y a b t is is' below below' l r given =
    let both = sides_decide (whole_at ls level x ≡ whole_at rs level y) (value_by left x) (value_by right y) (side_value ls x) (side_value rs y)
    (side_same left.reference _ _ x ls is.reference is.e_is is.d_is) (side_same right.reference _ _ y rs is'.reference is'.e_is is'.d_is)
    (sides_in_units ls rs level x y below below') in
    same_tests (Same (value_by left x) (value_by right y)) t (is_same (value_by left x) (value_by right y))
    (λ e. both.0 (sym l ∙ given.0 e ∙ r), λ s. given.1 (l ∙ both.1 s ∙ sym r)) (same_decides (value_by left x) (value_by right y))
