use Rattle.std.proofs.Common.{◌≡◌, ◌==◌, ℕ, ◌-◌, ◌*◌, ◌++◌, ◌∷◌, [], Bool, true, false, cond, List, ℤ, pos, int_lt, nat_abs, refl, ap, sym, ◌∙◌, arith, append_assoc, append-nil, w64, SFits, to_z-of_z, rules, eq-eqb, ne_eqb}
use Rattle.grib_bits.specs.Bits.{bits_of, digit}
use Rattle.grib_packing.specs.Differences.{Descriptors}
use Rattle.grib_packing.specs.Packed.{descriptor_fields, descriptor_size, signed_field}
use Rattle.grib_spatial.specs.Undoing.{read_with}
use Rattle.grib_complex.proofs.differencing.write_descriptors.Goals as goal
use Rattle.grib_complex.proofs.differencing.write_descriptors.Goals.{then-order-eq2, else-order-eq2}

one_bit : (b : Bool) → bits_of 1 (digit b) ≡ b ∷ []
one_bit true = refl
one_bit false = refl

module _ (d : Descriptors) (w : ℕ) (is_w : w ≡ 8 * descriptor_size d) (out one two three four : List Bool) where
  ended : (middle : List Bool) → middle ≡ cond (d.order == 1) [] (bits_of w (nat_abs d.second)) → one ≡ out ++ bits_of w (nat_abs d.first) → two ≡ one ++ middle
      → three ≡ two ++ (int_lt d.minimum (pos 0) ∷ []) → four ≡ three ++ bits_of (w - 1) (nat_abs d.minimum) → four ≡ out ++ descriptor_fields d
  ended middle is_middle is_one is_two is_three is_four =
      let sign : List Bool = int_lt d.minimum (pos 0) ∷ [] in
      let last : List Bool = bits_of (w - 1) (nat_abs d.minimum) in
      let first : List Bool = bits_of w (nat_abs d.first) in
      is_four ∙ ap (λ xs. xs ++ last) (is_three ∙ ap (λ xs. xs ++ sign) (is_two ∙ ap (λ xs. xs ++ middle) is_one))
      ∙ regroup out first middle sign last
      ∙ ap (λ xs. out ++ ((first ++ xs) ++ (sign ++ last))) is_middle
      ∙ ap (λ (v : ℕ). out ++ ((bits_of v (nat_abs d.first) ++ cond (d.order == 1) [] (bits_of v (nat_abs d.second))) ++ signed_field v d.minimum)) is_w
    where
      regroup : (a b c e f : List Bool) → (((a ++ b) ++ c) ++ e) ++ f ≡ a ++ ((b ++ c) ++ (e ++ f))
      regroup a b c e f = simp append_assoc

pub returns-clause-bits : goal.returns-clause-bits
returns-clause-bits c =
    let d = read_with c.args.order c.args.differences.now in
    let w = 8 * c.from-bits.result in
    let is_w : w ≡ 8 * descriptor_size d = omega (arith, c.from-bits.ensures, c.requires.octets) in
    let fits_first : SFits w64 c.args.differences.now.first = search rules in
    let fits_second : SFits w64 c.args.differences.now.second = search rules in
    let fits_minimum : SFits w64 c.args.differences.now.minimum = search rules in
    let first = c.put.ensures.bits ∙ ap (λ (n : ℕ). c.args.out.now.bits ++ bits_of w n) (c.unsigned_abs.ensures.value ∙ ap nat_abs (to_z-of_z fits_first)) in
    let sign = c.put-2.ensures.bits
    ∙ ap (λ (n : ℕ). c.if-order-eq2.out.bits ++ bits_of 1 n) (c.sign_bit.ensures.bit ∙ ap (λ (z : ℤ). digit (int_lt z (pos 0))) (to_z-of_z fits_minimum))
    ∙ ap (λ xs. c.if-order-eq2.out.bits ++ xs) (one_bit (int_lt c.args.differences.now.minimum (pos 0))) in
    let last = c.put-3.ensures.bits ∙ ap (λ (n : ℕ). c.put-2.new.self.bits ++ bits_of (w - 1) n) (c.unsigned_abs-2.ensures.value ∙ ap nat_abs (to_z-of_z fits_minimum)) in
    elim c.if-order-eq2.branch [
      | then-order-eq2 b ↦
          let second = b.put-then-order-eq2.ensures.bits
          ∙ ap (λ (n : ℕ). c.put.new.self.bits ++ bits_of w n) (b.unsigned_abs-then-order-eq2.ensures.value ∙ ap nat_abs (to_z-of_z fits_second)) in
          let middle : bits_of w (nat_abs c.args.differences.now.second) ≡ cond (c.args.order == 1) [] (bits_of w (nat_abs c.args.differences.now.second)) =
          rw (ne_eqb c.args.order 1 (λ e. omega (arith, b.if-order-eq2.true))) refl in
          ended d w is_w c.args.out.now.bits c.put.new.self.bits c.if-order-eq2.out.bits c.put-2.new.self.bits c.put-3.new.self.bits _ middle first (ap (λ out. out.bits) b.out-is ∙ second) sign last
      | else-order-eq2 b ↦
          let one : c.args.order ≡ 1 = omega (arith, c.requires.order, b.if-order-eq2.false) in
          let middle : [] ≡ cond (c.args.order == 1) [] (bits_of w (nat_abs c.args.differences.now.second)) = rw (eq-eqb c.args.order 1 one) refl in
          ended d w is_w c.args.out.now.bits c.put.new.self.bits c.if-order-eq2.out.bits c.put-2.new.self.bits c.put-3.new.self.bits [] middle first
          (ap (λ out. out.bits) b.out-is ∙ sym (append-nil c.put.new.self.bits)) sign last
    ]
