use Rattle.std.proofs.Common.{◌≡◌, ◌+◌, ◌*◌, ◌<◌, ◌≤◌, ℕ, Bool, true, false, cond, IsTrue, Option, Some, None, [], length, pow_mono, subst, refl, sym, ap, ◌∙◌, arith, inl, inr}
use Rattle.std.proofs.lemmas.Bool.{cases_lt, eq-eqb, lt-ltb}
use Rattle.grib_bits.specs.Octets.{octets}
use Rattle.grib_base.specs.declared.fault.Reason.TheVariants.{DataTooShort}
use Rattle.grib_base.specs.declared.fault.Fault.{Fault}
use Rattle.grib_base.specs.Rules.{refusal, first_fault}
use Rattle.grib_packing.specs.Groups.{list_octets, list_rules}
use Rattle.grib_complex_reading.specs.declared.representation.Complex.{Complex}
use Rattle.grib_group_reading.specs.Feeding.{WasFed, no_marks, plain_groups}
use Rattle.grib_group_reading.specs.Lists.{ReferencesTook}
use Rattle.grib_complex_reading.proofs.Arriving.{lists_pass, complex_of}
use Rattle.grib_complex_reading.proofs.Described.{few_orders}
use Rattle.grib_complex_reading.proofs.Starting.{begins, lists_refused}
use Rattle.grib_complex_reading.proofs.stages.ComplexReading.start.Goals as goal

apart : {P : Type 0} → false ≡ true → P
apart wrong = absurd (cc)

refused_none : {f : Fault} → ◌≡◌ {A = Option Fault} None (Some f) → ⊥
refused_none wrong = absurd (cc)

-- all octets of the lists are there
fits_within : (complex : Complex) (l skip : ℕ) (fits : Bool) → skip ≡ (complex.order + 1) * complex.extra → fits ≡ true → (IsTrue fits → first_fault (list_rules complex.layout l skip) ≡ None)
    → 5 + (complex.order + 1) * complex.extra + list_octets complex.layout ≤ l
fits_within complex l skip fits is_skip holds pass = elim (cases_lt l (5 + skip + list_octets complex.layout)) [
  | inl below ↦
      let passes = pass holds in
      absurd (refused_none (sym passes ∙ ap (λ (b : Bool). cond b (Some (refusal 1 DataTooShort l)) None) (lt-ltb l (5 + skip + list_octets complex.layout) below)))
  | inr enough ↦ omega (arith, is_skip)
]

pub returns-then-complex-eq0 : goal.returns-then-complex-eq0
returns-then-complex-eq0 g c = λ s5 spelled.
    let complex = c.args.complex in
    let none = sym (ap (λ l. l.groups) spelled.layout) ∙ c.if-complex-eq0.true in
    c.start_zeros.ensures s5 c.args.start c.args.length (complex_of complex s5 spelled c.requires.accepted) (eq-eqb (octets s5 32 35) 0 none) spelled.simple.values c.requires.least

pub returns-then-not-lists_fit : goal.returns-then-not-lists_fit
returns-then-not-lists_fit g c = λ s5 spelled. (
  λ s7 continues.
      let complex = c.args.complex in
      let short : c.args.length < 5 + (complex.order + 1) * complex.extra + list_octets complex.layout = elim (cases_lt c.args.length (5 + (complex.order + 1) * complex.extra + list_octets complex.layout)) [
        | inl below ↦ below
        | inr enough ↦ apart (sym c.if-not-lists_fit.true ∙ c.lists_fit.ensures.1 (lists_pass complex.layout c.args.length c.skip.result (omega (arith, c.skip.ensures, enough))))
      ] in
      lists_refused complex s5 c.args.start c.args.length spelled c.requires.accepted (omega arith) short s7 continues.long
      ∙ sym (ap Some (c.at-fault.ensures ∙ ap (λ (n : ℕ). refusal c.args.start DataTooShort n) c.from.ensures)),
  refl,
)

pub list-requires-clause-limit : goal.list-requires-clause-limit
list-requires-clause-limit g c =
    let up : 8 * c.args.complex.extra ≤ 32 = omega (arith, c.requires.accepted.extra) in
    pow_mono up

pub push-requires-clause-begun : goal.push-requires-clause-begun
push-requires-clause-begun g c =
    let s5 = c.requires.spelled.0 in
    let spelled = c.requires.spelled.1 in
    let complex = c.args.complex in
    record {
      s5 = s5;
      keeper = c.args.keeper;
      octets = [];
      known = λ i. omega arith;
      long = refl;
      agrees = begins complex s5 c.args.length (record { items = c.in_ok-with_capacity.field-0 }) c.list.result c.in_ok-start.field-0 c.args.keeper spelled c.requires.accepted (omega arith) (omega arith)
          (fits_within complex c.args.length c.skip.result c.lists_fit.result c.skip.ensures c.if-not-lists_fit.false c.lists_fit.ensures.0) c.in_ok-with_capacity.ensures.items (omega (arith, c.in_ok-with_capacity.ensures.capacity))
          (subst (λ (n : ℕ). WasFed ReferencesTook no_marks (plain_groups (8 * complex.extra) (n + 1)) (record { items = c.in_ok-with_capacity.field-0 }) [] c.list.result) c.from-2.ensures c.list.ensures.fed) c.list.ensures.feedable c.list.ensures.list
          (c.list.ensures.room 0 (omega (arith, ap length c.in_ok-with_capacity.ensures.items, c.in_ok-with_capacity.ensures.capacity, c.from-2.ensures, few_orders complex c.requires.accepted))) c.in_ok-start.ensures;
    }

pub returns : goal.returns
returns g c = λ s5 spelled.
    let complex = c.args.complex in
    c.push.ensures s5 c.args.keeper [] refl (λ i. omega arith) (begins complex s5 c.args.length (record { items = c.in_ok-with_capacity.field-0 }) c.list.result c.in_ok-start.field-0 c.args.keeper spelled c.requires.accepted (omega arith) (omega arith)
    (fits_within complex c.args.length c.skip.result c.lists_fit.result c.skip.ensures c.if-not-lists_fit.false c.lists_fit.ensures.0) c.in_ok-with_capacity.ensures.items (omega (arith, c.in_ok-with_capacity.ensures.capacity))
    (subst (λ (n : ℕ). WasFed ReferencesTook no_marks (plain_groups (8 * complex.extra) (n + 1)) (record { items = c.in_ok-with_capacity.field-0 }) [] c.list.result) c.from-2.ensures c.list.ensures.fed) c.list.ensures.feedable c.list.ensures.list
    (c.list.ensures.room 0 (omega (arith, ap length c.in_ok-with_capacity.ensures.items, c.in_ok-with_capacity.ensures.capacity, c.from-2.ensures, few_orders complex c.requires.accepted))) c.in_ok-start.ensures)
