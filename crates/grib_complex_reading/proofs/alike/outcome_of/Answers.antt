use Rattle.std.proofs.Common.{◌≡◌, ℕ, ◌+◌, ◌*◌, None, List, Bool, replicate, sym, ap, ◌∙◌, arith, inr}
use Rattle.grib_base.specs.declared.code.Code.{Code}
use Rattle.grib_base.specs.Rules.{first_place}
use Rattle.grib_packing.specs.Differences.{NoNumber}
use Rattle.grib_packing.specs.Entries.{is_out_of_range}
use Rattle.grib_complex_reading.specs.Alike.{place_beyond, refusal_of_lists}
use Rattle.grib_complex_reading.specs.Descriptors.{descriptors_in}
use Rattle.grib_complex_reading.specs.Told.{After, told}
use Rattle.grib_complex_reading.proofs.Uniform.{codes_are}
use Rattle.grib_complex_reading.proofs.alike.outcome_of.Goals as goal
use Rattle.grib_complex_reading.proofs.alike.outcome_of.Goals.{After-place_of_same-place}

-- the lists are not refused
lists_pass : (c : After-place_of_same-place) (octets : List ℕ) → refusal_of_lists c.args.complex.now c.args.start c.args.length octets ≡ None
lists_pass c octets = sym (c.fault_of_alike.ensures octets) ∙ c.in_default.is

-- and the place that is found is that of the first number out of range
place_is : (c : After-place_of_same-place) (octets : List ℕ) (numbers : List Bool) → place_beyond c.args.complex.now c.args.told.now octets numbers ≡ c.place_of_same-place.result
place_is c octets numbers =
    let complex = c.args.complex.now in
    let none : complex.layout.width_reference ≡ 0 = omega (arith, c.if-complex-gt0.false) in
    let codes = codes_are complex.layout (c.are_alike.ensures c.if-not-are_alike.false) octets c.requires.groups none c.args.start ((complex.order + 1) * complex.extra) c.args.length complex.simple.values (lists_pass c octets) numbers
    ∙ ap (replicate complex.simple.values) (sym c.code_of_alike.ensures.code) in
    ap (λ (cs : List Code). first_place is_out_of_range (told (After (descriptors_in c.args.told.now) NoNumber) cs)) codes
    ∙ sym c.place_of_same-place.ensures

pub returns-then-place-gt0 : goal.returns-then-place-gt0
returns-then-place-gt0 c =
    let here = (goal.at.returns-then-place-gt0 c).After-place_of_same-place in
    inr (record {
      alike = c.are_alike.ensures c.if-not-are_alike.false;
      lists = lists_pass here;
      order = c.if-told-eq0.false;
      place = c.place_of_same-place.result;
      some = omega (arith, c.if-place-gt0.true);
      beyond = place_is here;
      fault_is = c.at.ensures;
    })

pub returns : goal.returns
returns c =
    let here = (goal.at.returns c).After-place_of_same-place in
    let nowhere : c.place_of_same-place.result ≡ 0 = omega (arith, c.if-place-gt0.false) in
    record {
      alike = c.are_alike.ensures c.if-not-are_alike.false;
      lists = lists_pass here;
      within = inr (λ octets numbers. place_is here octets numbers ∙ nowhere);
    }
