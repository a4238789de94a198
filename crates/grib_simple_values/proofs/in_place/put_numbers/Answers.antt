use Rattle.std.proofs.Common.{◌≡◌, ℕ, ◌*◌, ◌^◌, ◌<◌, Bool, List, ◌++◌, sym, subst, ap, ap₂, ◌∙◌, arith, append_assoc, add-mul}
use Rattle.std.proofs.lemmas.List.{append-nil}
use Rattle.grib_bits.specs.Bits.{bits, bits_of}
use Rattle.grib_bits.specs.Plain.{plain, plain_at}
use Rattle.grib_bits.proofs.Listed.{ends_within}
use Rattle.grib_packing.specs.Packed.{fields}
use Rattle.grib_packing.proofs.Fields.{plain_more}
use Rattle.grib_simple_values.proofs.InPlace.{fields_more, plain_fits}
use Rattle.grib_simple_values.proofs.in_place.put_numbers.Goals as goal

pub put-requires-clause-fits : goal.put-requires-clause-fits
put-requires-clause-fits c =
    subst (λ (x : ℕ). x < 2 ^ c.args.width) (sym c.number_at.ensures.number)
    (plain_fits (bits c.args.octets.now) c.args.bits c.args.count c.loop-index.index c.args.width c.requires.fits (omega (arith, c.loop-index-test.true)))

pub put-requires-clause-room : goal.put-requires-clause-room
put-requires-clause-room c =
    omega (arith, c.loop-index.invariant.spare, c.requires.room, ends_within c.loop-index.index c.args.count c.args.width (omega (arith, c.loop-index-test.true)))

pub loop-index-init : goal.loop-index-init
loop-index-init c = record {
  bits = sym (append-nil c.args.out.now.bits);
  spare = omega arith;
}

pub loop-index-preserved : goal.loop-index-preserved
loop-index-preserved c =
    let bs = bits c.args.octets.now in
    let w = c.args.bits in
    let v = c.args.width in
    let i = c.loop-index.index in
    let old = c.args.out.now.bits in
    record {
      bits =
          c.put.ensures.bits ∙ ap₂ (λ (xs : List Bool) (x : ℕ). xs ++ bits_of v x) c.loop-index.invariant.bits c.number_at.ensures.number
          ∙ append_assoc old (fields v (plain bs w i)) (bits_of v (plain_at bs w i))
          ∙ ap (λ (ys : List Bool). old ++ ys) (sym (fields_more v (plain bs w i) (plain_at bs w i)) ∙ ap (fields v) (sym (plain_more bs w i)));
      spare = omega (arith, c.put.ensures.spare, c.loop-index.invariant.spare, add-mul i 1 v);
    }

pub returns-clause-bits : goal.returns-clause-bits
returns-clause-bits c =
    let end : c.loop-index.index ≡ c.args.count = omega arith in
    c.loop-index.invariant.bits ∙ ap (λ (n : ℕ). c.args.out.now.bits ++ fields c.args.width (plain (bits c.args.octets.now) c.args.bits n)) end

pub returns-clause-spare : goal.returns-clause-spare
returns-clause-spare c =
    let end : c.loop-index.index ≡ c.args.count = omega arith in
    let product : c.loop-index.index * c.args.width ≡ c.args.count * c.args.width = ap (λ (n : ℕ). n * c.args.width) end in
    omega (arith, c.loop-index.invariant.spare, product)
