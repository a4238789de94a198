use Rattle.std.proofs.Common.{◌≡◌, ℕ, List, ◌+◌, ◌-◌, ◌*◌, ◌≤◌, length, drop, subst, sym, arith, length-drop, drop-drop}
use Rattle.std.proofs.lemmas.List.Elements.{All-drop}
use Rattle.grib_base.specs.declared.code.Code.{Code}
use Rattle.grib_packing.specs.Groupings.{width_of}
use Rattle.grib_codes.specs.Span.{IsTold}
use Rattle.grib_split.specs.Bound.{NoneTakesFewer}
use Rattle.grib_split.specs.Costs.{header_of}
use Rattle.grib_split.proofs.Cut.{none_fewer_cut}
use Rattle.grib_split.proofs.bound.bits_at_least.Goals as goal

pub returns-then-bits-enough : goal.returns-then-bits-enough
returns-then-bits-enough c lengths g = omega (arith, c.loop-block.invariant.bits 0 (λ others h. omega arith) lengths g)

pub returns : goal.returns
returns c lengths g = omega (arith, c.loop-block.invariant.bits 0 (λ others h. omega arith) lengths g)

pub loop-block-preserved : goal.loop-block-preserved
loop-block-preserved c =
    let q = c.requires in
    let costs = c.args.costs.now in
    let codes = c.args.codes.now in
    let header = header_of costs in
    let k = costs.reserved in
    let from = c.loop-block.block * 8 in
    let rest_codes = drop from codes in
    let room : from + 8 ≤ length codes = omega (arith, c.loop-block-test.true, c.len-block-end.ensures) in
    let next : from + 8 ≡ (c.loop-block.block + 1) * 8 = omega arith in
    let added : c.from-bits.result ≡ c.block_bits.result - header = omega (arith, c.from-bits.ensures, c.saturating_sub.ensures) in
    record {
      few = omega (arith, added, c.block_bits.ensures.few, c.loop-block.invariant.few);
      bits = λ rest behind lengths g.
          let P : ℕ → Type 0 = λ m. NoneTakesFewer header (width_of k) (drop m codes) rest in
          let Q : List Code → Type 0 = λ xs. NoneTakesFewer header (width_of k) xs rest in
          let later = subst Q (sym (drop-drop 8 from codes)) (subst P (sym next) behind) in
          let here = none_fewer_cut header k rest_codes 8 c.block_bits.result rest q.split.reserved (All-drop (IsTold k) from codes q.told) (omega arith)
          (omega (arith, room, length-drop from codes)) c.block_bits.ensures.bits later in
          omega (arith, added, c.loop-block.invariant.bits (c.block_bits.result - header + rest) here lengths g);
    }
