use Rattle.std.proofs.Common.{◌≡◌, ◌-◌, length, take, drop, Some, true, sym, ap, ◌∙◌, subst, arith, List, ℕ}
use Rattle.std.proofs.lemmas.Bool.{lt-ltb}
use Rattle.std.proofs.lemmas.List.{take_rest, length-take, length-drop}
use Rattle.grib_base.specs.Rules.{located}
use Rattle.grib_coding.specs.declared.coding.Coding.{Coding}
use Rattle.grib_packing.specs.Coded.{block_refusal, is_coded}
use Rattle.grib_packing.specs.Kept.{PointsKept}
use Rattle.grib_packing.specs.Packing.{bit_width, value_count}
use Rattle.grib_block_feeding.proofs.Accepting.{coding_fits}
use Rattle.grib_block_feeding.proofs.Values.{blocks_fault, blocks_read}
use Rattle.grib_block_feeding.specs.Feeding.{BlocksAgree}
use Rattle.grib_block_feeding.specs.Representation.{Spelled}
use Rattle.grib_ccsds.proofs.unpacking.take_values.Goals as goal
use Rattle.grib_ccsds.proofs.unpacking.take_values.Goals.{After-finish}

pub start-fed-requires-clause-fits : goal.start-fed-requires-clause-fits
start-fed-requires-clause-fits c =
    let accepted = c.requires.accepted in
    let spelled = accepted.2 in
    coding_fits accepted.0 accepted.1 c.args.coded.coding spelled.coding (omega arith)
    (omega (arith, ap (λ (x : Coding). x.bits) spelled.coding, spelled.simple.bits, c.if-coded-eq0.false)) accepted.3 accepted.4

pub push-fed-requires-clause-short : goal.push-fed-requires-clause-short
push-fed-requires-clause-short c =
    let s7 = c.args.section7.now.octets.now in
    omega (arith, c.length_of_section-length.ensures, length-take (length s7 - 5) (drop 5 s7), length-drop 5 s7)

pub finish-requires : goal.finish-requires
finish-requires c = record {
  fed = record {
    coding = c.args.coded.coding;
    count = c.args.coded.simple.values;
    keeper = c.args.points;
    octets = _;
    agrees = c.push-fed.ensures c.args.coded.coding c.args.coded.simple.values c.args.points _ c.start-fed.ensures;
  };
}

-- the blocks are those of the whole Section 7
pub returns-in-Ok : goal.returns-in-Ok
returns-in-Ok c = λ s5 count spelled template accepted.
    let s7 = c.args.section7.now.octets.now in
    let coding = c.args.coded.coding in
    let values = c.args.coded.simple.values in
    let points = c.args.points in
    let fed = c.push-fed.result in
    let some : is_coded s5 ≡ true = lt-ltb 0 (bit_width s5) (omega (arith, spelled.simple.bits, c.if-coded-eq0.false)) in
    let agrees = c.push-fed.ensures coding values points _ c.start-fed.ensures in
    let whole = subst (λ (octets : List ℕ). BlocksAgree PointsKept coding values points octets fed) (take_rest s7 5) agrees in
    let counted = subst (λ (n : ℕ). BlocksAgree PointsKept coding n points (drop 5 s7) fed) spelled.simple.values whole in
    let coded = subst (λ (k : Coding). BlocksAgree PointsKept k (value_count s5) points (drop 5 s7) fed) spelled.coding counted in
    let read = c.in-Ok.ensures _ _ _ _ coded in
    blocks_read s5 s7 template some PointsKept points c.in-Ok.points coded.fits read.0 read.1

pub returns-in-Err : goal.returns-in-Err
returns-in-Err c = λ s5 count spelled template accepted.
    let s7 = c.args.section7.now.octets.now in
    let start = c.args.section7.now.start in
    let coding = c.args.coded.coding in
    let values = c.args.coded.simple.values in
    let points = c.args.points in
    let fed = c.push-fed.result in
    let some : is_coded s5 ≡ true = lt-ltb 0 (bit_width s5) (omega (arith, spelled.simple.bits, c.if-coded-eq0.false)) in
    let long : c.from.result ≡ length s7 = omega (arith, c.from.ensures, c.length_of_section-length.ensures) in
    let agrees = c.push-fed.ensures coding values points _ c.start-fed.ensures in
    let whole = subst (λ (octets : List ℕ). BlocksAgree PointsKept coding values points octets fed) (take_rest s7 5) agrees in
    let counted = subst (λ (n : ℕ). BlocksAgree PointsKept coding n points (drop 5 s7) fed) spelled.simple.values whole in
    let coded = subst (λ (k : Coding). BlocksAgree PointsKept k (value_count s5) points (drop 5 s7) fed) spelled.coding counted in
    let fault = c.in-Err.ensures _ _ _ _ coded in
    ap (located start) (blocks_fault s5 s7 template some ∙ ap (block_refusal (length s7)) fault ∙ ap (λ (n : ℕ). block_refusal n (Some c.in-Err.fault)) (sym long)) ∙ c.fault_of_blocks.ensures
