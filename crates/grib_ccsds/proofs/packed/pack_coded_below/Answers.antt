use Rattle.std.proofs.Common.{◌≡◌, ℕ, ◌^◌, ◌-◌, ◌≤◌, List, All, length, None, sym, ap, subst, arith}
use Rattle.std.proofs.lemmas.Result.{err_from_is_err_and}
use Rattle.grib_coding.specs.Coding.{greatest}
use Rattle.grib_packing.specs.declared.column.Point.{Point}
use Rattle.grib_packing.specs.Misfits.{plain_misfit}
use Rattle.grib_packing.specs.Packed.{HasContents, IsCoded, blocks_written}
use Rattle.grib_packing.specs.Written.{IsPackFault}
use Rattle.grib_simple.proofs.Fitting.{nothing_fails}
use Rattle.grib_ccsds.proofs.Sizes.{bitmap_octets, fewer, no_fewer}
use Rattle.grib_ccsds.proofs.ToCode.{numbers_small, code_fits, code_few, code_within, blocks_long, packed_coded}
use Rattle.grib_ccsds.proofs.packed.pack_coded_below.Goals as goal

pub returns-in_err-fits-clause-packed : goal.returns-in_err-fits-clause-packed
returns-in_err-fits-clause-packed c =
    let p = err_from_is_err_and c.from_residual.result c.from_residual.ensures.1 in
    let fault = c.in_err-fits.ensures (2 ^ 32 - 1) c.as_slice-points.result.now c.of-survey.ensures in
    rw (p.1, p.2) (subst (λ (ps : List Point). IsPackFault (plain_misfit (2 ^ 32 - 1) ps) c.in_err-fits.field-0.0) c.as_slice-points.ensures fault)

pub numbers_to_code-requires : goal.numbers_to_code-requires
numbers_to_code-requires c =
    let points = c.as_slice-points.result.now in
    numbers_small points (c.in_ok-fits.ensures (2 ^ 32 - 1) points c.of-survey.ensures)

pub octets_of_blocks-octets7-requires-clause-fits : goal.octets_of_blocks-octets7-requires-clause-fits
octets_of_blocks-octets7-requires-clause-fits c =
    code_fits c.as_slice-points.result.now (c.in_ok-fits.ensures (2 ^ 32 - 1) c.as_slice-points.result.now c.of-survey.ensures) c.args.block c.args.interval c.requires.blocks c.of-survey.result.greatest c.coding_to-coding.result
    c.in_ok-numbers.numbers.items c.of-survey.ensures.greatest_is c.coding_to-coding.ensures c.in_ok-numbers.ensures

pub octets_of_blocks-octets7-requires-clause-few : goal.octets_of_blocks-octets7-requires-clause-few
octets_of_blocks-octets7-requires-clause-few c =
    let few = code_few c.as_slice-points.result.now (c.in_ok-fits.ensures (2 ^ 32 - 1) c.as_slice-points.result.now c.of-survey.ensures) c.args.block c.args.interval c.requires.blocks c.of-survey.result.greatest c.coding_to-coding.result
    c.in_ok-numbers.numbers.items c.of-survey.ensures.greatest_is c.coding_to-coding.ensures c.in_ok-numbers.ensures (omega (arith, ap length c.as_slice-points.ensures, c.requires.column.few)) in
    omega (arith, few, ap length c.deref.ensures.value)

pub octets_of_blocks-octets7-requires-clause-within : goal.octets_of_blocks-octets7-requires-clause-within
octets_of_blocks-octets7-requires-clause-within c =
    subst (All (λ n. n ≤ greatest c.coding_to-coding.result)) (sym c.deref.ensures.value)
    (code_within c.as_slice-points.result.now (c.in_ok-fits.ensures (2 ^ 32 - 1) c.as_slice-points.result.now c.of-survey.ensures) c.args.block c.args.interval c.requires.blocks c.of-survey.result.greatest c.coding_to-coding.result
    c.in_ok-numbers.numbers.items c.of-survey.ensures.greatest_is c.coding_to-coding.ensures c.in_ok-numbers.ensures)

pub returns-then-is_reached-clause-packed : goal.returns-then-is_reached-clause-packed
returns-then-is_reached-clause-packed c =
    let points = c.as_slice-points.result.now in
    let none = c.in_ok-fits.ensures (2 ^ 32 - 1) points c.of-survey.ensures in
    let six =
    bitmap_octets c.as_slice-points.result.now c.args.column.now.points c.of-survey.result.missing c.bitmap_octets-octets6.result c.as_slice-points.ensures
    c.of-survey.ensures.missing c.bitmap_octets-octets6.ensures in
    let seven =
    blocks_long c.as_slice-points.result.now (c.in_ok-fits.ensures (2 ^ 32 - 1) c.as_slice-points.result.now c.of-survey.ensures) c.args.block c.args.interval c.requires.blocks
    c.of-survey.result.greatest c.coding_to-coding.result c.in_ok-numbers.numbers.items c.of-survey.ensures.greatest_is c.coding_to-coding.ensures c.in_ok-numbers.ensures c.args.column.now c.deref.result.now
    c.octets_of_blocks-octets7.result c.as_slice-points.ensures c.deref.ensures.value c.octets_of_blocks-octets7.ensures in (
      subst (λ (ps : List Point). plain_misfit (2 ^ 32 - 1) ps ≡ None) c.as_slice-points.ensures none,
      no_fewer c.args.block c.args.interval c.args.column.now c.args.kind _ c.bitmap_octets-octets6.result c.octets_of_blocks-octets7.result c.args.below six seven
          (omega (arith, c.from.ensures, c.from-2.ensures, c.from-3.ensures)) (c.is_reached.ensures.reached c.if-is_reached.true),
    )

pub bitmap_section-requires-clause-one_kind : goal.bitmap_section-requires-clause-one_kind
bitmap_section-requires-clause-one_kind c =
    let points = c.as_slice-points.result.now in
    let both = nothing_fails (2 ^ 32 - 1) points (c.in_ok-fits.ensures (2 ^ 32 - 1) points c.of-survey.ensures) in
    both.0

pub blocks_section-requires-clause-fits : goal.blocks_section-requires-clause-fits
blocks_section-requires-clause-fits c =
    code_fits c.as_slice-points.result.now (c.in_ok-fits.ensures (2 ^ 32 - 1) c.as_slice-points.result.now c.of-survey.ensures) c.args.block c.args.interval c.requires.blocks c.of-survey.result.greatest c.coding_to-coding.result
    c.in_ok-numbers.numbers.items c.of-survey.ensures.greatest_is c.coding_to-coding.ensures c.in_ok-numbers.ensures

pub blocks_section-requires-clause-few : goal.blocks_section-requires-clause-few
blocks_section-requires-clause-few c =
    let few = code_few c.as_slice-points.result.now (c.in_ok-fits.ensures (2 ^ 32 - 1) c.as_slice-points.result.now c.of-survey.ensures) c.args.block c.args.interval c.requires.blocks c.of-survey.result.greatest c.coding_to-coding.result
    c.in_ok-numbers.numbers.items c.of-survey.ensures.greatest_is c.coding_to-coding.ensures c.in_ok-numbers.ensures (omega (arith, ap length c.as_slice-points.ensures, c.requires.column.few)) in
    omega (arith, few, ap length c.deref-2.ensures.value)

pub blocks_section-requires-clause-within : goal.blocks_section-requires-clause-within
blocks_section-requires-clause-within c =
    subst (All (λ n. n ≤ greatest c.coding_to-coding.result)) (sym c.deref-2.ensures.value)
    (code_within c.as_slice-points.result.now (c.in_ok-fits.ensures (2 ^ 32 - 1) c.as_slice-points.result.now c.of-survey.ensures) c.args.block c.args.interval c.requires.blocks c.of-survey.result.greatest c.coding_to-coding.result
    c.in_ok-numbers.numbers.items c.of-survey.ensures.greatest_is c.coding_to-coding.ensures c.in_ok-numbers.ensures)

module _ (c : goal.After-drop-numbers-2) where
  written : IsCoded c.args.block c.args.interval c.args.column.now c.args.kind c.coded_representation.result c.bitmap_section.result c.blocks_section.result
  written =
      let values = subst (λ (ns : List ℕ). HasContents 7 c.blocks_section.result (blocks_written c.coding_to-coding.result ns)) c.deref-2.ensures.value c.blocks_section.ensures in
      packed_coded c.as_slice-points.result.now (c.in_ok-fits.ensures (2 ^ 32 - 1) c.as_slice-points.result.now c.of-survey.ensures) c.args.block c.args.interval c.requires.blocks
      c.of-survey.result.greatest c.coding_to-coding.result c.in_ok-numbers.numbers.items c.of-survey.ensures.greatest_is c.coding_to-coding.ensures c.in_ok-numbers.ensures c.args.column.now c.args.kind c.of-survey.result.present _ _ _
      c.as_slice-points.ensures c.of-survey.ensures.present c.coded_representation.ensures.length c.coded_representation.ensures.numbers
      c.coded_representation.ensures.coding c.bitmap_section.ensures values

pub returns-clause-packed : goal.returns-clause-packed
returns-clause-packed c =
    let none = c.in_ok-fits.ensures (2 ^ 32 - 1) c.as_slice-points.result.now c.of-survey.ensures in
    (subst (λ (ps : List Point). plain_misfit (2 ^ 32 - 1) ps ≡ None) c.as_slice-points.ensures none, written c)

pub returns-clause-fewer : goal.returns-clause-fewer
returns-clause-fewer c =
    let six =
    bitmap_octets c.as_slice-points.result.now c.args.column.now.points c.of-survey.result.missing c.bitmap_octets-octets6.result c.as_slice-points.ensures
    c.of-survey.ensures.missing c.bitmap_octets-octets6.ensures in
    let seven =
    blocks_long c.as_slice-points.result.now (c.in_ok-fits.ensures (2 ^ 32 - 1) c.as_slice-points.result.now c.of-survey.ensures) c.args.block c.args.interval c.requires.blocks
    c.of-survey.result.greatest c.coding_to-coding.result c.in_ok-numbers.numbers.items c.of-survey.ensures.greatest_is c.coding_to-coding.ensures c.in_ok-numbers.ensures c.args.column.now c.deref.result.now
    c.octets_of_blocks-octets7.result c.as_slice-points.ensures c.deref.ensures.value c.octets_of_blocks-octets7.ensures in
    fewer c.args.block c.args.interval c.args.column.now c.args.kind _ c.bitmap_octets-octets6.result c.octets_of_blocks-octets7.result c.args.below _ six seven
    (omega (arith, c.from.ensures, c.from-2.ensures, c.from-3.ensures)) (written c) (c.is_reached.ensures.fewer c.if-is_reached.false)
