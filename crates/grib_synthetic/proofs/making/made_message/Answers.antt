use Rattle.std.proofs.Common.{◌≡◌, ℕ, ◌+◌, ◌≤◌, List, length, subst, sym, ap, ◌∙◌}
use Rattle.std.specs.Prelude.{None, IfOk}
use Rattle.grib_packing.specs.declared.column.Column.{Column}
use Rattle.grib_packing.specs.declared.column.Point.{Point}
use Rattle.grib_packing.specs.Misfits.{ToSimple, first_misfit}
use Rattle.grib_packing.specs.Written.{MayBePacked}
use Rattle.grib_packing.specs.declared.written.Packed.{Packed}
use Rattle.grib_synthetic.specs.Points.{made_points}
use Rattle.grib_synthetic.specs.Made.{MayBeMade, message_with}
use Rattle.grib_synthetic.proofs.Fitting.{made_fits, made_may_be_packed}
use Rattle.grib_synthetic.proofs.Parts.{made_is, parts_made, parts_short}
use Rattle.grib_synthetic.proofs.making.made_message.Goals as goal

pub pack-requires-clause-may : goal.pack-requires-clause-may
pack-requires-clause-may c =
    let may : MayBeMade c.args.seed c.args.ni c.args.nj = record {
      seed_fits = c.requires.seed;
      some_columns = c.requires.some_columns;
      few_columns = c.requires.few_columns;
      some_rows = c.requires.some_rows;
      few_rows = c.requires.few_rows;
    } in
    let points : made_points c.args.seed c.args.ni c.args.nj ≡ c.of.result = sym (c.of.ensures ∙ c.in_ok-points.ensures) in
    subst (λ (xs : List Point). let column : Column = record { reference = 0xC2ED4000; e = 0x8003; d = 0x0001; points = xs } in MayBePacked column) points
    (made_may_be_packed c.args.seed c.args.ni c.args.nj may)

pub pack-requires-clause-fits : goal.pack-requires-clause-fits
pack-requires-clause-fits c =
    let points : made_points c.args.seed c.args.ni c.args.nj ≡ c.of.result = sym (c.of.ensures ∙ c.in_ok-points.ensures) in
    subst (λ (xs : List Point). first_misfit ToSimple xs ≡ None) points (made_fits ToSimple c.args.seed c.args.ni c.args.nj)

pub join-requires-clause-short : goal.join-requires-clause-short
join-requires-clause-short c =
    let may : MayBeMade c.args.seed c.args.ni c.args.nj = record {
      seed_fits = c.requires.seed;
      some_columns = c.requires.some_columns;
      few_columns = c.requires.few_columns;
      some_rows = c.requires.some_rows;
      few_rows = c.requires.few_rows;
    } in
    let parts : Packed = c.in_ok-parts.parts in
    let is = parts_made c.args.seed c.args.ni c.args.nj c.of.result parts (c.of.ensures ∙ c.in_ok-points.ensures) c.in_ok-parts.ensures in
    subst (λ (p : Packed). length p.section5 + length p.section6 + length p.section7 ≤ 268435000) (sym is) (parts_short c.args.seed c.args.ni c.args.nj may)

pub returns : goal.returns
returns c =
    let parts : Packed = c.in_ok-parts.parts in
    let is = parts_made c.args.seed c.args.ni c.args.nj c.of.result parts (c.of.ensures ∙ c.in_ok-points.ensures) c.in_ok-parts.ensures in
    let whole = ap (message_with c.args.ni c.args.nj) is ∙ sym (made_is c.args.seed c.args.ni c.args.nj) in
    subst (λ (octets : List ℕ). IfOk c.join.result (λ message. message.items ≡ octets)) whole c.join.ensures
