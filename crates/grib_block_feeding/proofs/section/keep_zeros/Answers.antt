use Rattle.std.proofs.Common.{ℕ, ◌≡◌, List, [], ◌∷◌, replicate, subst, arith}
use Rattle.std.proofs.lemmas.List.{replicate-append-replicate}
use Rattle.grib_packing.specs.declared.column.Point.{Point}
use Rattle.grib_packing.specs.Coded.{point_of}
use Rattle.grib_block_feeding.proofs.section.keep_zeros.Goals as goal

pub loop-value-init : goal.loop-value-init
loop-value-init g c = g.met.K.Keeper.none c.args.keeper

pub loop-value-preserved : goal.loop-value-preserved
loop-value-preserved g c =
    subst (λ (ps : List Point). g.K.Keeper.kept c.args.keeper ps c.keep-kept.result) (replicate-append-replicate c.loop-value._value 1 (point_of 0))
    (g.met.K.Keeper.more c.args.keeper c.loop-value.kept c.keep-kept.result _ (point_of 0 ∷ []) c.loop-value.invariant c.keep-kept.ensures)

pub returns : goal.returns
returns g c =
    let all : c.loop-value._value ≡ c.args.count = omega arith in
    subst (λ (n : ℕ). g.K.Keeper.kept c.args.keeper (replicate n (point_of 0)) c.loop-value.kept) all c.loop-value.invariant
