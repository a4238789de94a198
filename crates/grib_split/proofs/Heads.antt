-- First lengths of chosen groupings are choices that lengths can follow.
use Rattle.std.proofs.Common.{◌≡◌, ℕ, ◌<◌, List, length, drop, arith, length-drop}
use Rattle.std.specs.Prelude.{slice_index}
use Rattle.grib_base.specs.declared.code.Code.{Code}
use Rattle.grib_split.specs.Least.{AreHeads, AreChoices}
use Rattle.grib_split.proofs.Optimal.{parts}

pub heads_choices : (header : ℕ) (width : List Code → ℕ) (codes : List Code) (choices : List ℕ) → length choices ≡ length codes
    → AreHeads header width codes choices → AreChoices choices
heads_choices header width codes choices same heads i within =
    let here : i < length codes = omega (arith, same) in
    let h = heads i here in
    let p = parts (length (drop i codes)) (slice_index choices i) h.0 h.1.grouping in
    (p.some, p.most, omega (arith, p.fits, length-drop i codes, same))
