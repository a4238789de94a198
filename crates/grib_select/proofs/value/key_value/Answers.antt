use Rattle.std.proofs.Common.{ℕ, subst}
use Rattle.grib_select.specs.Values.{HasKeys}
use Rattle.grib_select.proofs.value.key_value.Goals as goal

pub place_in-requires : goal.place_in-requires
place_in-requires c = subst (λ (n : ℕ). HasKeys n c.key_section-section.result.now) c.row-row.ensures.section c.key_section-section.ensures.keys
