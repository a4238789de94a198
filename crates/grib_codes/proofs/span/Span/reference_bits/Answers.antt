use Rattle.std.proofs.Common.{◌+◌, ℕ, ap₂, ◌∙◌}
use Rattle.grib_packing.specs.Groupings.{digits}
use Rattle.grib_codes.proofs.span.Span.reference_bits.Goals as goal

pub returns-clause-is : goal.returns-clause-is
returns-clause-is c run h = c.bit_length.ensures.is ∙ ap₂ (λ (n k : ℕ). digits (n + k)) h.greatest c.from.ensures
