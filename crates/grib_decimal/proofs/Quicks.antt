-- What is prepared for numerators of 64 bits.
use Rattle.std.proofs.Common.{◌≡◌, ℕ, ◌*◌, ◌^◌, Option, Some, None, IfSome, ℤ, pos, ◌*ℤ◌, nat_abs, ap, ◌∙◌}
use Rattle.grib_decimal.specs.declared.quick.Quick.{Quick}
use Rattle.grib_decimal.specs.Divisors.{divisor_of}
use Rattle.grib_decimal.specs.Parts.{IsQuick}

pub quick_of : (o : Option Quick) (base shift origin stride number : ℤ) (factor divisor : ℕ) → IfSome o (λ q. q.origin ≡ origin) → IfSome o (λ q. q.stride ≡ stride) → IfSome o (λ q. pos (divisor_of q.divisor) ≡ number) → origin ≡ base *ℤ pos factor → stride ≡ pos (factor * 2 ^ nat_abs shift) → number ≡ pos divisor → IfSome o (λ q. IsQuick q base shift factor divisor)
quick_of None base shift origin stride number factor divisor o s n p q r = tt
quick_of (Some x) base shift origin stride number factor divisor o s n p q r =
    record { origin_is = o ∙ p; stride_is = s ∙ q; divisor_is = ap nat_abs (n ∙ r) }
