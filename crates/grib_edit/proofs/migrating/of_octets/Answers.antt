use Rattle.std.proofs.Common.{◌≡◌, ℕ, suc, zero, ◌<◌, true, ◌&&◌, List, [], ◌∷◌, get_or, refl, ap, ◌∙◌, lt-ltb}
use Rattle.grib_bits.proofs.OctetNumbers.{AreOctets-known}
use Rattle.grib_edit.specs.Migrating.{are_octets}
use Rattle.grib_edit.proofs.migrating.of_octets.Goals as goal

known_octets : (xs : List ℕ) → ((i : ℕ) → get_or xs i 0 < 256) → are_octets xs ≡ true
known_octets [] all = refl
known_octets (x ∷ xs) all =
    ap (λ b. b && are_octets xs) (lt-ltb x 256 (all zero)) ∙ known_octets xs (λ i. all (suc i))

pub returns : goal.returns
returns c = known_octets c.args.octets.now (AreOctets-known c.args.octets.now c.type_inv.octets)
