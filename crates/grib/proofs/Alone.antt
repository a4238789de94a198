-- A field as a message of its own is read whole.
use Rattle.std.proofs.Common.{◌≡◌, ℕ, List, length, take, sym, ap, ◌∙◌, subst, arith}
use Rattle.std.proofs.lemmas.List.{take_all}
use Rattle.grib_base.specs.declared.fault.Fault.{Fault}
use Rattle.grib_base.specs.declared.profile.Profile.TheVariants.{Stated}
use Rattle.grib2_sections.specs.Verdict.{Accepted, Refused}
use Rattle.grib2_message.specs.Acceptance.{verdict_under}
use Rattle.grib2_message.specs.Message.{IsMessageUnder}

same_length : (m n : ℕ) → Accepted m ≡ Accepted n → m ≡ n
same_length m n e = cc

pub is_alone : (single octets : List ℕ) → octets ≡ single → IsMessageUnder Stated single → IsMessageUnder Stated octets
is_alone single octets same is = subst (λ xs. IsMessageUnder Stated xs) (sym same) is

pub read_alone : (octets alone : List ℕ) → IsMessageUnder Stated octets → verdict_under Stated octets ≡ Accepted (length alone) → alone ≡ take (length alone) octets → alone ≡ octets
read_alone octets alone is accepted front =
    let same : length alone ≡ length octets = same_length (length alone) (length octets) (sym accepted ∙ is.accepted) in
    front ∙ (ap (λ n. take n octets) same ∙ take_all (length octets) octets (omega arith))

-- and never refused
pub not_refused : (octets : List ℕ) (fault : Fault) → IsMessageUnder Stated octets → verdict_under Stated octets ≡ Refused fault → ⊥
not_refused octets fault is refused = let e : Accepted (length octets) ≡ Refused fault = sym is.accepted ∙ refused in let no : ⊥ = cc in no
