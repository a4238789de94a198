-- Labels of ECMWF's archive, as they are added.
use Rattle.std.proofs.Common.{◌≡◌, ℕ, Bool, true, cond, List, [], ◌∷◌, ◌++◌, refl, sym, ap, ◌∙◌, append_assoc}
use Rattle.grib_bits.specs.Octets.{octets}
use Rattle.grib_bits.specs.Encoding.{section_head, section_of, all_octets}
use Rattle.grib_bits.specs.declared.adding.Number.TheVariants.{Two, Four}
use Rattle.grib_migrate.specs.declared.labels.Local.TheVariants.{Ecmwf}
use Rattle.grib_migrate.specs.Labels.{has_labels, label_numbers, local_section_by}

pub labels_same : (s1 : List ℕ) (class kind stream version : ℕ) → class ≡ octets s1 42 42 → kind ≡ octets s1 43 43 → stream ≡ octets s1 44 45 → version ≡ octets s1 46 49
    → (Two 1 ∷ Two class ∷ Two kind ∷ Two stream ∷ Four version ∷ []) ≡ label_numbers s1
labels_same s1 class kind stream version e1 e2 e3 e4 = rw (e1, e2, e3, e4) refl

pub labels_added : (s1 before now : List ℕ) → has_labels s1 ≡ true → now ≡ before ++ section_head 2 12 → now ++ all_octets (label_numbers s1) ≡ before ++ local_section_by Ecmwf s1
labels_added s1 before now has e =
    ap (λ (xs : List ℕ). xs ++ all_octets (label_numbers s1)) e ∙ append_assoc before (section_head 2 12) (all_octets (label_numbers s1))
    ∙ ap (λ (b : Bool). before ++ cond b (section_of 2 (all_octets (label_numbers s1))) []) (sym has)
