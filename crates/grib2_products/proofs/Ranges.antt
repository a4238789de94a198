-- Lemmas on time ranges that stand one after another.
use Rattle.std.proofs.Common.{◌≡◌, ℕ, zero, suc, ◌+◌, ◌-◌, ◌*◌, ◌<◌, ◌≤◌, List, [], ◌∷◌, ◌++◌, length, take, drop, get_or, refl, sym, ap, ap₂, ◌∙◌, arith, append_assoc}
use Rattle.std.proofs.lemmas.List.{length-append, take_more, drop_at, drop-drop}
use Rattle.std.proofs.lemmas.List.FromFn.{fill_by_all}
use Rattle.grib_bits.specs.Octets.{num_on, octets}
use Rattle.grib_bits.proofs.Encoding.{num_on-octets_of}
use Rattle.grib2_products.specs.Spelled.{spec_at, specs_at}
use Rattle.grib2_products.specs.Written.{SpecFits, spec_octets, specs_octets}
use Rattle.grib2_products.specs.declared.templates.Spec.{Spec}

-- ---- time ranges

-- octets that stand behind others
octets-behind : (front xs : List ℕ) (i j first last : ℕ) → i ≡ length front + first → j ≡ length front + last → 1 ≤ first → octets (front ++ xs) i j ≡ octets xs first last
octets-behind front xs i j first last is_i is_j counted =
    let skip : i - 1 ≡ length front + (first - 1) = omega arith in
    let count : j + 1 - i ≡ last + 1 - first = omega arith in
    let rest : drop (i - 1) (front ++ xs) ≡ drop (first - 1) xs =
    ap (λ (n : ℕ). drop n (front ++ xs)) skip ∙ sym (drop-drop (first - 1) (length front) (front ++ xs))
    ∙ ap (drop (first - 1)) (drop_at front xs (length front) refl) in
    ap₂ (λ (n : ℕ) (zs : List ℕ). num_on 0 (take n zs)) count rest

-- what `get_or` gives past the end of a list of time ranges
abbrev pub no_spec : Spec
no_spec = record {
  process = 0;
  increment_type = 0;
  unit = 0;
  length = 0;
  increment_unit = 0;
  increment = 0;
}

abbrev spec_of : ℕ → ℕ → ℕ → ℕ → ℕ → ℕ → Spec
spec_of process increment_type unit l increment_unit increment = record {
  process = process;
  increment_type = increment_type;
  unit = unit;
  length = l;
  increment_unit = increment_unit;
  increment = increment;
}

same_spec : (a b c d e f a' b' c' d' e' f' : ℕ) → a ≡ a' → b ≡ b' → c ≡ c' → d ≡ d' → e ≡ e' → f ≡ f' → spec_of a b c d e f ≡ spec_of a' b' c' d' e' f'
same_spec a b c d e f a' b' c' d' e' f' pa pb pc pd pe pf =
    ap₂ (λ (x y : ℕ). spec_of x y c d e f) pa pb ∙ ap₂ (λ (x y : ℕ). spec_of a' b' x y e f) pc pd ∙ ap₂ (λ (x y : ℕ). spec_of a' b' c' d' x y) pe pf

-- the time range that stands behind some octets
spec_at-front : (front after : List ℕ) (v : Spec) (f : ℕ) → f ≡ length front + 1 → SpecFits v → spec_at (front ++ (spec_octets v ++ after)) f ≡ v
spec_at-front front after v f is_place fits =
    let xs = spec_octets v ++ after in
    same_spec _ _ _ _ _ _ v.process v.increment_type v.unit v.length v.increment_unit v.increment
    (octets-behind front xs f f 1 1 (omega arith) (omega arith) (omega arith) ∙ num_on-octets_of 1 v.process fits.process)
    (octets-behind front xs (f + 1) (f + 1) 2 2 (omega arith) (omega arith) (omega arith) ∙ num_on-octets_of 1 v.increment_type fits.increment_type)
    (octets-behind front xs (f + 2) (f + 2) 3 3 (omega arith) (omega arith) (omega arith) ∙ num_on-octets_of 1 v.unit fits.unit)
    (octets-behind front xs (f + 3) (f + 6) 4 7 (omega arith) (omega arith) (omega arith) ∙ num_on-octets_of 4 v.length fits.length)
    (octets-behind front xs (f + 7) (f + 7) 8 8 (omega arith) (omega arith) (omega arith) ∙ num_on-octets_of 1 v.increment_unit fits.increment_unit)
    (octets-behind front xs (f + 8) (f + 11) 9 12 (omega arith) (omega arith) (omega arith) ∙ num_on-octets_of 4 v.increment fits.increment)

pub specs_octets-append : (xs ys : List Spec) → specs_octets (xs ++ ys) ≡ specs_octets xs ++ specs_octets ys
specs_octets-append [] ys = refl
specs_octets-append (x ∷ xs) ys =
    ap (λ (zs : List ℕ). spec_octets x ++ zs) (specs_octets-append xs ys)

pub specs_octets-more : (specs : List Spec) (k : ℕ) (d : Spec) → k < length specs → specs_octets (take (k + 1) specs) ≡ specs_octets (take k specs) ++ spec_octets (get_or specs k d)
specs_octets-more specs k d within =
    ap specs_octets (take_more specs k d within) ∙ specs_octets-append (take k specs) (get_or specs k d ∷ [])

pub length-specs_octets : (specs : List Spec) → length (specs_octets specs) ≡ 12 * length specs
length-specs_octets [] = refl
length-specs_octets (x ∷ specs) = omega (arith, length-specs_octets specs)

pub spec_at-behind : (front after : List ℕ) (specs : List Spec) (f k : ℕ) (d : Spec) → f ≡ length front + 1 → ((k : ℕ) → k < length specs → SpecFits (get_or specs k d)) → k < length specs
    → spec_at (front ++ (specs_octets specs ++ after)) (f + 12 * k) ≡ get_or specs k d
spec_at-behind front after [] f k d is_place fit within = absurd (omega arith)
spec_at-behind front after (x ∷ specs) f zero d is_place fit within =
    let first : f + 12 * 0 ≡ f = omega arith in
    let joined : spec_octets x ++ specs_octets specs ++ after ≡ spec_octets x ++ (specs_octets specs ++ after) = refl in
    ap (λ (p : ℕ). spec_at (front ++ (specs_octets (x ∷ specs) ++ after)) p) first
    ∙ spec_at-front front (specs_octets specs ++ after) x f is_place (fit 0 (omega arith))
spec_at-behind front after (x ∷ specs) f (suc k) d is_place fit within =
    let longer = front ++ spec_octets x in
    let place : f + 12 ≡ length longer + 1 = omega (arith, length-append front (spec_octets x)) in
    let rest = spec_at-behind longer after specs (f + 12) k d place (λ j h. fit (suc j) (omega arith)) (omega arith) in
    let first : f + 12 * suc k ≡ f + 12 + 12 * k = omega arith in
    let joined : front ++ (spec_octets x ++ (specs_octets specs ++ after)) ≡ longer ++ (specs_octets specs ++ after) = sym (append_assoc front (spec_octets x) (specs_octets specs ++ after)) in
    ap (λ (zs : List ℕ). spec_at zs (f + 12 * suc k)) joined ∙ ap (λ (p : ℕ). spec_at (longer ++ (specs_octets specs ++ after)) p) first ∙ rest

-- they are read again as they were written
pub specs_at-behind : (front after : List ℕ) (specs : List Spec) (first : ℕ) (d : Spec) → ((k : ℕ) → k < length specs → SpecFits (get_or specs k d)) → first ≡ length front + 1
    → specs ≡ specs_at (front ++ (specs_octets specs ++ after)) first (length specs)
specs_at-behind front after specs first d fits place =
    fill_by_all (λ (k : ℕ). spec_at (front ++ (specs_octets specs ++ after)) (first + 12 * k)) specs (length specs) d refl
    (λ k below. sym (spec_at-behind front after specs first k d place fits below))
