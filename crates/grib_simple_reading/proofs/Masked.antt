-- Lemmas on points that a mask leaves out or has, run by run.
use Rattle.std.proofs.Common.{◌≡◌, ℕ, zero, suc, ◌+◌, ◌-◌, ◌≤◌, Bool, true, false, cond, List, [], ◌∷◌, ◌++◌, length, drop, map, replicate, refl, sym, ap, ap₂, ◌∙◌, arith, append_assoc}
use Rattle.std.proofs.lemmas.List.{append-nil, drop_at, drop-map, map-append, length-map}
use Rattle.std.proofs.lemmas.List.FromFn.{length-map-range_with_len}
use Rattle.grib_bits.specs.Plain.{plain, plain_at}
use Rattle.grib_bitmap.specs.Mask.{present_count}
use Rattle.grib_bitmap.proofs.Runs.{present_count-run, all_present}
use Rattle.grib_packing.specs.Column.{points_with_mask}
use Rattle.grib_packing.proofs.Masks.{with_mask_missing}
use Rattle.grib_packing.specs.declared.column.Point.{Point}
use Rattle.grib_packing.specs.declared.column.Point.TheVariants.{Missing}
use Rattle.grib_simple_reading.specs.Part.{plain_from}
use Rattle.grib_simple_reading.proofs.Unpacking.{plain_from-append}

-- a run of points that are present takes as many entries
pub with_mask_present : (n : ℕ) (rest : List Bool) (xs ys : List Point) → length xs ≡ n
    → points_with_mask (replicate n true ++ rest) (xs ++ ys) ≡ xs ++ points_with_mask rest ys
with_mask_present zero rest [] ys e = refl
with_mask_present zero rest (x ∷ xs) ys e = absurd (omega arith)
with_mask_present (suc n) rest [] ys e = absurd (omega arith)
with_mask_present (suc n) rest (x ∷ xs) ys e = ap (λ (zs : List Point). x ∷ zs) (with_mask_present n rest xs ys (omega arith))

-- where no point is left out, the entries are the points
pub with_mask_all : (n : ℕ) (entries : List Point) → length entries ≡ n → points_with_mask (replicate n true) entries ≡ entries
with_mask_all n entries e =
    ap (λ (mask : List Bool). points_with_mask mask entries) (sym (append-nil (replicate n true)))
    ∙ ap (points_with_mask (replicate n true ++ [])) (sym (append-nil entries))
    ∙ with_mask_present n [] entries [] e ∙ append-nil entries

-- ---- one run more

module _ (mask : List Bool) (entries : List Point) (place taken n : ℕ) (present : Bool) (old new : List Point) (same : drop place mask ≡ replicate n present ++ drop (place + n) mask) (before : old ++ points_with_mask (drop place mask) (drop taken entries) ≡ points_with_mask mask entries) where
  pub run_of_points : present ≡ true → (part : List Point) → length part ≡ n → drop taken entries ≡ part ++ drop (taken + n) entries → new ≡ old ++ part
      → new ++ points_with_mask (drop (place + n) mask) (drop (taken + n) entries) ≡ points_with_mask mask entries
  run_of_points is_present part long split is_new =
      let rest = drop (place + n) mask in
      let later = drop (taken + n) entries in
      ap (λ (xs : List Point). xs ++ points_with_mask rest later) is_new
      ∙ append_assoc old part (points_with_mask rest later)
      ∙ ap (λ (xs : List Point). old ++ xs)
      (sym (with_mask_present n rest part later long)
      ∙ ap₂ points_with_mask (sym (same ∙ ap (λ (b : Bool). replicate n b ++ rest) is_present)) (sym split))
      ∙ before

  pub run_of_missing : present ≡ false → new ≡ old ++ replicate n Missing
      → new ++ points_with_mask (drop (place + n) mask) (drop taken entries) ≡ points_with_mask mask entries
  run_of_missing is_missing is_new =
      let rest = drop (place + n) mask in
      let later = drop taken entries in
      ap (λ (xs : List Point). xs ++ points_with_mask rest later) is_new
      ∙ append_assoc old (replicate n Missing) (points_with_mask rest later)
      ∙ ap (λ (xs : List Point). old ++ xs)
      (sym (with_mask_missing n rest later)
      ∙ ap (λ (ys : List Bool). points_with_mask ys later) (sym (same ∙ ap (λ (b : Bool). replicate n b ++ rest) is_missing)))
      ∙ before

-- how many points are present from there on
pub present_after : (mask : List Bool) (place n : ℕ) (present : Bool) → drop place mask ≡ replicate n present ++ drop (place + n) mask
    → present_count (drop place mask) ≡ cond present n 0 + present_count (drop (place + n) mask)
present_after mask place n present same = ap present_count same ∙ present_count-run n present (drop (place + n) mask)

-- the entries from the one at `taken` on
pub entries_part : (f : ℕ → Point) (xs : List Bool) (width count taken n : ℕ) → taken + n ≤ count
    → drop taken (map f (plain xs width count)) ≡ map f (plain_from xs width taken n) ++ drop (taken + n) (map f (plain xs width count))
entries_part f xs width count taken n within =
    let rest = count - (taken + n) in
    let whole : taken + (n + rest) ≡ count = omega arith in
    let whole' : (taken + n) + rest ≡ count = omega arith in
    let first : taken ≡ 0 + taken = omega arith in
    let first' : taken + n ≡ 0 + (taken + n) = omega arith in
    let from : drop taken (plain xs width count) ≡ plain_from xs width taken (n + rest) =
    ap (λ (k : ℕ). drop taken (plain_from xs width 0 k)) (sym whole)
    ∙ ap (drop taken) (plain_from-append xs width 0 taken (n + rest) ∙ ap (λ (a : ℕ). plain_from xs width 0 taken ++ plain_from xs width a (n + rest)) (sym first))
    ∙ drop_at (plain_from xs width 0 taken) (plain_from xs width taken (n + rest)) taken (length-map-range_with_len (plain_at xs width) 0 taken) in
    let later : drop (taken + n) (plain xs width count) ≡ plain_from xs width (taken + n) rest =
    ap (λ (k : ℕ). drop (taken + n) (plain_from xs width 0 k)) (sym whole')
    ∙ ap (drop (taken + n)) (plain_from-append xs width 0 (taken + n) rest ∙ ap (λ (a : ℕ). plain_from xs width 0 (taken + n) ++ plain_from xs width a rest) (sym first'))
    ∙ drop_at (plain_from xs width 0 (taken + n)) (plain_from xs width (taken + n) rest) (taken + n) (length-map-range_with_len (plain_at xs width) 0 (taken + n)) in
    drop-map f taken (plain xs width count)
    ∙ ap (map f) (from ∙ plain_from-append xs width taken n rest)
    ∙ map-append f (plain_from xs width taken n) (plain_from xs width (taken + n) rest)
    ∙ ap (λ (ys : List Point). map f (plain_from xs width taken n) ++ ys) (ap (map f) (sym later) ∙ sym (drop-map f (taken + n) (plain xs width count)))

-- numbers as entries of a mask that leaves out nothing
pub with_full_mask : (mask : List Bool) (f : ℕ → Point) (xs : List Bool) (width values : ℕ) → present_count mask ≡ values → values ≡ length mask
    → points_with_mask mask (map f (plain xs width values)) ≡ map f (plain xs width values)
with_full_mask mask f xs width values present full =
    let entries = map f (plain xs width values) in
    let all : mask ≡ replicate values true = all_present mask (present ∙ full) ∙ ap (λ (n : ℕ). replicate n true) (sym full) in
    ap (λ (m : List Bool). points_with_mask m entries) all
    ∙ with_mask_all values entries (length-map (plain xs width values) f ∙ length-map-range_with_len (plain_at xs width) 0 values)
