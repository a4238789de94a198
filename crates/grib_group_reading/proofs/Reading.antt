-- Lemmas on lists of groups that were read whole.
use Rattle.std.proofs.Common.{◌≡◌, ℕ, ◌+◌, ◌-◌, ◌*◌, ◌≤◌, Bool, List, [], ◌∷◌, ◌++◌, length, map, vec_capacity, slice_set, sym, ap, ap₂, ◌∙◌, arith, subst}
use Rattle.std.proofs.lemmas.List.{length-map, map-append, set_at}
use Rattle.grib_bits.specs.Plain.{plain, plain_at}
use Rattle.grib_base.specs.declared.code.Code.TheVariants.{Present}
use Rattle.grib_packing.proofs.Fields.{plain_more, length-plain}
use Rattle.grib_group_reading.specs.declared.lists.References.{References}
use Rattle.grib_group_reading.specs.declared.lists.Widths.{Widths}
use Rattle.grib_group_reading.specs.declared.lists.Lengths.{Lengths}
use Rattle.grib_group_reading.specs.Lists.{ReferencesTook, WidthsAre, WidthsTook, LengthsAre, LengthsTook, LengthAdded}
use Rattle.grib_group_reading.proofs.Coded.{numbers_present, widths_present, lengths_present}

pub references_read : (before after : References) (ns : List ℕ) → before.items.items ≡ [] → length ns ≤ vec_capacity before.items → ReferencesTook before (map Present ns) after
    → after.items.items ≡ ns
references_read before after ns empty room took =
    let grown = took (omega (arith, ap length empty, length-map ns Present)) in
    grown.items ∙ ap₂ (λ (xs ys : List ℕ). xs ++ ys) empty (numbers_present ns)

pub widths_read : (before after : Widths) (reference : ℕ) (ns : List ℕ) → before.reference ≡ reference → WidthsAre before [] → length ns ≤ vec_capacity before.items
    → WidthsTook before (map Present ns) after → WidthsAre after (map (λ coded. reference + coded) ns)
widths_read before after reference ns is_reference are room took =
    let here = took.read [] (omega (arith, length-map ns Present)) are in
    let numbers = widths_present before.reference ns ∙ ap (λ (r : ℕ). map (λ coded. r + coded) ns) is_reference in
    subst (λ (xs : List ℕ). WidthsAre after xs) numbers here

-- the lengths of all groups but the last, and then that of the last
pub lengths_read : (values : ℕ) (before between after : Lengths) (reference increment last : ℕ) (ns : List ℕ) → before.reference ≡ reference → before.increment ≡ increment
    → LengthsAre values before [] → length ns + 1 ≤ vec_capacity before.items → LengthsTook before (map Present ns) between → LengthAdded between last after
    → LengthsAre values after (map (λ n. reference + increment * n) ns ++ last ∷ [])
lengths_read values before between after reference increment last ns is_reference is_increment are room took added =
    let read = map (λ (n : ℕ). reference + increment * n) ns in
    let numbers = lengths_present before.reference before.increment ns ∙ ap₂ (λ (r i : ℕ). map (λ n. r + i * n) ns) is_reference is_increment in
    let here = subst (λ (xs : List ℕ). LengthsAre values between xs) numbers (took.read values [] (omega (arith, length-map ns Present)) are) in
    added.read values read (omega (arith, length-map ns (λ (n : ℕ). reference + increment * n), took.same.capacity)) here

-- the last number of a list gives way
pub last_set : (f : ℕ → ℕ) (xs : List Bool) (width count last : ℕ) → 1 ≤ count
    → map f (plain xs width (count - 1)) ++ last ∷ [] ≡ slice_set (map f (plain xs width count)) (count - 1) last
last_set f xs width count last some =
    let before = count - 1 in
    let whole : before + 1 ≡ count = omega arith in
    let all : map f (plain xs width count) ≡ map f (plain xs width before) ++ f (plain_at xs width before) ∷ [] =
    ap (λ (n : ℕ). map f (plain xs width n)) (sym whole) ∙ ap (map f) (plain_more xs width before) ∙ map-append f (plain xs width before) (plain_at xs width before ∷ []) in
    sym (ap (λ (ys : List ℕ). slice_set ys before last) all
    ∙ set_at (map f (plain xs width before)) (f (plain_at xs width before)) [] last before (length-map (plain xs width before) f ∙ length-plain xs width before))
