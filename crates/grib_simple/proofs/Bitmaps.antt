-- Bitmaps that were written, as they are read.
use Rattle.std.proofs.Common.{◌≡◌, ℕ, ◌+◌, ◌*◌, ◌<◌, ◌==◌, ◌&&◌, Bool, true, false, not, cond, Option, Some, None, is_none, unwrap_or, nat_lt, List, [], ◌∷◌, ◌++◌, length, take, drop, replicate, refl, sym, ap, ◌∙◌, arith, le-ltb, eq-eqb, append_assoc}
use Rattle.std.specs.List.{list_any}
use Rattle.std.proofs.lemmas.List.{length-append, length-map, length-drop, drop-drop, take_at}
use Rattle.std.proofs.lemmas.List.Elements.{All-nil, All-cons, All-drop}
use Rattle.grib_bits.specs.Bits.{bits, bits_of}
use Rattle.grib_bits.specs.Octets.{num_on}
use Rattle.grib_bits.specs.Written.{padding}
use Rattle.grib_bits.proofs.OctetBits.{length-bits}
use Rattle.grib_base.specs.declared.fault.Fault.{Fault}
use Rattle.grib_base.specs.Rules.{first_fault}
use Rattle.grib_bitmap.specs.Mask.{bitmap_indicator, bitmap_rules, mask_of, own_mask, present_count}
use Rattle.grib_bitmap.proofs.Runs.{present_count-cons}
use Rattle.grib_packing.specs.declared.column.Point.{Point}
use Rattle.grib_packing.specs.declared.column.Point.TheVariants.{Scaled, Missing, Missing2}
use Rattle.grib_packing.specs.Misfits.{is_missing, is_missing2}
use Rattle.grib_packing.specs.Packed.{HasContents, IsBitmap, padded, present_bits, simple_numbers}
use Rattle.grib_packing.proofs.Fields.{segment}
use Rattle.grib_packing.proofs.Left.{padding-behind}
use Rattle.grib_packing.proofs.Sections.{front_is}

-- ---- which points are present

pub all_present : (points : List Point) → list_any is_missing points ≡ false → present_bits points ≡ replicate (length points) true
all_present [] none = refl
all_present (Scaled x ∷ points) none = ap (λ (bs : List Bool). true ∷ bs) (all_present points none)
all_present (Missing ∷ points) none = absurd (cc)
all_present (Missing2 ∷ points) none = ap (λ (bs : List Bool). true ∷ bs) (all_present points none)

pub count_present : (points : List Point) → list_any is_missing2 points ≡ false → present_count (present_bits points) ≡ length (simple_numbers points)
count_present [] none = refl
count_present (Scaled x ∷ points) none = omega (arith, count_present points none, present_count-cons true (present_bits points))
count_present (Missing ∷ points) none = omega (arith, count_present points none, present_count-cons false (present_bits points))
count_present (Missing2 ∷ points) none = absurd (cc)

-- ---- the first octet of the contents

module _ (s : List ℕ) (first : ℕ) (rest : List Bool) (h : HasContents 6 s (bits_of 8 first ++ rest)) (small : first < 256) where
  behind : bits (drop 5 s) ≡ bits (first ∷ []) ++ padded rest
  behind =
      h.contents_stand
      ∙ ap (λ (n : ℕ). (bits_of 8 first ++ rest) ++ replicate n false) (padding-behind (bits_of 8 first) rest refl)
      ∙ append_assoc (bits_of 8 first) rest (replicate (padding rest) false)

  begins : drop 5 s ≡ (first ∷ []) ++ drop 1 (drop 5 s)
  begins =
      front_is (drop 5 s) (first ∷ []) (padded rest) (All-drop (λ octet. octet < 256) 5 s h.are_octets)
      (All-cons (λ octet. octet < 256) first [] small (All-nil (λ octet. octet < 256))) behind

-- A second block, since these use the lemmas above.
module _ (s : List ℕ) (first : ℕ) (rest : List Bool) (h : HasContents 6 s (bits_of 8 first ++ rest)) (small : first < 256) where
  pub indicator_is : bitmap_indicator s ≡ first
  indicator_is = let number = ap (λ (xs : List ℕ). num_on 0 (take 1 xs)) (begins s first rest h small) in omega (arith, number)

  pub mask_bits : bits (drop 6 s) ≡ padded rest
  mask_bits = ap bits (sym (drop-drop 1 5 s)) ∙ segment (drop 5 s) (bits (first ∷ [])) (padded rest) 1 (behind s first rest h small) refl

  pub octets_are : 8 * length s ≡ 48 + length (padded rest)
  octets_are =
      omega (arith, length-bits (drop 5 s), ap length (behind s first rest h small), length-append (bits (first ∷ [])) (padded rest), length-drop 5 s, h.itself.least)

-- ---- the rules

none_of_six : (a b c d e f : Bool) (fa fb fc fd fe ff : Fault) → a ≡ false → b ≡ false → c ≡ false → d ≡ false → e ≡ false → f ≡ false
    → cond a (Some fa) (cond b (Some fb) (cond c (Some fc) (cond d (Some fd) (cond e (Some fe) (cond f (Some ff) None))))) ≡ None
none_of_six a b c d e f fa fb fc fd fe ff ea eb ec ed ee ef = rw (ea, eb, ec, ed, ee, ef) refl

module _ (points : List Point) (s : List ℕ) (values : ℕ) (earlier : Option (List Bool)) (none : list_any is_missing2 points ≡ false) (is_values : values ≡ length (simple_numbers points)) where
  counted : (mask : List Bool) → mask ≡ present_bits points → not (present_count mask == values) ≡ false
  counted mask is = ap not (eq-eqb (present_count mask) values (ap present_count is ∙ count_present points none ∙ sym is_values))

  full : list_any is_missing points ≡ false → HasContents 6 s (bits_of 8 255 ++ [])
      → (mask_of s (length points) earlier ≡ present_bits points) × (first_fault (bitmap_rules s (length points) values earlier) ≡ None)
  full no_mark h =
      let is : bitmap_indicator s ≡ 255 = indicator_is s 255 [] h (omega arith) in
      let long = octets_are s 255 [] h (omega arith) in
      let mask : mask_of s (length points) earlier ≡ present_bits points = rw is (sym (all_present points no_mark)) in (
        mask,
        none_of_six _ _ _ _ _ _ _ _ _ _ _ _ (le-ltb (length s) 6 (omega arith)) (ap (λ i. nat_lt 0 i && nat_lt i 254) is) (ap (λ i. (i == 254) && is_none earlier) is)
            (ap (λ i. (i == 0) && nat_lt (8 * length s) (length points + 48)) is) (ap (λ i. (i == 254) && not (length (unwrap_or earlier []) == length points)) is) (counted _ mask),
      )

  own : HasContents 6 s (bits_of 8 0 ++ present_bits points)
      → (mask_of s (length points) earlier ≡ present_bits points) × (first_fault (bitmap_rules s (length points) values earlier) ≡ None)
  own h =
      let bs = present_bits points in
      let count : length bs ≡ length points = length-map points (λ point. not (is_missing point)) in
      let is : bitmap_indicator s ≡ 0 = indicator_is s 0 bs h (omega arith) in
      let long = octets_are s 0 bs h (omega arith) in
      let mine : own_mask s (length points) ≡ bs =
      ap (take (length points)) (mask_bits s 0 bs h (omega arith)) ∙ take_at bs (replicate (padding bs) false) (length points) count in
      let mask : mask_of s (length points) earlier ≡ bs = rw is mine in (
        mask,
        none_of_six _ _ _ _ _ _ _ _ _ _ _ _ (le-ltb (length s) 6 (omega (arith, long, length-append bs (replicate (padding bs) false))))
            (ap (λ i. nat_lt 0 i && nat_lt i 254) is) (ap (λ i. (i == 254) && is_none earlier) is)
            (ap (λ i. (i == 0) && nat_lt (8 * length s) (length points + 48)) is
            ∙ le-ltb (8 * length s) (length points + 48) (omega (arith, long, length-append bs (replicate (padding bs) false), count)))
            (ap (λ i. (i == 254) && not (length (unwrap_or earlier []) == length points)) is) (counted _ mask),
      )

module _ (points : List Point) (s : List ℕ) (values : ℕ) (earlier : Option (List Bool)) (none : list_any is_missing2 points ≡ false) (is_values : values ≡ length (simple_numbers points)) (h : IsBitmap s points) where
  pub bitmap_reads : (mask_of s (length points) earlier ≡ present_bits points) × (first_fault (bitmap_rules s (length points) values earlier) ≡ None)
  bitmap_reads = go (list_any is_missing points) refl h where
    go : (b : Bool) → list_any is_missing points ≡ b → HasContents 6 s (cond b (bits_of 8 0 ++ present_bits points) (bits_of 8 255))
        → (mask_of s (length points) earlier ≡ present_bits points) × (first_fault (bitmap_rules s (length points) values earlier) ≡ None)
    go true e h = own points s values earlier none is_values h
    go false e h = full points s values earlier none is_values e h
