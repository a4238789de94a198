-- Lemmas on the sections that a packing writes.
use Rattle.std.proofs.Common.{◌≡◌, ◌⊎◌, ℕ, ◌+◌, ◌*◌, ◌^◌, ◌<◌, ◌≤◌, Bool, true, false, cond, None, List, [], ◌∷◌, ◌++◌, length, take, drop, replicate, append_assoc, All, inl, inr, refl, sym, ap, ◌∙◌, arith, subst, pow_mono}
use Rattle.std.specs.List.{list_any}
use Rattle.std.proofs.lemmas.List.{length-take}
use Rattle.std.proofs.lemmas.List.Elements.{All-nil, All-cons, All-take, All-drop}
use Rattle.grib_bits.specs.Bits.{bits, bits_of, num}
use Rattle.grib_bits.specs.Octets.{StatesItself, num_on}
use Rattle.grib_bits.proofs.Numbers.{num-lt}
use Rattle.grib_bits.proofs.OctetBits.{length-bits, num_on-bits}
use Rattle.grib_bitmap.specs.Mask.{bitmap_indicator}
use Rattle.grib_packing.specs.declared.column.Column.{Column}
use Rattle.grib_packing.specs.declared.column.Point.{Point}
use Rattle.grib_packing.specs.Misfits.{Target, ToSimple, ToComplex, ToSpatial, ToCoded, is_missing, template_of}
use Rattle.grib_packing.specs.Packed.{HasContents, IsBitmap, IsSimple, IsComplex, IsSpatial, IsCoded, padded, no_bitmap_section, present_bits, Packed as HasPacked}
use Rattle.grib_bits.specs.Written.{padding}
use Rattle.grib_base.specs.declared.profile.Profile.{Profile}
use Rattle.grib_base.specs.declared.profile.Profile.TheVariants.{Stated, Open}
use Rattle.grib_packing.specs.Entries.{is_stated_packing, packing_fault, packing_fault_under, packing_of}
use Rattle.grib_packing.specs.Packing.{packing_template}
use Rattle.grib_packing.proofs.OpaquePackings.{accepted_open, accepted_stated}
use Rattle.grib_repack.specs.Repacked.{HasPacking}
use Rattle.grib_packing.proofs.Left.{padding-behind}
use Rattle.grib_packing.proofs.Sections.{AreOctets-all, front_is}

-- a section that states itself has fewer than 2 ^ 32 octets
short_itself : (number : ℕ) (s : List ℕ) → StatesItself number s → All (λ octet. octet < 256) s → length s < 2 ^ 32
short_itself number s itself each =
    let four = take 4 s in
    let value : num_on 0 four ≡ 0 * 256 ^ length four + num (bits four) = num_on-bits 0 four (AreOctets-all four (All-take (λ octet. octet < 256) 4 s each)) in
    let count : length (bits four) ≤ 32 = omega (arith, length-bits four, length-take 4 s) in
    let power : 2 ^ length (bits four) ≤ 2 ^ 32 = pow_mono count in
    let none : 0 * 256 ^ length four ≡ 0 = omega arith in
    omega (arith, itself.length_stands, value, none, num-lt (bits four), power)

-- Sections 5, 6 and 7, each with its length and number, which are short; Section 6 repeats no earlier one
pub record AreWritten (s5 s6 s7 : List ℕ) : Type 0 where
  pub itself_5 : StatesItself 5 s5
  pub itself_6 : StatesItself 6 s6
  pub itself_7 : StatesItself 7 s7
  pub alone : (bitmap_indicator s6 ≡ 0) ⊎ (bitmap_indicator s6 ≡ 255)
  pub short_5 : length s5 < 2 ^ 32
  pub short_6 : length s6 < 2 ^ 32
  pub short_7 : length s7 < 2 ^ 32

-- the first octet of the contents of a Section 6
indicator_is : (s : List ℕ) (first : ℕ) (rest : List Bool) → HasContents 6 s (bits_of 8 first ++ rest) → first < 256 → bitmap_indicator s ≡ first
indicator_is s first rest h small =
    let behind : bits (drop 5 s) ≡ bits (first ∷ []) ++ padded rest =
    h.contents_stand
    ∙ ap (λ (n : ℕ). (bits_of 8 first ++ rest) ++ replicate n false) (padding-behind (bits_of 8 first) rest refl)
    ∙ append_assoc (bits_of 8 first) rest (replicate (padding rest) false) in
    let begins : drop 5 s ≡ (first ∷ []) ++ drop 1 (drop 5 s) =
    front_is (drop 5 s) (first ∷ []) (padded rest) (All-drop (λ octet. octet < 256) 5 s h.are_octets)
    (All-cons (λ octet. octet < 256) first [] small (All-nil (λ octet. octet < 256))) behind in
    let number = ap (λ (xs : List ℕ). num_on 0 (take 1 xs)) begins in omega (arith, number)

bitmap_alone : (s : List ℕ) (points : List Point) → IsBitmap s points → (bitmap_indicator s ≡ 0) ⊎ (bitmap_indicator s ≡ 255)
bitmap_alone s points h = go (list_any is_missing points) h where
  go : (b : Bool) → HasContents 6 s (cond b (bits_of 8 0 ++ present_bits points) (bits_of 8 255)) → (bitmap_indicator s ≡ 0) ⊎ (bitmap_indicator s ≡ 255)
  go true h = inl (indicator_is s 0 (present_bits points) h (omega arith))
  go false h = inr (indicator_is s 255 [] h (omega arith))

simple_written : (column : Column) (kind : ℕ) (s5 s6 s7 : List ℕ) → IsSimple column kind s5 s6 s7 → AreWritten s5 s6 s7
simple_written column kind s5 s6 s7 h = record {
  itself_5 = h.numbers.itself;
  itself_6 = h.bitmap.itself;
  itself_7 = h.values.itself;
  alone = bitmap_alone s6 column.points h.bitmap;
  short_5 = short_itself 5 s5 h.numbers.itself h.numbers.are_octets;
  short_6 = short_itself 6 s6 h.bitmap.itself h.bitmap.are_octets;
  short_7 = short_itself 7 s7 h.values.itself h.values.are_octets;
}

-- the section that says that there is no bitmap
no_bitmap_itself : (s : List ℕ) → s ≡ no_bitmap_section → StatesItself 6 s
no_bitmap_itself s is = subst (StatesItself 6) (sym is) (record { length_stands = refl; least = omega arith; number_stands = refl })

no_bitmap_alone : (s : List ℕ) → s ≡ no_bitmap_section → (bitmap_indicator s ≡ 0) ⊎ (bitmap_indicator s ≡ 255)
no_bitmap_alone s is = inr (ap bitmap_indicator is)

complex_written : (column : Column) (kind : ℕ) (s5 s6 s7 : List ℕ) → IsComplex column kind s5 s6 s7 → AreWritten s5 s6 s7
complex_written column kind s5 s6 s7 h = record {
  itself_5 = h.numbers.itself;
  itself_6 = no_bitmap_itself s6 h.bitmap;
  itself_7 = h.values.itself;
  alone = no_bitmap_alone s6 h.bitmap;
  short_5 = short_itself 5 s5 h.numbers.itself h.numbers.are_octets;
  short_6 = omega (arith, ap length h.bitmap);
  short_7 = short_itself 7 s7 h.values.itself h.values.are_octets;
}

spatial_written : (order : ℕ) (column : Column) (kind : ℕ) (s5 s6 s7 : List ℕ) → IsSpatial order column kind s5 s6 s7 → AreWritten s5 s6 s7
spatial_written order column kind s5 s6 s7 h = record {
  itself_5 = h.numbers.itself;
  itself_6 = no_bitmap_itself s6 h.bitmap;
  itself_7 = h.values.itself;
  alone = no_bitmap_alone s6 h.bitmap;
  short_5 = short_itself 5 s5 h.numbers.itself h.numbers.are_octets;
  short_6 = omega (arith, ap length h.bitmap);
  short_7 = short_itself 7 s7 h.values.itself h.values.are_octets;
}

coded_written : (block interval : ℕ) (column : Column) (kind : ℕ) (s5 s6 s7 : List ℕ) → IsCoded block interval column kind s5 s6 s7 → AreWritten s5 s6 s7
coded_written block interval column kind s5 s6 s7 h = record {
  itself_5 = h.numbers.itself;
  itself_6 = h.bitmap.itself;
  itself_7 = h.values.itself;
  alone = bitmap_alone s6 column.points h.bitmap;
  short_5 = short_itself 5 s5 h.numbers.itself h.numbers.are_octets;
  short_6 = short_itself 6 s6 h.bitmap.itself h.bitmap.are_octets;
  short_7 = short_itself 7 s7 h.values.itself h.values.are_octets;
}

pub are_written : (target : Target) (column : Column) (kind : ℕ) (s5 s6 s7 : List ℕ) → HasPacked target column kind s5 s6 s7 → AreWritten s5 s6 s7
are_written ToSimple column kind s5 s6 s7 h = simple_written column kind s5 s6 s7 h
are_written ToComplex column kind s5 s6 s7 h = complex_written column kind s5 s6 s7 h
are_written (ToSpatial order) column kind s5 s6 s7 h = spatial_written order column kind s5 s6 s7 h
are_written (ToCoded block interval) column kind s5 s6 s7 h = coded_written block interval column kind s5 s6 s7 h

-- ---- their packing

pub template_stands : (target : Target) (column : Column) (kind : ℕ) (s5 s6 s7 : List ℕ) → HasPacked target column kind s5 s6 s7 → packing_template s5 ≡ template_of target
template_stands ToSimple column kind s5 s6 s7 has = has.numbers.template_stands
template_stands ToComplex column kind s5 s6 s7 has = has.numbers.template_stands
template_stands (ToSpatial order) column kind s5 s6 s7 has = has.numbers.template_stands
template_stands (ToCoded block interval) column kind s5 s6 s7 has = has.numbers.template_stands

stated_target : (target : Target) → HasPacking Stated target → (packing_of (template_of target)).stated ≡ true
stated_target ToSimple has = refl
stated_target ToComplex has = refl
stated_target (ToSpatial order) has = refl
stated_target (ToCoded block interval) has = absurd has

-- a Section 5 that no rule refuses is accepted by a profile that has its packing
pub accepted_under : (profile : Profile) (target : Target) (column : Column) (kind : ℕ) (s5 s6 s7 : List ℕ) (points : ℕ) → HasPacking profile target
    → HasPacked target column kind s5 s6 s7 → packing_fault s5 points ≡ None → packing_fault_under profile s5 points ≡ None
accepted_under Open target column kind s5 s6 s7 points own has none = accepted_open s5 points none
accepted_under Stated target column kind s5 s6 s7 points own has none =
    let stated : is_stated_packing s5 ≡ true = ap (λ (t : ℕ). (packing_of t).stated) (template_stands target column kind s5 s6 s7 has) ∙ stated_target target own in
    accepted_stated Stated s5 points stated none
