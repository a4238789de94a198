-- How the codes of a field are cut into groups. Which of the valid groupings is written is a choice of
-- ours; templates 5.2 and 7.2 (WMO-No. 306, Volume I.2, FM 92 GRIB edition 2) allow any.
use Rattle.std.specs.Prelude.{◌≡◌, ℕ, ◌+◌, ◌-◌, ◌*◌, ◌^◌, ◌≤◌, max, min, Bool, true, false, ◌&&◌, ◌||◌, cond, List, [], ◌∷◌, ◌++◌, length, take, drop, nat_lt, ◌==◌, sum, slice_index, All}
use Rattle.std.specs.List.{range_with_len, filter_map, list_all}
use Rattle.grib_base.specs.Rules.{first_place}
use Rattle.grib_base.specs.declared.code.Code.{Code}
use Rattle.grib_base.specs.declared.code.Code.TheVariants.{Present, Primary, Secondary}
use Rattle.grib_packing.specs.Entries.{present_code}

-- the number of binary digits of a number below 2 ^ 64, 0 for 0: the least w with n < 2 ^ w
abbrev pub digits : ℕ → ℕ
digits n = first_place (λ w. nat_lt n (2 ^ w)) (range_with_len 0 65) - 1

-- The greatest and the least of some numbers, 0 for none.
abbrev pub greatest : List ℕ → ℕ
greatest [] = 0
greatest (x ∷ xs) = max x (greatest xs)

abbrev pub smallest : List ℕ → ℕ
smallest [] = 0
smallest (x ∷ []) = x
smallest (x ∷ y ∷ xs) = min x (smallest (y ∷ xs))

abbrev pub present_codes : List Code → List ℕ
present_codes run = filter_map present_code run

abbrev pub is_primary : Code → Bool
is_primary (Present n) = false
is_primary Primary = true
is_primary Secondary = false

abbrev pub is_secondary : Code → Bool
is_secondary (Present n) = false
is_secondary Primary = false
is_secondary Secondary = true

abbrev pub is_present : Code → Bool
is_present (Present n) = true
is_present Primary = false
is_present Secondary = false

-- whether all codes of a run are the same: one number, or all primary, or all secondary
abbrev pub is_uniform : List Code → Bool
is_uniform run =
    list_all is_primary run || list_all is_secondary run
    || (list_all is_present run && (greatest (present_codes run) == smallest (present_codes run)))

-- The width of a run as a group, in bits, where k codes are reserved for missing points: 0 where all its
-- codes are the same, 1 where it has primary and secondary codes only, else the least that holds the
-- greatest difference of its numbers and the reserved codes, which a run without missing points has too.
abbrev pub width_of : ℕ → List Code → ℕ
width_of k run =
    let numbers = present_codes run in
    cond (is_uniform run) 0 (cond (length numbers == 0) 1 (digits (greatest numbers - smallest numbers + k)))

-- the bits of references: the least that hold the greatest number and the reserved codes
abbrev pub reference_bits_of : ℕ → List Code → ℕ
reference_bits_of k codes = digits (greatest (present_codes codes) + k)

-- the bits of widths: those of the width that all codes would have as one group
abbrev pub width_bits_of : ℕ → List Code → ℕ
width_bits_of k codes = digits (width_of k codes)

-- the bits of a coded length, which is the length less 1
abbrev pub length_bits : ℕ
length_bits = 6

-- the bits that a group takes beside its numbers
abbrev pub header_bits : ℕ → List Code → ℕ
header_bits k codes = reference_bits_of k codes + width_bits_of k codes + length_bits

-- a list cut into runs of these lengths
abbrev pub runs : {A : Type 0} → List ℕ → List A → List (List A)
runs [] xs = []
runs (n ∷ ns) xs = take n xs ∷ runs ns (drop n xs)

-- and lists joined one after another
abbrev pub joined : {A : Type 0} → List (List A) → List A
joined [] = []
joined (xs ∷ rest) = xs ++ joined rest

-- the lengths are those of a grouping of n codes
pub record IsGrouping (n : ℕ) (lengths : List ℕ) : Type 0 where
  pub each : All (λ l. (1 ≤ l) × (l ≤ 64)) lengths
  pub total : sum lengths ≡ n

-- the bits of a grouping: this many for each group, and length times width for each run
abbrev pub cost_of : ℕ → (List Code → ℕ) → List ℕ → List Code → ℕ
cost_of header width [] codes = 0
cost_of header width (n ∷ ns) codes = header + n * width (take n codes) + cost_of header width ns (drop n codes)

-- The chosen grouping costs least; of several such, where two first differ the smaller length stands in it.
pub record Chosen (header : ℕ) (width : List Code → ℕ) (codes : List Code) (lengths : List ℕ) : Type 0 where
  pub grouping : IsGrouping (length codes) lengths
  pub least : (other : List ℕ) → IsGrouping (length codes) other
      → cost_of header width lengths codes ≤ cost_of header width other codes
  pub first : (other : List ℕ) → IsGrouping (length codes) other
      → cost_of header width other codes ≡ cost_of header width lengths codes
      → (k : ℕ) → take k lengths ≡ take k other → slice_index lengths k ≤ slice_index other k
