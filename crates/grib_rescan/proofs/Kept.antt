-- What the octets of a Section 3 say after its corners, or its numbers of columns and rows, were put anew.
use Rattle.std.proofs.Common.{◌≡◌, ℕ, ◌+◌, ◌-◌, ◌*◌, ◌^◌, ◌<◌, ◌≤◌, ◌⊎◌, inl, inr, Bool, true, false, cond, List, [], ◌∷◌, length, drop, suc, ℤ, pos, negsuc, nat_abs, int_lt, refl, ap, ◌∙◌, arith, length-take, length-drop}
use Rattle.std.proofs.lemmas.Bool.{le-ltb}
use Rattle.grib_bits.specs.Bits.{bits, bits_of, signed}
use Rattle.grib_bits.specs.Octets.{octet_list, octets, signed_octets, num_on}
use Rattle.grib_bits.specs.Encoding.{octets_of}
use Rattle.grib_bits.proofs.Signs.{signed-clear, signed-set}
use Rattle.grib_bits.proofs.Encoding.{length-octets_of, num_on-octets_of, bits-octets_of}
use Rattle.grib_rescan.specs.declared.points.Area.{Area}
use Rattle.grib_rescan.specs.Points.{width, height}
use Rattle.grib_rescan.specs.Sections.{with_octets, with_size, with_sign, latitude_at, longitude_at, cropped_section, AreApart}
use Rattle.grib_rescan.proofs.Octets.{IsLong, still_long, same_length, elsewhere, there}

-- La1, Lo1, La2 and Lo2
abbrev pub corners : List ℕ → List ℕ → List ℕ → List ℕ → List ℕ → List ℕ
corners la1 lo1 la2 lo2 s = with_octets 60 lo2 (with_octets 56 la2 (with_octets 51 lo1 (with_octets 47 la1 s)))

pub record AreCorners (la1 lo1 la2 lo2 : List ℕ) : Type 0 where
  pub la1_octets : length la1 ≡ 4
  pub lo1_octets : length lo1 ≡ 4
  pub la2_octets : length la2 ≡ 4
  pub lo2_octets : length lo2 ≡ 4

-- octets that are apart from some are apart from fewer
wider : (a last low high first end : ℕ) → low ≤ first → end ≤ high → AreApart a last low high → (last < first) ⊎ (end + 1 ≤ a)
wider a last low high first end more less (inl before) = inl (omega (arith, more, before))
wider a last low high first end more less (inr behind) = inr (omega (arith, less, behind))

module _ (la1 lo1 la2 lo2 s : List ℕ) (long : IsLong s) (four : AreCorners la1 lo1 la2 lo2) where
  long_1 : IsLong (with_octets 47 la1 s)
  long_1 = still_long 47 4 la1 s four.la1_octets (omega arith) (omega arith) long

  long_2 : IsLong (with_octets 51 lo1 (with_octets 47 la1 s))
  long_2 = still_long 51 4 lo1 (with_octets 47 la1 s) four.lo1_octets (omega arith) (omega arith) long_1

  long_3 : IsLong (with_octets 56 la2 (with_octets 51 lo1 (with_octets 47 la1 s)))
  long_3 = still_long 56 4 la2 (with_octets 51 lo1 (with_octets 47 la1 s)) four.la2_octets (omega arith) (omega arith) long_2

  pub corners-long : IsLong (corners la1 lo1 la2 lo2 s)
  corners-long = still_long 60 4 lo2 (with_octets 56 la2 (with_octets 51 lo1 (with_octets 47 la1 s))) four.lo2_octets (omega arith) (omega arith) long_3

  pub corners-length : length (corners la1 lo1 la2 lo2 s) ≡ length s
  corners-length =
      same_length 60 4 lo2 (with_octets 56 la2 (with_octets 51 lo1 (with_octets 47 la1 s))) four.lo2_octets (omega arith) (omega arith) long_3
      ∙ same_length 56 4 la2 (with_octets 51 lo1 (with_octets 47 la1 s)) four.la2_octets (omega arith) (omega arith) long_2
      ∙ same_length 51 4 lo1 (with_octets 47 la1 s) four.lo1_octets (omega arith) (omega arith) long_1
      ∙ same_length 47 4 la1 s four.la1_octets (omega arith) (omega arith) long

  -- octets that are those of no corner
  pub corners-elsewhere : (a last : ℕ) → 1 ≤ a → AreApart a last 47 54 → AreApart a last 56 63 → octet_list (corners la1 lo1 la2 lo2 s) a last ≡ octet_list s a last
  corners-elsewhere a last some firsts lasts =
      elsewhere 60 4 lo2 _ a last four.lo2_octets (omega arith) (omega arith) long_3 some (wider a last 56 63 60 63 (omega arith) (omega arith) lasts)
      ∙ elsewhere 56 4 la2 _ a last four.la2_octets (omega arith) (omega arith) long_2 some (wider a last 56 63 56 59 (omega arith) (omega arith) lasts)
      ∙ elsewhere 51 4 lo1 _ a last four.lo1_octets (omega arith) (omega arith) long_1 some (wider a last 47 54 51 54 (omega arith) (omega arith) firsts)
      ∙ elsewhere 47 4 la1 s a last four.la1_octets (omega arith) (omega arith) long some (wider a last 47 54 47 50 (omega arith) (omega arith) firsts)

  pub corners-la1 : octet_list (corners la1 lo1 la2 lo2 s) 47 50 ≡ la1
  corners-la1 =
      elsewhere 60 4 lo2 _ 47 50 four.lo2_octets (omega arith) (omega arith) long_3 (omega arith) (inl (omega arith))
      ∙ elsewhere 56 4 la2 _ 47 50 four.la2_octets (omega arith) (omega arith) long_2 (omega arith) (inl (omega arith))
      ∙ elsewhere 51 4 lo1 _ 47 50 four.lo1_octets (omega arith) (omega arith) long_1 (omega arith) (inl (omega arith))
      ∙ there 47 4 la1 s 50 four.la1_octets (omega arith) (omega arith) long refl

  pub corners-lo1 : octet_list (corners la1 lo1 la2 lo2 s) 51 54 ≡ lo1
  corners-lo1 =
      elsewhere 60 4 lo2 _ 51 54 four.lo2_octets (omega arith) (omega arith) long_3 (omega arith) (inl (omega arith))
      ∙ elsewhere 56 4 la2 _ 51 54 four.la2_octets (omega arith) (omega arith) long_2 (omega arith) (inl (omega arith))
      ∙ there 51 4 lo1 (with_octets 47 la1 s) 54 four.lo1_octets (omega arith) (omega arith) long_1 refl

  pub corners-la2 : octet_list (corners la1 lo1 la2 lo2 s) 56 59 ≡ la2
  corners-la2 =
      elsewhere 60 4 lo2 _ 56 59 four.lo2_octets (omega arith) (omega arith) long_3 (omega arith) (inl (omega arith))
      ∙ there 56 4 la2 (with_octets 51 lo1 (with_octets 47 la1 s)) 59 four.la2_octets (omega arith) (omega arith) long_2 refl

  pub corners-lo2 : octet_list (corners la1 lo1 la2 lo2 s) 60 63 ≡ lo2
  corners-lo2 = there 60 4 lo2 (with_octets 56 la2 (with_octets 51 lo1 (with_octets 47 la1 s))) 63 four.lo2_octets (omega arith) (omega arith) long_3 refl

-- ---- in another order

four_octets : (s : List ℕ) (first : ℕ) → 72 ≤ length s → 1 ≤ first → first ≤ 69 → length (octet_list s first (first + 3)) ≡ 4
four_octets s first long some few = omega (arith, long, some, few, length-take (first + 3 + 1 - first) (drop (first - 1) s), length-drop (first - 1) s)

one_of : (b : Bool) (xs ys : List ℕ) → length xs ≡ 4 → length ys ≡ 4 → length (cond b xs ys) ≡ 4
one_of true xs ys x y = x
one_of false xs ys x y = y

-- a number of one of two corners
number_of_one : (b : Bool) (xs ys zs : List ℕ) → zs ≡ cond b xs ys → num_on 0 zs ≡ cond b (num_on 0 xs) (num_on 0 ys)
number_of_one true xs ys zs is = ap (num_on 0) is
number_of_one false xs ys zs is = ap (num_on 0) is

-- its corners, the first and the last exchanged or not
abbrev exchanged : Bool → Bool → List ℕ → List ℕ
exchanged up w s =
    corners (cond up (octet_list s 56 59) (octet_list s 47 50)) (cond w (octet_list s 60 63) (octet_list s 51 54))
    (cond up (octet_list s 47 50) (octet_list s 56 59)) (cond w (octet_list s 51 54) (octet_list s 60 63)) s

module _ (s : List ℕ) (long : 72 ≤ length s) (up w : Bool) where
  is_long : IsLong s
  is_long = record { long = long }

  are_corners : AreCorners (cond up (octet_list s 56 59) (octet_list s 47 50)) (cond w (octet_list s 60 63) (octet_list s 51 54))
      (cond up (octet_list s 47 50) (octet_list s 56 59)) (cond w (octet_list s 51 54) (octet_list s 60 63))
  are_corners =
      let la1 = four_octets s 47 long (omega arith) (omega arith) in
      let lo1 = four_octets s 51 long (omega arith) (omega arith) in
      let la2 = four_octets s 56 long (omega arith) (omega arith) in
      let lo2 = four_octets s 60 long (omega arith) (omega arith) in
      record {
        la1_octets = one_of up _ _ la2 la1;
        lo1_octets = one_of w _ _ lo2 lo1;
        la2_octets = one_of up _ _ la1 la2;
        lo2_octets = one_of w _ _ lo1 lo2;
      }

  last_long : IsLong (exchanged up w s)
  last_long = corners-long _ _ _ _ s is_long are_corners

  before_72 : (a last : ℕ) → 1 ≤ a → last < 72 → octet_list (with_octets 72 (0 ∷ []) (exchanged up w s)) a last ≡ octet_list (exchanged up w s) a last
  before_72 a last some before = elsewhere 72 1 (0 ∷ []) (exchanged up w s) a last refl (omega arith) (omega arith) last_long some (inl before)

  pub new-la1 : octets (with_octets 72 (0 ∷ []) (exchanged up w s)) 47 50 ≡ cond up (octets s 56 59) (octets s 47 50)
  new-la1 = number_of_one up _ _ _ (before_72 47 50 (omega arith) (omega arith) ∙ corners-la1 _ _ _ _ s is_long are_corners)

  pub new-lo1 : octets (with_octets 72 (0 ∷ []) (exchanged up w s)) 51 54 ≡ cond w (octets s 60 63) (octets s 51 54)
  new-lo1 = number_of_one w _ _ _ (before_72 51 54 (omega arith) (omega arith) ∙ corners-lo1 _ _ _ _ s is_long are_corners)

  pub new-la2 : octets (with_octets 72 (0 ∷ []) (exchanged up w s)) 56 59 ≡ cond up (octets s 47 50) (octets s 56 59)
  new-la2 = number_of_one up _ _ _ (before_72 56 59 (omega arith) (omega arith) ∙ corners-la2 _ _ _ _ s is_long are_corners)

  pub new-lo2 : octets (with_octets 72 (0 ∷ []) (exchanged up w s)) 60 63 ≡ cond w (octets s 51 54) (octets s 60 63)
  new-lo2 = number_of_one w _ _ _ (before_72 60 63 (omega arith) (omega arith) ∙ corners-lo2 _ _ _ _ s is_long are_corners)

  pub new-scanning : octets (with_octets 72 (0 ∷ []) (exchanged up w s)) 72 72 ≡ 0
  new-scanning = ap (num_on 0) (there 72 1 (0 ∷ []) (exchanged up w s) 72 refl (omega arith) (omega arith) last_long refl)

  pub rescanned-length : length (with_octets 72 (0 ∷ []) (exchanged up w s)) ≡ length s
  rescanned-length =
      same_length 72 1 (0 ∷ []) (exchanged up w s) refl (omega arith) (omega arith) last_long ∙ corners-length _ _ _ _ s is_long are_corners

  pub as_before : (a last : ℕ) → 1 ≤ a → AreApart a last 47 54 → AreApart a last 56 63 → AreApart a last 72 72
      → octet_list (with_octets 72 (0 ∷ []) (exchanged up w s)) a last ≡ octet_list s a last
  as_before a last some firsts lasts scanning =
      elsewhere 72 1 (0 ∷ []) (exchanged up w s) a last refl (omega arith) (omega arith) last_long some (wider a last 72 72 72 72 (omega arith) (omega arith) scanning)
      ∙ corners-elsewhere _ _ _ _ s is_long are_corners a last some firsts lasts

-- ---- of a box

-- the numbers of points, of columns and of rows
abbrev sizes : ℕ → ℕ → ℕ → List ℕ → List ℕ
sizes points ni nj s = with_octets 35 (octets_of 4 nj) (with_octets 31 (octets_of 4 ni) (with_octets 7 (octets_of 4 points) s))

module _ (points ni nj : ℕ) (s : List ℕ) (long : IsLong s) where
  sized_1 : IsLong (with_octets 7 (octets_of 4 points) s)
  sized_1 = still_long 7 4 (octets_of 4 points) s (length-octets_of 4 points) (omega arith) (omega arith) long

  sized_2 : IsLong (with_octets 31 (octets_of 4 ni) (with_octets 7 (octets_of 4 points) s))
  sized_2 = still_long 31 4 (octets_of 4 ni) (with_octets 7 (octets_of 4 points) s) (length-octets_of 4 ni) (omega arith) (omega arith) sized_1

  sizes-long : IsLong (sizes points ni nj s)
  sizes-long = still_long 35 4 (octets_of 4 nj) (with_octets 31 (octets_of 4 ni) (with_octets 7 (octets_of 4 points) s)) (length-octets_of 4 nj) (omega arith) (omega arith) sized_2

  sizes-length : length (sizes points ni nj s) ≡ length s
  sizes-length =
      same_length 35 4 (octets_of 4 nj) (with_octets 31 (octets_of 4 ni) (with_octets 7 (octets_of 4 points) s)) (length-octets_of 4 nj) (omega arith) (omega arith) sized_2
      ∙ same_length 31 4 (octets_of 4 ni) (with_octets 7 (octets_of 4 points) s) (length-octets_of 4 ni) (omega arith) (omega arith) sized_1
      ∙ same_length 7 4 (octets_of 4 points) s (length-octets_of 4 points) (omega arith) (omega arith) long

  sizes-points : octet_list (sizes points ni nj s) 7 10 ≡ octets_of 4 points
  sizes-points =
      elsewhere 35 4 (octets_of 4 nj) _ 7 10 (length-octets_of 4 nj) (omega arith) (omega arith) sized_2 (omega arith) (inl (omega arith))
      ∙ elsewhere 31 4 (octets_of 4 ni) _ 7 10 (length-octets_of 4 ni) (omega arith) (omega arith) sized_1 (omega arith) (inl (omega arith))
      ∙ there 7 4 (octets_of 4 points) s 10 (length-octets_of 4 points) (omega arith) (omega arith) long refl

  sizes-ni : octet_list (sizes points ni nj s) 31 34 ≡ octets_of 4 ni
  sizes-ni =
      elsewhere 35 4 (octets_of 4 nj) _ 31 34 (length-octets_of 4 nj) (omega arith) (omega arith) sized_2 (omega arith) (inl (omega arith))
      ∙ there 31 4 (octets_of 4 ni) (with_octets 7 (octets_of 4 points) s) 34 (length-octets_of 4 ni) (omega arith) (omega arith) sized_1 refl

  sizes-nj : octet_list (sizes points ni nj s) 35 38 ≡ octets_of 4 nj
  sizes-nj = there 35 4 (octets_of 4 nj) (with_octets 31 (octets_of 4 ni) (with_octets 7 (octets_of 4 points) s)) 38 (length-octets_of 4 nj) (omega arith) (omega arith) sized_2 refl

  sizes-elsewhere : (a last : ℕ) → 1 ≤ a → AreApart a last 7 10 → AreApart a last 31 38 → octet_list (sizes points ni nj s) a last ≡ octet_list s a last
  sizes-elsewhere a last some number both =
      elsewhere 35 4 (octets_of 4 nj) _ a last (length-octets_of 4 nj) (omega arith) (omega arith) sized_2 some (wider a last 31 38 35 38 (omega arith) (omega arith) both)
      ∙ elsewhere 31 4 (octets_of 4 ni) _ a last (length-octets_of 4 ni) (omega arith) (omega arith) sized_1 some (wider a last 31 38 31 34 (omega arith) (omega arith) both)
      ∙ elsewhere 7 4 (octets_of 4 points) s a last (length-octets_of 4 points) (omega arith) (omega arith) long some (wider a last 7 10 7 10 (omega arith) (omega arith) number)

-- the number that four octets say
said : (n : ℕ) (list : List ℕ) → n < 2 ^ 32 → list ≡ octets_of 4 n → num_on 0 list ≡ n
said n list small is = ap (num_on 0) is ∙ num_on-octets_of 4 n small

with_sign-back : (x : ℤ) → nat_abs x < 2 ^ 31 → signed (bits_of 32 (with_sign x)) ≡ x
with_sign-back (pos n) small =
    let above : int_lt (pos n) (pos 0) ≡ false = le-ltb n 0 (omega arith) in
    ap (λ (b : Bool). signed (bits_of 32 (cond b (2 ^ 31 + n) n))) above ∙ signed-clear 31 n small
with_sign-back (negsuc n) small = signed-set 31 (suc n) small

signed_said : (x : ℤ) (list : List ℕ) → nat_abs x < 2 ^ 31 → list ≡ octets_of 4 (with_sign x) → signed (bits list) ≡ x
signed_said x list small is = ap (λ (xs : List ℕ). signed (bits xs)) is ∙ ap signed (bits-octets_of 4 (with_sign x)) ∙ with_sign-back x small

longitude-small : (s : List ℕ) (i : ℕ) → longitude_at s i < 2 ^ 32
longitude-small s i = omega arith

module _ (area : Area) (s : List ℕ) (long : 72 ≤ length s) where
  whole : IsLong s
  whole = record { long = long }

  sized : IsLong (with_size area s)
  sized = sizes-long (height area * width area) (width area) (height area) s whole

  box_corners : AreCorners (octets_of 4 (with_sign (latitude_at s area.j0))) (octets_of 4 (longitude_at s area.i0))
      (octets_of 4 (with_sign (latitude_at s area.j1))) (octets_of 4 (longitude_at s area.i1))
  box_corners = record {
    la1_octets = length-octets_of 4 (with_sign (latitude_at s area.j0));
    lo1_octets = length-octets_of 4 (longitude_at s area.i0);
    la2_octets = length-octets_of 4 (with_sign (latitude_at s area.j1));
    lo2_octets = length-octets_of 4 (longitude_at s area.i1);
  }

  pub box-length : length (cropped_section area s) ≡ length s
  box-length =
      corners-length _ _ _ _ (with_size area s) sized box_corners
      ∙ sizes-length (height area * width area) (width area) (height area) s whole

  pub box-points : height area * width area < 2 ^ 32 → octets (cropped_section area s) 7 10 ≡ height area * width area
  box-points small =
      said (height area * width area) _ small (corners-elsewhere _ _ _ _ (with_size area s) sized box_corners 7 10 (omega arith) (inl (omega arith)) (inl (omega arith))
      ∙ sizes-points (height area * width area) (width area) (height area) s whole)

  pub box-ni : width area < 2 ^ 32 → octets (cropped_section area s) 31 34 ≡ width area
  box-ni small =
      said (width area) _ small (corners-elsewhere _ _ _ _ (with_size area s) sized box_corners 31 34 (omega arith) (inl (omega arith)) (inl (omega arith))
      ∙ sizes-ni (height area * width area) (width area) (height area) s whole)

  pub box-nj : height area < 2 ^ 32 → octets (cropped_section area s) 35 38 ≡ height area
  box-nj small =
      said (height area) _ small (corners-elsewhere _ _ _ _ (with_size area s) sized box_corners 35 38 (omega arith) (inl (omega arith)) (inl (omega arith))
      ∙ sizes-nj (height area * width area) (width area) (height area) s whole)

  pub box-la1 : nat_abs (latitude_at s area.j0) < 2 ^ 31 → signed_octets (cropped_section area s) 47 50 ≡ latitude_at s area.j0
  box-la1 small = signed_said (latitude_at s area.j0) _ small (corners-la1 _ _ _ _ (with_size area s) sized box_corners)

  pub box-la2 : nat_abs (latitude_at s area.j1) < 2 ^ 31 → signed_octets (cropped_section area s) 56 59 ≡ latitude_at s area.j1
  box-la2 small = signed_said (latitude_at s area.j1) _ small (corners-la2 _ _ _ _ (with_size area s) sized box_corners)

  pub box-lo1 : octets (cropped_section area s) 51 54 ≡ longitude_at s area.i0
  box-lo1 = said (longitude_at s area.i0) _ (longitude-small s area.i0) (corners-lo1 _ _ _ _ (with_size area s) sized box_corners)

  pub box-lo2 : octets (cropped_section area s) 60 63 ≡ longitude_at s area.i1
  box-lo2 = said (longitude_at s area.i1) _ (longitude-small s area.i1) (corners-lo2 _ _ _ _ (with_size area s) sized box_corners)

  pub box-elsewhere : (a last : ℕ) → 1 ≤ a → AreApart a last 7 10 → AreApart a last 31 38 → AreApart a last 47 54 → AreApart a last 56 63
      → octet_list (cropped_section area s) a last ≡ octet_list s a last
  box-elsewhere a last some number both firsts lasts =
      corners-elsewhere _ _ _ _ (with_size area s) sized box_corners a last some firsts lasts
      ∙ sizes-elsewhere (height area * width area) (width area) (height area) s whole a last some number both
