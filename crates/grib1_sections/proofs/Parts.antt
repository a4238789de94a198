-- What the rules of a message say where none fails.
use Rattle.std.proofs.Common.{◌≡◌, ℕ, ◌+◌, ◌-◌, ◌≤◌, Bool, true, false, not, ◌||◌, Option, None, List, length, nat_lt, ◌==◌, refl, sym, ap, ◌∙◌, arith, ltb-false, le-ltb, eq-eqb, ne_eqb}
use Rattle.std.proofs.lemmas.Bool.{and_left, and_right, or_parts, or_from, not-false, not_from_true}
use Rattle.grib_bits.specs.Octets.{octets}
use Rattle.grib_base.proofs.Firsts.{none_later, none_after}
use Rattle.grib_base.specs.declared.fault.Fault.{Fault}
use Rattle.grib_base.specs.Rules.{Rule, first_fault, first_fault_at, choose, or_later}
use Rattle.grib2_sections.specs.Head.{edition, total_length, total_length_1, head_rules}
use Rattle.grib2_sections.specs.Frame.{ends_at}
use Rattle.grib1_sections.specs.Frame.{frame_rules, end_rules, section_at}
use Rattle.grib1_sections.specs.Identification.{identification_rules}
use Rattle.grib1_sections.specs.Grid.{grid_rules}
use Rattle.grib1_sections.specs.Bitmap.{bitmap_rules}
use Rattle.grib1_sections.specs.Data.{data_rules}
use Rattle.grib1_sections.specs.Acceptance.{section_fault, bitmap_fault, sections_fault, message_fault, has_bitmap, grid_start, bitmap_start, data_start, end_start, points_of, values_of}
use Rattle.grib_base.proofs.Passing.{passes_from_none, none_from_passes, second_fails, none-located, located-none}
use Rattle.grib_base.specs.declared.limits.TheConstants.{MOST_OCTETS}
use Rattle.grib1_sections.proofs.Agreeing.{Inside}
use Rattle.grib1_sections.proofs.Places.{BitmapInside, grid_start-is, bitmap_start-is, data_start-flagged, data_start-plain, end_start-is}

-- ---- one section

-- the section at octet q stands whole, four octets are left behind it, and it passes these rules
pub record Whole (m : List ℕ) (q least : ℕ) (rules : List ℕ → List Rule) : Type 0 where
  pub begins : q + 2 ≤ length m
  pub least_is : least ≤ octets m q (q + 2)
  pub room : q - 1 + octets m q (q + 2) + 4 ≤ total_length_1 m
  pub there : q - 1 + octets m q (q + 2) ≤ length m
  pub rules_hold : first_fault (rules (section_at m q)) ≡ None

-- it does where it is not refused
pub whole_from_none : (m : List ℕ) (q least : ℕ) (rules : List ℕ → List Rule) → section_fault m q least rules ≡ None → Whole m q least rules
whole_from_none m q least rules e =
    let both = none_later (first_fault (frame_rules m q least)) (λ _. first_fault_at q (rules (section_at m q))) e in
    let p = passes_from_none (frame_rules m q least) both.0 in
    let sized = or_parts (nat_lt (octets m q (q + 2)) least) (nat_lt (total_length_1 m) (q - 1 + octets m q (q + 2) + 4)) p.1.0 in
    record {
      begins = ltb-false (length m) (q + 2) p.0;
      least_is = ltb-false (octets m q (q + 2)) least sized.0;
      room = ltb-false (total_length_1 m) (q - 1 + octets m q (q + 2) + 4) sized.1;
      there = ltb-false (length m) (q - 1 + octets m q (q + 2)) p.1.1.0;
      rules_hold = none-located q (first_fault (rules (section_at m q))) both.1;
    }

-- and it is not refused where it does
pub none_from_whole : (m : List ℕ) (q least : ℕ) (rules : List ℕ → List Rule) → Whole m q least rules → section_fault m q least rules ≡ None
none_from_whole m q least rules w =
    none_after (first_fault (frame_rules m q least)) (λ _. first_fault_at q (rules (section_at m q)))
    (none_from_passes (frame_rules m q least) (
      le-ltb (length m) (q + 2) w.begins,
      (
        or_from (nat_lt (octets m q (q + 2)) least) (nat_lt (total_length_1 m) (q - 1 + octets m q (q + 2) + 4))
            (le-ltb (octets m q (q + 2)) least w.least_is) (le-ltb (total_length_1 m) (q - 1 + octets m q (q + 2) + 4) w.room),
        (le-ltb (length m) (q - 1 + octets m q (q + 2)) w.there, tt),
      ),
    ))
    (located-none q (first_fault (rules (section_at m q))) w.rules_hold)

-- ---- Section 3

pub bitmap_whole : (m : List ℕ) → bitmap_fault m ≡ None → has_bitmap m ≡ true → Whole m (bitmap_start m) 6 (bitmap_rules (points_of m))
bitmap_whole m e on =
    whole_from_none m (bitmap_start m) 6 (bitmap_rules (points_of m))
    (sym (ap (λ b. choose b (λ _. section_fault m (bitmap_start m) 6 (bitmap_rules (points_of m))) (λ _. None)) on) ∙ e)

bitmap_none_by : (m : List ℕ) (b : Bool) → has_bitmap m ≡ b → (b ≡ true → Whole m (bitmap_start m) 6 (bitmap_rules (points_of m))) → bitmap_fault m ≡ None
bitmap_none_by m true e w =
    ap (λ b. choose b (λ _. section_fault m (bitmap_start m) 6 (bitmap_rules (points_of m))) (λ _. None)) e
    ∙ none_from_whole m (bitmap_start m) 6 (bitmap_rules (points_of m)) (w refl)
bitmap_none_by m false e w = ap (λ b. choose b (λ _. section_fault m (bitmap_start m) 6 (bitmap_rules (points_of m))) (λ _. None)) e

pub bitmap_none : (m : List ℕ) → (has_bitmap m ≡ true → Whole m (bitmap_start m) 6 (bitmap_rules (points_of m))) → bitmap_fault m ≡ None
bitmap_none m w = bitmap_none_by m (has_bitmap m) refl w

-- ---- the whole message

-- the refusal from the End Section on, from Section 4, Section 3 and Section 2 on
abbrev pub from_end : List ℕ → Unit {0} → Option Fault
from_end m u = first_fault (end_rules m (end_start m))

abbrev pub from_data : List ℕ → Unit {0} → Option Fault
from_data m u = or_later (section_fault m (data_start m) 11 (data_rules (values_of m))) (from_end m)

abbrev pub from_bitmap : List ℕ → Unit {0} → Option Fault
from_bitmap m u = or_later (bitmap_fault m) (from_data m)

abbrev pub from_grid : List ℕ → Unit {0} → Option Fault
from_grid m u = or_later (section_fault m (grid_start m) 6 grid_rules) (from_bitmap m)

abbrev pub from_first : List ℕ → Unit {0} → Option Fault
from_first m u = sections_fault m

pub record Parts (m : List ℕ) : Type 0 where
  pub long : 8 ≤ length m
  pub least : 12 ≤ total_length_1 m
  pub first : Whole m 9 28 identification_rules
  pub second : Whole m (grid_start m) 6 grid_rules
  pub third : has_bitmap m ≡ true → Whole m (bitmap_start m) 6 (bitmap_rules (points_of m))
  pub fourth : Whole m (data_start m) 11 (data_rules (values_of m))
  pub there : end_start m + 3 ≤ length m
  pub ends : ends_at m (end_start m) ≡ true
  pub last : total_length_1 m ≤ end_start m + 3

pub head_first : (m : List ℕ) → edition m ≡ 1 → first_fault (head_rules m) ≡ None → (8 ≤ length m) × (12 ≤ total_length_1 m)
head_first m first e =
    let p = passes_from_none (head_rules m) e in
    (ltb-false (length m) 8 p.0, ltb-false (total_length_1 m) 12 (second_fails (edition m == 1) (nat_lt (total_length_1 m) 12) p.1.1.1.1.0 (eq-eqb (edition m) 1 first)))

pub head_none : (m : List ℕ) → edition m ≡ 1 → 8 ≤ length m → 12 ≤ total_length_1 m → first_fault (head_rules m) ≡ None
head_none m first long least =
    let is_first : (edition m == 1) ≡ true = eq-eqb (edition m) 1 first in
    let not_second : (edition m == 2) ≡ false = ne_eqb (edition m) 2 (λ same. omega arith) in
    none_from_passes (head_rules m) (
      le-ltb (length m) 8 long,
      (
        and_left (not (edition m == 1)) (not (edition m == 2)) (not_from_true (edition m == 1) is_first),
        (
          and_left (edition m == 2) (nat_lt (length m) 16) not_second,
          (
            and_left (edition m == 2) (nat_lt (total_length m) 20 || nat_lt MOST_OCTETS (total_length m)) not_second,
            (and_right (edition m == 1) (nat_lt (total_length_1 m) 12) (le-ltb (total_length_1 m) 12 least), tt),
          ),
        ),
      ),
    )

pub parts_from_none : (m : List ℕ) → edition m ≡ 1 → message_fault m ≡ None → Parts m
parts_from_none m first e =
    let a = none_later (first_fault (head_rules m)) (from_first m) e in
    let h = head_first m first a.0 in
    let b = none_later (section_fault m 9 28 identification_rules) (from_grid m) a.1 in
    let c = none_later (section_fault m (grid_start m) 6 grid_rules) (from_bitmap m) b.1 in
    let d = none_later (bitmap_fault m) (from_data m) c.1 in
    let f = none_later (section_fault m (data_start m) 11 (data_rules (values_of m))) (from_end m) d.1 in
    let p = passes_from_none (end_rules m (end_start m)) f.1 in
    record {
      long = h.0;
      least = h.1;
      first = whole_from_none m 9 28 identification_rules b.0;
      second = whole_from_none m (grid_start m) 6 grid_rules c.0;
      third = bitmap_whole m d.0;
      fourth = whole_from_none m (data_start m) 11 (data_rules (values_of m)) f.0;
      there = ltb-false (length m) (end_start m + 3) p.0;
      ends = not-false (ends_at m (end_start m)) p.1.0;
      last = ltb-false (end_start m + 3) (total_length_1 m) p.1.1.0;
    }

pub none_from_parts : (m : List ℕ) → edition m ≡ 1 → Parts m → message_fault m ≡ None
none_from_parts m first p =
    none_after (first_fault (head_rules m)) (from_first m) (head_none m first p.long p.least)
    (none_after (section_fault m 9 28 identification_rules) (from_grid m) (none_from_whole m 9 28 identification_rules p.first)
    (none_after (section_fault m (grid_start m) 6 grid_rules) (from_bitmap m) (none_from_whole m (grid_start m) 6 grid_rules p.second)
    (none_after (bitmap_fault m) (from_data m) (bitmap_none m p.third)
    (none_after (section_fault m (data_start m) 11 (data_rules (values_of m))) (from_end m)
    (none_from_whole m (data_start m) 11 (data_rules (values_of m)) p.fourth)
    (none_from_passes (end_rules m (end_start m)) (
      le-ltb (length m) (end_start m + 3) p.there,
      (not_from_true (ends_at m (end_start m)) p.ends, (le-ltb (end_start m + 3) (total_length_1 m) p.last, tt)),
    ))))))

-- ---- where the sections lie

inside_by : (m : List ℕ) (n q least : ℕ) (rules : List ℕ → List Rule) → 1 ≤ q → 6 ≤ least → Whole m q least rules → total_length_1 m ≤ n → Inside n m q
inside_by m n q least rules low some w fits = record {
  low = low;
  begins = omega (arith, w.room, w.least_is);
  some = omega (arith, w.least_is);
  ends = omega (arith, w.room);
}

pub record PartsInside (n : ℕ) (m : List ℕ) : Type 0 where
  pub before : BitmapInside n m
  pub fourth : Inside n m (data_start m)
  -- the End Section is behind Section 4, and ends where the message does
  pub low : 1 ≤ end_start m
  pub whole : end_start m + 3 ≡ total_length_1 m

grid_low : (m : List ℕ) → Parts m → 1 ≤ grid_start m
grid_low m p = omega (arith, grid_start-is m)

bitmap_low : (m : List ℕ) → Parts m → 1 ≤ bitmap_start m
bitmap_low m p = omega (arith, bitmap_start-is m, grid_low m p)

data_low_by : (m : List ℕ) (b : Bool) → has_bitmap m ≡ b → Parts m → 1 ≤ data_start m
data_low_by m true e p = omega (arith, data_start-flagged m e, bitmap_low m p)
data_low_by m false e p = omega (arith, data_start-plain m e, bitmap_low m p)

pub data_low : (m : List ℕ) → Parts m → 1 ≤ data_start m
data_low m p = data_low_by m (has_bitmap m) refl p

pub parts_inside : (n : ℕ) (m : List ℕ) → Parts m → total_length_1 m ≤ n → PartsInside n m
parts_inside n m p fits =
    let low : 1 ≤ data_start m = data_low m p in
    let room : data_start m - 1 + octets m (data_start m) (data_start m + 2) + 4 ≤ total_length_1 m = p.fourth.room in
    let end : end_start m ≡ data_start m + octets m (data_start m) (data_start m + 2) = end_start-is m in
    record {
      before = record {
        before = record {
          first = inside_by m n 9 28 identification_rules (omega arith) (omega arith) p.first fits;
          second = inside_by m n (grid_start m) 6 grid_rules (grid_low m p) (omega arith) p.second fits;
        };
        third = λ on. inside_by m n (bitmap_start m) 6 (bitmap_rules (points_of m)) (bitmap_low m p) (omega arith) (p.third on) fits;
      };
      fourth = inside_by m n (data_start m) 11 (data_rules (values_of m)) low (omega arith) p.fourth fits;
      low = omega (arith, end, low);
      whole = omega (arith, end, low, room, p.last);
    }
