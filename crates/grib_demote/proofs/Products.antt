-- Lemmas on the octets for the centre's own use.
use Rattle.std.proofs.Common.{◌≡◌, ℕ, ◌&&◌, Bool, true, cond, ◌+◌, ◌*◌, List, [], ◌∷◌, ◌++◌, drop, refl, sym, ap, ◌∙◌, append_assoc}
use Rattle.std.specs.Prelude.{replicate}
use Rattle.grib_bits.specs.Bits.{digit}
use Rattle.grib_bits.specs.Octets.{octets}
use Rattle.grib_packing.specs.Packing.{decimal_scale}
use Rattle.grib_migrate.specs.declared.date.Moment.{Moment}
use Rattle.grib_demote.specs.declared.product.Told.{Told}
use Rattle.grib_demote.specs.declared.time.TimeRange.{TimeRange}
use Rattle.grib_bits.specs.declared.adding.Number.TheVariants.{One, Two}
use Rattle.grib_demote.specs.Dates.{reference_time, century, year_of_century}
use Rattle.grib_demote.specs.Times.{time_range}
use Rattle.grib_demote.specs.Products.{centre, sub_centre, has_local, local_octets, identification_numbers}

pub local_added : (keep_local : Bool) (s2 old before now : List ℕ) → keep_local ≡ true → has_local s2 ≡ true → before ≡ old ++ replicate 12 0 → now ≡ before ++ drop 5 s2
    → now ≡ old ++ local_octets keep_local s2
local_added keep_local s2 old before now keep has first second =
    let both : (keep_local && has_local s2) ≡ true = ap (λ k. k && has_local s2) keep ∙ has in
    second ∙ ap (λ (xs : List ℕ). xs ++ drop 5 s2) first ∙ append_assoc old (replicate 12 0) (drop 5 s2)
    ∙ ap (λ (b : Bool). old ++ cond b (replicate 12 0 ++ drop 5 s2) []) (sym both)

-- the numbers of Section 1, from their parts
pub numbers_same : (told : Told) (bitmapped : Bool) (s1 s4 s5 : List ℕ) (c g f n y e u d : ℕ) (date : Moment) (range : TimeRange) → c ≡ centre s1 → g ≡ octets s4 14 14 → f ≡ 128 + 64 * digit bitmapped
    → n ≡ told.level.number → y ≡ year_of_century s1 → e ≡ century s1 → u ≡ sub_centre s1 → d ≡ decimal_scale s5 → date ≡ reference_time s1 → range ≡ time_range s4
    → One told.version ∷ One c ∷ One g ∷ One 255 ∷ One f ∷ One told.parameter ∷ One told.level.level_type ∷ Two n ∷ One y ∷ One date.month ∷ One date.day ∷ One date.hour ∷ One date.minute ∷ One told.unit
    ∷ One range.p1 ∷ One range.p2 ∷ One range.indicator ∷ Two 0 ∷ One range.missing ∷ One e ∷ One u ∷ Two d ∷ [] ≡ identification_numbers told bitmapped s1 s4 s5
numbers_same told bitmapped s1 s4 s5 c g f n y e u d date range ec eg ef en ey ee eu ed edate erange = rw (ec, eg, ef, en, ey, ee, eu, ed, edate, erange) refl
