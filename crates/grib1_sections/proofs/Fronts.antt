-- What is accepted rests on the octets of the message alone.
use Rattle.std.proofs.Common.{◌≡◌, ℕ, ◌+◌, ◌≤◌, true, List, length, take, ◌==◌, sym, ap, ◌∙◌, arith, subst, length-take-le, take-take}
use Rattle.grib_bits.specs.Octets.{octets}
use Rattle.grib_base.specs.Rules.{Rule, first_fault}
use Rattle.grib2_sections.specs.Verdict.{Accepted}
use Rattle.grib2_sections.specs.Head.{indicator, edition, total_length_1}
use Rattle.grib2_sections.specs.Frame.{ends_at}
use Rattle.grib1_sections.specs.Identification.{identification_rules}
use Rattle.grib1_sections.specs.Grid.{grid_rules}
use Rattle.grib1_sections.specs.Bitmap.{bitmap_rules}
use Rattle.grib1_sections.specs.Data.{data_rules}
use Rattle.grib1_sections.specs.Acceptance.{message_fault, verdict_1, has_bitmap, grid_start, bitmap_start, data_start, end_start, points_of, values_of}
use Rattle.grib1_sections.specs.Message.{IsMessage1}
use Rattle.grib1_sections.proofs.Verdicts.{accepted_none, none_accepted}
use Rattle.grib1_sections.proofs.Agreeing.{Agree, Inside, agree_front, same_octets, same_section}
use Rattle.grib1_sections.proofs.Places.{same_flag, same_grid_start, same_bitmap_start, same_points, same_data_start, same_values, same_end_start}
use Rattle.grib1_sections.proofs.Parts.{Whole, Parts, parts_from_none, none_from_parts, parts_inside}

-- ---- octets that agree as far as the message goes

whole_moved : (n : ℕ) (u w : List ℕ) (q p least : ℕ) (rules : List ℕ → List Rule) → Agree n u w → Inside n u q → p ≡ q
    → total_length_1 w ≡ total_length_1 u → Whole u q least rules → Whole w p least rules
whole_moved n u w q p least rules h i place total f =
    let same : octets w q (q + 2) ≡ octets u q (q + 2) = same_octets n u w q (q + 2) h i.low (omega arith) i.begins in
    let At : ℕ → Type 0 = λ k. Whole w k least rules in
    subst At (sym place) (record {
      begins = omega (arith, i.begins, h.long_w);
      least_is = omega (arith, same, f.least_is);
      room = omega (arith, same, total, f.room);
      there = omega (arith, same, i.ends, h.long_w);
      rules_hold = ap (λ s. first_fault (rules s)) (same_section n u w q h i) ∙ f.rules_hold;
    })

rules_moved : (m : List ℕ) (q least : ℕ) (rules other : List ℕ → List Rule) → other ≡ rules → Whole m q least rules → Whole m q least other
rules_moved m q least rules other e f =
    let By : (List ℕ → List Rule) → Type 0 = λ r. Whole m q least r in
    subst By (sym e) f

parts_moved : (n : ℕ) (u w : List ℕ) → Agree n u w → 8 ≤ n → total_length_1 u ≤ n → Parts u → Parts w
parts_moved n u w h eight fits p =
    let i = parts_inside n u p fits in
    let total : total_length_1 w ≡ total_length_1 u = same_octets n u w 5 7 h (omega arith) (omega arith) (omega arith) in
    let end : end_start w ≡ end_start u = same_end_start n u w h i.before i.fourth in
    let mark : octets w (end_start u) (end_start u + 3) ≡ octets u (end_start u) (end_start u + 3) =
    same_octets n u w (end_start u) (end_start u + 3) h i.low (omega arith) (omega (arith, i.whole, fits)) in
    record {
      long = omega (arith, h.long_w, eight);
      least = omega (arith, total, p.least);
      first = whole_moved n u w 9 9 28 identification_rules h i.before.before.first (omega arith) total p.first;
      second = whole_moved n u w (grid_start u) (grid_start w) 6 grid_rules h i.before.before.second (same_grid_start n u w h i.before.before.first) total p.second;
      third = λ on.
          let flagged : has_bitmap u ≡ true = sym (same_flag n u w h i.before.before.first) ∙ on in
          rules_moved w (bitmap_start w) 6 (bitmap_rules (points_of u)) (bitmap_rules (points_of w)) (ap bitmap_rules (same_points n u w h i.before.before))
          (whole_moved n u w (bitmap_start u) (bitmap_start w) 6 (bitmap_rules (points_of u)) h (i.before.third flagged)
          (same_bitmap_start n u w h i.before.before) total (p.third flagged));
      fourth =
          rules_moved w (data_start w) 11 (data_rules (values_of u)) (data_rules (values_of w)) (ap data_rules (same_values n u w h i.before))
          (whole_moved n u w (data_start u) (data_start w) 11 (data_rules (values_of u)) h i.fourth (same_data_start n u w h i.before) total p.fourth);
      there = omega (arith, end, i.whole, fits, h.long_w);
      ends = ap (λ q. ends_at w q) end ∙ (ap (λ k. k == 926365495) mark ∙ p.ends);
      last = omega (arith, end, total, p.last);
    }

-- ---- what is said of the whole message

pub accepted_parts : (m : List ℕ) (total : ℕ) → edition m ≡ 1 → verdict_1 m ≡ Accepted total → Parts m
accepted_parts m total first e = parts_from_none m first (accepted_none (message_fault m) (total_length_1 m) total e).0

pub accepted_states : (m : List ℕ) (total : ℕ) → verdict_1 m ≡ Accepted total → total_length_1 m ≡ total
accepted_states m total e = (accepted_none (message_fault m) (total_length_1 m) total e).1

pub accepted_least : (m : List ℕ) (total : ℕ) → edition m ≡ 1 → verdict_1 m ≡ Accepted total → 12 ≤ total
accepted_least m total first e = omega (arith, accepted_states m total e, (accepted_parts m total first e).least)

pub accepted_there : (m : List ℕ) (total : ℕ) → edition m ≡ 1 → verdict_1 m ≡ Accepted total → total ≤ length m
accepted_there m total first e =
    let p = accepted_parts m total first e in
    omega (arith, accepted_states m total e, p.there, p.last)

-- the octets of the message alone
pub front_parts : (m : List ℕ) (total : ℕ) → edition m ≡ 1 → verdict_1 m ≡ Accepted total → Parts (take total m)
front_parts m total first e =
    let there : total ≤ length m = accepted_there m total first e in
    parts_moved total m (take total m) (agree_front m total there) (omega (arith, accepted_least m total first e)) (omega (arith, accepted_states m total e))
    (accepted_parts m total first e)

pub front_edition : (m : List ℕ) (total : ℕ) → edition m ≡ 1 → verdict_1 m ≡ Accepted total → edition (take total m) ≡ 1
front_edition m total first e =
    let there : total ≤ length m = accepted_there m total first e in
    same_octets total m (take total m) 8 8 (agree_front m total there) (omega arith) (omega arith) (omega (arith, accepted_least m total first e)) ∙ first

pub front_states : (m : List ℕ) (total : ℕ) → edition m ≡ 1 → verdict_1 m ≡ Accepted total → total_length_1 (take total m) ≡ total
front_states m total first e =
    let there : total ≤ length m = accepted_there m total first e in
    same_octets total m (take total m) 5 7 (agree_front m total there) (omega arith) (omega arith) (omega (arith, accepted_least m total first e))
    ∙ accepted_states m total e

pub accepted_alone : (m : List ℕ) (total : ℕ) → edition m ≡ 1 → verdict_1 m ≡ Accepted total → verdict_1 (take total m) ≡ Accepted total
accepted_alone m total first e =
    let u = take total m in
    none_accepted (message_fault u) (total_length_1 u) (none_from_parts u (front_edition m total first e) (front_parts m total first e))
    ∙ ap Accepted (front_states m total first e)

-- so they are a message
pub front_is_message : (m : List ℕ) (total : ℕ) → take 4 m ≡ indicator → edition m ≡ 1 → verdict_1 m ≡ Accepted total → IsMessage1 (take total m)
front_is_message m total starts first e =
    let long : length (take total m) ≡ total = length-take-le total m (accepted_there m total first e) in
    record {
      indicated = take-take 4 total m (omega (arith, accepted_least m total first e)) ∙ starts;
      edition_stands = front_edition m total first e;
      accepted = accepted_alone m total first e ∙ ap Accepted (sym long);
    }
