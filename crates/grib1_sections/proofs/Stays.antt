-- What is said of octets stays said whatever follows them, unless they end too early.
use Rattle.std.proofs.Common.{◌≡◌, ◌≢◌, ℕ, ◌+◌, ◌-◌, ◌≤◌, Bool, true, false, not, cond, ◌&&◌, ◌||◌, ◌⊎◌, Option, Some, None, List, [], ◌∷◌, ◌++◌, length, nat_lt, ◌==◌, inl, inr, refl, sym, ap, ◌∙◌, arith, ltb-false, le-ltb, ne_eqb}
use Rattle.std.proofs.lemmas.Bool.{and_left, or_parts}
use Rattle.grib_bits.specs.Octets.{octets}
use Rattle.grib_base.proofs.Firsts.{none_later}
use Rattle.grib_base.specs.declared.fault.Fault.{Fault}
use Rattle.grib_base.specs.declared.fault.Reason.TheVariants.{Truncated, SectionLength, EndMark, LengthDisagrees, Edition, TotalLength}
use Rattle.grib_base.specs.Rules.{Rule, rule, refusal, first_fault, first_fault_at, choose, or_later}
use Rattle.grib2_sections.specs.Verdict.{Accepted, Refused}
use Rattle.grib2_sections.specs.Head.{edition, total_length, total_length_1, head_rules}
use Rattle.grib1_sections.specs.Frame.{frame_rules, end_rules, section_at}
use Rattle.grib1_sections.specs.Identification.{identification_rules}
use Rattle.grib1_sections.specs.Grid.{grid_rules}
use Rattle.grib1_sections.specs.Bitmap.{bitmap_rules}
use Rattle.grib1_sections.specs.Data.{data_rules}
use Rattle.grib1_sections.specs.Acceptance.{section_fault, bitmap_fault, sections_fault, message_fault, verdict_1, has_bitmap, grid_start, bitmap_start, data_start, end_start, points_of, values_of}
use Rattle.grib_base.proofs.Passing.{passes_from_none}
use Rattle.grib_base.specs.declared.limits.TheConstants.{MOST_OCTETS}
use Rattle.grib1_sections.proofs.Verdicts.{accepted_none, none_accepted, refused_some, some_refused}
use Rattle.grib1_sections.proofs.Agreeing.{Agree, Inside, agree_more, same_octets, same_section}
use Rattle.grib1_sections.proofs.Places.{GridInside, BitmapInside, same_flag, same_grid_start, same_bitmap_start, same_points, same_data_start, same_values, same_end_start, grid_start-is, bitmap_start-is, data_start-flagged, data_start-plain, end_start-is}
use Rattle.grib1_sections.proofs.Parts.{bitmap_whole, head_first, from_end, from_data, from_bitmap, from_grid, from_first}

-- ---- a refusal that asks for more, or the same

abbrev pub IsTruncated : Option Fault → Type 0
IsTruncated None = ⊥
IsTruncated (Some fault) = fault.reason ≡ Truncated

abbrev pub StaysUnlessCut : Option Fault → Option Fault → Type 0
StaysUnlessCut fault later = IsTruncated fault ⊎ (later ≡ fault)

-- a rule that asks for more
cut_rule : (a b : Bool) (f g : Fault) (x y : Option Fault) → f.reason ≡ Truncated → (a ≡ false → (b ≡ false) × StaysUnlessCut x y)
    → StaysUnlessCut (cond a (Some f) x) (cond b (Some g) y)
cut_rule true b f g x y cut later = inl cut
cut_rule false b f g x y cut later =
    let both = later refl in
    let off : b ≡ false = both.0 in
    rw off both.1

-- any other rule
kept_rule : (a b : Bool) (f g : Fault) (x y : Option Fault) → b ≡ a → g ≡ f → (a ≡ false → StaysUnlessCut x y)
    → StaysUnlessCut (cond a (Some f) x) (cond b (Some g) y)
kept_rule true b f g x y same fault later = inr (rw same (ap Some fault))
kept_rule false b f g x y same fault later = rw same (later refl)

kept_as : (fault later same : Option Fault) → StaysUnlessCut fault later → same ≡ later → StaysUnlessCut fault same
kept_as fault later same (inl cut) e = inl cut
kept_as fault later same (inr kept) e = inr (e ∙ kept)

-- one refusal after another
or_kept : (first first' : Option Fault) (later later' : Unit {0} → Option Fault) → StaysUnlessCut first first'
    → (first ≡ None → StaysUnlessCut (later tt) (later' tt)) → StaysUnlessCut (or_later first later) (or_later first' later')
or_kept (Some fault) first' later later' (inl cut) h = inl cut
or_kept (Some fault) first' later later' (inr e) h = inr (rw e)
or_kept None first' later later' (inl cut) h = absurd cut
or_kept None first' later later' (inr e) h = rw e (h refl)

-- ---- one section

frame_kept : (n : ℕ) (u w : List ℕ) (q least : ℕ) → n ≡ length u → Agree n u w → 1 ≤ q → total_length_1 w ≡ total_length_1 u
    → StaysUnlessCut (first_fault (frame_rules u q least)) (first_fault (frame_rules w q least))
frame_kept n u w q least size h low total =
    cut_rule (nat_lt (length u) (q + 2)) (nat_lt (length w) (q + 2)) _ _ _ _ refl (λ pass.
    let there : q + 2 ≤ n = omega (arith, size, ltb-false (length u) (q + 2) pass) in
    let same : octets w q (q + 2) ≡ octets u q (q + 2) = same_octets n u w q (q + 2) h low (omega arith) there in (
      le-ltb (length w) (q + 2) (omega (arith, h.long_w, there)),
      kept_rule (nat_lt (octets u q (q + 2)) least || nat_lt (total_length_1 u) (q - 1 + octets u q (q + 2) + 4))
          (nat_lt (octets w q (q + 2)) least || nat_lt (total_length_1 w) (q - 1 + octets w q (q + 2) + 4)) _ _ _ _
          (ap (λ k. nat_lt k least || nat_lt (total_length_1 w) (q - 1 + k + 4)) same
          ∙ ap (λ k. nat_lt (octets u q (q + 2)) least || nat_lt k (q - 1 + octets u q (q + 2) + 4)) total)
          (ap (λ k. refusal q SectionLength k) same) (λ pass_2.
          cut_rule (nat_lt (length u) (q - 1 + octets u q (q + 2))) (nat_lt (length w) (q - 1 + octets w q (q + 2))) _ _ None None refl (λ pass_3. (
            le-ltb (length w) (q - 1 + octets w q (q + 2))
                (omega (arith, size, same, h.long_w, ltb-false (length u) (q - 1 + octets u q (q + 2)) pass_3)),
            inr refl,
          ))),
    ))

-- a section that its frame does not refuse is inside
frame_inside : (n : ℕ) (u : List ℕ) (q least : ℕ) → n ≡ length u → 1 ≤ q → 1 ≤ least → first_fault (frame_rules u q least) ≡ None → Inside n u q
frame_inside n u q least size low some e =
    let p = passes_from_none (frame_rules u q least) e in
    let sized = or_parts (nat_lt (octets u q (q + 2)) least) (nat_lt (total_length_1 u) (q - 1 + octets u q (q + 2) + 4)) p.1.0 in
    record {
      low = low;
      begins = omega (arith, size, ltb-false (length u) (q + 2) p.0);
      some = omega (arith, some, ltb-false (octets u q (q + 2)) least sized.0);
      ends = omega (arith, size, ltb-false (length u) (q - 1 + octets u q (q + 2)) p.1.1.0);
    }

inside : (n : ℕ) (u : List ℕ) (q least : ℕ) (rules : List ℕ → List Rule) → n ≡ length u → 1 ≤ q → 1 ≤ least → section_fault u q least rules ≡ None → Inside n u q
inside n u q least rules size low some e =
    frame_inside n u q least size low some (none_later (first_fault (frame_rules u q least)) (λ _. first_fault_at q (rules (section_at u q))) e).0

section_kept : (n : ℕ) (u w : List ℕ) (q least : ℕ) (rules : List ℕ → List Rule) → n ≡ length u → Agree n u w → 1 ≤ q → 1 ≤ least
    → total_length_1 w ≡ total_length_1 u → StaysUnlessCut (section_fault u q least rules) (section_fault w q least rules)
section_kept n u w q least rules size h low some total =
    or_kept (first_fault (frame_rules u q least)) (first_fault (frame_rules w q least))
    (λ _. first_fault_at q (rules (section_at u q))) (λ _. first_fault_at q (rules (section_at w q)))
    (frame_kept n u w q least size h low total)
    (λ framed.
    inr (ap (λ s. first_fault_at q (rules s)) (same_section n u w q h (frame_inside n u q least size low some framed))))

-- ---- the whole message

end_kept : (n : ℕ) (u w : List ℕ) (q : ℕ) → n ≡ length u → Agree n u w → 1 ≤ q → total_length_1 w ≡ total_length_1 u
    → StaysUnlessCut (first_fault (end_rules u q)) (first_fault (end_rules w q))
end_kept n u w q size h low total =
    cut_rule (nat_lt (length u) (q + 3)) (nat_lt (length w) (q + 3)) _ _ _ _ refl (λ pass.
    let there : q + 3 ≤ n = omega (arith, size, ltb-false (length u) (q + 3) pass) in
    let same : octets w q (q + 3) ≡ octets u q (q + 3) = same_octets n u w q (q + 3) h low (omega arith) there in
    let after : ℕ → ℕ → Option Fault = λ mark t. first_fault (
    rule (not (mark == 926365495)) q EndMark mark
    ∷ rule (nat_lt (q + 3) t) (q + 4) LengthDisagrees (t - (q + 3))
    ∷ []) in (
      le-ltb (length w) (q + 3) (omega (arith, h.long_w, there)),
      inr (ap (λ mark. after mark (total_length_1 w)) same ∙ ap (after (octets u q (q + 3))) total),
    ))

bitmap_kept_by : (n : ℕ) (u w : List ℕ) (b : Bool) → has_bitmap u ≡ b → n ≡ length u → Agree n u w → GridInside n u → 1 ≤ bitmap_start u
    → total_length_1 w ≡ total_length_1 u → StaysUnlessCut (bitmap_fault u) (bitmap_fault w)
bitmap_kept_by n u w true e size h i low total =
    let on : has_bitmap w ≡ true = same_flag n u w h i.first ∙ e in
    let start : bitmap_start w ≡ bitmap_start u = same_bitmap_start n u w h i in
    let points : points_of w ≡ points_of u = same_points n u w h i in
    let kept = section_kept n u w (bitmap_start u) 6 (bitmap_rules (points_of u)) size h low (omega arith) total in
    let same : section_fault w (bitmap_start w) 6 (bitmap_rules (points_of w)) ≡ section_fault w (bitmap_start u) 6 (bitmap_rules (points_of u)) =
    ap (λ q. section_fault w q 6 (bitmap_rules (points_of w))) start ∙ ap (λ k. section_fault w (bitmap_start u) 6 (bitmap_rules k)) points in
    let chosen : (m : List ℕ) → has_bitmap m ≡ true → bitmap_fault m ≡ section_fault m (bitmap_start m) 6 (bitmap_rules (points_of m)) =
    λ m flagged. ap (λ b. choose b (λ _. section_fault m (bitmap_start m) 6 (bitmap_rules (points_of m))) (λ _. None)) flagged in
    elim kept [
      | inl cut ↦ inl (rw (chosen u e) cut)
      | inr k ↦ inr (chosen w on ∙ same ∙ k ∙ sym (chosen u e))
    ]
bitmap_kept_by n u w false e size h i low total =
    let off : has_bitmap w ≡ false = same_flag n u w h i.first ∙ e in
    let chosen : (m : List ℕ) → has_bitmap m ≡ false → bitmap_fault m ≡ None =
    λ m plain. ap (λ b. choose b (λ _. section_fault m (bitmap_start m) 6 (bitmap_rules (points_of m))) (λ _. None)) plain in
    inr (chosen w off ∙ sym (chosen u e))

start_after : (m : List ℕ) (b : Bool) → has_bitmap m ≡ b → 1 ≤ bitmap_start m → 1 ≤ data_start m
start_after m true e low = omega (arith, data_start-flagged m e, low)
start_after m false e low = omega (arith, data_start-plain m e, low)

-- what comes after Section 0
sections_kept : (n : ℕ) (u w : List ℕ) → n ≡ length u → Agree n u w → total_length_1 w ≡ total_length_1 u → StaysUnlessCut (sections_fault u) (sections_fault w)
sections_kept n u w size h total =
    or_kept (section_fault u 9 28 identification_rules) (section_fault w 9 28 identification_rules) (from_grid u) (from_grid w)
    (section_kept n u w 9 28 identification_rules size h (omega arith) (omega arith) total) (λ pass_1.
    let first = inside n u 9 28 identification_rules size (omega arith) (omega arith) pass_1 in
    let grid_low : 1 ≤ grid_start u = omega (arith, grid_start-is u) in
    or_kept (section_fault u (grid_start u) 6 grid_rules) (section_fault w (grid_start w) 6 grid_rules) (from_bitmap u) (from_bitmap w)
    (kept_as _ (section_fault w (grid_start u) 6 grid_rules) _ (section_kept n u w (grid_start u) 6 grid_rules size h grid_low (omega arith) total)
    (ap (λ q. section_fault w q 6 grid_rules) (same_grid_start n u w h first))) (λ pass_2.
    let grid : GridInside n u = record { first = first; second = inside n u (grid_start u) 6 grid_rules size grid_low (omega arith) pass_2 } in
    let bitmap_low : 1 ≤ bitmap_start u = omega (arith, bitmap_start-is u, grid_low) in
    or_kept (bitmap_fault u) (bitmap_fault w) (from_data u) (from_data w)
    (bitmap_kept_by n u w (has_bitmap u) refl size h grid bitmap_low total) (λ pass_3.
    let bitmap : BitmapInside n u = record {
      before = grid;
      third = λ on.
          let third = bitmap_whole u pass_3 on in
          record {
            low = bitmap_low;
            begins = omega (arith, size, third.begins);
            some = omega (arith, third.least_is);
            ends = omega (arith, size, third.there);
          };
    } in
    let data_low : 1 ≤ data_start u = start_after u (has_bitmap u) refl bitmap_low in
    or_kept (section_fault u (data_start u) 11 (data_rules (values_of u))) (section_fault w (data_start w) 11 (data_rules (values_of w))) (from_end u) (from_end w)
    (kept_as _ (section_fault w (data_start u) 11 (data_rules (values_of u))) _
    (section_kept n u w (data_start u) 11 (data_rules (values_of u)) size h data_low (omega arith) total)
    (ap (λ q. section_fault w q 11 (data_rules (values_of w))) (same_data_start n u w h bitmap)
    ∙ ap (λ k. section_fault w (data_start u) 11 (data_rules k)) (same_values n u w h bitmap))) (λ pass_4.
    let fourth = inside n u (data_start u) 11 (data_rules (values_of u)) size data_low (omega arith) pass_4 in
    let end_low : 1 ≤ end_start u = omega (arith, end_start-is u, data_low) in
    kept_as _ (first_fault (end_rules w (end_start u))) _ (end_kept n u w (end_start u) size h end_low total)
    (ap (λ q. first_fault (end_rules w q)) (same_end_start n u w h bitmap fourth))))))

is_off : (e : ℕ) (b : Bool) → e ≡ 1 → (e == 2 && b) ≡ false
is_off e b first = and_left (e == 2) b (ne_eqb e 2 (λ same. omega arith))

-- a rule that does not refuse either
passed_rule : (a b : Bool) (f g : Fault) (x y : Option Fault) → a ≡ false → b ≡ false → StaysUnlessCut x y → StaysUnlessCut (cond a (Some f) x) (cond b (Some g) y)
passed_rule true b f g x y off_a off_b later = cc
passed_rule false b f g x y off_a off_b later = rw off_b later

head_kept : (n : ℕ) (u w : List ℕ) → n ≡ length u → Agree n u w → edition u ≡ 1 → StaysUnlessCut (first_fault (head_rules u)) (first_fault (head_rules w))
head_kept n u w size h first =
    cut_rule (nat_lt (length u) 8) (nat_lt (length w) 8) _ _ _ _ refl (λ pass.
    let eight : 8 ≤ n = omega (arith, size, ltb-false (length u) 8 pass) in
    let e : edition w ≡ edition u = same_octets n u w 8 8 h (omega arith) (omega arith) eight in
    let t : total_length_1 w ≡ total_length_1 u = same_octets n u w 5 7 h (omega arith) (omega arith) (omega arith) in
    let first_w : edition w ≡ 1 = e ∙ first in (
      le-ltb (length w) 8 (omega (arith, h.long_w, eight)),
      kept_rule (not (edition u == 1) && not (edition u == 2)) (not (edition w == 1) && not (edition w == 2)) _ _ _ _
          (ap (λ k. not (k == 1) && not (k == 2)) e) (ap (λ k. refusal 8 Edition k) e) (λ pass_2.
          passed_rule (edition u == 2 && nat_lt (length u) 16) (edition w == 2 && nat_lt (length w) 16) _ _ _ _ (is_off (edition u) _ first) (is_off (edition w) _ first_w)
          (passed_rule (edition u == 2 && (nat_lt (total_length u) 20 || nat_lt MOST_OCTETS (total_length u)))
          (edition w == 2 && (nat_lt (total_length w) 20 || nat_lt MOST_OCTETS (total_length w))) _ _ _ _ (is_off (edition u) _ first) (is_off (edition w) _ first_w)
          (inr (ap (λ k. first_fault (rule (k == 1 && nat_lt (total_length_1 w) 12) 5 TotalLength (total_length_1 w) ∷ [])) e
          ∙ ap (λ k. first_fault (rule (edition u == 1 && nat_lt k 12) 5 TotalLength k ∷ [])) t)))),
    ))

-- what is said of a front is said of the whole, unless it asks for more
pub message_kept : (n : ℕ) (u w : List ℕ) → n ≡ length u → Agree n u w → edition u ≡ 1 → StaysUnlessCut (message_fault u) (message_fault w)
message_kept n u w size h first =
    or_kept (first_fault (head_rules u)) (first_fault (head_rules w)) (from_first u) (from_first w) (head_kept n u w size h first) (λ passed.
    let p = head_first u first passed in
    sections_kept n u w size h (same_octets n u w 5 7 h (omega arith) (omega arith) (omega (arith, size, p.0))))

-- so a refusal that asks for no more stays, and an acceptance
stays : (found later : Option Fault) (fault : Fault) → StaysUnlessCut found later → found ≡ Some fault → fault.reason ≢ Truncated → later ≡ Some fault
stays (Some found) later fault (inl cut) e whole =
    let same : found ≡ fault = cc in
    absurd (whole (sym (ap (λ f. f.reason) same) ∙ cut))
stays (Some found) later fault (inr kept) e whole = kept ∙ e
stays None later fault h e whole = cc

stays_none : (found later : Option Fault) → StaysUnlessCut found later → found ≡ None → later ≡ None
stays_none (Some found) later h e = cc
stays_none None later (inl cut) e = absurd cut
stays_none None later (inr kept) e = kept

pub refused_stays : (u more : List ℕ) (fault : Fault) → edition u ≡ 1 → verdict_1 u ≡ Refused fault → fault.reason ≢ Truncated
    → verdict_1 (u ++ more) ≡ Refused fault
refused_stays u more fault first e whole =
    some_refused (message_fault (u ++ more)) (total_length_1 (u ++ more)) fault
    (stays (message_fault u) (message_fault (u ++ more)) fault (message_kept (length u) u (u ++ more) refl (agree_more u more) first)
    (refused_some (message_fault u) (total_length_1 u) fault e) whole)

pub accepted_stays : (u more : List ℕ) (total : ℕ) → edition u ≡ 1 → verdict_1 u ≡ Accepted total → verdict_1 (u ++ more) ≡ Accepted total
accepted_stays u more total first e =
    let none = accepted_none (message_fault u) (total_length_1 u) total e in
    let head = none_later (first_fault (head_rules u)) (from_first u) none.0 in
    let eight = head_first u first head.0 in
    let stated : total_length_1 (u ++ more) ≡ total_length_1 u = same_octets (length u) u (u ++ more) 5 7 (agree_more u more) (omega arith) (omega arith) (omega (arith, eight.0)) in
    none_accepted (message_fault (u ++ more)) (total_length_1 (u ++ more))
    (stays_none (message_fault u) (message_fault (u ++ more)) (message_kept (length u) u (u ++ more) refl (agree_more u more) first) none.0)
    ∙ ap Accepted (stated ∙ none.1)
