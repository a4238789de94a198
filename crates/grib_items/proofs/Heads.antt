-- What octets state of their length stays stated, whatever follows, and how far a refusal is passed by it.
use Rattle.std.proofs.Common.{◌≡◌, ◌≢◌, ℕ, ◌+◌, ◌-◌, ◌<◌, ◌≤◌, Bool, true, false, not, cond, ◌&&◌, ◌||◌, Option, Some, None, List, [], ◌++◌, length, take, drop, nat_lt, ◌==◌, refl, sym, ap, ◌∙◌, subst, arith, length-append, length-drop, ltb-false, le-ltb, lt-ltb, ⊎_elim}
use Rattle.std.proofs.lemmas.Bool.{cases_Bool, false≢true}
use Rattle.std.proofs.lemmas.List.{take-append-le, length-take}
use Rattle.std.proofs.lemmas.Slice.Eq.{bytes_eq-Decides}
use Rattle.std.specs.Str.{bytes_eq}
use lib.Seq.{drop-append-le}
use Rattle.grib_bits.specs.Octets.{num_on, octets}
use Rattle.grib_base.specs.declared.fault.Fault.{Fault}
use Rattle.grib_base.specs.declared.fault.Reason.TheVariants.{Truncated, Edition, TotalLength}
use Rattle.grib_base.specs.Rules.{refusal, first_fault}
use Rattle.grib_base.specs.declared.limits.TheConstants.{MOST_OCTETS}
use Rattle.grib2_sections.specs.declared.indicator.Head.{Head}
use Rattle.grib2_sections.specs.Head.{end_mark, edition, total_length, total_length_1, discipline, head_rules, head_of}
use Rattle.grib_stream.specs.Stream.{begins}
use Rattle.grib_stream.specs.Outcomes.{is_truncated}
use Rattle.grib_stream.proofs.Streams.{begins_long}
use Rattle.grib_items.specs.Next.{is_ended, passed_by, passed}

-- octets that stand, whatever follows
stands : (xs more : List ℕ) (first last : ℕ) → first ≤ last + 1 → first - 1 ≤ length xs → (first - 1) + (last + 1 - first) ≤ length xs
    → octets (xs ++ more) first last ≡ octets xs first last
stands xs more first last order low within =
    ap (λ ys. num_on 0 (take (last + 1 - first) ys)) (drop-append-le (first - 1) xs more low)
    ∙ ap (num_on 0) (take-append-le (last + 1 - first) (drop (first - 1) xs) more (omega (arith, length-drop (first - 1) xs, within)))

-- ---- the rules of Section 0

-- the rules behind the first, by what each of them asks
abbrev later_by : Bool → Bool → Bool → Bool → Bool → ℕ → ℕ → ℕ → ℕ → Option Fault
later_by other two short wrong wrong_1 e k total total_1 =
    cond other (Some (refusal 8 Edition e))
    (cond (two && short) (Some (refusal (k + 1) Truncated k))
    (cond (two && wrong) (Some (refusal 9 TotalLength total)) (cond wrong_1 (Some (refusal 5 TotalLength total_1)) None)))

abbrev later_rules : ℕ → ℕ → ℕ → ℕ → Option Fault
later_rules e k total total_1 =
    later_by (not (e == 1) && not (e == 2)) (e == 2) (nat_lt k 16) (nat_lt total 20 || nat_lt MOST_OCTETS total) (e == 1 && nat_lt total_1 12) e k total total_1

-- a fault that is not for the end of the octets, or none
abbrev IsFixed : Option Fault → Type 0
IsFixed None = Unit {0}
IsFixed (Some fault) = is_truncated fault.reason ≡ false

not_short : (b : Bool) (k : ℕ) (later : Option Fault) → IsFixed (cond b (Some (refusal (k + 1) Truncated k)) later) → (b ≡ false) × IsFixed later
not_short true k later fixed = absurd (false≢true (sym fixed))
not_short false k later fixed = (refl, fixed)

later_same : (other two short short_now wrong wrong_now wrong_1 : Bool) (e k k_now total total_now total_1 : ℕ)
    → (two ≡ true → short ≡ false → (short_now ≡ false) × ((wrong_now ≡ wrong) × (total_now ≡ total)))
    → IsFixed (later_by other two short wrong wrong_1 e k total total_1)
    → later_by other two short_now wrong_now wrong_1 e k_now total_now total_1 ≡ later_by other two short wrong wrong_1 e k total total_1
later_same true two short short_now wrong wrong_now wrong_1 e k k_now total total_now total_1 same fixed = refl
later_same false false short short_now wrong wrong_now wrong_1 e k k_now total total_now total_1 same fixed = refl
later_same false true true short_now wrong wrong_now wrong_1 e k k_now total total_now total_1 same fixed = absurd (false≢true (sym fixed))
later_same false true false short_now wrong wrong_now wrong_1 e k k_now total total_now total_1 same fixed =
    let both = same refl refl in
    let last : Option Fault = cond wrong_1 (Some (refusal 5 TotalLength total_1)) None in
    ap (λ b. cond b (Some (refusal (k_now + 1) Truncated k_now)) (cond wrong_now (Some (refusal 9 TotalLength total_now)) last)) both.0
    ∙ (ap (λ b. cond b (Some (refusal 9 TotalLength total_now)) last) both.1.0 ∙ ap (λ n. cond wrong (Some (refusal 9 TotalLength n)) last) both.1.1)

-- the numbers of Section 0 stay
edition_stays : (xs more : List ℕ) → 8 ≤ length xs → edition (xs ++ more) ≡ edition xs
edition_stays xs more long = stands xs more 8 8 (omega arith) (omega arith) (omega arith)

total_stays : (xs more : List ℕ) → 16 ≤ length xs → total_length (xs ++ more) ≡ total_length xs
total_stays xs more long = stands xs more 9 16 (omega arith) (omega arith) (omega arith)

total_1_stays : (xs more : List ℕ) → 8 ≤ length xs → total_length_1 (xs ++ more) ≡ total_length_1 xs
total_1_stays xs more long = stands xs more 5 7 (omega arith) (omega arith) (omega arith)

pub rules_stay : (xs more : List ℕ) → IsFixed (first_fault (head_rules xs)) → (8 ≤ length xs) × (first_fault (head_rules (xs ++ more)) ≡ first_fault (head_rules xs))
rules_stay xs more fixed =
    let k : ℕ = length xs in
    let k_now : ℕ = length (xs ++ more) in
    let size : k_now ≡ k + length more = length-append xs more in
    let (not_few, later_fixed) = not_short (nat_lt k 8) k (later_rules (edition xs) k (total_length xs) (total_length_1 xs)) fixed in
    let long : 8 ≤ k = ltb-false k 8 not_few in
    let few_now : nat_lt k_now 8 ≡ false = le-ltb k_now 8 (omega arith) in
    let e : edition (xs ++ more) ≡ edition xs = edition_stays xs more long in
    let one : total_length_1 (xs ++ more) ≡ total_length_1 xs = total_1_stays xs more long in
    let first_now : first_fault (head_rules (xs ++ more)) ≡ later_rules (edition (xs ++ more)) k_now (total_length (xs ++ more)) (total_length_1 (xs ++ more)) =
    ap (λ b. cond b (Some (refusal (k_now + 1) Truncated k_now)) (later_rules (edition (xs ++ more)) k_now (total_length (xs ++ more)) (total_length_1 (xs ++ more)))) few_now in
    let first : first_fault (head_rules xs) ≡ later_rules (edition xs) k (total_length xs) (total_length_1 xs) =
    ap (λ b. cond b (Some (refusal (k + 1) Truncated k)) (later_rules (edition xs) k (total_length xs) (total_length_1 xs))) not_few in
    let middle : later_rules (edition xs) k_now (total_length (xs ++ more)) (total_length_1 xs) ≡ later_rules (edition xs) k (total_length xs) (total_length_1 xs) =
    later_same (not (edition xs == 1) && not (edition xs == 2)) (edition xs == 2) (nat_lt k 16) (nat_lt k_now 16) _ _ (edition xs == 1 && nat_lt (total_length_1 xs) 12)
    (edition xs) k k_now (total_length xs) (total_length (xs ++ more)) (total_length_1 xs)
    (λ two there.
    let sixteen : 16 ≤ k = ltb-false k 16 there in
    let t : total_length (xs ++ more) ≡ total_length xs = total_stays xs more sixteen in
    (le-ltb k_now 16 (omega arith), (ap (λ n. nat_lt n 20 || nat_lt MOST_OCTETS n) t, t))) later_fixed in (
      long,
      first_now
          ∙ (ap (λ n. later_rules n k_now (total_length (xs ++ more)) (total_length_1 (xs ++ more))) e
          ∙ (ap (λ n. later_rules (edition xs) k_now (total_length (xs ++ more)) n) one ∙ (middle ∙ sym first))),
    )

-- ---- the stated total length

long_enough : (first two short wrong wrong_1 : Bool) (e k total total_1 : ℕ) → later_by (not first && not two) two short wrong wrong_1 e k total total_1 ≡ None
    → first ≡ false → short ≡ false
long_enough true two short wrong wrong_1 e k total total_1 none is = absurd (false≢true (sym is))
long_enough false false short wrong wrong_1 e k total total_1 none is = let no : ⊥ = cc in absurd no
long_enough false true true wrong wrong_1 e k total total_1 none is = let no : ⊥ = cc in absurd no
long_enough false true false wrong wrong_1 e k total total_1 none is = refl

none_fixed : (f : Option Fault) → f ≡ None → IsFixed f
none_fixed None is = tt
none_fixed (Some fault) is = let no : ⊥ = cc in absurd no

total_by : (b : Bool) (xs ys : List ℕ) → total_length_1 ys ≡ total_length_1 xs → (b ≡ false → total_length ys ≡ total_length xs)
    → (cond {A = Head} b (record { edition = 1; discipline = 0; total = total_length_1 ys }) (record { edition = 2; discipline = discipline ys; total = total_length ys })).total
    ≡ (cond {A = Head} b (record { edition = 1; discipline = 0; total = total_length_1 xs }) (record { edition = 2; discipline = discipline xs; total = total_length xs })).total
total_by true xs ys one other = one
total_by false xs ys one other = other refl

pub stated_stays : (xs more : List ℕ) → first_fault (head_rules xs) ≡ None
    → (first_fault (head_rules (xs ++ more)) ≡ None) × ((head_of (xs ++ more)).total ≡ (head_of xs).total)
stated_stays xs more none =
    let (long, same) = rules_stay xs more (none_fixed _ none) in
    let not_few : nat_lt (length xs) 8 ≡ false = le-ltb (length xs) 8 long in
    let later : later_rules (edition xs) (length xs) (total_length xs) (total_length_1 xs) ≡ None =
    sym (ap (λ b. cond b (Some (refusal (length xs + 1) Truncated (length xs))) (later_rules (edition xs) (length xs) (total_length xs) (total_length_1 xs))) not_few) ∙ none in
    let total : (head_of (xs ++ more)).total ≡ (head_of xs).total =
    ap (λ n. (cond {A = Head} (n == 1) (record { edition = 1; discipline = 0; total = total_length_1 (xs ++ more) })
    (record { edition = 2; discipline = discipline (xs ++ more); total = total_length (xs ++ more) })).total) (edition_stays xs more long)
    ∙ total_by (edition xs == 1) xs (xs ++ more) (total_1_stays xs more long)
    (λ other. total_stays xs more (ltb-false (length xs) 16 (long_enough (edition xs == 1) (edition xs == 2) (nat_lt (length xs) 16) _ _ _ _ _ _ later other))) in
    (same ∙ none, total)

-- where a length is stated, eight octets are there
pub stated_long : (xs : List ℕ) → first_fault (head_rules xs) ≡ None → 8 ≤ length xs
stated_long xs none = (rules_stay xs [] (none_fixed _ none)).0

-- ---- how far a refusal is passed

ended_there : (total : ℕ) (xs : List ℕ) → is_ended total xs ≡ true → (4 ≤ total) × (total ≤ length xs)
ended_there total xs is =
    let same : end_mark ≡ drop (total - 4) (take total xs) = (bytes_eq-Decides end_mark (drop (total - 4) (take total xs))).0 is in
    let four : length (drop (total - 4) (take total xs)) ≡ 4 = ap length (sym same) in
    (omega (arith, four, length-drop (total - 4) (take total xs), length-take total xs), omega (arith, four, length-drop (total - 4) (take total xs), length-take total xs))

size_by : (b : Bool) (total n : ℕ) (xs : List ℕ) → is_ended total xs ≡ b → 4 ≤ length xs → cond b total 4 ≡ n → (4 ≤ n) × (n ≤ length xs)
size_by true total n xs is long same = let there = ended_there total xs is in (omega (arith, there.0, same), omega (arith, there.1, same))
size_by false total n xs is long same = (omega (arith, same), omega (arith, long, same))

some_of : (b : Bool) (m n : ℕ) → cond b None (Some m) ≡ Some n → (b ≡ false) × (m ≡ n)
some_of true m n is = let no : ⊥ = cc in absurd no
some_of false m n is = (refl, cc)

passed_size_by : (more : Bool) (n : ℕ) (xs : List ℕ) (f : Option Fault) → 4 ≤ length xs → passed_by more xs f ≡ Some n → (4 ≤ n) × (n ≤ length xs)
passed_size_by more n xs None long is =
    let total : ℕ = (head_of xs).total in
    size_by (is_ended total xs) total n xs refl long (some_of (more && nat_lt (length xs) total) (cond (is_ended total xs) total 4) n is).1
passed_size_by more n xs (Some fault) long is =
    let same = (some_of (more && is_truncated fault.reason) 4 n is).1 in (omega (arith, same), omega (arith, same, long))

-- a refusal is passed by four octets at least, and by no more than there are
pub passed_size : (more : Bool) (n : ℕ) (xs : List ℕ) → begins xs ≡ true → passed more xs ≡ Some n → (4 ≤ n) × (n ≤ length xs)
passed_size more n xs begun is = passed_size_by more n xs (first_fault (head_rules xs)) (begins_long xs begun) is

pub and_off : (b c : Bool) → c ≡ false → (b && c) ≡ false
and_off true c is = is
and_off false c is = refl

passed_stays_by : (more : Bool) (n : ℕ) (xs later : List ℕ) (f : Option Fault) → first_fault (head_rules xs) ≡ f → passed_by true xs f ≡ Some n
    → passed more (xs ++ later) ≡ Some n
passed_stays_by more n xs later None none is =
    let total : ℕ = (head_of xs).total in
    let (none_now, total_now) = stated_stays xs later none in
    let (there, same) = some_of (nat_lt (length xs) total) (cond (is_ended total xs) total 4) n is in
    let long : total ≤ length xs = ltb-false (length xs) total there in
    let size : length (xs ++ later) ≡ length xs + length later = length-append xs later in
    let off : (more && nat_lt (length (xs ++ later)) total) ≡ false = and_off more _ (le-ltb (length (xs ++ later)) total (omega arith)) in
    let ends : is_ended total (xs ++ later) ≡ is_ended total xs =
    ap (λ ys. bytes_eq end_mark (drop (total - 4) ys)) (take-append-le total xs later long) in
    ap (passed_by more (xs ++ later)) none_now
    ∙ (ap (λ t. cond (more && nat_lt (length (xs ++ later)) t) None (Some (cond (is_ended t (xs ++ later)) t 4))) total_now
    ∙ (ap (λ b. cond b None (Some (cond (is_ended total (xs ++ later)) total 4))) off ∙ (ap (λ b. Some (cond b total 4)) ends ∙ ap Some same)))
passed_stays_by more n xs later (Some fault) some is =
    let (closed, same) = some_of (is_truncated fault.reason) 4 n is in
    let (long, now) = rules_stay xs later (subst IsFixed (sym some) closed) in
    ap (passed_by more (xs ++ later)) (now ∙ some) ∙ (ap (λ b. cond b None (Some 4)) (and_off more _ closed) ∙ ap Some same)

-- how far a refusal is passed stays, once it is known, whatever follows
pub passed_stays : (more : Bool) (n : ℕ) (xs later : List ℕ) → passed true xs ≡ Some n → passed more (xs ++ later) ≡ Some n
passed_stays more n xs later is = passed_stays_by more n xs later (first_fault (head_rules xs)) refl is

-- where no more octets follow, it is known
passed_known_by : (xs : List ℕ) (f : Option Fault) → passed_by false xs f ≢ None
passed_known_by xs None is = cc
passed_known_by xs (Some fault) is = cc

pub passed_known : (xs : List ℕ) → passed false xs ≢ None
passed_known xs = passed_known_by xs (first_fault (head_rules xs))

-- and it is not known where the stated end is not there
pub passed_later : (xs : List ℕ) → first_fault (head_rules xs) ≡ None → length xs < (head_of xs).total → passed true xs ≡ None
passed_later xs none fewer =
    ap (passed_by true xs) none
    ∙ ap (λ b. cond b None (Some (cond (is_ended (head_of xs).total xs) (head_of xs).total 4))) (lt-ltb (length xs) (head_of xs).total fewer)

-- where the stated end is there
pub passed_here : (more : Bool) (xs : List ℕ) (total : ℕ) (b : Bool) → first_fault (head_rules xs) ≡ None → (head_of xs).total ≡ total → total ≤ length xs
    → is_ended total xs ≡ b → passed more xs ≡ Some (cond b total 4)
passed_here more xs total b none stated long is =
    ap (passed_by more xs) none
    ∙ (ap (λ t. cond (more && nat_lt (length xs) t) None (Some (cond (is_ended t xs) t 4))) stated
    ∙ (ap (λ c. cond c None (Some (cond (is_ended total xs) total 4))) (and_off more (nat_lt (length xs) total) (le-ltb (length xs) total long))
    ∙ ap (λ c. Some (cond c total 4)) is))

not_ended : (total : ℕ) (xs : List ℕ) → length xs < total → is_ended total xs ≡ false
not_ended total xs fewer = ⊎_elim (λ is. let there = ended_there total xs is in absurd (omega (arith, there.1, fewer))) (λ none. none) (cases_Bool (is_ended total xs))

-- where the stated end does not come
pub passed_cut : (more : Bool) (xs : List ℕ) (total : ℕ) → first_fault (head_rules xs) ≡ None → (head_of xs).total ≡ total → length xs < total → more ≡ false
    → passed more xs ≡ Some 4
passed_cut more xs total none stated fewer last =
    ap (λ m. passed m xs) last
    ∙ (ap (passed_by false xs) none
    ∙ (ap (λ t. Some (cond (is_ended t xs) t 4)) stated ∙ ap (λ b. Some (cond b total 4)) (not_ended total xs fewer)))
