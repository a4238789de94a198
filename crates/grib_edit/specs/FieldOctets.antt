-- A field has twenty octets at least, five for each of its Sections 4 to 7, and a message of its own no more than
-- any other message.
use Rattle.std.proofs.Common.{◌≡◌, ◌≢◌, ℕ, zero, suc, ◌+◌, ◌-◌, ◌*◌, ◌<◌, ◌≤◌, Bool, cond, nat_lt, List, [], ◌∷◌, ◌++◌, length, ap, arith, ⊎_elim, lt-ltb, le-ltb, length-append}
use Rattle.std.specs.List.{concat, count_by}
use Rattle.std.proofs.lemmas.Bool.{cases_eq}
use Rattle.grib_base.specs.declared.limits.TheConstants.{MOST_OCTETS}
use Rattle.grib_base.specs.declared.profile.Profile.TheVariants.{Open}
use Rattle.grib2_sections.specs.Frame.{Placed, placed_at, section_number}
use Rattle.grib2_message.specs.View.{is_numbered, last_number}
use Rattle.grib2_message.specs.Grammar.{AreSections}
use Rattle.grib2_message.specs.Fields.{field_count}
use Rattle.grib2_message.specs.Message.{IsAnyMessage}
use Rattle.grib2_message.proofs.Order.{Follows, next, skips, again, follows_tells}
use Rattle.grib2_message.proofs.Parted.{message_parted, message_states, message_most}
use Rattle.grib2_message.proofs.Placing.{placed_from}
use Rattle.grib_select.specs.Single.{single_of}
use Rattle.grib_select.proofs.Accepted.{count_7, count_none}
use Rattle.grib_select.proofs.Alone.{single_accepted}
use Rattle.grib_command.specs.Command.{texts_from}

-- ---- the octets of a field

-- how many octets a field has at least that has begun, after a section with this number
abbrev begun_octets : ℕ → ℕ
begun_octets last = cond (nat_lt last 7) (5 * (last - 3)) 0

before_end : (last : ℕ) → last < 7 → begun_octets last ≡ 5 * (last - 3)
before_end last low = ap (λ (b : Bool). cond b (5 * (last - 3)) 0) (lt-ltb last 7 low)

at_end : (last : ℕ) → last ≡ 7 → begun_octets last ≡ 0
at_end last is = ap (λ (b : Bool). cond b (5 * (last - 3)) 0) (le-ltb last 7 (omega arith))

-- a section that ends no field
goes_on : (last n l : ℕ) → Follows last n → n ≢ 7 → 5 ≤ l → begun_octets n ≤ begun_octets last + l
goes_on last n l (next e low) other long =
    let a = before_end last (omega arith) in
    let b = before_end n (omega arith) in
    omega arith
goes_on last n l (skips a b) other long = let few = before_end n (omega arith) in omega arith
goes_on last n l (again a b c) other long = let few = before_end n (omega arith) in omega arith

-- a section that ends one
ends_one : (last n l : ℕ) → Follows last n → n ≡ 7 → 5 ≤ l → 20 + begun_octets n ≤ begun_octets last + l
ends_one last n l (next e low) seven long =
    let a = before_end last (omega arith) in
    let b = at_end n seven in
    omega arith
ends_one last n l (skips a b) seven long = absurd (omega arith)
ends_one last n l (again a b c) seven long = absurd (omega arith)

twenty : (sections : List (List ℕ)) (q : ℕ) (before : List Placed) → AreSections Open before q sections
    → 20 * count_by (is_numbered 7) (placed_from q sections) ≤ begun_octets (last_number before) + length (concat sections)
twenty [] q before follow = omega arith
twenty (s ∷ sections) q before follow =
    let p = placed_at q s in
    let rest = placed_from (q + length s) sections in
    let follows = follows_tells (last_number before) (section_number s) follow.0.follows in
    let more = twenty sections (q + length s) (p ∷ before) follow.1 in
    let long : length (s ++ concat sections) ≡ length s + length (concat sections) = length-append s (concat sections) in
    ⊎_elim
    (λ seven. (let one = ends_one (last_number before) (section_number s) (length s) follows seven follow.0.least in omega (arith, count_7 p rest seven)))
    (λ other. (let none = goes_on (last_number before) (section_number s) (length s) follows other follow.0.least in omega (arith, count_none p rest other)))
    (cases_eq (section_number s) 7)

pub twenty_each : (message : List ℕ) → IsAnyMessage message → 20 * field_count message ≤ length message
twenty_each message h =
    let p = message_parted Open message h in
    let few = twenty p.sections 17 [] p.follow in
    let same : field_count message ≡ count_by (is_numbered 7) (placed_from 17 p.sections) = ap (count_by (is_numbered 7)) p.found in
    omega (arith, p.ends, message_states Open message h)

-- ---- the octets of fields as messages of their own

pub single_most : (message : List ℕ) (i : ℕ) → IsAnyMessage message → 1 ≤ i → i ≤ field_count message → length (single_of message i) ≤ MOST_OCTETS
single_most message i h low high = message_most Open (single_of message i) (single_accepted Open message i h low high)

-- texts of at most as many octets as a message has, together
pub texts_most : (text : ℕ → List ℕ) (n i : ℕ) → ((j : ℕ) → i ≤ j → j < i + n → length (text j) ≤ MOST_OCTETS) → length (texts_from text n i) ≤ MOST_OCTETS * n
texts_most text zero i few = omega arith
texts_most text (suc n) i few =
    let later = texts_most text n (i + 1) (λ j low high. few j (omega arith) (omega arith)) in
    let first = few i (omega arith) (omega arith) in
    let both : length (text i ++ texts_from text n (i + 1)) ≡ length (text i) + length (texts_from text n (i + 1)) = length-append (text i) (texts_from text n (i + 1)) in
    omega arith
