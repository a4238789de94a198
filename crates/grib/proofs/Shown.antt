-- What is given of an item, by what was read from its `GRIB` on.
use Rattle.std.proofs.Common.{◌≡◌, ◌≢◌, ℕ, ◌+◌, ◌≤◌, true, cond, Some, None, Ok, Err, List, [], ◌∷◌, length, take, drop, refl, sym, ap, ◌∙◌, subst, arith, length-drop, ne_eqb}
use Rattle.std.proofs.lemmas.Bool.{false≢true}
use Rattle.std.specs.declared.result.Result.{Result}
use Rattle.std.specs.declared.option.Option.{Option}
use Rattle.std.specs.Result.{MatchResult}
use Rattle.std.specs.Iterator.{MakesProgress, at_most}
use Rattle.grib_base.specs.declared.profile.Profile.TheVariants.{Stated}
use Rattle.grib_stream.specs.Stream.{begins, message_after}
use Rattle.grib_items.specs.Items.{Item, Accepted, Refused, passed_after}
use Rattle.grib_command.specs.Judging.{judge}
use Rattle.grib_dispatch.specs.Lawful.{least_message}
use Rattle.grib_dispatch.specs.Reading.{Holds, held_octets}
use Rattle.grib_dispatch.specs.declared.reading.Held.{Held}
use Rattle.grib.specs.declared.fault.ReadError.{ReadError}
use Rattle.grib.specs.declared.fault.ReadError.TheVariants.{NoMessage, Refused as ReadRefused, Memory, Source, TooLong}
use Rattle.grib.specs.Message.{BeginsWith, IsReadError}
use Rattle.grib.specs.Messages.{Left, items_left, IsSize, IsGiven, GivesNext}
use Rattle.grib.specs.Reading.{Reading, item_by, current, Shows}
use Rattle.grib.proofs.Firsts.{left_of, items_begin}

given_message : (place size : ℕ) (octets : List ℕ) (held : Held) → Holds Stated octets held → IsGiven (item_by place octets size (judge octets)) (Ok held)
given_message place size octets held holds = (
  (place, ap (item_by place octets size) holds.judged ∙ ap (λ xs. Accepted (message_after place xs)) (sym holds.message)),
  holds.accepted,
)

given_error : (place size : ℕ) (octets : List ℕ) (error : ReadError) → begins octets ≡ true → IsReadError octets place error → IsGiven (item_by place octets size (judge octets)) (Err error)
given_error place size octets NoMessage begun why = absurd (false≢true (sym why ∙ begun))
given_error place size octets (ReadRefused p fault) begun why = (
  take size octets,
  ap (item_by place octets size) why.1 ∙ ap (λ q. Refused (passed_after q fault (take size octets))) (sym why.2),
)
given_error place size octets Memory begun why = tt
given_error place size octets Source begun why = absurd why
given_error place size octets TooLong begun why = absurd why

-- ---- where a reader stands

given_here : (place size : ℕ) (octets : List ℕ) (result : Result Held ReadError) → begins octets ≡ true → MatchResult result (BeginsWith octets) (IsReadError octets place)
    → IsGiven (item_by place octets size (judge octets)) result
given_here place size octets (Ok held) begun is = given_message place size octets held is.1
given_here place size octets (Err error) begun is = given_error place size octets error begun is

pub shown_here : {S : Type 0} (reading : Reading S) (result : Result Held ReadError) → reading.size ≢ 0 → begins reading.ahead ≡ true
    → MatchResult result (BeginsWith reading.ahead) (IsReadError reading.ahead reading.place) → Shows (current reading) result
shown_here reading result some begun is =
    let item : Item = item_by reading.place reading.ahead reading.size (judge reading.ahead) in
    subst (λ b. Shows (cond {A = Option Item} b None (Some item)) result) (sym (ne_eqb reading.size 0 some)) (given_here reading.place reading.size reading.ahead result begun is)

-- as its octets are shown
pub shown_standing : {S : Type 0} (reading : Reading S) (result : Result Held ReadError) (octets : List ℕ) (place : ℕ) → octets ≡ reading.ahead → place ≡ reading.place → reading.size ≢ 0
    → begins octets ≡ true → MatchResult result (BeginsWith octets) (IsReadError octets place) → Shows (current reading) result
shown_standing reading result octets place same there some begun is =
    let begun_there : begins reading.ahead ≡ true = subst (λ xs. begins xs ≡ true) same begun in
    let moved : MatchResult result (BeginsWith reading.ahead) (IsReadError reading.ahead place) = subst (λ xs. MatchResult result (BeginsWith xs) (IsReadError xs place)) same is in
    shown_here reading result some begun_there (subst (λ n. MatchResult result (BeginsWith reading.ahead) (IsReadError reading.ahead n)) there moved)

-- ---- the first of what is left

-- what is left behind the first item, of this many octets
pub record IsBehind (before at after : Left) (size : ℕ) : Type 0 where
  pub same : items_left at ≡ items_left before
  pub begun : begins at.octets ≡ true
  pub some : 1 ≤ size
  pub fits : IsSize at.octets size (judge at.octets)
  pub behind : after ≡ left_of (drop size at.octets) (at.place + size)

first_item : (before at after : Left) (size : ℕ) → IsBehind before at after size → items_left before ≡ item_by at.place at.octets size (judge at.octets) ∷ items_left after
first_item before at after size b =
    sym b.same
    ∙ (items_begin at.place size at.octets b.begun b.some b.fits
    ∙ ap (λ l. item_by at.place at.octets size (judge at.octets) ∷ items_left l) (sym b.behind))

pub gives_message : (before at after : Left) (held : Held) → items_left at ≡ items_left before → BeginsWith at.octets held
    → after ≡ left_of (drop (length (held_octets held)) at.octets) (at.place + length (held_octets held)) → GivesNext before (Some (Ok held)) after
gives_message before at after held same is behind =
    let size : ℕ = length (held_octets held) in
    let least = least_message Stated at.octets size is.1.judged in
    let b : IsBehind before at after size = record {
      same = same;
      begun = is.0;
      some = omega (arith, least);
      fits = subst (IsSize at.octets size) (sym is.1.judged) refl;
      behind = behind;
    } in (
      item_by at.place at.octets size (judge at.octets),
      first_item before at after size b,
      given_message at.place size at.octets held is.1,
    )

pub gives_error : (before at after : Left) (size : ℕ) (error : ReadError) → IsBehind before at after size → IsReadError at.octets at.place error → error ≢ Memory
    → GivesNext before (Some (Err error)) after
gives_error before at after size NoMessage b why other = absurd (false≢true (sym why ∙ b.begun))
gives_error before at after size (ReadRefused p fault) b why other = (
  item_by at.place at.octets size (judge at.octets),
  first_item before at after size b,
  given_error at.place size at.octets (ReadRefused p fault) b.begun why,
)
gives_error before at after size Memory b why other = absurd (other refl)
gives_error before at after size Source b why other = absurd why
gives_error before at after size TooLong b why other = absurd why

pub gives_none : (before after : Left) → items_left after ≡ items_left before → after.octets ≡ [] → GivesNext before None after
gives_none before after same none = (sym same ∙ ap (λ xs. items_left (left_of xs after.place)) none, none)

-- ---- fewer octets are left

pub goes_down : {A : Type 0} (before at after : Left) (size : ℕ) (x : A) → length at.octets ≤ length before.octets → begins at.octets ≡ true → 1 ≤ size
    → after.octets ≡ drop size at.octets → 4 ≤ length at.octets → MakesProgress (λ (_ : Left). Unit {0}) (λ (l : Left). at_most (length l.octets)) before (Some x) after
goes_down before at after size x fewer begun some behind long = record {
  on = λ _. (tt, tt, omega (arith, fewer, some, long, ap length behind, length-drop size at.octets));
  keeps = tt;
  rests = λ _. tt;
}
