-- What a reader has, one step after another.
use Rattle.std.proofs.Common.{◌≡◌, ℕ, ◌+◌, ◌^◌, ◌<◌, ◌≤◌, ◌==◌, ◌⊎◌, inl, inr, Bool, true, false, cond, Option, None, Some, Ok, Err, List, [], ◌∷◌, ◌++◌, length, drop, refl, sym, ap, ◌∙◌, arith, subst, append-nil, append_assoc, length-append, length-drop, ⊎_elim, IfSome, ne_eqb}
use Rattle.std.proofs.lemmas.Bool.{cases_Bool, false≢true}
use Rattle.std.proofs.lemmas.List.{take-append-le, drop_all}
use Rattle.std.specs.declared.result.Result.{Result}
use Rattle.std.specs.Io.KnownBytes.{Consumes, IsAtEnd}
use lib.Seq.{drop-append-le}
use Rattle.grib_stream.specs.Reading.{Gathers}
use Rattle.grib_stream.specs.Searching.{Unmarked}
use Rattle.grib_stream.specs.Stream.{begins, Judgement, Message, Faulty, message_after}
use Rattle.grib_stream.proofs.Streams.{begun_stays}
use Rattle.grib_stream.proofs.Windows.{takes_none, takes_more}
use Rattle.grib_items.specs.Items.{Item, Accepted, Refused, passed_after}
use Rattle.grib_items.proofs.Heads.{stated_stays}
use Rattle.grib_base.specs.Rules.{first_fault}
use Rattle.grib_base.specs.declared.fault.Fault.{Fault}
use Rattle.grib2_sections.specs.Head.{head_rules, head_of}
use Rattle.std.specs.Result.{IsErrAnd}
use Rattle.grib_command.specs.Judging.{judge}
use Rattle.grib.specs.declared.fault.ReadError.{ReadError}
use Rattle.grib.specs.declared.fault.ReadError.TheVariants.{TooLong}
use Rattle.grib.specs.There.{IsThere}
use Rattle.grib.specs.Within.{IsWithin}
use Rattle.grib.specs.Messages.{items_left, IsSize}
use Rattle.grib.specs.Reading.{Reading, item_by, current, left_with, behind, StandsAtNext, Advances, AdvancesOver, Adds, Keeps, Breaks, turns_left}
use Rattle.grib.proofs.Firsts.{left_of, items_searched, items_none, items_begin}
use Rattle.grib.proofs.Settled.{judge_stays, passed_settled}
use Rattle.grib.proofs.Truncated.{head_closed}

-- ---- the octets and the counts

pub within_behind : (octets : List ℕ) (size place quota n : ℕ) (ended : Bool) → IsWithin octets size place quota ended → n ≤ length octets → IsWithin (drop n octets) 0 (place + n) quota ended
within_behind octets size place quota n ended w fits = record {
  there = omega arith;
  begun = λ some. absurd (some refl);
  few = omega (arith, w.few, length-drop n octets);
  counted = λ going. omega (arith, w.counted going, length-drop n octets);
}

pub within_added : (octets piece new : List ℕ) (place quota quota_now : ℕ) (ended : Bool) → IsWithin octets 0 place quota false → new ≡ octets ++ piece → quota_now + length piece ≡ quota
    → IsWithin new 0 place quota_now ended
within_added octets piece new place quota quota_now ended w grown size =
    let long : length new ≡ length octets + length piece = ap length grown ∙ length-append octets piece in
    let all = w.counted refl in
    record {
      there = omega arith;
      begun = λ some. absurd (some refl);
      few = omega (arith, all, long, size);
      counted = λ going. omega (arith, all, long, size);
    }

pub within_standing : (octets : List ℕ) (size place quota n : ℕ) (ended : Bool) → IsWithin octets size place quota ended → n ≤ length octets → begins octets ≡ true → IsWithin octets n place quota ended
within_standing octets size place quota n ended w fits begun = record { there = fits; begun = λ some. begun; few = w.few; counted = w.counted }

-- nothing is left
pub within_none : (octets : List ℕ) (place quota : ℕ) → octets ≡ [] → place < 2 ^ 64 → IsWithin octets 0 place quota true
within_none octets place quota none few = record {
  there = omega arith;
  begun = λ some. absurd (some refl);
  few = omega (arith, few, ap length none);
  counted = λ going. absurd (false≢true (sym going));
}

-- ---- what the exit of a `?` returns

pub passed_on : {T : Type 0} (P : Result T ReadError → Type 0) (result : Result T ReadError) (error : ReadError) → IsErrAnd result (λ e. e ≡ error) → P (Err error) → P result
passed_on {T} P (Ok x) error is held = absurd is
passed_on {T} P (Err other) error is held = subst (λ e. P (Err e)) (sym is) held

module _ {S : Type 0} (left : S → Option (List ℕ)) where
  -- ---- one step after another

  pub adds_none : (a : Reading S) (wanted : ℕ) → a.size ≡ 0 → (a.ended ≡ true) ⊎ (wanted ≤ length a.ahead) → Adds left a a wanted
  adds_none a wanted none there = record {
    taken = [];
    takes = takes_none (left a.source);
    ahead = sym (append-nil a.ahead);
    place = refl;
    size = none;
    quota = omega arith;
    still = λ ended. (refl, ended, refl);
    end = λ ended going. absurd (false≢true (sym going ∙ ended));
    there = there;
  }

  -- octets were taken and stand behind the others
  pub adds_gathered : (a b : Reading S) (wanted : ℕ) → a.ended ≡ false → Gathers (left a.source) (left b.source) a.ahead b.ahead a.quota b.quota → b.place ≡ a.place → b.size ≡ 0
      → (b.ended ≡ true → IsAtEnd (left b.source)) → (b.ended ≡ true) ⊎ (wanted ≤ length b.ahead) → Adds left a b wanted
  adds_gathered a b wanted going gathers place none end there = record {
    taken = gathers.piece;
    takes = gathers.taken;
    ahead = gathers.grown;
    place = place;
    size = none;
    quota = gathers.size;
    still = λ ended. absurd (false≢true (sym going ∙ ended));
    end = λ ended was. end ended;
    there = there;
  }

  -- and reading broke
  pub breaks_gathered : (a b : Reading S) (ahead : List ℕ) (quota : ℕ) (error : ReadError) → a.ended ≡ false → Gathers (left a.source) (left b.source) a.ahead ahead a.quota quota
      → IsWithin a.ahead a.size a.place a.quota a.ended → b.ended ≡ true → b.ahead ≡ [] → b.size ≡ 0 → (error ≡ TooLong → quota ≡ 0) → Breaks left a b error
  breaks_gathered a b ahead quota error going gathers within ended nothing none full = record {
    taken = gathers.piece;
    takes = gathers.taken;
    going = going;
    ended = ended;
    none = nothing;
    size = none;
    long = λ is. omega (arith, within.counted going, gathers.size, full is);
  }

  pub keeps_none : (a : Reading S) → Keeps left a a
  keeps_none a = record {
    taken = [];
    takes = takes_none (left a.source);
    still = λ ended. (refl, ended, refl);
    end = λ ended going. absurd (false≢true (sym going ∙ ended));
    items = λ later ends. refl;
    count = omega arith;
    on = omega arith;
  }

  pub keeps_then : (a b c : Reading S) → Keeps left a b → Keeps left b c → Keeps left a c
  keeps_then a b c first second = record {
    taken = first.taken ++ second.taken;
    takes = takes_more (left a.source) (left b.source) (left c.source) first.taken second.taken first.takes second.takes;
    still = λ ended.
        let one = first.still ended in
        let two = second.still one.1 in
        (two.0 ∙ one.0, two.1, ap (λ xs. xs ++ second.taken) one.2 ∙ two.2);
    end = λ ended going.
        ⊎_elim
        (λ (before : b.ended ≡ true). subst (λ s. IsAtEnd (left s)) (sym (second.still before).0) (first.end before going))
        (λ (before : b.ended ≡ false). second.end ended before)
        (cases_Bool b.ended);
    items = λ later ends.
        ap (λ xs. items_left (left_with a xs)) (append_assoc first.taken second.taken later)
        ∙ (first.items (second.taken ++ later) (λ ended.
        let two = second.still ended in
        ap (λ xs. xs ++ later) two.2 ∙ ends two.1)
        ∙ second.items later ends);
    count = omega (arith, first.count, second.count, length-append first.taken second.taken);
    on = omega (arith, first.on, second.on);
  }

  pub breaks_after : (a b c : Reading S) (error : ReadError) → Keeps left a b → Breaks left b c error → Breaks left a c error
  breaks_after a b c error first broken = record {
    taken = first.taken ++ broken.taken;
    takes = takes_more (left a.source) (left b.source) (left c.source) first.taken broken.taken first.takes broken.takes;
    going = ⊎_elim (λ (ended : a.ended ≡ true). absurd (false≢true (sym broken.going ∙ (first.still ended).1))) (λ (going : a.ended ≡ false). going) (cases_Bool a.ended);
    ended = broken.ended;
    none = broken.none;
    size = broken.size;
    long = λ is. omega (arith, broken.long is, first.count, length-append first.taken broken.taken);
  }

  -- ---- where it stands at no item

  pub left_at : (a : Reading S) (later : List ℕ) → a.size ≡ 0 → items_left (left_with a later) ≡ items_left (left_of (a.ahead ++ later) a.place)
  left_at a later none =
      ap (λ n. items_left (left_of (drop n a.ahead ++ later) (a.place + n))) none
      ∙ ap (λ p. items_left (left_of (a.ahead ++ later) p)) (let e : a.place + 0 ≡ a.place = omega arith in e)

  pub keeps_searched : (a : Reading S) (n : ℕ) → a.size ≡ 0 → Unmarked n a.ahead → n ≤ length a.ahead → Keeps left a (behind a n)
  keeps_searched a n none unmarked within = record {
    taken = [];
    takes = takes_none (left a.source);
    still = λ ended. (refl, ended, refl);
    end = λ ended going. absurd (false≢true (sym going ∙ ended));
    items = λ later ends. left_at a later none ∙ (items_searched a.place n a.ahead later unmarked within ∙ sym (left_at (behind a n) later refl));
    count = omega (arith, length-drop n a.ahead, within);
    on = omega arith;
  }

  -- and behind the item at which it stood
  pub keeps_passed : (a : Reading S) → a.size ≤ length a.ahead → Keeps left a (behind a a.size)
  keeps_passed a within = record {
    taken = [];
    takes = takes_none (left a.source);
    still = λ ended. (refl, ended, refl);
    end = λ ended going. absurd (false≢true (sym going ∙ ended));
    items = λ later ends. sym (left_at (behind a a.size) later refl);
    count = omega (arith, length-drop a.size a.ahead, within);
    on = omega arith;
  }

  pub keeps_added : (a b : Reading S) (wanted : ℕ) → a.size ≡ 0 → Adds left a b wanted → Keeps left a b
  keeps_added a b wanted none added = record {
    taken = added.taken;
    takes = added.takes;
    still = added.still;
    end = added.end;
    items = λ later ends.
        left_at a (added.taken ++ later) none
        ∙ (ap (λ xs. items_left (left_of xs a.place)) (sym (append_assoc a.ahead added.taken later) ∙ ap (λ xs. xs ++ later) (sym added.ahead))
        ∙ (ap (λ p. items_left (left_of (b.ahead ++ later) p)) (sym added.place) ∙ sym (left_at b later added.size)));
    count = omega (arith, added.place, ap length added.ahead, length-append a.ahead added.taken);
    on = omega (arith, added.place);
  }

  -- behind octets in which none begins, as they are shown
  pub keeps_moved : (a l p : Reading S) (n : ℕ) (shown : List ℕ) → Keeps left a l → l.size ≡ 0 → shown ≡ l.ahead → Unmarked n shown → n ≤ length shown → p ≡ behind l n → Keeps left a p
  keeps_moved a l p n shown kept none same unmarked within is =
      let unmarked_there : Unmarked n l.ahead = subst (λ xs. Unmarked n xs) same unmarked in
      let fits : n ≤ length l.ahead = subst (λ xs. n ≤ length xs) same within in
      keeps_then a l p kept (subst (λ r. Keeps left l r) (sym is) (keeps_searched l n none unmarked_there fits))

  -- after two reads
  pub keeps_gathered : (a b d : Reading S) (n m : ℕ) → a.size ≡ 0 → Adds left a b n → Adds left b d m → Keeps left a d
  keeps_gathered a b d n m none first second = keeps_then a b d (keeps_added a b n none first) (keeps_added b d m first.size second)

  pub begun_added : (a b : Reading S) (n : ℕ) → begins a.ahead ≡ true → Adds left a b n → begins b.ahead ≡ true
  begun_added a b n begun added = ap begins added.ahead ∙ begun_stays a.ahead added.taken begun

  pub there_stated : (b d : Reading S) (total : ℕ) (shown : List ℕ) → shown ≡ b.ahead → first_fault (head_rules shown) ≡ None → (head_of shown).total ≡ total → Adds left b d total
      → (d.ended ≡ true) ⊎ IsThere d.ahead
  there_stated b d total shown same none stated added =
      let none_there : first_fault (head_rules b.ahead) ≡ None = subst (λ xs. first_fault (head_rules xs) ≡ None) same none in
      let total_there : (head_of b.ahead).total ≡ total = subst (λ xs. (head_of xs).total ≡ total) same stated in
      let now = stated_stays b.ahead added.taken none_there in
      ⊎_elim (λ ended. inl ended)
      (λ (long : total ≤ length d.ahead).
      let none_now : first_fault (head_rules d.ahead) ≡ None = ap (λ xs. first_fault (head_rules xs)) added.ahead ∙ now.0 in
      let total_now : (head_of d.ahead).total ≡ total = ap (λ xs. (head_of xs).total) added.ahead ∙ (now.1 ∙ total_there) in
      inr (inl (none_now, omega (arith, total_now, long))))
      added.there

  pub there_refused : (a b : Reading S) (shown : List ℕ) (fault : Fault) → shown ≡ b.ahead → first_fault (head_rules shown) ≡ Some fault → Adds left a b 16 → (b.ended ≡ true) ⊎ IsThere b.ahead
  there_refused a b shown fault same refused added =
      let here : first_fault (head_rules b.ahead) ≡ Some fault = subst (λ xs. first_fault (head_rules xs) ≡ Some fault) same refused in
      ⊎_elim (λ ended. inl ended) (λ (long : 16 ≤ length b.ahead). inr (inr (fault, here, head_closed b.ahead fault long here))) added.there

  -- ---- what a call answers

  no_item : (a : Reading S) → a.size ≡ 0 → current a ≡ None
  no_item a none = ap (λ n. cond {A = Option Item} (n == 0) None (Some (item_by a.place a.ahead n (judge a.ahead)))) none

  pub advances_broken : (a c : Reading S) (error : ReadError) → Breaks left a c error → Advances left a c (Err error)
  advances_broken a c error broken = record {
    taken = broken.taken;
    takes = broken.takes;
    still = λ ended. absurd (false≢true (sym broken.going ∙ ended));
    items = λ later ends. (
      no_item c broken.size,
      left_at c later broken.size
          ∙ (ap (λ xs. items_left (left_of (xs ++ later) c.place)) broken.none ∙ ap (λ xs. items_left (left_of xs c.place)) (ends broken.ended)),
    );
    long = λ is. broken.long (let e : error ≡ TooLong = cc in e);
  }

  pub advances_none : (a b : Reading S) → Keeps left a b → b.size ≡ 0 → b.ended ≡ true → length b.ahead < 4 → Advances left a (behind b (length b.ahead)) (Ok false)
  advances_none a b kept none ended few = record {
    taken = kept.taken;
    takes = kept.takes;
    still = kept.still;
    items = λ later ends.
        let last : later ≡ [] = ends ended in (
          refl,
          kept.items later (λ _. last)
              ∙ (left_at b later none
              ∙ (ap (λ xs. items_left (left_of (b.ahead ++ xs) b.place)) last
              ∙ (ap (λ xs. items_left (left_of xs b.place)) (append-nil b.ahead) ∙ items_none b.place b.ahead few))),
          left_at (behind b (length b.ahead)) later refl
              ∙ (ap (λ xs. items_left (left_of (xs ++ later) (b.place + length b.ahead))) (drop_all (length b.ahead) b.ahead (omega arith))
              ∙ ap (λ xs. items_left (left_of xs (b.place + length b.ahead))) last),
        );
    long = λ is. absurd (let no : ⊥ = cc in no);
  }

  -- at the item of this many octets
  abbrev pub standing : Reading S → ℕ → Reading S
  standing a size = record { source = a.source; ahead = a.ahead; size = size; place = a.place; quota = a.quota; ended = a.ended }

  item_front : (place : ℕ) (octets later : List ℕ) (size : ℕ) (j : Judgement) → size ≤ length octets → IsSize octets size j → item_by place (octets ++ later) size j ≡ item_by place octets size j
  item_front place octets later size (Message total) within fits = ap (λ xs. Accepted (message_after place xs)) (take-append-le total octets later (omega (arith, fits, within)))
  item_front place octets later size (Faulty fault) within fits = ap (λ xs. Refused (passed_after place fault xs)) (take-append-le size octets later within)

  size_stays : (octets later : List ℕ) (size : ℕ) (j : Judgement) → IsThere octets → IsSize octets size j → IsSize (octets ++ later) size j
  size_stays octets later size (Message total) there fits = fits
  size_stays octets later size (Faulty fault) there fits = passed_settled octets later size there fits

  -- what is said of the octets that were read is said of them whatever follows
  record Settled (octets later : List ℕ) (size : ℕ) : Type 0 where
    pub judged : judge (octets ++ later) ≡ judge octets
    pub fits : IsSize (octets ++ later) size (judge octets)

  settled : (octets later : List ℕ) (size : ℕ) → (later ≡ []) ⊎ IsThere octets → IsSize octets size (judge octets) → Settled octets later size
  settled octets later size (inl last) fits =
      let same : octets ++ later ≡ octets = ap (λ xs. octets ++ xs) last ∙ append-nil octets in
      record { judged = ap judge same; fits = subst (λ xs. IsSize xs size (judge octets)) (sym same) fits }
  settled octets later size (inr there) fits = record { judged = judge_stays octets later there; fits = size_stays octets later size (judge octets) there fits }

  pub advances_some : (a b : Reading S) (size : ℕ) → Keeps left a b → b.size ≡ 0 → begins b.ahead ≡ true → (b.ended ≡ true) ⊎ IsThere b.ahead → 4 ≤ size → size ≤ length b.ahead
      → IsSize b.ahead size (judge b.ahead) → Advances left a (standing b size) (Ok true)
  advances_some a b size kept none begun there some within fits = record {
    taken = kept.taken;
    takes = kept.takes;
    still = kept.still;
    items = λ later ends.
        let item : Item = item_by b.place b.ahead size (judge b.ahead) in
        let s = settled b.ahead later size (⊎_elim (λ ended. inl (ends ended)) (λ t. inr t) there) fits in (
          item,
          ap (λ c. cond {A = Option Item} c None (Some item)) (ne_eqb size 0 (λ zero. absurd (omega (arith, zero, some)))),
          kept.items later ends
              ∙ (left_at b later none
              ∙ (items_begin b.place size (b.ahead ++ later) (begun_stays b.ahead later begun) (omega (arith, some)) (subst (IsSize (b.ahead ++ later) size) (sym s.judged) s.fits)
              ∙ (ap (λ j. item_by b.place (b.ahead ++ later) size j ∷ items_left (left_of (drop size (b.ahead ++ later)) (b.place + size))) s.judged
              ∙ (ap (λ i. i ∷ items_left (left_of (drop size (b.ahead ++ later)) (b.place + size))) (item_front b.place b.ahead later size (judge b.ahead) within fits)
              ∙ ap (λ xs. item ∷ items_left (left_of xs (b.place + size))) (drop-append-le size b.ahead later within))))),
        );
    long = λ is. absurd (let no : ⊥ = cc in no);
  }

  -- ---- where the source tells its octets

  told_by : (a b : Reading S) (result : Result Bool ReadError) (ended ended_now : Bool) (xs ys : Option (List ℕ)) (adv : Advances left a b result) → a.ended ≡ ended → b.ended ≡ ended_now
      → left a.source ≡ xs → left b.source ≡ ys
      → ((before after : List ℕ) → ended ≡ false → ended_now ≡ true → xs ≡ Some before → ys ≡ Some after → StandsAtNext (items_left (left_with a before)) result (current b) (items_left (left_with b [])))
      → IfSome (cond ended (Some []) xs) (λ before. (after : List ℕ) × (cond ended_now (Some []) ys ≡ Some after)
      × StandsAtNext (items_left (left_with a before)) result (current b) (items_left (left_with b after)))
  told_by a b result true true xs ys adv was now is is_now last =
      ([], refl, subst (λ zs. StandsAtNext (items_left (left_with a zs)) result (current b) (items_left (left_with b []))) (ap (λ zs. zs ++ []) (adv.still was).2) (adv.items [] (λ _. refl)))
  told_by a b result true false xs ys adv was now is is_now last = absurd (false≢true (sym now ∙ (adv.still was).1))
  told_by a b result false ended_now None ys adv was now is is_now last = tt
  told_by a b result false ended_now (Some before) None adv was now is is_now last =
      absurd (subst (λ (zs : Option (List ℕ)). Consumes (Some before) zs adv.taken) is_now (subst (λ (zs : Option (List ℕ)). Consumes zs (left b.source) adv.taken) is adv.takes.consumed))
  told_by a b result false true (Some before) (Some after) adv was now is is_now last = ([], refl, last before after refl refl refl refl)
  told_by a b result false false (Some before) (Some after) adv was now is is_now last =
      let joined : before ≡ adv.taken ++ after = subst (λ (zs : Option (List ℕ)). Consumes (Some before) zs adv.taken) is_now (subst (λ (zs : Option (List ℕ)). Consumes zs (left b.source) adv.taken) is adv.takes.consumed) in
      (after, refl, subst (λ zs. StandsAtNext (items_left (left_with a zs)) result (current b) (items_left (left_with b after))) (sym joined) (adv.items after (λ ended. absurd (false≢true (sym now ∙ ended)))))

  pub told_broken : (a b : Reading S) (error : ReadError) → Advances left a b (Err error) → b.ended ≡ true → AdvancesOver left a b (Err error)
  told_broken a b error adv ended =
      told_by a b (Err error) a.ended b.ended (left a.source) (left b.source) adv refl refl refl refl
      (λ before after going now is is_now. adv.items [] (λ _. refl))

  pub told_ended : (a b : Reading S) (found : Bool) → Advances left a b (Ok found) → (b.ended ≡ true → a.ended ≡ false → IsAtEnd (left b.source)) → AdvancesOver left a b (Ok found)
  told_ended a b found adv end =
      told_by a b (Ok found) a.ended b.ended (left a.source) (left b.source) adv refl refl refl refl
      (λ before after going now is is_now.
      let none : after ≡ [] = subst IsAtEnd is_now (end now going) in
      let joined : before ≡ adv.taken ++ after = subst (λ (zs : Option (List ℕ)). Consumes (Some before) zs adv.taken) is_now (subst (λ (zs : Option (List ℕ)). Consumes zs (left b.source) adv.taken) is adv.takes.consumed) in
      subst (λ zs. StandsAtNext (items_left (left_with a zs)) (Ok found) (current b) (items_left (left_with b []))) (sym (joined ∙ ap (λ zs. adv.taken ++ zs) none)) (adv.items [] (λ _. refl)))

  -- ---- going on

  keeps_here : (a p f : Reading S) → a.size ≤ length a.ahead → p ≡ behind a a.size → Keeps left p f → Keeps left a f
  keeps_here a p f within is kept = keeps_then a p f (subst (λ r. Keeps left a r) (sym is) (keeps_passed a within)) kept

  -- to an item
  pub goes_to : (a p f g new : Reading S) (size : ℕ) → a.size ≤ length a.ahead → p ≡ behind a a.size → Keeps left p f → Keeps left f g → g.size ≡ 0 → begins g.ahead ≡ true
      → (g.ended ≡ true) ⊎ IsThere g.ahead → 4 ≤ size → size ≤ length g.ahead → IsSize g.ahead size (judge g.ahead) → new ≡ standing g size
      → Advances left a new (Ok true) × AdvancesOver left a new (Ok true)
  goes_to a p f g new size within is found gathered none begun there some fits sized now =
      let kept : Keeps left a g = keeps_then a f g (keeps_here a p f within is found) gathered in
      let adv : Advances left a (standing g size) (Ok true) = advances_some a g size kept none begun there some fits sized in
      let both : Advances left a (standing g size) (Ok true) × AdvancesOver left a (standing g size) (Ok true) = (adv, told_ended a (standing g size) true adv kept.end) in
      subst (λ r. Advances left a r (Ok true) × AdvancesOver left a r (Ok true)) (sym now) both

  -- to the end
  pub goes_out : (a p f new : Reading S) → a.size ≤ length a.ahead → p ≡ behind a a.size → Keeps left p f → f.size ≡ 0 → f.ended ≡ true → length f.ahead < 4 → new ≡ behind f (length f.ahead)
      → Advances left a new (Ok false) × AdvancesOver left a new (Ok false)
  goes_out a p f new within is found none ended few now =
      let kept : Keeps left a f = keeps_here a p f within is found in
      let last : Reading S = behind f (length f.ahead) in
      let adv : Advances left a last (Ok false) = advances_none a f kept none ended few in
      let both : Advances left a last (Ok false) × AdvancesOver left a last (Ok false) = (adv, told_ended a last false adv kept.end) in
      subst (λ r. Advances left a r (Ok false) × AdvancesOver left a r (Ok false)) (sym now) both

  -- or reading broke
  pub goes_wrong : (a p c : Reading S) (error : ReadError) → a.size ≤ length a.ahead → p ≡ behind a a.size → Breaks left p c error
      → Advances left a c (Err error) × AdvancesOver left a c (Err error)
  goes_wrong a p c error within is broken =
      let here : Keeps left a p = subst (λ r. Keeps left a r) (sym is) (keeps_passed a within) in
      let adv : Advances left a c (Err error) = advances_broken a c error (breaks_after a p c error here broken) in (
        adv,
        told_broken a c error adv broken.ended,
      )

  pub goes_wrong_later : (a p f c : Reading S) (error : ReadError) → a.size ≤ length a.ahead → p ≡ behind a a.size → Keeps left p f → Breaks left f c error
      → Advances left a c (Err error) × AdvancesOver left a c (Err error)
  goes_wrong_later a p f c error within is found broken = goes_wrong a p c error within is (breaks_after p f c error found broken)

  -- as its octets are shown
  pub goes_shown : (a p f g new : Reading S) (size : ℕ) (shown : List ℕ) → shown ≡ g.ahead → a.size ≤ length a.ahead → p ≡ behind a a.size → Keeps left p f → Keeps left f g → g.size ≡ 0
      → begins g.ahead ≡ true → (g.ended ≡ true) ⊎ IsThere g.ahead → 4 ≤ size → size ≤ length shown → IsSize shown size (judge shown) → new ≡ standing g size
      → Advances left a new (Ok true) × AdvancesOver left a new (Ok true)
  goes_shown a p f g new size shown same within is found gathered none begun there some fits sized now =
      goes_to a p f g new size within is found gathered none begun there some (subst (λ xs. size ≤ length xs) same fits) (subst (λ xs. IsSize xs size (judge xs)) same sized) now

  -- an item is nearer to the end
  pub goes_nearer : (a p f g : Reading S) (size : ℕ) → IsWithin a.ahead a.size a.place a.quota a.ended → p ≡ behind a a.size → Keeps left p f → Keeps left f g → 4 ≤ size
      → turns_left (standing g size) < turns_left a
  goes_nearer a p f g size within is found gathered some =
      let passed : p.place ≡ a.place + a.size = ap (λ r. r.place) is in
      omega (arith, within.there, within.few, passed, found.on, gathered.on, some)
