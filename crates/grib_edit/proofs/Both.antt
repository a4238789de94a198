-- A message that is written in two pieces, and its reference time in the first.
use Rattle.std.proofs.Common.{◌≡◌, ℕ, ◌≤◌, Bool, List, [], ◌++◌, length, drop, Ok, sym, ap, ◌∙◌, arith, append_assoc, append-nil, length-drop, pos}
use Rattle.std.specs.declared.option.Option.{Option}
use Rattle.std.specs.Io.KnownBytes.{Appends}
use Rattle.std.proofs.KnownBytes.{Appends-trans}
use Rattle.std.proofs.lemmas.List.{drop-append-le}
use Rattle.grib_bits.specs.Octets.{octets}
use Rattle.grib2_message.proofs.Whole.{octets_before}
use Rattle.grib_dates.specs.Times.{time, time2_in, is_civil, is_valid_time2}
use Rattle.grib_io.specs.Outside.{AppendsFront}
use Rattle.grib_command.specs.Pending.{WritesTo}

-- some front of the second piece after the first
pub second_front : (a b c : Option (List ℕ)) (xs ys : List ℕ) → Appends a b xs → AppendsFront b c ys → AppendsFront a c (xs ++ ys)
second_front a b c xs ys first (front, rest, is, appended) =
    (xs ++ front, rest, ap (λ zs. xs ++ zs) is ∙ sym (append_assoc xs front rest), Appends-trans a b c xs front first appended)

-- both pieces
pub both_written : {Sink T U V : Type 0} (contents : Sink → Option (List ℕ)) (faults : Sink → ℕ) (settled : Sink → Bool) (x : T) (y : U) (z : V) (a b c : Sink) (xs ys : List ℕ)
    → WritesTo contents faults settled (Ok x) a b xs → WritesTo contents faults settled (Ok y) b c ys → WritesTo contents faults settled (Ok z) a c (xs ++ ys)
both_written contents faults settled x y z a b c xs ys first second =
    let appended = Appends-trans (contents a) (contents b) (contents c) xs ys first.octets.whole second.octets.whole in
    record {
      octets = record { whole = appended; front = (xs ++ ys, [], sym (append-nil (xs ++ ys)), appended) };
      counted = second.counted ∙ first.counted;
      unfinished = λ all. first.unfinished (second.unfinished all);
    }

-- the reference time stands in the first 35 octets
pub time_in_front : (front rest : List ℕ) → 35 ≤ length front → is_valid_time2 (front ++ rest) ≡ is_valid_time2 front
time_in_front front rest long =
    let s = drop 16 front in
    let at : (a b : ℕ) → 1 ≤ a → a ≤ b → b ≤ 19 → octets (s ++ rest) a b ≡ octets s a b =
    λ a b low order high. octets_before s rest a b low order (omega (arith, length-drop 16 front)) in
    let year = at 13 14 (omega arith) (omega arith) (omega arith) in
    let month = at 15 15 (omega arith) (omega arith) (omega arith) in
    let day = at 16 16 (omega arith) (omega arith) (omega arith) in
    let hour = at 17 17 (omega arith) (omega arith) (omega arith) in
    let minute = at 18 18 (omega arith) (omega arith) (omega arith) in
    let second = at 19 19 (omega arith) (omega arith) (omega arith) in
    ap (λ (xs : List ℕ). is_civil (time2_in xs)) (drop-append-le 16 front rest (omega arith))
    ∙ (λ i. is_civil (time (pos (year i)) (month i) (day i) (hour i) (minute i) (second i)))
