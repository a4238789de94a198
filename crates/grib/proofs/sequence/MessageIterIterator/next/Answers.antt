use Rattle.std.proofs.Common.{◌≡◌, ◌+◌, ◌<◌, ◌≤◌, true, List, ℕ, length, drop, ap, ◌∙◌, subst, arith, rules, length-drop}
use Rattle.grib_stream.specs.Stream.{begins}
use Rattle.grib_command.specs.Judging.{judge}
use Rattle.grib.specs.Message.{BeginsWith, IsReadError}
use Rattle.grib.specs.Messages.{Left, IsSize}
use Rattle.grib.proofs.Firsts.{left_of}
use Rattle.grib.proofs.Shown.{IsBehind, gives_message, gives_error}
use Rattle.grib.proofs.sequence.MessageIterIterator.next.Goals as goal

pub returns-in-Ok-clause-steps : goal.returns-in-Ok-clause-steps
returns-in-Ok-clause-steps c =
    let at = c.find_mark.new.self in
    gives_message c.args.self.now at c.skip.new.self c.in-Ok.message c.find_mark.ensures.items
    (subst (λ xs. BeginsWith xs c.in-Ok.message) (ap (λ l. l.octets) c.self.view_is) c.in-Ok.ensures)
    (c.skip.ensures ∙ ap (λ xs. left_of (drop (length xs) at.octets) (at.place + length xs)) c.octets.ensures)

pub returns-in_default : goal.returns-in_default
returns-in_default c =
    let before = c.args.self.now in
    let at = c.find_mark.new.self in
    let after = c.skip-in_default-2.new.self in
    let size = c.octets_of_first.result in
    let sized = c.octets_of_first.ensures in
    let same = ap (λ l. l.octets) c.skip-in_default.view_is in
    let begun : begins at.octets ≡ true = search rules in
    let fits : size ≤ length at.octets = subst (λ (xs : List ℕ). size ≤ length xs) same sized.within in
    let behind : IsBehind before at after size = record {
      same = c.find_mark.ensures.items;
      begun = begun;
      some = omega (arith, sized.some);
      fits = subst (λ (xs : List ℕ). IsSize xs size (judge xs)) same sized.size;
      behind = c.skip-in_default-2.ensures;
    } in
    let why : IsReadError at.octets at.place c.in-Err.error = subst (λ (l : Left). IsReadError l.octets l.place c.in-Err.error) c.self.view_is c.in-Err.ensures in
    let fewer : length after.octets < length before.octets =
    omega (arith, c.find_mark.ensures.fewer, sized.some, fits, ap (λ l. length l.octets) c.skip-in_default-2.ensures, length-drop size at.octets) in
    record {
      steps = gives_error before at after size c.in-Err.error behind why c.in_default.not-Memory;
      goes = record { on = λ _. (tt, tt, fewer); keeps = tt; rests = λ _. tt };
    }
