-- A message that is accepted has `7777` at its stated end, so that it is skipped by as many octets as it has.
use Rattle.std.proofs.Common.{◌≡◌, ℕ, ◌+◌, ◌-◌, ◌<◌, ◌≤◌, Bool, true, false, All, Some, List, ◌++◌, length, take, drop, refl, sym, ap, ◌∙◌, arith, drop_at, length-append, length-take-le, ⊎_elim}
use Rattle.std.proofs.lemmas.List.Elements.{All-take}
use Rattle.std.proofs.lemmas.Slice.Eq.{bytes_eq-Decides}
use Rattle.std.specs.List.{concat}
use Rattle.grib_base.specs.declared.profile.Profile.TheVariants.{Stated}
use Rattle.grib2_sections.specs.Head.{end_mark}
use Rattle.grib2_sections.specs.Verdict.{Accepted}
use Rattle.grib2_message.proofs.Whole.{accepted_in_grammar as second_grammar}
use Rattle.grib1_sections.specs.Grammar.{joined_sections}
use Rattle.grib1_sections.proofs.Joined.{accepted_in_grammar as first_grammar}
use Rattle.grib_stream.specs.Stream.{begins, Judgement, Message, Faulty}
use Rattle.grib_stream.proofs.Streams.{begins_is}
use Rattle.grib_items.specs.Next.{is_ended, passed}
use Rattle.grib_items.proofs.Heads.{passed_here}
use Rattle.grib_command.specs.Judging.{judge}
use Rattle.grib_dispatch.specs.Lawful.{IsFirst, IsOther, not_first, message_judged, there_message}
use Rattle.grib_dispatch.specs.Stated.{states}
use Rattle.grib.specs.Messages.{IsSize}

ends_by : (octets front : List ℕ) (total : ℕ) → take total octets ≡ front ++ end_mark → total ≤ length octets → is_ended total octets ≡ true
ends_by octets front total joined there =
    let long : length front + 4 ≡ total = omega (arith, sym (ap length joined), length-append front end_mark, length-take-le total octets there) in
    let mark : drop (total - 4) (take total octets) ≡ end_mark = ap (drop (total - 4)) joined ∙ drop_at front end_mark (total - 4) (omega (arith, long)) in
    (bytes_eq-Decides end_mark (drop (total - 4) (take total octets))).1 (sym mark)

ended : (octets : List ℕ) (total : ℕ) → All (λ octet. octet < 256) octets → begins octets ≡ true → judge octets ≡ Message total → is_ended total octets ≡ true
ended octets total small begun is =
    let below : All (λ octet. octet < 256) (take total octets) = All-take (λ octet. octet < 256) total octets small in
    let there : total ≤ length octets = there_message Stated octets total is in
    ⊎_elim
    (λ (one : IsFirst octets (Accepted total)).
    let g = first_grammar octets total below (begins_is octets begun) one.edition_is one.verdict_is in
    ends_by octets (take 8 (take total octets) ++ joined_sections g.0) total g.2.joined there)
    (λ (two : IsOther Stated octets (Accepted total)).
    let g = second_grammar Stated octets total below (begins_is octets begun) (not_first octets two.other_edition) two.verdict_is in
    ends_by octets (take 16 (take total octets) ++ concat g.0) total g.2.joined there)
    (message_judged Stated octets total is)

pub message_passed : (more : Bool) (octets : List ℕ) (total : ℕ) → All (λ octet. octet < 256) octets → begins octets ≡ true → judge octets ≡ Message total → passed more octets ≡ Some total
message_passed more octets total small begun is =
    let stated = states Stated octets total is in
    passed_here more octets total true stated.0 stated.1 (there_message Stated octets total is) (ended octets total small begun is)

one_size : (m n : ℕ) → Some m ≡ Some n → m ≡ n
one_size m n e = cc

-- so the octets that are skipped of what is refused are the octets of what is accepted
size_by : (octets : List ℕ) (n : ℕ) (j : Judgement) → judge octets ≡ j → All (λ octet. octet < 256) octets → begins octets ≡ true → passed false octets ≡ Some n → IsSize octets n j
size_by octets n (Message total) so small begun is = one_size total n (sym (message_passed false octets total small begun so) ∙ is)
size_by octets n (Faulty fault) so small begun is = is

pub size_is : (octets : List ℕ) (n : ℕ) → All (λ octet. octet < 256) octets → begins octets ≡ true → passed false octets ≡ Some n → IsSize octets n (judge octets)
size_is octets n small begun is = size_by octets n (judge octets) refl small begun is
