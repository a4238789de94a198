-- What is heard of a message is judged as the message is.
use Rattle.std.proofs.Common.{◌≡◌, ◌≢◌, ℕ, ◌+◌, ◌<◌, ◌≤◌, Bool, true, false, ◌&&◌, ◌==◌, List, [], ◌++◌, length, take, drop, refl, sym, ap, ◌∙◌, arith, ⊎_elim, eqb-true, take-append-drop, length-append, length-take-le}
use Rattle.std.proofs.lemmas.Bool.{cases_lt, false≢true}
use Rattle.std.proofs.lemmas.List.{take-append-le}
use Rattle.std.specs.Str.{bytes_eq}
use Rattle.grib_base.specs.declared.profile.Profile.{Profile}
use Rattle.grib2_sections.specs.Head.{indicator, edition}
use Rattle.grib_command.specs.Judging.{judge_under}
use Rattle.grib_dispatch.specs.Lawful.{same_edition, short_edition, other}
use Rattle.grib_dispatch.specs.Hearing.{judge_2_under, is_second, hears_by}

pub both : (a b : Bool) → (a && b) ≡ true → (a ≡ true) × (b ≡ true)
both true b is = (refl, is)
both false b is = absurd (false≢true is)

-- the edition of octets of which a message of edition 2 may come
pub not_one : (octets more : List ℕ) → is_second (take 8 (octets ++ more)) ≡ true → (edition octets == 1) ≡ false
not_one octets more second =
    let two : edition (take 8 (octets ++ more)) ≡ 2 = eqb-true (edition (take 8 (octets ++ more))) 2 (both (bytes_eq (take 4 (take 8 (octets ++ more))) indicator) (edition (take 8 (octets ++ more)) == 2) second).1 in
    ⊎_elim
    (λ (short : length octets < 8). ap (λ n. n == 1) (short_edition octets short))
    (λ (long : 8 ≤ length octets).
    let front : take 8 (octets ++ more) ≡ take 8 octets = take-append-le 8 octets more long in
    let size : length (take 8 octets) ≡ 8 = length-take-le 8 octets long in
    let whole : edition octets ≡ edition (take 8 octets) =
    ap edition (sym (take-append-drop 8 octets)) ∙ same_edition (take 8 octets) (drop 8 octets) (omega (arith, size)) in
    ap (λ n. n == 1) (whole ∙ (ap edition (sym front) ∙ two)))
    (cases_lt (length octets) 8)

pub alike : (profile : Profile) (hears : Bool) (octets more : List ℕ) → hears_by hears (take 8 (octets ++ more)) ≡ true
    → (is_second (take 8 (octets ++ more)) ≡ true) × (judge_under profile octets ≡ judge_2_under profile octets)
alike profile hears octets more heard =
    let second = (both hears (is_second (take 8 (octets ++ more))) heard).1 in
    (second, other profile octets (not_one octets more second))
