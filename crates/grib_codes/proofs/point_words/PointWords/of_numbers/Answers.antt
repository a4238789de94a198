use Rattle.std.proofs.Common.{◌^◌, ◌<◌, ◌≤◌, All, ◌-◌, map, sym, ◌∙◌, arith, pow_mono, le-ltb}
use Rattle.std.proofs.lemmas.List.Elements.{All-weaker}
use Rattle.grib_bits.specs.Bits.{bits}
use Rattle.grib_bits.specs.Plain.{plain}
use Rattle.grib_packing.specs.Misfits.{greatest_code}
use Rattle.grib_codes.proofs.AsWords.{NumbersAreWords, numbers_are_words}
use Rattle.grib_simple_reading.proofs.Plain.{plain_below, plain_point}
use Rattle.grib_codes.proofs.point_words.PointWords.of_numbers.Goals as goal

pub returns : goal.returns
returns c =
    let w = c.args.bits in
    let numbers = plain (bits c.args.octets.now) w c.args.count in
    let power : 2 ^ w ≤ 2 ^ 31 = pow_mono c.requires.bits in
    let small : All (λ n. n < 2 ^ 31) numbers =
    All-weaker (λ n. n < 2 ^ w) (λ n. n < 2 ^ 31) (λ n h. omega (arith, h, power)) numbers (plain_below (bits c.args.octets.now) w c.args.count) in
    let known : NumbersAreWords numbers (map plain_point numbers) = numbers_are_words numbers small in
    record {
      words = c.in_ok-words.ensures ∙ known.words;
      management = sym known.none;
      outside = λ k few. le-ltb (greatest_code k) (2 ^ 31 - 1) (omega arith) ∙ sym (known.inside k few);
    }
