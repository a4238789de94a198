-- What the octets of an input are, by the edition that they state.
use Rattle.std.specs.Prelude.{ℕ, List, ◌==◌}
use Rattle.grib_base.specs.Rules.{choose}
use Rattle.grib_base.specs.declared.profile.Profile.{Profile}
use Rattle.grib_base.specs.declared.profile.Profile.TheVariants.{Stated}
use Rattle.grib2_sections.specs.Head.{edition}
use Rattle.grib2_sections.specs.Verdict.{Verdict, Accepted, Refused}
use Rattle.grib2_message.specs.Acceptance.{verdict_under}
use Rattle.grib2_message.specs.Fields.{field_count}
use Rattle.grib1_sections.specs.Acceptance.{verdict_1}
use Rattle.grib_stream.specs.Stream.{Judgement, Message, Faulty}

abbrev pub judged : Verdict → Judgement
judged (Accepted total) = Message total
judged (Refused fault) = Faulty fault

-- what the octets from a `GRIB` on are, by their edition; those of edition 2 by a profile
abbrev pub judge_under : Profile → List ℕ → Judgement
judge_under profile octets = choose (edition octets == 1) (λ _. judged (verdict_1 octets)) (λ _. judged (verdict_under profile octets))

-- by the profile of the stated templates
abbrev pub judge : List ℕ → Judgement
judge = judge_under Stated

-- how many fields a message has; one of edition 1 has one
abbrev pub fields_of : List ℕ → ℕ
fields_of message = choose (edition message == 1) (λ _. 1) (λ _. field_count message)
