-- The input of a run, and its items, as far as it is answered.
use Rattle.std.specs.Prelude.{ℕ, ◌^◌, Bool, List, take, length, nat_lt}
use Rattle.grib_base.specs.declared.profile.Profile.{Profile}
use Rattle.grib_stream.specs.Reading.{Takes}
use Rattle.grib_items.specs.declared.policy.Policy.{Policy}
use Rattle.grib_items.specs.Answer.{passes}
use Rattle.grib_items.specs.Items.{Items, items}
use Rattle.grib_command.specs.Judging.{judge_under}
use Rattle.grib_run_spec.specs.Seen.{Seen}

-- the items of octets by a profile and under a policy: whether more octets may follow
abbrev pub items_of : Profile → Policy → Bool → List ℕ → Items
items_of profile policy more octets = items (judge_under profile) (passes policy) more octets

-- whether an input has more octets than are answered
abbrev pub is_longer : List ℕ → Bool
is_longer input = nat_lt (2 ^ 40) (length input)

abbrev pub items_answered : Profile → Policy → List ℕ → Items
items_answered profile policy input = items_of profile policy (is_longer input) (take (2 ^ 40) input)

-- what holds of the octets that were taken of an input
abbrev pub OfTaken : Seen → Seen → (List ℕ → Type 0) → Type 0
OfTaken before now P = (taken : List ℕ) × Takes before.left now.left taken × P taken
