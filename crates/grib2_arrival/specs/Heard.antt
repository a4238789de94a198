-- What is known of an arriving message by the octets that were heard.
use Rattle.std.specs.Prelude.{◌≡◌, ◌≢◌, ℕ, ◌+◌, ◌-◌, ◌≤◌, ◌<◌, IsTrue, Option, Some, None, List, [], ◌++◌, length, take, drop}
use Rattle.grib_bits.specs.Octets.{octets as number_at, StatesItself}
use Rattle.grib_base.specs.declared.fault.Fault.{Fault}
use Rattle.grib_base.specs.declared.fault.ReadFault.{ReadFault}
use Rattle.grib_base.specs.declared.fault.ReadFault.TheVariants.{Refused, Memory}
use Rattle.grib_base.specs.declared.fault.Reason.TheVariants.{Truncated}
use Rattle.grib_base.specs.Rules.{refusal}
use Rattle.grib_base.specs.declared.profile.Profile.{Profile}
use Rattle.grib_base.specs.declared.profile.Profile.TheVariants.{Stated}
use Rattle.grib2_sections.specs.Verdict as verdicts
use Rattle.grib2_sections.specs.Head.{indicator, edition}
use Rattle.grib2_sections.specs.Frame.{Placed, Step, End, Fails, Next, step, end_fault, opening_fault, may_follow}
use Rattle.grib2_message.specs.View.{octets_in_force}
use Rattle.grib2_message.specs.Acceptance.{verdict_under}
use Rattle.grib2_arrival.specs.declared.kept.Kept.{Kept}
use Rattle.grib2_arrival.specs.declared.data.Data.{Data}
use Rattle.grib2_arrival.specs.declared.look.Look.{Look}
use Rattle.grib2_arrival.specs.declared.look.Look.TheVariants.{More, Ends, Section, Values}
use Rattle.grib2_arrival.specs.declared.head.Beginning.{Beginning}
use Rattle.grib2_arrival.specs.declared.state.State.{State}
use Rattle.grib2_arrival.specs.declared.state.State.TheVariants.{Begins, Gathers, Feeds, Ended}
use Rattle.grib2_arrival.specs.declared.arrival.Arrival.{Arrival}
use Rattle.grib2_arrival.specs.Standing.{Stands}
use Rattle.grib2_arrival.specs.Fed.{DataAgrees}

-- the octets begin like a message of edition 2, as far as their first eight go
pub record BeginsLikeTwo (octets : List ℕ) : Type 0 where
  pub indicated : take 4 octets ≡ take (length octets) indicator
  pub second : 8 ≤ length octets → edition octets ≡ 2

-- the refusal where these octets are all that there is
abbrev pub cut_off : List ℕ → Fault
cut_off octets = refusal (length octets + 1) Truncated (length octets)

-- why an arrival stops: the octets are refused, whatever follows them; of memory nothing is said
abbrev pub StopsUnder : Profile → List ℕ → ReadFault → Type 0
StopsUnder profile octets (Refused fault) = (verdict_under profile octets ≡ verdicts.Refused fault) × (fault.reason ≢ Truncated)
StopsUnder profile octets Memory = Unit {0}

-- what stands where the next section or the End Section is to come
abbrev pub step_of : List ℕ → Kept → Step
step_of octets kept = step octets kept.frame.total kept.frame.last kept.frame.place

-- the octets from there on
abbrev pub pending : List ℕ → Kept → List ℕ
pending octets kept = drop (kept.frame.place - 1) octets

-- the octets `7777` as a number
abbrev pub mark : ℕ
mark = 926365495

-- a section that is no Section 7, or an End Section, that is not whole: more octets are wanted
pub record IsUnfinished (gathered : List ℕ) : Type 0 where
  pub goes : 4 ≤ length gathered → number_at gathered 1 4 ≢ mark
  pub wants : 5 ≤ length gathered → length gathered < number_at gathered 1 4
  pub other : 5 ≤ length gathered → number_at gathered 5 5 ≢ 7

-- no more than one section or one End Section, and of a Section 7 no more than its length and its
-- number
pub record IsOne (gathered : List ℕ) : Type 0 where
  pub goes : 5 ≤ length gathered → number_at gathered 1 4 ≢ mark
  pub within : 6 ≤ length gathered → length gathered ≤ number_at gathered 1 4
  pub other : 6 ≤ length gathered → number_at gathered 5 5 ≢ 7

-- Section 0 is not whole.
pub record BeginsHeard (profile : Profile) (beginning : Beginning) (octets : List ℕ) : Type 0 where
  pub few : length octets ≤ 15
  pub count : beginning.count ≡ length octets
  pub first : take (length octets) beginning.first ≡ octets
  pub begins : BeginsLikeTwo octets
  pub under : beginning.profile ≡ profile

-- These octets of the next section or of the End Section came, and it is not whole.
pub record GathersHeard (profile : Profile) (kept : Kept) (gathered : List ℕ) (octets : List ℕ) : Type 0 where
  pub before : List Placed
  pub stands : Stands profile octets before kept
  pub gathered_are : gathered ≡ pending octets kept
  pub cut : step_of octets kept ≡ Fails (cut_off octets)
  pub unfinished : IsUnfinished gathered
  pub near : length octets ≤ kept.frame.total

-- A Section 7 of this length has begun, of which five octets and more came.
pub record IsValues (octets : List ℕ) (kept : Kept) (l : ℕ) : Type 0 where
  pub there : kept.frame.place + 4 ≤ length octets
  pub length_is : number_at octets kept.frame.place (kept.frame.place + 3) ≡ l
  pub number_is : number_at octets (kept.frame.place + 4) (kept.frame.place + 4) ≡ 7
  pub ends : end_fault kept.frame l ≡ None
  pub goes : l ≢ mark
  pub opens : opening_fault kept.frame l 7 ≡ None
  pub least : 5 ≤ l
  pub room : kept.frame.place - 1 + l + 4 ≤ kept.frame.total
  pub follows : IsTrue (may_follow kept.frame.last 7)

-- It is not whole: its octets from the sixth on were read.
pub record FeedsHeard (profile : Profile) (kept : Kept) (l : ℕ) (feed : Data) (octets : List ℕ) : Type 0 where
  pub before : List Placed
  pub stands : Stands profile octets before kept
  pub values : IsValues octets kept l
  pub agrees : DataAgrees (octets_in_force 5 before) kept.frame.place l (drop 5 (pending octets kept)) feed
  pub wants : length (pending octets kept) < l

-- The End Section came.
pub record EndedHeard (profile : Profile) (kept : Kept) (octets : List ℕ) : Type 0 where
  pub before : List Placed
  pub stands : Stands profile octets before kept
  pub ends : step_of octets kept ≡ End
  pub whole : length octets ≡ kept.frame.total

abbrev pub StateHeard : Profile → Option State → List ℕ → Type 0
StateHeard profile None octets = ⊥
StateHeard profile (Some (Begins beginning)) octets = BeginsHeard profile beginning octets
StateHeard profile (Some (Gathers kept gathered)) octets = GathersHeard profile kept gathered.items octets
StateHeard profile (Some (Feeds kept gathered l feed)) octets = FeedsHeard profile kept l feed octets × (gathered.items ≡ [])
StateHeard profile (Some (Ended kept)) octets = EndedHeard profile kept octets

-- The arrival has heard these octets, which are the first of an input from a `GRIB` on, and judges by this profile.
abbrev pub HeardUnder : Profile → Arrival → List ℕ → Type 0
HeardUnder profile arrival octets = StateHeard profile arrival.state octets

-- the End Section did not come
abbrev pub IsOpen : State → Type 0
IsOpen (Begins beginning) = Unit {0}
IsOpen (Gathers kept gathered) = Unit {0}
IsOpen (Feeds kept gathered l feed) = Unit {0}
IsOpen (Ended kept) = ⊥

-- it is live, and the End Section did not come
abbrev pub IsListening : Option State → Type 0
IsListening None = ⊥
IsListening (Some state) = IsOpen state

-- The octets are not a whole message, and this piece may come after them.
pub record MayFollow (profile : Profile) (octets piece : List ℕ) : Type 0 where
  pub begins : BeginsLikeTwo (octets ++ piece)
  pub unfinished : verdict_under profile octets ≢ verdicts.Accepted (length octets)

-- they are a whole message, or all that is known is that they end too early
abbrev pub IsUndecided : verdicts.Verdict → Type 0
IsUndecided (verdicts.Accepted total) = Unit {0}
IsUndecided (verdicts.Refused fault) = fault.reason ≡ Truncated

-- what a look at what was gathered tells
abbrev pub Looks : List ℕ → Kept → List ℕ → Look → Type 0
Looks octets kept gathered More = (step_of octets kept ≡ Fails (cut_off octets)) × IsUnfinished gathered × (length octets ≤ kept.frame.total)
Looks octets kept gathered Ends = (step_of octets kept ≡ End) × (length octets ≡ kept.frame.total)
Looks octets kept gathered Section = (step_of octets kept ≡ Next gathered) × StatesItself (number_at gathered 5 5) gathered × (number_at gathered 5 5 ≢ 7) × (number_at gathered 5 5 ≤ 7)
Looks octets kept gathered (Values l) = IsValues octets kept l × (length gathered ≡ 5)

-- ---- under the profile of the stated templates

abbrev pub Heard : Arrival → List ℕ → Type 0
Heard = HeardUnder Stated

abbrev pub Stops : List ℕ → ReadFault → Type 0
Stops = StopsUnder Stated
