-- What `split` leaves on a shelf, wherever its run ends. Of a device that does not tell what it holds, nothing is said.
use Rattle.std.specs.Prelude.{◌≡◌, ◌≢◌, ℕ, ◌+◌, ◌^◌, ◌==◌, ◌⊎◌, Bool, true, false, cond, Some, None, List, [], ◌∷◌, ◌++◌, map, take, drop, All, IfSome}
use Rattle.std.specs.List.{flat_map}
use Rattle.std.specs.declared.option.Option.{Option}
use Rattle.grib_base.specs.Rules.{choose}
use Rattle.grib_base.specs.declared.profile.Profile.{Profile}
use Rattle.grib_io.specs.Shelves.{Held}
use Rattle.grib_packing.specs.declared.column.Column.{Column}
use Rattle.grib2_sections.specs.Head.{edition}
use Rattle.grib_stream.specs.declared.outcome.Outcome.{Outcome}
use Rattle.grib_stream.specs.declared.outcome.Outcome.TheVariants.{ReadFault}
use Rattle.grib_stream.specs.Outcomes.{is_broken}
use Rattle.grib_items.specs.declared.policy.Instead.{Instead}
use Rattle.grib_items.specs.declared.policy.Policy.{Policy}
use Rattle.grib_items.specs.Items.{Item, Accepted, Refused}
use Rattle.grib_command.specs.Judging.{fields_of}
use Rattle.grib_edit.specs.Parts.{Part, parts1_of, parts_of}
use Rattle.grib_run_spec.specs.Seen.{Seen}
use Rattle.grib_run_law.specs.Answered.{items_of, is_longer, OfTaken}
use Rattle.grib_run_law.specs.Complete.{IsInGrammar}
use Rattle.grib_run_law.specs.Same.{columns_of}

-- ---- the parts of an input

-- the items before the first message of edition 1, which cannot be changed
abbrev pub before_first_kept : List Item → List Item
before_first_kept [] = []
before_first_kept (Refused refused ∷ later) = Refused refused ∷ before_first_kept later
before_first_kept (Accepted found ∷ later) = choose (edition found.octets == 1) (λ _. []) (λ _. Accepted found ∷ before_first_kept later)

-- The items that are answered: all of them where messages of edition 1 have parts too, or where something is written
-- instead of a message that cannot be changed, and else those before the first of these.
abbrev pub reached : Bool → Option Instead → List Item → List Item
reached true kept items = items
reached false None items = before_first_kept items
reached false (Some instead) items = items

-- the parts of a message, before which the input has this many fields: one of edition 1 is a part as it stands, where it
-- has one
abbrev pub parts_here : Bool → List ℕ → ℕ → List ℕ → List Part
parts_here edition_1 out before message =
    choose (edition message == 1) (λ _. cond edition_1 (parts1_of out before message) []) (λ _. parts_of out before message)

-- The parts of the messages among these items, before which the input has this many fields. The field of a message of
-- edition 1 counts, whether it is a part or not; what is refused has no field.
abbrev pub parts_among : Bool → List ℕ → ℕ → List Item → List Part
parts_among edition_1 out before [] = []
parts_among edition_1 out before (Refused refused ∷ later) = parts_among edition_1 out before later
parts_among edition_1 out before (Accepted found ∷ later) =
    parts_here edition_1 out before found.octets ++ parts_among edition_1 out (before + fields_of found.octets) later

-- the items of octets that are answered, where more octets may follow or not
abbrev pub items_reached : Profile → Bool → Policy → Bool → List ℕ → List Item
items_reached profile edition_1 policy more octets = reached edition_1 policy.kept (items_of profile policy more octets).items

-- the parts of their messages
abbrev pub parts_within : Profile → Bool → List ℕ → Policy → Bool → List ℕ → List Part
parts_within profile edition_1 out policy more octets = parts_among edition_1 out 0 (items_reached profile edition_1 policy more octets)

-- those of an input, as far as it is answered
abbrev pub parts_answered : Profile → Bool → List ℕ → Policy → List ℕ → List Part
parts_answered profile edition_1 out policy input = parts_within profile edition_1 out policy (is_longer input) (take (2 ^ 40) input)

-- a part is a message of one field that is accepted, one of edition 2 by a profile
pub record IsAlone (profile : Profile) (part : Part) : Type 0 where
  pub accepted : IsInGrammar profile part.octets
  pub one_field : fields_of part.octets ≡ 1

-- a field: one of edition 2 by its column, and one of edition 1 by its message
pub data Field : Type 0 where
  First : List ℕ → Field
  Second : Column → Field

-- the fields of a message
abbrev pub fields_in : List ℕ → List Field
fields_in message = choose (edition message == 1) (λ _. First message ∷ []) (λ _. map Second (columns_of message))

-- those that have parts
abbrev pub fields_here : Bool → Item → List Field
fields_here edition_1 (Accepted found) =
    choose (edition found.octets == 1) (λ _. cond edition_1 (First found.octets ∷ []) []) (λ _. map Second (columns_of found.octets))
fields_here edition_1 (Refused refused) = []

-- The parts are the fields in their order, each as an accepted message of its own: one of edition 2 with its column, and
-- one of edition 1 as it stands.
pub record SplitsFields (profile : Profile) (edition_1 : Bool) (out : List ℕ) (policy : Policy) (more : Bool) (octets : List ℕ) : Type 0 where
  pub alone : All (IsAlone profile) (parts_within profile edition_1 out policy more octets)
  pub fields : flat_map (λ part. fields_in part.octets) (parts_within profile edition_1 out policy more octets)
      ≡ flat_map (fields_here edition_1) (items_reached profile edition_1 policy more octets)

-- ---- how they stand

-- what stands under the name of a part that may be begun: what stood there, or some first octets of the part
abbrev pub MayBeBegun : Part → Option (List ℕ) → Option (List ℕ) → Type 0
MayBeBegun part before now = (now ≡ before) ⊎ ((front rest : List ℕ) × (part.octets ≡ front ++ rest) × (now ≡ Some front))

-- This many first parts stand whole under their names, and the next may be begun. Each other name has what it had.
pub record StandFirst (parts : List Part) (before now : Held) (count : ℕ) : Type 0 where
  pub whole : All (λ part. now part.name ≡ Some part.octets) (take count parts)
  pub next : (part : Part) (later : List Part) → drop count parts ≡ part ∷ later → MayBeBegun part (before part.name) (now part.name)
  pub others : (name : List ℕ) → All (λ part. part.name ≢ name) (take (count + 1) parts) → now name ≡ before name

-- all parts stand whole under their names, and each other name has what it had
pub record StandAll (parts : List Part) (before now : Held) : Type 0 where
  pub whole : All (λ part. now part.name ≡ Some part.octets) parts
  pub others : (name : List ℕ) → All (λ part. part.name ≢ name) parts → now name ≡ before name

-- ---- what a run leaves

-- what holds of the names of a shelf before and after, where it tells them
abbrev pub OfNames : Option Held → Option Held → (Held → Held → Type 0) → Type 0
OfNames None now P = Unit {0}
OfNames (Some before) None P = ⊥
OfNames (Some before) (Some now) P = P before now

-- Of the parts of an input some number of first ones stand, and all where neither a device nor memory ended the run.
pub record PutsParts (profile : Profile) (edition_1 : Bool) (out : List ℕ) (policy : Policy) (outcome : Outcome) (before now : Seen) (input : List ℕ) : Type 0 where
  pub first : OfNames before.names now.names (λ held held_now. (count : ℕ) × StandFirst (parts_answered profile edition_1 out policy input) held held_now count)
  pub whole : is_broken outcome ≡ false → OfNames before.names now.names (StandAll (parts_answered profile edition_1 out policy input))

-- So by what was left of the input, where that is told, and by the octets that were taken. After a fault of the
-- input all parts stand that these have while more may follow.
pub record LeavesNames (profile : Profile) (edition_1 : Bool) (out : List ℕ) (policy : Policy) (outcome : Outcome) (before now : Seen) : Type 0 where
  pub left : IfSome before.left (PutsParts profile edition_1 out policy outcome before now)
  pub taken : OfTaken before now (λ taken. PutsParts profile edition_1 out policy outcome before now taken
      × (outcome ≡ ReadFault → OfNames before.names now.names (StandAll (parts_within profile edition_1 out policy true taken))))
