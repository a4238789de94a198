-- Fronts of what stands under a name.
use Rattle.std.proofs.Common.{◌≡◌, ℕ, ◌+◌, ◌<◌, ◌≤◌, false, inl, inr, ⊎_elim, List, ◌++◌, length, take, drop, Option, Some, None, refl, sym, ap, ◌∙◌, arith, subst}
use Rattle.std.proofs.Math.Seq.{take-add}
use Rattle.std.proofs.lemmas.List.{take_all}
use Rattle.std.proofs.lemmas.Bool.{cases_lt, lt-ltb, le-ltb, false≢true}
use Rattle.std.specs.Prelude.{IsSomeAnd, IfSome, nat_lt, min, true}
use Rattle.grib_io.specs.Shelves.{Held, Stays, Tells}
use Rattle.grib_io.specs.Reading.{FitsIn, IsFront, Continues, IsFirst, EndsBy, MoreRead, ReadSoFar, StopsAt, asks_on, first_of, room_for}
use Rattle.grib_io.specs.declared.reading.ReadStop.{ReadStop}

-- ---- what a shelf tells

stays : (shelf : Option Held) → Stays shelf shelf
stays None = tt
stays (Some held) = λ name. refl

pub stays_along : (a b c : Option Held) → Stays a b → Stays b c → Stays a c
stays_along None b c first later = tt
stays_along (Some a) None c first later = absurd first
stays_along (Some a) (Some b) None first later = absurd later
stays_along (Some a) (Some b) (Some c) first later = λ name. later name ∙ first name

-- what a shelf tells that stayed, it told before
told_before : (a b : Option Held) (name : List ℕ) (Is : Option (List ℕ) → Type 0) → Stays a b → Tells b name Is → Tells a name Is
told_before None b name Is stay told = tt
told_before (Some a) None name Is stay told = absurd stay
told_before (Some a) (Some b) name Is stay told = subst Is (stay name) told

both : (shelf : Option Held) (name : List ℕ) (First Second Third : Option (List ℕ) → Type 0) → ((text : Option (List ℕ)) → First text → Second text → Third text)
    → Tells shelf name First → Tells shelf name Second → Tells shelf name Third
both None name First Second Third from first second = tt
both (Some held) name First Second Third from first second = from (held name) first second

pub on_one : (shelf : Option Held) (name : List ℕ) (First Third : Option (List ℕ) → Type 0) → ((text : Option (List ℕ)) → First text → Third text)
    → Tells shelf name First → Tells shelf name Third
on_one None name First Third from first = tt
on_one (Some held) name First Third from first = from (held name) first

pub stopped_before : (shelf before : Option Held) (name : List ℕ) (filled : ℕ) (buffer : List ℕ) (stop : ReadStop) → ReadSoFar shelf before name filled buffer
    → Tells before name (StopsAt stop) → Tells shelf name (StopsAt stop)
stopped_before shelf before name filled buffer stop so_far told = told_before shelf before name (StopsAt stop) so_far.kept told

-- ---- fronts

-- nothing is read yet
nothing_yet : (shelf : Option Held) (name buffer : List ℕ) → Tells shelf name (IsFront 0 buffer)
nothing_yet None name buffer = tt
nothing_yet (Some held) name buffer = inl refl

pub begins : (shelf : Option Held) (name buffer : List ℕ) → ReadSoFar shelf shelf name 0 buffer
begins shelf name buffer = record { within = omega arith; front = nothing_yet shelf name buffer; kept = stays shelf }

-- what was so of a buffer is so of one with the same front
begun : (filled : ℕ) (old now octets : List ℕ) → take filled now ≡ take filled old → IsFront filled old (Some octets) → take filled now ≡ take filled octets
begun filled old now octets same (inl none) = ap (λ k. take k now) none ∙ sym (ap (λ k. take k octets) none)
begun filled old now octets same (inr is) = same ∙ is

-- what was read after a front makes a longer front
longer : (filled count : ℕ) (old now : List ℕ) → take filled now ≡ take filled old → (text : Option (List ℕ)) → IsFront filled old text → Continues filled count now text → IsFront (filled + count) now text
longer filled count old now same None front more = absurd more
longer filled count old now same (Some octets) front more =
    inr (take-add filled count now
    ∙ (ap (λ xs. xs ++ take count (drop filled now)) (begun filled old now octets same front) ∙ ap (λ xs. take filled octets ++ xs) more ∙ sym (take-add filled count octets)))

pub goes_on : (shelf before after : Option Held) (name : List ℕ) (filled count : ℕ) (old now : List ℕ) → ReadSoFar shelf before name filled old → MoreRead before name filled old now count → Stays before after
    → ReadSoFar shelf after name (filled + count) now
goes_on shelf before after name filled count old now so_far more stay = record {
  within = more.within;
  front = both shelf name (IsFront filled old) (Continues filled count now) (IsFront (filled + count) now) (longer filled count old now more.front) so_far.front
      (told_before shelf before name (Continues filled count now) so_far.kept more.read);
  kept = stays_along shelf before after so_far.kept stay;
}

-- ---- the end

asked_less : (most filled : ℕ) → nat_lt filled most ≡ true → filled < most
asked_less most filled asked = ⊎_elim (λ less. less) (λ more. absurd (false≢true (sym (le-ltb filled most more) ∙ asked))) (cases_lt filled most)

-- no more stands there than was read, and no more was read than is asked for
few_first : (most : Option ℕ) (filled : ℕ) (octets : List ℕ) → asks_on most filled ≡ true → length octets ≤ filled → octets ≡ first_of most octets
few_first None filled octets asked few = refl
few_first (Some most) filled octets asked few = sym (take_all most octets (let less = asked_less most filled asked in omega arith))

ends_at : (most : Option ℕ) (filled : ℕ) (old now : List ℕ) → asks_on most filled ≡ true → take filled now ≡ take filled old → (text : Option (List ℕ)) → IsFront filled old text → EndsBy filled text
    → IsFirst most (take filled now) text
ends_at most filled old now asked same None front end = absurd end
ends_at most filled old now asked same (Some octets) front end =
    begun filled old now octets same front ∙ (take_all filled octets end ∙ few_first most filled octets asked end)

pub ends : (shelf before : Option Held) (name : List ℕ) (most : Option ℕ) (filled count : ℕ) (old now items : List ℕ) → asks_on most filled ≡ true → ReadSoFar shelf before name filled old
    → MoreRead before name filled old now count → count ≡ 0 → items ≡ take filled now → Tells shelf name (IsFirst most items)
ends shelf before name most filled count old now items asked so_far more none cut =
    subst (λ xs. Tells shelf name (IsFirst most xs)) (sym cut)
    (both shelf name (IsFront filled old) (EndsBy filled) (IsFirst most (take filled now)) (ends_at most filled old now asked more.front) so_far.front
    (told_before shelf before name (EndsBy filled) so_far.kept (more.end none)))

-- all that is asked for was read
full_front : (most filled : ℕ) (buffer : List ℕ) → 0 < most → most ≤ filled → filled ≤ length buffer → length buffer ≤ most → (text : Option (List ℕ)) → IsFront filled buffer text
    → IsSomeAnd text (λ all. buffer ≡ take most all)
full_front most filled buffer some full within fits None (inl none) = absurd (omega (arith, some, full, none))
full_front most filled buffer some full within fits None (inr is) = absurd is
full_front most filled buffer some full within fits (Some octets) front =
    let same : filled ≡ most = omega arith in
    sym (take_all filled buffer (omega arith)) ∙ (begun filled buffer buffer octets refl front ∙ ap (λ n. take n octets) same)

pub fills : (shelf now : Option Held) (name : List ℕ) (most : Option ℕ) (filled : ℕ) (buffer : List ℕ) → IfSome most (λ count. 0 < count) → asks_on most filled ≡ false → FitsIn most (length buffer)
    → ReadSoFar shelf now name filled buffer → Tells shelf name (IsFirst most buffer)
fills shelf now name None filled buffer some full fits so_far = absurd (false≢true (sym full))
fills shelf now name (Some most) filled buffer some full fits so_far =
    let all : most ≤ filled = ⊎_elim (λ less. absurd (false≢true (sym full ∙ lt-ltb filled most less))) (λ more. more) (cases_lt filled most) in
    on_one shelf name (IsFront filled buffer) (IsFirst (Some most) buffer) (full_front most filled buffer some all so_far.within fits) so_far.front

-- ---- room

pub room_fits : (most : Option ℕ) (size : ℕ) → FitsIn most (room_for most size)
room_fits None size = tt
room_fits (Some most) size = omega arith

pub some_room : (most : Option ℕ) (size : ℕ) → IfSome most (λ count. 0 < count) → 0 < size → 0 < room_for most size
some_room None size some any = any
some_room (Some most) size some any = omega arith

pub more_room : (most : Option ℕ) (room size : ℕ) → asks_on most room ≡ true → room < size → room < room_for most size
more_room None room size asked more = more
more_room (Some most) room size asked more = let less = asked_less most room asked in omega arith
