-- What stands in an input, one behind the other: messages, and octets that are refused and passed.
use Rattle.std.specs.Prelude.{ℕ, zero, suc, ◌+◌, ◌-◌, Bool, cond, List, [], ◌∷◌, take}
use Rattle.grib_base.specs.declared.fault.Fault.{Fault}
use Rattle.grib_base.specs.Rules.{choose}
use Rattle.grib_stream.specs.Stream.{begins, Judgement, Found, message_after}
use Rattle.grib_items.specs.Next.{Next, Accepts, Passes, Refuses, Unknown, next}

-- octets that are refused and passed over: how many of the input stand before them, why, and the octets
pub record Passed : Type 0 where
  pub before : ℕ
  pub fault : Fault
  pub octets : List ℕ

abbrev pub passed_after : ℕ → Fault → List ℕ → Passed
passed_after before fault octets = record { before = before; fault = fault; octets = octets }

pub data Item : Type 0 where
  Accepted : Found → Item
  Refused : Passed → Item

-- what stands after the last item: no further `GRIB`, with the number of all skipped octets, octets that are refused
-- and not passed, or what is not known before more octets come
pub data End : Type 0 where
  Over : ℕ → End
  Refusing : Fault → End
  Open : End

pub record Items : Type 0 where
  pub items : List Item
  pub end : End

abbrev pub items_of : List Item → End → Items
items_of items end = record { items = items; end = end }

abbrev pub followed_by : Item → Items → Items
followed_by first items = items_of (first ∷ items.items) items.end

-- where no octet is left
abbrev pub end_by : Bool → ℕ → End
end_by more skipped = cond more Open (Over skipped)

-- what comes of what is next, at a place before which this many octets were skipped. What an item has behind its first
-- octet is inside of it, and what is passed is skipped
abbrev pub on_next : Next → ℕ → ℕ → List ℕ → (ℕ → ℕ → Items) → Items
on_next (Accepts total) place skipped octets go = followed_by (Accepted (message_after place (take total octets))) (go (total - 1) skipped)
on_next (Passes fault size) place skipped octets go = followed_by (Refused (passed_after place fault (take size octets))) (go (size - 1) (skipped + size))
on_next (Refuses fault) place skipped octets go = items_of [] (Refusing fault)
on_next Unknown place skipped octets go = items_of [] Open

-- The items of what is left of an input, of which `place` octets stand before and `skipped` of these belong to no
-- message. The first `inside` of the octets belong to an item that was found already.
abbrev pub items_from : (List ℕ → Judgement) → Bool → Bool → ℕ → ℕ → ℕ → List ℕ → Items
items_from judge passes more inside place skipped [] = items_of [] (end_by more skipped)
items_from judge passes more (suc inside) place skipped (octet ∷ octets) = items_from judge passes more inside (place + 1) skipped octets
items_from judge passes more zero place skipped (octet ∷ octets) =
    choose (begins (octet ∷ octets))
    (λ _. on_next (next judge passes more (octet ∷ octets)) place skipped (octet ∷ octets)
    (λ inside skipped. items_from judge passes more inside (place + 1) skipped octets))
    (λ _. items_from judge passes more zero (place + 1) (skipped + 1) octets)

-- the items of an input: whether refusals are passed, and whether more octets may follow
abbrev pub items : (List ℕ → Judgement) → Bool → Bool → List ℕ → Items
items judge passes more input = items_from judge passes more 0 0 0 input
