-- Each item is what stands at its place.
use Rattle.std.proofs.Common.{◌≡◌, ℕ, zero, suc, ◌+◌, ◌-◌, Bool, true, false, cond, ◌&&◌, List, [], ◌∷◌, length, take, drop, Option, None, Some, All, refl, sym, ap, ◌∙◌, length-take-le}
use Rattle.std.proofs.lemmas.List.{drop-drop}
use Rattle.std.proofs.lemmas.List.Elements.{All-nil, All-cons}
use Rattle.grib_base.specs.Rules.{choose}
use Rattle.grib_base.specs.declared.fault.Fault.{Fault}
use Rattle.grib_stream.specs.Stream.{begins, Judgement, Message, Faulty, message_after}
use Rattle.grib_stream.specs.Outcomes.{is_truncated}
use Rattle.grib_stream.specs.Task.{Task, IsLawful}
use Rattle.grib_items.specs.Next.{Refuses, Unknown, next_judged, next_passed, passed}
use Rattle.grib_items.specs.Items.{Items, Item, Accepted, Refused, Open, passed_after, on_next, end_by, items_from, items}
use Rattle.grib_items.specs.Laws.{StandsIn, EndStandsIn}
use Rattle.grib_items.proofs.Heads.{passed_size}

module _ (task : Task) (lawful : IsLawful task) (passes more : Bool) (input : List ℕ) where
  -- all of these items stand in the input, and their end
  record Stand (those : Items) : Type 0 where
    items : All (StandsIn task.judge more input) those.items
    end : EndStandsIn task.judge input those.end

  over_stands : (b : Bool) (skipped : ℕ) → EndStandsIn task.judge input (end_by b skipped)
  over_stands true skipped = tt
  over_stands false skipped = tt

  none_left : (skipped : ℕ) → Stand (record { items = []; end = end_by more skipped })
  none_left skipped = record { items = All-nil (StandsIn task.judge more input); end = over_stands more skipped }

  open_stands : Stand (record { items = []; end = Open })
  open_stands = record { items = All-nil (StandsIn task.judge more input); end = tt }

  item_then : (item : Item) (later : Items) → StandsIn task.judge more input item → Stand later → Stand (record { items = item ∷ later.items; end = later.end })
  item_then item later own rest = record { items = All-cons (StandsIn task.judge more input) item later.items own rest.items; end = rest.end }

  chosen : (b : Bool) (x y : Items) → (b ≡ true → Stand x) → Stand y → Stand (choose b (λ _. x) (λ _. y))
  chosen true x y first second = first refl
  chosen false x y first second = second

  module _ (place skipped : ℕ) (octets : List ℕ) (at : drop place input ≡ octets) (begun : begins octets ≡ true) (go : ℕ → ℕ → Items) (later : (inside skipped : ℕ) → Stand (go inside skipped)) where
    begun_there : begins (drop place input) ≡ true
    begun_there = ap begins at ∙ begun

    accepted : (total : ℕ) → task.judge octets ≡ Message total → StandsIn task.judge more input (Accepted (message_after place (take total octets)))
    accepted total is =
        let size : length (take total octets) ≡ total = length-take-le total octets (lawful.there octets total is) in
        (begun_there, (ap task.judge at ∙ (is ∙ ap Message (sym size)), ap (take (length (take total octets))) at ∙ ap (λ n. take n octets) size))

    refused : (fault : Fault) (size : ℕ) → task.judge octets ≡ Faulty fault → passed more octets ≡ Some size → StandsIn task.judge more input (Refused (passed_after place fault (take size octets)))
    refused fault size is so =
        let front : length (take size octets) ≡ size = length-take-le size octets (passed_size more size octets begun so).1 in (
          begun_there,
          (
            ap task.judge at ∙ is,
            ap (passed more) at ∙ (so ∙ ap Some (sym front)),
            ap (take (length (take size octets))) at ∙ ap (λ n. take n octets) front,
          ),
        )

    passes_on : (b : Bool) (fault : Fault) (size : Option ℕ) → task.judge octets ≡ Faulty fault → passed more octets ≡ size
        → Stand (on_next (cond b Unknown (next_passed fault size)) place skipped octets go)
    passes_on true fault size is so = open_stands
    passes_on false fault None is so = open_stands
    passes_on false fault (Some size) is so =
        item_then (Refused (passed_after place fault (take size octets))) (go (size - 1) (skipped + size)) (refused fault size is so) (later (size - 1) (skipped + size))

    ends_there : (b : Bool) (fault : Fault) → task.judge octets ≡ Faulty fault → Stand (on_next (cond b Unknown (Refuses fault)) place skipped octets go)
    ends_there true fault is = open_stands
    ends_there false fault is = record { items = All-nil (StandsIn task.judge more input); end = (place, begun_there, ap task.judge at ∙ is) }

    judged : (b : Bool) (j : Judgement) → task.judge octets ≡ j → Stand (on_next (next_judged b more octets j) place skipped octets go)
    judged b (Message total) is = item_then (Accepted (message_after place (take total octets))) (go (total - 1) skipped) (accepted total is) (later (total - 1) skipped)
    judged true (Faulty fault) is = passes_on (more && is_truncated fault.reason) fault (passed more octets) is refl
    judged false (Faulty fault) is = ends_there (more && is_truncated fault.reason) fault is

  behind : (place octet : ℕ) (octets : List ℕ) → drop place input ≡ octet ∷ octets → drop (place + 1) input ≡ octets
  behind place octet octets at = sym (drop-drop 1 place input) ∙ ap (drop 1) at

  all_stand : (inside place skipped : ℕ) (octets : List ℕ) → drop place input ≡ octets → Stand (items_from task.judge passes more inside place skipped octets)
  all_stand zero place skipped [] at = none_left skipped
  all_stand (suc inside) place skipped [] at = none_left skipped
  all_stand (suc inside) place skipped (octet ∷ octets) at = all_stand inside (place + 1) skipped octets (behind place octet octets at)
  all_stand zero place skipped (octet ∷ octets) at =
      chosen (begins (octet ∷ octets)) _ _
      (λ begun.
      judged place skipped (octet ∷ octets) at begun (λ inside skipped. items_from task.judge passes more inside (place + 1) skipped octets)
      (λ inside skipped. all_stand inside (place + 1) skipped octets (behind place octet octets at)) passes (task.judge (octet ∷ octets)) refl)
      (all_stand zero (place + 1) (skipped + 1) octets (behind place octet octets at))

  pub items_stand : All (StandsIn task.judge more input) (items task.judge passes more input).items
  items_stand = (all_stand 0 0 0 input refl).items

  pub end_stands : EndStandsIn task.judge input (items task.judge passes more input).end
  end_stands = (all_stand 0 0 0 input refl).end
