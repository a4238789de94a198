-- Where the items of an input stand.
use Rattle.std.proofs.Common.{◌≡◌, ℕ, zero, suc, ◌+◌, ◌-◌, ◌≤◌, Bool, true, false, cond, ◌&&◌, List, [], ◌∷◌, ◌++◌, length, take, Option, None, Some, refl, ap, subst, arith, length-take-le}
use Rattle.grib_base.specs.Rules.{choose}
use Rattle.grib_base.specs.declared.fault.Fault.{Fault}
use Rattle.grib_stream.specs.Stream as streams
use Rattle.grib_stream.specs.Stream.{begins, Judgement, Message, Faulty, message_after, Stream, on_judgement, stream_from}
use Rattle.grib_stream.specs.Outcomes.{is_truncated}
use Rattle.grib_stream.specs.Task.{Task, IsLawful}
use Rattle.grib_items.specs.Next.{Refuses, Unknown, next_judged, next_passed, passed}
use Rattle.grib_items.specs.Items.{Items, Item, Accepted, Refused, passed_after, on_next, items_from, items}
use Rattle.grib_items.specs.Laws.{item_before, item_size, AreInOrder, accepted_items}
use Rattle.grib_items.proofs.Heads.{passed_size}

-- ---- the messages of a stream are the first items

abbrev HasFront : Items → Stream → Type 0
HasFront items stream = (rest : List Item) × (items.items ≡ accepted_items stream.messages ++ rest)

front_chosen : (b : Bool) (x y : Items) (u v : Stream) → HasFront x u → HasFront y v → HasFront (choose b (λ _. x) (λ _. y)) (choose b (λ _. u) (λ _. v))
front_chosen true x y u v first second = first
front_chosen false x y u v first second = second

front_judged : (passes more : Bool) (place skipped : ℕ) (octets : List ℕ) (j : Judgement) (go : ℕ → ℕ → Items) (later : ℕ → Stream)
    → ((inside : ℕ) → HasFront (go inside skipped) (later inside))
    → HasFront (on_next (next_judged passes more octets j) place skipped octets go)
    (on_judgement j (λ total. streams.followed_by (message_after place (take total octets)) (later (total - 1))))
front_judged passes more place skipped octets (Message total) go later front =
    let (rest, is) = front (total - 1) in (rest, ap (λ xs. Accepted (message_after place (take total octets)) ∷ xs) is)
front_judged passes more place skipped octets (Faulty fault) go later front =
    ((on_next (next_judged passes more octets (Faulty fault)) place skipped octets go).items, refl)

items_front : (judge : List ℕ → Judgement) (passes more : Bool) (inside place skipped : ℕ) (octets : List ℕ)
    → HasFront (items_from judge passes more inside place skipped octets) (stream_from judge inside place skipped octets)
items_front judge passes more zero place skipped [] = ([], refl)
items_front judge passes more (suc inside) place skipped [] = ([], refl)
items_front judge passes more (suc inside) place skipped (octet ∷ octets) = items_front judge passes more inside (place + 1) skipped octets
items_front judge passes more zero place skipped (octet ∷ octets) =
    front_chosen (begins (octet ∷ octets)) _ _ _ _
    (front_judged passes more place skipped (octet ∷ octets) (judge (octet ∷ octets)) (λ inside skipped. items_from judge passes more inside (place + 1) skipped octets)
    (λ inside. stream_from judge inside (place + 1) skipped octets) (λ inside. items_front judge passes more inside (place + 1) skipped octets))
    (items_front judge passes more zero (place + 1) (skipped + 1) octets)

pub messages_first : (task : Task) (passes more : Bool) (input : List ℕ) → HasFront (items task.judge passes more input) (streams.stream task.judge input)
messages_first task passes more input = items_front task.judge passes more 0 0 0 input

-- ---- the items lie one behind the other

abbrev Ordered : ℕ → Items → ℕ → Type 0
Ordered place items end = AreInOrder place items.items end

order_from : (place now end : ℕ) (items : List Item) → place ≤ now → AreInOrder now items end → AreInOrder place items end
order_from place now end [] low order = omega arith
order_from place now end (item ∷ items) low (first, later) = (omega (arith, low, first), later)

order_chosen : (b : Bool) (place end : ℕ) (x y : Items) → (b ≡ true → Ordered place x end) → Ordered place y end → Ordered place (choose b (λ _. x) (λ _. y)) end
order_chosen true place end x y first second = first refl
order_chosen false place end x y first second = second

-- an item of this many octets, and those behind it
order_item : (item : Item) (place size end : ℕ) (later : List Item) → item_before item ≡ place → item_size item ≡ size → AreInOrder (place + size) later end
    → AreInOrder place (item ∷ later) end
order_item item place size end later at is order = (
  omega (arith, at),
  subst (λ n. AreInOrder n later end) (let e : place + size ≡ item_before item + item_size item = omega (arith, at, is) in e) order,
)

abbrev Follows : ℕ → List ℕ → (ℕ → ℕ → Items) → Type 0
Follows place octets go = (inside skipped : ℕ) → inside + 1 ≤ length octets → Ordered (place + 1 + inside) (go inside skipped) (place + length octets)

after_first : (place size end : ℕ) (items : List Item) → 1 ≤ size → AreInOrder (place + 1 + (size - 1)) items end → AreInOrder (place + size) items end
after_first place size end items some order = subst (λ n. AreInOrder n items end) (let e : place + 1 + (size - 1) ≡ place + size = omega (arith, some) in e) order

order_passed : (b : Bool) (fault : Fault) (size : Option ℕ) (place skipped : ℕ) (octets : List ℕ) (go : ℕ → ℕ → Items)
    → ((n : ℕ) → size ≡ Some n → (4 ≤ n) × (n ≤ length octets)) → Follows place octets go
    → Ordered place (on_next (cond b Unknown (next_passed fault size)) place skipped octets go) (place + length octets)
order_passed true fault size place skipped octets go there follows = omega arith
order_passed false fault None place skipped octets go there follows = omega arith
order_passed false fault (Some n) place skipped octets go there follows =
    let (some, within) = there n refl in
    order_item (Refused (passed_after place fault (take n octets))) place n (place + length octets) (go (n - 1) (skipped + n)).items refl (length-take-le n octets within)
    (after_first place n (place + length octets) (go (n - 1) (skipped + n)).items (omega (arith, some)) (follows (n - 1) (skipped + n) (omega (arith, some, within))))

order_refused : (b : Bool) (fault : Fault) (place skipped : ℕ) (octets : List ℕ) (go : ℕ → ℕ → Items)
    → Ordered place (on_next (cond b Unknown (Refuses fault)) place skipped octets go) (place + length octets)
order_refused true fault place skipped octets go = omega arith
order_refused false fault place skipped octets go = omega arith

order_judged : (task : Task) → IsLawful task → (passes more : Bool) (place skipped : ℕ) (octets : List ℕ) (j : Judgement) (go : ℕ → ℕ → Items) → begins octets ≡ true
    → task.judge octets ≡ j → Follows place octets go
    → Ordered place (on_next (next_judged passes more octets j) place skipped octets go) (place + length octets)
order_judged task lawful passes more place skipped octets (Message total) go begun is follows =
    let least : 4 ≤ total = lawful.least octets total is in
    let there : total ≤ length octets = lawful.there octets total is in
    order_item (Accepted (message_after place (take total octets))) place total (place + length octets) (go (total - 1) skipped).items refl (length-take-le total octets there)
    (after_first place total (place + length octets) (go (total - 1) skipped).items (omega arith) (follows (total - 1) skipped (omega arith)))
order_judged task lawful true more place skipped octets (Faulty fault) go begun is follows =
    order_passed (more && is_truncated fault.reason) fault (passed more octets) place skipped octets go (λ n so. passed_size more n octets begun so) follows
order_judged task lawful false more place skipped octets (Faulty fault) go begun is follows =
    order_refused (more && is_truncated fault.reason) fault place skipped octets go

items_ordered : (task : Task) → IsLawful task → (passes more : Bool) (inside place skipped : ℕ) (octets : List ℕ) → inside ≤ length octets
    → Ordered (place + inside) (items_from task.judge passes more inside place skipped octets) (place + length octets)
items_ordered task lawful passes more zero place skipped [] within = omega arith
items_ordered task lawful passes more (suc inside) place skipped [] within = absurd (omega (arith, within))
items_ordered task lawful passes more (suc inside) place skipped (octet ∷ octets) within =
    let start : place + 1 + inside ≡ place + suc inside = omega arith in
    let end : place + 1 + length octets ≡ place + length (octet ∷ octets) = omega arith in
    subst (λ n. Ordered n (items_from task.judge passes more inside (place + 1) skipped octets) (place + length (octet ∷ octets))) start
    (subst (λ n. Ordered (place + 1 + inside) (items_from task.judge passes more inside (place + 1) skipped octets) n) end
    (items_ordered task lawful passes more inside (place + 1) skipped octets (omega (arith, within))))
items_ordered task lawful passes more zero place skipped (octet ∷ octets) within =
    let start : place ≡ place + 0 = omega arith in
    let end : place + 1 + length octets ≡ place + length (octet ∷ octets) = omega arith in
    subst (λ n. Ordered n (items_from task.judge passes more 0 place skipped (octet ∷ octets)) (place + length (octet ∷ octets))) start
    (order_chosen (begins (octet ∷ octets)) place (place + length (octet ∷ octets)) _ _
    (λ begun.
    order_judged task lawful passes more place skipped (octet ∷ octets) (task.judge (octet ∷ octets)) (λ inside skipped. items_from task.judge passes more inside (place + 1) skipped octets)
    begun refl
    (λ inside skipped low.
    subst (λ n. Ordered (place + 1 + inside) (items_from task.judge passes more inside (place + 1) skipped octets) n) end
    (items_ordered task lawful passes more inside (place + 1) skipped octets (omega (arith, low)))))
    (order_from place (place + 1 + 0) (place + length (octet ∷ octets)) _ (omega arith)
    (subst (λ n. Ordered (place + 1 + 0) (items_from task.judge passes more 0 (place + 1) (skipped + 1) octets) n) end
    (items_ordered task lawful passes more 0 (place + 1) (skipped + 1) octets (omega arith)))))

pub in_order : (task : Task) (passes more : Bool) (input : List ℕ) → IsLawful task → AreInOrder 0 (items task.judge passes more input).items (length input)
in_order task passes more input lawful =
    let end : 0 + length input ≡ length input = omega arith in
    subst (λ n. AreInOrder 0 (items task.judge passes more input).items n) end (items_ordered task lawful passes more 0 0 0 input (omega arith))
