-- What the calls of a shelf do, act by act.
use Rattle.std.proofs.Common.{◌≡◌, ℕ, ◌+◌, ◌-◌, ◌≤◌, ◌⊎◌, inl, inr, false, cond, Some, None, Ok, Err, unwrap_or, List, [], ◌∷◌, ◌++◌, map, refl, sym, ap, ◌∙◌, subst, arith, ⊎_elim, append_assoc, append-nil}
use Rattle.std.specs.declared.option.Option.{Option}
use Rattle.std.specs.declared.result.Result.{Result}
use Rattle.std.specs.Result.{IsErr}
use Rattle.std.specs.List.{range_with_len}
use Rattle.std.specs.Str.{bytes_eq}
use Rattle.std.specs.Io.KnownBytes.{Appends}
use Rattle.std.proofs.KnownBytes.{Appends-nil}
use Rattle.std.proofs.lemmas.Bool.{cases_Bool, false≢true}
use Rattle.std.proofs.lemmas.List.{map-append}
use Rattle.std.proofs.lemmas.List.Concat.{flat_map-append}
use Rattle.std.proofs.lemmas.List.FromFn.{map-range_with_len_more}
use Rattle.std.proofs.lemmas.Slice.Eq.{bytes_eq-Decides}
use Rattle.grib_bits.proofs.Logic.{same_text}
use Rattle.grib_bits.proofs.Arithmetic.{range_append}
use Rattle.grib_io.specs.Shelves.{Held, OthersAsBefore, OthersStay, Turns, AddsPiece}
use Rattle.grib_stream.specs.Acts.{Act, Makes, Adds, written, held_after, world, NamesDid, Did, DidFront}
use Rattle.grib_stream.proofs.Worlds.{did_none, did_then, did_still, front_whole, front_more, front_after}
use Rattle.grib_edit.specs.Parts.{Part, part, part_of, first_parts, adds, puts, puts_all}
use Rattle.grib_edit.specs.Shelving.{DidOnShelf, DidFrontOnShelf, Shelves}
use Rattle.grib_command.proofs.Passing.{on_refused}

-- ---- acts on names alone

written_adds : (name octets : List ℕ) → written (adds name octets) ≡ []
written_adds name [] = refl
written_adds name (octet ∷ octets) = written_adds name octets

adds-append : (name xs ys : List ℕ) → adds name (xs ++ ys) ≡ adds name xs ++ adds name ys
adds-append name [] ys = refl
adds-append name (x ∷ xs) ys = ap (λ acts. Adds name x ∷ acts) (adds-append name xs ys)

on_shelf : (a b : Option Held) (acts : List Act) → written acts ≡ [] → NamesDid a b acts → DidOnShelf a b acts
on_shelf a b acts none did = λ output. record { output = subst (Appends output output) (sym none) (Appends-nil output); names = did }

-- ---- one name

pub held_adds : (name held octets : List ℕ) → held_after name (Some held) (adds name octets) ≡ Some (held ++ octets)
held_adds name held [] = ap Some (sym (append-nil held))
held_adds name held (octet ∷ octets) =
    ap (λ same. held_after name (cond same (Some (held ++ octet ∷ [])) (Some held)) (adds name octets)) (same_text name)
    ∙ (held_adds name (held ++ octet ∷ []) octets ∙ ap Some (append_assoc held (octet ∷ []) octets))

pub other_adds : (name other : List ℕ) (held : Option (List ℕ)) (octets : List ℕ) → bytes_eq other name ≡ false → held_after name held (adds other octets) ≡ held
other_adds name other held [] differs = refl
other_adds name other held (octet ∷ octets) differs =
    ap (λ same. held_after name (cond same (Some (unwrap_or held [] ++ octet ∷ [])) held) (adds other octets)) differs ∙ other_adds name other held octets differs

-- each name, by the one that a call names
at_each : (name : List ℕ) (P : List ℕ → Type 0) → P name → ((other : List ℕ) → bytes_eq name other ≡ false → P other) → (n : List ℕ) → P n
at_each name P here there n =
    ⊎_elim (λ same. subst P ((bytes_eq-Decides name n).0 same) here) (λ differs. there n differs) (cases_Bool (bytes_eq name n))

kept : (a b : Held) (name other : List ℕ) → OthersAsBefore a b name → bytes_eq name other ≡ false → b other ≡ a other
kept a b name other others differs = others other (λ e. false≢true (sym differs ∙ (bytes_eq-Decides name other).1 (sym e)))

made : (a b : Held) (name : List ℕ) → b name ≡ Some [] → OthersAsBefore a b name → NamesDid (Some a) (Some b) (Makes name ∷ [])
made a b name is others =
    at_each name (λ n. b n ≡ held_after n (a n) (Makes name ∷ [])) (is ∙ sym (ap (λ same. cond same (Some []) (a name)) (same_text name)))
    (λ other differs. kept a b name other others differs ∙ sym (ap (λ same. cond same (Some []) (a other)) differs))

added : (a b : Held) (name held octets : List ℕ) → a name ≡ Some held → b name ≡ Some (held ++ octets) → OthersAsBefore a b name
    → NamesDid (Some a) (Some b) (adds name octets)
added a b name held octets was is others =
    at_each name (λ n. b n ≡ held_after n (a n) (adds name octets))
    (is ∙ sym (ap (λ h. held_after name h (adds name octets)) was ∙ held_adds name held octets))
    (λ other differs. kept a b name other others differs ∙ sym (other_adds other name (a other) octets differs))

still : (a b : Held) (name : List ℕ) → b name ≡ a name → OthersAsBefore a b name → NamesDid (Some a) (Some b) []
still a b name is others = at_each name (λ n. b n ≡ a n) is (λ other differs. kept a b name other others differs)

-- ---- a name and its octets

-- nothing was done yet
pub front_unbegun : (a : Option Held) (acts : List Act) → DidFrontOnShelf a a acts
front_unbegun a acts = λ output. ([], acts, refl, did_none (world output a))

front_told : (a b : Option Held) (front rest acts : List Act) → acts ≡ front ++ rest → DidOnShelf a b front → DidFrontOnShelf a b acts
front_told a b front rest acts is did = λ output. (front, rest, is, did output)

-- a name that may have been made
pub put_unmade : (a b : Option Held) (name octets : List ℕ) → Turns a b name (λ before now. (now ≡ before) ⊎ (now ≡ Some [])) → OthersStay a b name
    → DidFrontOnShelf a b (puts (part name octets))
put_unmade None b name octets turns others = front_told None b [] (puts (part name octets)) _ refl (on_shelf None b [] refl tt)
put_unmade (Some a) None name octets turns others = absurd turns
put_unmade (Some a) (Some b) name octets (inl same) others =
    front_told (Some a) (Some b) [] (puts (part name octets)) _ refl (on_shelf (Some a) (Some b) [] refl (still a b name same others))
put_unmade (Some a) (Some b) name octets (inr is) others =
    front_told (Some a) (Some b) (Makes name ∷ []) (adds name octets) _ refl (on_shelf (Some a) (Some b) (Makes name ∷ []) refl (made a b name is others))

untold : {T E : Type 0} (result : Result T E) (b : Option Held) (p : Part) → Shelves result None b (puts p)
untold (Ok x) b p = record {
  whole = on_shelf None b (puts p) (written_adds p.name p.octets) tt;
  front = front_told None b [] (puts p) _ refl (on_shelf None b [] refl tt);
}
untold (Err e) b p = record { whole = tt; front = front_told None b [] (puts p) _ refl (on_shelf None b [] refl tt) }

-- a name that was made, and got its octets or some first ones of them
put_both : (a b c : Held) (name octets : List ℕ) → b name ≡ Some [] → OthersAsBefore a b name → c name ≡ Some (unwrap_or (b name) [] ++ octets)
    → OthersAsBefore b c name → DidOnShelf (Some a) (Some c) (puts (part name octets))
put_both a b c name octets empty others is others_then =
    λ output. did_then (world output (Some a)) (world output (Some b)) (world output (Some c)) (Makes name ∷ []) (adds name octets)
    (on_shelf (Some a) (Some b) (Makes name ∷ []) refl (made a b name empty others) output)
    (on_shelf (Some b) (Some c) (adds name octets) (written_adds name octets)
    (added b c name [] octets empty (is ∙ ap (λ (h : Option (List ℕ)). Some (unwrap_or h [] ++ octets)) empty) others_then) output)

put_cut : (T : Type 0) {E : Type 0} (e : E) (a b c : Held) (name octets : List ℕ) → b name ≡ Some [] → OthersAsBefore a b name → AddsPiece {T = T} {E = E} (Err e) octets (b name) (c name)
    → OthersAsBefore b c name → DidFrontOnShelf (Some a) (Some c) (puts (part name octets))
put_cut T e a b c name octets empty others (inl same) others_then =
    front_told (Some a) (Some c) (Makes name ∷ []) (adds name octets) _ refl
    (λ output. did_still (world output (Some a)) (world output (Some b)) (world output (Some c)) (Makes name ∷ [])
    (on_shelf (Some a) (Some b) (Makes name ∷ []) refl (made a b name empty others) output)
    (on_shelf (Some b) (Some c) [] refl (still b c name same others_then) output))
put_cut T e a b c name octets empty others (inr (front, rest, is, now)) others_then =
    front_told (Some a) (Some c) (puts (part name front)) (adds name rest) (puts (part name octets))
    (ap (λ acts. Makes name ∷ acts) (ap (adds name) is ∙ adds-append name front rest)) (put_both a b c name front empty others now others_then)

pub put_added : {T E : Type 0} (result : Result T E) (a b c : Option Held) (name octets : List ℕ) → Turns a b name (λ before now. now ≡ Some []) → OthersStay a b name
    → Turns b c name (AddsPiece result octets) → OthersStay b c name → Shelves result a c (puts (part name octets))
put_added result None b c name octets empty others now others_then = untold result c (part name octets)
put_added result (Some a) None c name octets empty others now others_then = absurd empty
put_added result (Some a) (Some b) None name octets empty others now others_then = absurd now
put_added (Ok x) (Some a) (Some b) (Some c) name octets empty others now others_then =
    let did = put_both a b c name octets empty others now others_then in
    record { whole = did; front = λ output. front_whole (world output (Some a)) (world output (Some c)) (puts (part name octets)) (did output) }
put_added {T = T} {E = E} (Err e) (Some a) (Some b) (Some c) name octets empty others now others_then =
    record { whole = tt; front = put_cut T e a b c name octets empty others now others_then }

-- what was shelved whole
pub whole_told : {T E : Type 0} (x : T) (a b : Option Held) (acts : List Act) → DidOnShelf a b acts → Shelves {T = T} {E = E} (Ok x) a b acts
whole_told x a b acts did = record { whole = did; front = λ output. front_whole (world output a) (world output b) acts (did output) }

-- ---- a field

part_is : (name octets shown_name shown : List ℕ) → shown_name ≡ name → shown ≡ octets → part shown_name shown ≡ part name octets
part_is name octets shown_name shown named is = ap (λ n. part n shown) named ∙ ap (part name) is

-- a field that was put whole
pub field_whole : {T E : Type 0} (x : T) (a b : Option Held) (name octets shown_name shown : List ℕ) → shown_name ≡ name → shown ≡ octets
    → Shelves {T = T} {E = E} (Ok x) a b (puts (part shown_name shown)) → {U : Type 0} (y : U) → Shelves {T = U} {E = E} (Ok y) a b (puts (part name octets))
field_whole x a b name octets shown_name shown named is shelved y = record {
  whole = subst (λ p. DidOnShelf a b (puts p)) (part_is name octets shown_name shown named is) shelved.whole;
  front = subst (λ p. DidFrontOnShelf a b (puts p)) (part_is name octets shown_name shown named is) shelved.front;
}

-- or some first acts of it
pub field_cut : {T E : Type 0} (result : Result T E) (a b : Option Held) (name octets shown_name shown : List ℕ) → shown_name ≡ name → shown ≡ octets → IsErr result
    → DidFrontOnShelf a b (puts (part shown_name shown)) → Shelves result a b (puts (part name octets))
field_cut result a b name octets shown_name shown named is refused shelved = record {
  whole = on_refused result _ refused;
  front = subst (λ p. DidFrontOnShelf a b (puts p)) (part_is name octets shown_name shown named is) shelved;
}

-- without memory for it
pub field_unbegun : {T E : Type 0} (result : Result T E) (a : Option Held) (acts : List Act) → IsErr result → Shelves result a a acts
field_unbegun result a acts refused = record { whole = on_refused result _ refused; front = front_unbegun a acts }

-- ---- field after field

module _ (out : List ℕ) (before : ℕ) (message : List ℕ) where
  parts_join : (m n : ℕ) → first_parts out before message (m + n) ≡ first_parts out before message m ++ map (part_of out before message) (range_with_len (1 + m) n)
  parts_join m n =
      ap (map (part_of out before message)) (range_append 1 m n)
      ∙ map-append (part_of out before message) (range_with_len 1 m) (range_with_len (1 + m) n)

  puts_more : (k i : ℕ) → 1 + k ≡ i
      → puts_all (first_parts out before message (k + 1)) ≡ puts_all (first_parts out before message k) ++ puts (part_of out before message i)
  puts_more k i is =
      ap puts_all (map-range_with_len_more (part_of out before message) 1 k i is)
      ∙ (flat_map-append puts (first_parts out before message k) (part_of out before message i ∷ [])
      ∙ ap (λ acts. puts_all (first_parts out before message k) ++ acts) (append-nil (puts (part_of out before message i))))

  pub fields_put : (a b c : Option Held) (k i : ℕ) → 1 + k ≡ i → DidOnShelf a b (puts_all (first_parts out before message k))
      → DidOnShelf b c (puts (part_of out before message i)) → DidOnShelf a c (puts_all (first_parts out before message (k + 1)))
  fields_put a b c k i is first then =
      λ output. subst (Did (world output a) (world output c)) (sym (puts_more k i is))
      (did_then (world output a) (world output b) (world output c) _ _ (first output) (then output))

  pub fields_cut : (a b c : Option Held) (k i n : ℕ) → 1 + k ≡ i → i ≤ n → DidOnShelf a b (puts_all (first_parts out before message k))
      → DidFrontOnShelf b c (puts (part_of out before message i)) → DidFrontOnShelf a c (puts_all (first_parts out before message n))
  fields_cut a b c k i n is within first front =
      let rest : List Act = puts_all (map (part_of out before message) (range_with_len (1 + (k + 1)) (n - (k + 1)))) in
      let count : n ≡ (k + 1) + (n - (k + 1)) = omega arith in
      let all : puts_all (first_parts out before message n)
      ≡ (puts_all (first_parts out before message k) ++ puts (part_of out before message i)) ++ rest =
      ap (λ m. puts_all (first_parts out before message m)) count
      ∙ (ap puts_all (parts_join (k + 1) (n - (k + 1)))
      ∙ (flat_map-append puts (first_parts out before message (k + 1)) (map (part_of out before message) (range_with_len (1 + (k + 1)) (n - (k + 1))))
      ∙ ap (λ acts. acts ++ rest) (puts_more k i is))) in
      λ output. subst (DidFront (world output a) (world output c)) (sym all)
      (front_more (world output a) (world output c) _ rest
      (front_after (world output a) (world output b) (world output c) _ _ (first output) (front output)))
