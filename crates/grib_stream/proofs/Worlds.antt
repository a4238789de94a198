-- Acts, one after another.
use Rattle.std.proofs.Common.{◌≡◌, ℕ, cond, List, [], ◌∷◌, ◌++◌, Some, None, unwrap_or, refl, sym, ap, ◌∙◌, subst, append_assoc, append-nil}
use Rattle.std.specs.Str.{bytes_eq}
use Rattle.std.specs.declared.option.Option.{Option}
use Rattle.std.specs.Io.KnownBytes.{Appends, Keeps}
use Rattle.std.proofs.KnownBytes.{Appends-nil, Appends-trans, Appends-kept}
use Rattle.grib_io.specs.Outside.{AppendsFront}
use Rattle.grib_io.specs.Shelves.{Held}
use Rattle.grib_stream.specs.Acts.{Act, Writes, Makes, Adds, written, held_after, writes, World, world, NamesDid, Did, DidFront}

pub written-append : (xs ys : List Act) → written (xs ++ ys) ≡ written xs ++ written ys
written-append [] ys = refl
written-append (Writes octet ∷ xs) ys = ap (λ octets. octet ∷ octets) (written-append xs ys)
written-append (Makes name ∷ xs) ys = written-append xs ys
written-append (Adds name octet ∷ xs) ys = written-append xs ys

pub held-append : (name : List ℕ) (held : Option (List ℕ)) (xs ys : List Act) → held_after name held (xs ++ ys) ≡ held_after name (held_after name held xs) ys
held-append name held [] ys = refl
held-append name held (Writes octet ∷ xs) ys = held-append name held xs ys
held-append name held (Makes other ∷ xs) ys = held-append name (cond (bytes_eq other name) (Some []) held) xs ys
held-append name held (Adds other octet ∷ xs) ys =
    held-append name (cond (bytes_eq other name) (Some (unwrap_or held [] ++ octet ∷ [])) held) xs ys

names_none : (a : Option Held) → NamesDid a a []
names_none None = tt
names_none (Some held) = λ name. refl

names_then : (a b c : Option Held) (xs ys : List Act) → NamesDid a b xs → NamesDid b c ys → NamesDid a c (xs ++ ys)
names_then None b c xs ys first then = tt
names_then (Some a) None c xs ys first then = absurd first
names_then (Some a) (Some b) None xs ys first then = absurd then
names_then (Some a) (Some b) (Some c) xs ys first then =
    λ name. then name ∙ (ap (λ held. held_after name held ys) (first name) ∙ sym (held-append name (a name) xs ys))

pub did_none : (a : World) → Did a a []
did_none a = record { output = Appends-nil a.output; names = names_none a.names }

pub did_then : (a b c : World) (xs ys : List Act) → Did a b xs → Did b c ys → Did a c (xs ++ ys)
did_then a b c xs ys first then = record {
  output = subst (Appends a.output c.output) (sym (written-append xs ys)) (Appends-trans a.output b.output c.output (written xs) (written ys) first.output then.output);
  names = names_then a.names b.names c.names xs ys first.names then.names;
}

-- nothing was done after these acts
pub did_still : (a b c : World) (xs : List Act) → Did a b xs → Did b c [] → Did a c xs
did_still a b c xs first then = subst (Did a c) (append-nil xs) (did_then a b c xs [] first then)

pub front_whole : (a b : World) (xs : List Act) → Did a b xs → DidFront a b xs
front_whole a b xs did = (xs, [], sym (append-nil xs), did)

pub front_more : (a b : World) (xs ys : List Act) → DidFront a b xs → DidFront a b (xs ++ ys)
front_more a b xs ys (front, rest, is, did) = (front, rest ++ ys, ap (λ zs. zs ++ ys) is ∙ append_assoc front rest ys, did)

pub front_after : (a b c : World) (xs ys : List Act) → Did a b xs → DidFront b c ys → DidFront a c (xs ++ ys)
front_after a b c xs ys first (front, rest, is, did) =
    (xs ++ front, rest, ap (λ zs. xs ++ zs) is ∙ sym (append_assoc xs front rest), did_then a b c xs front first did)

pub front_still : (a b c : World) (xs : List Act) → DidFront a b xs → Did b c [] → DidFront a c xs
front_still a b c xs (front, rest, is, did) then = (front, rest, is, did_still a b c front did then)

-- ---- octets for the output alone

pub written-writes : (octets : List ℕ) → written (writes octets) ≡ octets
written-writes [] = refl
written-writes (octet ∷ octets) = ap (λ xs. octet ∷ xs) (written-writes octets)

held-writes : (name : List ℕ) (held : Option (List ℕ)) (octets : List ℕ) → held_after name held (writes octets) ≡ held
held-writes name held [] = refl
held-writes name held (octet ∷ octets) = held-writes name held octets

pub writes-append : (xs ys : List ℕ) → writes (xs ++ ys) ≡ writes xs ++ writes ys
writes-append [] ys = refl
writes-append (x ∷ xs) ys = ap (λ acts. Writes x ∷ acts) (writes-append xs ys)

names_written : (a : Option Held) (octets : List ℕ) → NamesDid a a (writes octets)
names_written None octets = tt
names_written (Some held) octets = λ name. sym (held-writes name (held name) octets)

pub did_write : (a b : Option (List ℕ)) (names : Option Held) (octets : List ℕ) → Appends a b octets → Did (world a names) (world b names) (writes octets)
did_write a b names octets told = record {
  output = subst (Appends a b) (sym (written-writes octets)) told;
  names = names_written names octets;
}

pub did_write_front : (a b : Option (List ℕ)) (names : Option Held) (octets : List ℕ) → AppendsFront a b octets
    → DidFront (world a names) (world b names) (writes octets)
did_write_front a b names octets (front, rest, is, told) =
    (writes front, writes rest, ap writes is ∙ writes-append front rest, did_write a b names front told)

pub did_keep : (a b : Option (List ℕ)) (names : Option Held) → Keeps a b → Did (world a names) (world b names) []
did_keep a b names kept = record { output = Appends-kept a a b [] (Appends-nil a) kept; names = names_none names }
