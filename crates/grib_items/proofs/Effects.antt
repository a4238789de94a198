-- What is done, one after another.
use Rattle.std.proofs.Common.{◌≡◌, ℕ, List, [], ◌∷◌, ◌++◌, refl, sym, ap, ◌∙◌, subst, append_assoc, append-nil}
use Rattle.std.specs.declared.option.Option.{Option}
use Rattle.std.specs.Io.KnownBytes.{Appends}
use Rattle.std.specs.List.{concat}
use Rattle.std.proofs.KnownBytes.{Appends-nil, Appends-trans}
use Rattle.grib_io.specs.Outside.{AppendsFront}
use Rattle.grib_io.specs.Shelves.{Held}
use Rattle.grib_stream.specs.Acts.{Act, World, world, DidFront}
use Rattle.grib_stream.proofs.Worlds.{did_none, did_then, did_write, did_write_front, front_whole as did_whole, front_more as did_more, front_after as did_after}
use Rattle.grib_items.specs.Deeds.{Deeds, deeds, no_deeds, then, Outside, outside, Done, DoneFront}

pub concat_append : (xs ys : List (List ℕ)) → concat (xs ++ ys) ≡ concat xs ++ concat ys
concat_append [] ys = refl
concat_append (x ∷ xs) ys = ap (λ zs. x ++ zs) (concat_append xs ys) ∙ sym (append_assoc x (concat xs) (concat ys))

pub then_assoc : (xs ys zs : Deeds) → then (then xs ys) zs ≡ then xs (then ys zs)
then_assoc xs ys zs =
    ap (λ acts. deeds acts ((xs.lines ++ ys.lines) ++ zs.lines)) (append_assoc xs.acts ys.acts zs.acts)
    ∙ ap (deeds (xs.acts ++ (ys.acts ++ zs.acts))) (append_assoc xs.lines ys.lines zs.lines)

pub then_nothing : (xs : Deeds) → then xs no_deeds ≡ xs
then_nothing xs = ap (λ acts. deeds acts (xs.lines ++ [])) (append-nil xs.acts) ∙ ap (deeds xs.acts) (append-nil xs.lines)

pub done_none : (a : Outside) → Done a a no_deeds
done_none a = record { did = did_none a.world; noted = Appends-nil a.notes }

pub done_then : (a b c : Outside) (xs ys : Deeds) → Done a b xs → Done b c ys → Done a c (then xs ys)
done_then a b c xs ys first second = record {
  did = did_then a.world b.world c.world xs.acts ys.acts first.did second.did;
  noted = subst (Appends a.notes c.notes) (sym (concat_append xs.lines ys.lines))
      (Appends-trans a.notes b.notes c.notes (concat xs.lines) (concat ys.lines) first.noted second.noted);
}

-- nothing was done after this
pub done_still : (a b c : Outside) (xs : Deeds) → Done a b xs → Done b c no_deeds → Done a c xs
done_still a b c xs first second = subst (Done a c) (then_nothing xs) (done_then a b c xs no_deeds first second)

-- ---- octets, and fronts of them

pub octets_whole : (a b : Option (List ℕ)) (octets : List ℕ) → Appends a b octets → AppendsFront a b octets
octets_whole a b octets appended = (octets, [], sym (append-nil octets), appended)

pub octets_more : (a b : Option (List ℕ)) (octets more : List ℕ) → AppendsFront a b octets → AppendsFront a b (octets ++ more)
octets_more a b octets more (front, rest, is, appended) = (front, rest ++ more, ap (λ xs. xs ++ more) is ∙ append_assoc front rest more, appended)

pub octets_after : (a b c : Option (List ℕ)) (xs ys : List ℕ) → Appends a b xs → AppendsFront b c ys → AppendsFront a c (xs ++ ys)
octets_after a b c xs ys first (front, rest, is, appended) =
    (xs ++ front, rest, ap (λ zs. xs ++ zs) is ∙ sym (append_assoc xs front rest), Appends-trans a b c xs front first appended)

pub octets_none : (a : Option (List ℕ)) (octets : List ℕ) → AppendsFront a a octets
octets_none a octets = ([], octets, refl, Appends-nil a)

-- ---- fronts of what is done

pub front_whole : (a b : Outside) (xs : Deeds) → Done a b xs → DoneFront a b xs
front_whole a b xs done = record { did = did_whole a.world b.world xs.acts done.did; noted = octets_whole a.notes b.notes (concat xs.lines) done.noted }

pub front_more : (a b : Outside) (xs ys : Deeds) → DoneFront a b xs → DoneFront a b (then xs ys)
front_more a b xs ys front = record {
  did = did_more a.world b.world xs.acts ys.acts front.did;
  noted = subst (AppendsFront a.notes b.notes) (sym (concat_append xs.lines ys.lines)) (octets_more a.notes b.notes (concat xs.lines) (concat ys.lines) front.noted);
}

pub front_after : (a b c : Outside) (xs ys : Deeds) → Done a b xs → DoneFront b c ys → DoneFront a c (then xs ys)
front_after a b c xs ys first front = record {
  did = did_after a.world b.world c.world xs.acts ys.acts first.did front.did;
  noted = subst (AppendsFront a.notes c.notes) (sym (concat_append xs.lines ys.lines))
      (octets_after a.notes b.notes c.notes (concat xs.lines) (concat ys.lines) first.noted front.noted);
}

-- a front of nothing was done after this
pub front_still : (a b c : Outside) (xs : Deeds) → Done a b xs → DoneFront b c no_deeds → DoneFront a c xs
front_still a b c xs first front = subst (DoneFront a c) (then_nothing xs) (front_after a b c xs no_deeds first front)

acts_of_nothing : (a b : World) (xs : List Act) → DidFront a b [] → DidFront a b xs
acts_of_nothing a b xs ([], rest, is, did) = ([], xs, refl, did)
acts_of_nothing a b xs (x ∷ front, rest, is, did) = absurd (cc is)

octets_of_nothing : (a b : Option (List ℕ)) (xs : List ℕ) → AppendsFront a b [] → AppendsFront a b xs
octets_of_nothing a b xs ([], rest, is, appended) = ([], xs, refl, appended)
octets_of_nothing a b xs (x ∷ front, rest, is, appended) = absurd (cc is)

-- a front of nothing is one of anything
pub front_of_nothing : (a b : Outside) (xs : Deeds) → DoneFront a b no_deeds → DoneFront a b xs
front_of_nothing a b xs front = record {
  did = acts_of_nothing a.world b.world xs.acts front.did;
  noted = octets_of_nothing a.notes b.notes (concat xs.lines) front.noted;
}

-- ---- passing on what was written

pub passed_whole : (a b : Option (List ℕ)) (names : Option Held) (notes : Option (List ℕ)) → Appends a b [] → Done (outside (world a names) notes) (outside (world b names) notes) no_deeds
passed_whole a b names notes passed = record { did = did_write a b names [] passed; noted = Appends-nil notes }

pub passed_front : (a b : Option (List ℕ)) (names : Option Held) (notes : Option (List ℕ)) → AppendsFront a b [] → DoneFront (outside (world a names) notes) (outside (world b names) notes) no_deeds
passed_front a b names notes passed = record { did = did_write_front a b names [] passed; noted = octets_none notes [] }
