-- What several writes and reads after one another do to the octets of a sink and of a source.
use Rattle.std.proofs.Common.{◌≡◌, ℕ, ◌+◌, ◌-◌, ◌≤◌, List, [], ◌++◌, ◌∷◌, length, take, drop, refl, ap, sym, ◌∙◌, append_assoc, length-take-le, take-append-drop, subst}
use Rattle.std.specs.declared.option.Option.{Option}
use Rattle.std.specs.Io.KnownBytes.{Appends, Consumes, Keeps}
use Rattle.std.proofs.KnownBytes.{Appends-trans, Appends-nil, Appends-kept, Consumes-trans}
use Rattle.std.proofs.lemmas.List.{take-append-le, take_rest}
use borrow.Rule.Slice.PartMut.{put_mid, post_of}
use Rattle.std.proofs.Math.Seq.{take-append-add, take-add}
use Rattle.grib_io.specs.Outside.{AppendsFront}

-- nothing was appended yet
pub front_none : (a : Option (List ℕ)) (octets : List ℕ) → AppendsFront a a octets
front_none a octets = ([], octets, refl, Appends-nil a)

-- a front of what more octets begin with
pub front_more : (a b : Option (List ℕ)) (octets more : List ℕ) → AppendsFront a b octets → AppendsFront a b (octets ++ more)
front_more a b octets more (front, rest, is, appended) =
    (front, rest ++ more, ap (λ xs. xs ++ more) is ∙ append_assoc front rest more, appended)

-- a buffer of which a octets were filled, after n more came to the front of the part from there on
pub filled_more : (xs ys : List ℕ) (a k n : ℕ) → a ≤ length xs → n ≤ length ys → take (a + n) (put_mid a k xs ys) ≡ take a xs ++ take n ys
filled_more xs ys a k n low few =
    let size : length (take a xs) ≡ a = length-take-le a xs low in
    let rest : List ℕ = ys ++ post_of a k xs in
    ap (λ m. take (m + n) (take a xs ++ rest)) (sym size)
    ∙ (take-append-add (take a xs) rest n ∙ ap (λ zs. take a xs ++ zs) (take-append-le n ys (post_of a k xs) few))

-- what was taken before, and then
pub taken_more : (a b c : Option (List ℕ)) (xs ys : List ℕ) (at k n : ℕ) → Consumes a b (take at xs) → Consumes b c (take n ys)
    → at ≤ length xs → n ≤ length ys → Consumes a c (take (at + n) (put_mid at k xs ys))
taken_more a b c xs ys at k n before now low few =
    subst (Consumes a c) (sym (filled_more xs ys at k n low few)) (Consumes-trans a b c (take at xs) (take n ys) before now)

-- what was written before, and then of the rest of the piece
pub written_more : (a b c : Option (List ℕ)) (xs : List ℕ) (n k : ℕ) → Appends a b (take n xs)
    → Appends b c (take k (take (length xs - n) (drop n xs))) → Appends a c (take (n + k) xs)
written_more a b c xs n k before now =
    let rest : take (length xs - n) (drop n xs) ≡ drop n xs = take_rest xs n in
    subst (Appends a c) (ap (λ ys. take n xs ++ take k ys) rest ∙ sym (take-add n k xs))
    (Appends-trans a b c (take n xs) (take k (take (length xs - n) (drop n xs))) before now)

-- the front that was written where the rest is refused
pub written_front : (a b c : Option (List ℕ)) (xs : List ℕ) (n : ℕ) → Appends a b (take n xs) → Keeps b c → AppendsFront a c xs
written_front a b c xs n before kept = (take n xs, drop n xs, sym (take-append-drop n xs), Appends-kept a b c (take n xs) before kept)

-- a front of nothing is a front of anything
pub front_of_nothing : (a b : Option (List ℕ)) (octets : List ℕ) → AppendsFront a b [] → AppendsFront a b octets
front_of_nothing a b octets ([], rest, is, appended) = ([], octets, refl, appended)
front_of_nothing a b octets (x ∷ front, rest, is, appended) = absurd (cc is)
