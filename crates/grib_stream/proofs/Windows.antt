-- The part of a buffer that a window shows.
use Rattle.std.proofs.Common.{◌≡◌, ℕ, ◌+◌, ◌-◌, ◌<◌, ◌≤◌, subst, List, ◌++◌, length, take, drop, sym, ap, ◌∙◌, arith, length-drop, length-take-le, take-append-drop, take-take, drop_at, [], append_assoc, append-nil, length-append}
use Rattle.std.proofs.lemmas.List.{take-append-le}
use Rattle.std.proofs.lemmas.List.Elements.{All-nil, All-append}
use Rattle.std.proofs.Math.Seq.{take-append-add}
use lib.Seq.{drop-append-le}
use borrow.Rule.Slice.PartMut.{put_mid, post_of}
use Rattle.std.specs.declared.option.Option.{Option}
use Rattle.std.specs.Io.KnownBytes.{Consumes, Keeps, IsAtEnd}
use Rattle.std.proofs.KnownBytes.{Consumes-nil, Consumes-trans, Consumes-kept}
use Rattle.grib_stream.specs.Reading.{Reads, Gathers, Takes}

-- ---- octets that were taken

pub takes_none : (a : Option (List ℕ)) → Takes a a []
takes_none a = record { consumed = Consumes-nil a; small = All-nil (λ octet. octet < 256) }

pub takes_more : (a b c : Option (List ℕ)) (first second : List ℕ) → Takes a b first → Takes b c second → Takes a c (first ++ second)
takes_more a b c first second before now = record {
  consumed = Consumes-trans a b c first second before.consumed now.consumed;
  small = All-append (λ octet. octet < 256) first second before.small now.small;
}

pub takes_kept : (a b c : Option (List ℕ)) (octets : List ℕ) → Takes a b octets → Keeps b c → Takes a c octets
takes_kept a b c octets before kept = record { consumed = Consumes-kept a b c octets before.consumed kept; small = before.small }

-- nothing was taken since
pub takes_still : (a b c : Option (List ℕ)) (octets : List ℕ) → Takes a b octets → Consumes b c [] → Takes a c octets
takes_still a b c octets before nothing =
    record { consumed = subst (Consumes a c) (append-nil octets) (Consumes-trans a b c octets [] before.consumed nothing); small = before.small }

-- ---- the part of a buffer

-- a buffer of which a octets were filled, after n more came to the front of the part from there on
filled_more : (xs ys : List ℕ) (a k n : ℕ) → a ≤ length xs → n ≤ length ys → take (a + n) (put_mid a k xs ys) ≡ take a xs ++ take n ys
filled_more xs ys a k n low few =
    let size : length (take a xs) ≡ a = length-take-le a xs low in
    let rest : List ℕ = ys ++ post_of a k xs in
    ap (λ m. take (m + n) (take a xs ++ rest)) (sym size)
    ∙ (take-append-add (take a xs) rest n ∙ ap (λ zs. take a xs ++ zs) (take-append-le n ys (post_of a k xs) few))

pub behind_read : (xs ys : List ℕ) (a k n : ℕ) → a ≤ length xs → n ≤ length ys → drop a (take (a + n) (put_mid a k xs ys)) ≡ take n ys
behind_read xs ys a k n low few = ap (drop a) (filled_more xs ys a k n low few) ∙ drop_at (take a xs) (take n ys) a (length-take-le a xs low)

-- what was shown, and then what was read behind it
window_read : (old new : List ℕ) (start end count : ℕ) → take end new ≡ take end old → start ≤ end → end + count ≤ length new
    → drop start (take (end + count) new) ≡ drop start (take end old) ++ drop end (take (end + count) new)
window_read old new start end count same order within =
    let front : take end (take (end + count) new) ≡ take end old = take-take end (end + count) new (omega arith) ∙ same in
    let long : length (take end old) ≡ end = ap length (sym same) ∙ length-take-le end new (omega arith) in
    let whole : take (end + count) new ≡ take end old ++ drop end (take (end + count) new) =
    sym (take-append-drop end (take (end + count) new)) ∙ ap (λ xs. xs ++ drop end (take (end + count) new)) front in
    ap (drop start) whole ∙ drop-append-le start (take end old) (drop end (take (end + count) new)) (omega (arith, long, order))

pub reads_behind : (a b : Option (List ℕ)) (shown old new : List ℕ) (start end count most : ℕ) → shown ≡ drop start (take end old) → take end new ≡ take end old
    → start ≤ end → end + count ≤ length new → count ≤ most → Takes a b (drop end (take (end + count) new)) → (count ≡ 0 → IsAtEnd b)
    → Reads a b shown (drop start (take (end + count) new)) count most
reads_behind a b shown old new start end count most is same order within few taken ends = record {
  piece = drop end (take (end + count) new);
  grown = window_read old new start end count same order within ∙ ap (λ xs. xs ++ drop end (take (end + count) new)) (sym is);
  size = omega (arith, length-drop end (take (end + count) new), length-take-le (end + count) new within);
  few = few;
  taken = taken;
  end = ends;
}

-- ---- one read after another

pub gathers_none : (a : Option (List ℕ)) (octets : List ℕ) (left : ℕ) → Gathers a a octets octets left left
gathers_none a octets left = record { piece = []; grown = sym (append-nil octets); size = omega arith; taken = takes_none a }

pub gathers_more : (a b c : Option (List ℕ)) (old mid new : List ℕ) (left left_mid count most : ℕ) → Gathers a b old mid left left_mid → Reads b c mid new count most
    → most ≤ left_mid → Gathers a c old new left (left_mid - count)
gathers_more a b c old mid new left left_mid count most before now few = record {
  piece = before.piece ++ now.piece;
  grown = now.grown ∙ (ap (λ xs. xs ++ now.piece) before.grown ∙ append_assoc old before.piece now.piece);
  size = omega (arith, length-append before.piece now.piece, before.size, now.size, now.few);
  taken = takes_more a b c before.piece now.piece before.taken now.taken;
}
