-- Items that are whole in a piece.
use Rattle.std.proofs.Common.{◌≡◌, ℕ, suc, ◌+◌, ◌-◌, ◌*◌, ◌%◌, ◌==◌, ◌<◌, ◌≤◌, Bool, List, ◌++◌, length, take, drop, sym, ap, ap₂, subst, ◌∙◌, arith, append_assoc, take-append-drop}
use Rattle.std.proofs.Math.Seq.{drop-append_seam}
use Rattle.std.proofs.lemmas.List.{length-append, length-take-le, length-drop, take_at, drop-drop}
use Rattle.grib_bits.specs.Bits.{bits}
use Rattle.grib_bits.proofs.OctetBits.{length-bits}
use Rattle.grib_packing.specs.declared.column.Point.{Point}
use Rattle.grib_coding.specs.declared.coding.Coding.{Coding}
use Rattle.grib_coding.specs.Coding.{block_count}
use Rattle.grib_coding.specs.Reading.{Front, Found, Coded, coded_of, Decoded, front_item, padded, items_from, after_item}
use Rattle.grib_block_reading.specs.declared.item.Kind.{Kind}
use Rattle.grib_block_reading.specs.Taking.{with_reference, front_at}
use Rattle.grib_block_reading.proofs.Whole.{one_more}
use Rattle.grib_block_feeding.specs.declared.half.Half.{Half}
use Rattle.grib_block_feeding.specs.declared.reading.Reading.{Reading}
use Rattle.grib_block_feeding.specs.declared.reading.Stage.TheVariants.{Items}
use Rattle.grib_block_feeding.specs.Half.{IsFront, WholeItem}
use Rattle.grib_block_feeding.specs.Feeding.{cut, left_by, Going, IsWholeAt, IsAtStage, IsAtItem, IsReading}
use Rattle.grib_block_feeding.proofs.Used.{steady_item, passes}
use Rattle.grib_block_feeding.proofs.Alike.{cut_behind}

-- ---- what is read of an item that is whole

pub whole_at : (c : Coding) (block : ℕ) (xs : List Bool) (place : ℕ) (s : Bool) (old rest : List Bool) (kind : Kind) (half : Half) (left : ℕ) → place ≤ length xs
    → s ≡ with_reference c block → half.with_reference ≡ s → old ≡ padded c (block % c.interval == 0) (drop place xs) → IsFront c (front_item c s old) rest kind half → left ≡ length rest
    → (left ≤ length xs - place) × IsWholeAt c block (drop place xs) (drop (length xs - left) xs) kind half
whole_at c block xs place s old rest kind half left within is referred skipped front long =
    let first = block % c.interval == 0 in
    let zs = drop place xs in
    let coded = coded_of half.reference front.item in
    let p = passes c first zs in
    let u = steady_item c s old coded rest front.found in
    let all = p.before ++ u.used in
    let split : zs ≡ all ++ rest =
    p.split ∙ (ap (λ ys. p.before ++ ys) (sym skipped ∙ u.split) ∙ sym (append_assoc p.before u.used rest)) in
    let sum : length zs ≡ length all + length rest = ap length split ∙ length-append all rest in
    let there : rest ≡ drop (length all) zs = sym (ap (drop (length all)) split ∙ drop-append_seam all rest) in
    let end : place + length all ≡ length xs - left = omega (arith, sum, length-drop place xs, long, within) in
    let behind_it : rest ≡ drop (length xs - left) xs = there ∙ (drop-drop (length all) place xs ∙ ap (λ n. drop n xs) end) in (
      omega (arith, sum, length-drop place xs, long),
      record {
        referred = referred ∙ is;
        front_is = record {
          item = front.item;
          found = ap₂ (front_item c) (sym is) (sym skipped) ∙ (front.found ∙ ap (Found coded) behind_it);
          kind_is = front.kind_is;
          reference_is = front.reference_is;
        };
      },
    )

-- An item is at the front of bits, whatever follows it.
pub record IsAhead (c : Coding) (block : ℕ) (xs rest : List Bool) (kind : Kind) (half : Half) : Type 0 where
  pub all : List Bool
  pub front : List Bool → Front Coded
  pub split : xs ≡ all ++ rest
  pub whole : WholeItem c front kind half
  pub again : (ys : List Bool) → length (all ++ ys) % 8 ≡ length xs % 8 → front_at c block (all ++ ys) ≡ front ys

pub ahead : (c : Coding) (block : ℕ) (xs rest : List Bool) (kind : Kind) (half : Half) → IsWholeAt c block xs rest kind half → IsAhead c block xs rest kind half
ahead c block xs rest kind half is =
    let first = block % c.interval == 0 in
    let s = with_reference c block in
    let f = is.front_is in
    let coded = coded_of half.reference f.item in
    let p = passes c first xs in
    let u = steady_item c s (padded c first xs) coded rest f.found in
    let front : List Bool → Front Coded = λ ys. front_item c s (u.used ++ ys) in
    record {
      all = p.before ++ u.used;
      front = front;
      split = p.split ∙ (ap (λ ys. p.before ++ ys) u.split ∙ sym (append_assoc p.before u.used rest));
      whole = record { item = f.item; found = u.again; kind_is = f.kind_is; reference_is = f.reference_is };
      again = λ ys same.
          let moved : (p.before ++ u.used) ++ ys ≡ p.before ++ (u.used ++ ys) = append_assoc p.before u.used ys in
          let long : length (p.before ++ (u.used ++ ys)) % 8 ≡ length xs % 8 = sym (ap (λ zs. length zs % 8) moved) ∙ same in
          ap (front_at c block) moved ∙ ap (front_item c s) (p.again (u.used ++ ys) long);
    }

-- ---- what is read where an item begins

abbrev pub Reads : Coding → ℕ → ℕ → ℕ → (ℕ → List Bool → Decoded) → Type 0
Reads c count block after left =
    (most : ℕ) (rest : List Bool) → length rest % 8 ≡ after → block_count c count ≤ block + most
    → cut (count - block * c.block) (items_from most c count block rest) ≡ cut (count - block * c.block) (left (most - 1) rest)

pub reads_same : (c other : Coding) (count values block place after then_after : ℕ) (left : ℕ → List Bool → Decoded) → other ≡ c → values ≡ count → place ≡ block → then_after ≡ after
    → Reads c count block after left → Reads other values place then_after left
reads_same c other count values block place after then_after left is few here same reads =
    subst (λ (x : Coding). Reads x values place then_after left) (sym is)
    (subst (λ (n : ℕ). Reads c n place then_after left) (sym few)
    (subst (λ (n : ℕ). Reads c count n then_after left) (sym here)
    (subst (λ (n : ℕ). Reads c count block n left) (sym same) reads)))

-- the same is left where an item begins
pub going_fresh : {S : Type 0} (kept : S → List Point → S → Type 0) (c : Coding) (count block : ℕ) (start : List Bool) (first : S) (after : ℕ) (left other : ℕ → List Bool → Decoded) (last : ℕ) (now : S)
    → Reads c count block after left → Reads c count block after other → Going kept c count block start first after left last now → Going kept c count block start first after other last now
going_fresh kept c count block start first after left other last now one two so =
    let more : suc so.most - 1 ≡ so.most = omega arith in
    let enough : block_count c count ≤ block + suc so.most = omega (arith, so.enough) in
    let n = count - block * c.block in
    record {
      entries = so.entries;
      most = so.most;
      enough = so.enough;
      whole = λ rest long.
          let same : cut n (left so.most rest) ≡ cut n (other so.most rest) =
          ap (λ m. cut n (left m rest)) (sym more) ∙ (sym (one (suc so.most) rest long enough) ∙ (two (suc so.most) rest long enough ∙ ap (λ m. cut n (other m rest)) more)) in
          so.whole rest long ∙ cut_behind count so.entries (left so.most rest) (other so.most rest) n (ap (λ m. count - m) (sym so.long)) same;
      long = so.long;
      kept_are = so.kept_are;
    }

item_reads : (c : Coding) (count block most : ℕ) (rest : List Bool) → block < block_count c count → items_from (suc most) c count block rest ≡ left_by c count block (front_at c block) most rest
item_reads c count block most rest less = one_more c count block most rest less

pub going_ahead : {S : Type 0} (kept : S → List Point → S → Type 0) (c : Coding) (count block : ℕ) (octets piece : List ℕ) (place next : ℕ) (first : S) (left : ℕ → List Bool → Decoded) (last : ℕ) (now : S)
    (kind : Kind) (half : Half) (a : IsAhead c block (drop place (bits piece)) (drop next (bits piece)) kind half)
    → block < block_count c count → place ≤ next → next ≤ 8 * length piece → Reads c count block ((8 - place % 8) % 8) left
    → Going kept c count block (bits octets ++ take place (bits piece)) first ((8 - place % 8) % 8) left last now
    → Going kept c count block (bits octets ++ take next (bits piece)) first ((8 - next % 8) % 8) (left_by c count block a.front) last now
going_ahead kept c count block octets piece place next first left last now kind half a less on within reads so =
    let xs = bits piece in
    let start = bits octets in
    let n = count - block * c.block in
    let long : length xs ≡ 8 * length piece = length-bits piece in
    let sum : length (drop place xs) ≡ length a.all + length (drop next xs) = ap length a.split ∙ length-append a.all (drop next xs) in
    let all_long : length a.all ≡ next - place = omega (arith, sum, length-drop place xs, length-drop next xs, long, on, within) in
    let taken_long : length (take place xs) ≡ place = length-take-le place xs (omega (arith, long, on, within)) in
    let parts : xs ≡ (take place xs ++ a.all) ++ drop next xs =
    sym (take-append-drop place xs) ∙ (ap (λ zs. take place xs ++ zs) a.split ∙ sym (append_assoc (take place xs) a.all (drop next xs))) in
    let taken : take next xs ≡ take place xs ++ a.all =
    ap (take next) parts ∙ take_at (take place xs ++ a.all) (drop next xs) next (length-append (take place xs) a.all ∙ omega (arith, taken_long, all_long, on)) in
    let more : suc so.most - 1 ≡ so.most = omega arith in
    let enough : block_count c count ≤ block + suc so.most = omega (arith, so.enough) in
    let moved : (rest : List Bool) → (start ++ take next xs) ++ rest ≡ (start ++ take place xs) ++ (a.all ++ rest) =
    λ rest. ap (λ zs. (start ++ zs) ++ rest) taken
    ∙ (ap (λ zs. zs ++ rest) (sym (append_assoc start (take place xs) a.all)) ∙ append_assoc (start ++ take place xs) a.all rest) in
    record {
      entries = so.entries;
      most = so.most;
      enough = so.enough;
      whole = λ rest is.
          let ys = a.all ++ rest in
          let aligned : length ys % 8 ≡ (8 - place % 8) % 8 = omega (arith, length-append a.all rest, all_long, is, on) in
          let whole_aligned : length ys % 8 ≡ length (drop place xs) % 8 = omega (arith, aligned, length-drop place xs, long, on, within) in
          let next_item : (f : Front Coded) → Decoded = λ f. after_item c count block (λ block' rest'. items_from so.most c count block' rest') f in
          let same : cut n (left so.most ys) ≡ cut n (left_by c count block a.front so.most rest) =
          ap (λ m. cut n (left m ys)) (sym more)
          ∙ (sym (reads (suc so.most) ys aligned enough)
          ∙ (ap (cut n) (item_reads c count block so.most ys less)
          ∙ ap (λ f. cut n (next_item f)) (a.again rest whole_aligned))) in
          ap (λ zs. cut count (items_from (block_count c count) c count 0 zs)) (moved rest)
          ∙ (so.whole ys aligned ∙ cut_behind count so.entries (left so.most ys) (left_by c count block a.front so.most rest) n (ap (λ m. count - m) (sym so.long)) same);
      long = so.long;
      kept_are = so.kept_are;
    }

pub whole_same : (c other : Coding) (block place : ℕ) (xs rest : List Bool) (kind : Kind) (half : Half) → other ≡ c → place ≡ block → IsWholeAt c block xs rest kind half → IsWholeAt other place xs rest kind half
whole_same c other block place xs rest kind half is here whole =
    subst (λ (x : Coding). IsWholeAt x place xs rest kind half) (sym is) (subst (λ (n : ℕ). IsWholeAt c n xs rest kind half) (sym here) whole)

pub at_item : (reading : Reading) → IsReading reading → reading.stage ≡ Items → IsAtItem reading.coding reading.count reading.block reading.half
at_item reading is items = subst (IsAtStage reading.coding reading.count reading.block reading.half) items is.stage_is

pub less_same : (c other : Coding) (count values block place : ℕ) → other ≡ c → values ≡ count → place ≡ block → block < block_count c count → place < block_count other values
less_same c other count values block place is few here less =
    subst (λ (x : Coding). place < block_count x values) (sym is) (subst (λ (n : ℕ). place < block_count c n) (sym few) (subst (λ (n : ℕ). n < block_count c count) (sym here) less))

pub going_after : {S : Type 0} (kept : S → List Point → S → Type 0) (c : Coding) (count block : ℕ) (start : List Bool) (first : S) (after other : ℕ) (left : ℕ → List Bool → Decoded) (last : ℕ) (now : S)
    → other ≡ after → Going kept c count block start first after left last now → Going kept c count block start first other left last now
going_after kept c count block start first after other left last now is so = subst (λ (n : ℕ). Going kept c count block start first n left last now) (sym is) so
