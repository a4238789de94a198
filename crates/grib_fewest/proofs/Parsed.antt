-- Bits that are read begin with the bits of a list of items.
use Rattle.std.proofs.Common.{inl, inr, ◌⊎◌, ◌≡◌, ℕ, zero, suc, ◌+◌, ◌-◌, ◌*◌, ◌%◌, ◌<◌, ◌≤◌, Bool, false, cond, ◌&&◌, ◌||◌, ◌==◌, List, [], ◌∷◌, ◌++◌, take, drop, length, Option, Some, None, refl, sym, ap, ap₂, ◌∙◌, arith, append_assoc}
use Rattle.std.specs.List.{position}
use Rattle.std.proofs.lemmas.Nat.{mod_below}
use Rattle.std.proofs.lemmas.Bool.{cases_lt, cases_Bool, lt-leb, lt-ltb, le-ltb}
use Rattle.grib_coding.specs.declared.coding.Coding.{Coding}
use Rattle.grib_coding.specs.Coding.{Fits, block_count, is_mapped, is_padded}
use Rattle.grib_coding.specs.declared.fault.BlockFault.{BlockFault}
use Rattle.grib_coding.specs.declared.fault.BlockFault.TheVariants.{Short, Block}
use Rattle.grib_coding.specs.Items.{covered}
use Rattle.grib_coding.specs.Numbers.{Told}
use Rattle.grib_coding.specs.Reading.{Found, Coded, Decoded, decoded, read_as, ended_by, unless_ended, unless_fault, after_item, padded, is_over, is_too_long, value_fault, item_fault, entries_of, front_item, items_from}
use Rattle.grib_coding.specs.Written.{coded_bits}
use Rattle.grib_block_writing.proofs.Read.{ended, step}
use Rattle.grib_block_writing.proofs.Zeros.{fits_block}
use Rattle.grib_fewest.specs.Lists.{AreReadable, BeginWith, Cover, block_after, list_bits, told_by}
use Rattle.grib_fewest.proofs.Found.{found_or_ended, item_found}
use Rattle.grib_fewest.proofs.Items.{covers_some}

-- ---- one item

record IsSome (fault : Option BlockFault) : Type 0 where
  pub value : BlockFault
  pub is : fault ≡ Some value

none_or_some : (fault : Option BlockFault) → (fault ≡ None) ⊎ IsSome fault
none_or_some None = inl refl
none_or_some (Some fault) = inr (record { value = fault; is = refl })

some_no : (fault : BlockFault) → Some fault ≡ None → ⊥
some_no fault is = cc

-- an item that is not at fault ends in its interval, and has no sequence that is too long
sound : (c : Coding) (count q : ℕ) (coded : Coded) → item_fault c count q coded ≡ None
    → (q % c.interval + covered c (q % c.interval) coded.item ≤ c.interval) × (is_too_long coded.item ≡ false)
sound c count q coded is =
    let place = q % c.interval in
    let end = place + covered c place coded.item in
    let rest = value_fault (q * c.block) (position (is_over c) (take (count - q * c.block) (entries_of c place coded))) in
    let fault : Bool → Bool → Option BlockFault = λ (a b : Bool). cond (a || b) (Some (Block (q + 1))) rest in
    elim (cases_lt c.interval end) [
      | inl past ↦
          absurd (some_no (Block (q + 1)) (sym (ap (λ (a : Bool). fault a (is_too_long coded.item)) (lt-ltb c.interval end past)) ∙ is))
      | inr within ↦ elim (cases_Bool (is_too_long coded.item)) [
        | inl long ↦ absurd (some_no (Block (q + 1)) (sym (ap₂ fault (le-ltb c.interval end within) long) ∙ is))
        | inr short ↦ (within, short)
      ]
    ]

one_item : (most : ℕ) (c : Coding) (count q : ℕ) (bits : List Bool) → q < block_count c count → is_padded c ≡ false
    → items_from (suc most) c count q bits
    ≡ after_item c count q (λ block' rest. items_from most c count block' rest) (front_item c ((q % c.interval == 0) && is_mapped c) bits)
one_item most c count q bits within unpadded =
    let first = q % c.interval == 0 in
    let next : ℕ → List Bool → Decoded = λ (block' : ℕ) (rest : List Bool). items_from most c count block' rest in
    ap (λ (t : Bool). unless_ended t (λ (_ : ℕ). after_item c count q next (front_item c (first && is_mapped c) (padded c first bits))))
    (lt-leb (block_count c count) q within)
    ∙ ap (λ (p : Bool). after_item c count q next (front_item c (first && is_mapped c) (cond (p && first) (drop (length bits % 8) bits) bits))) unpadded

-- ---- all items

record Parsed (c : Coding) (count q : ℕ) (bits : List Bool) (read : Decoded) : Type 0 where
  pub items : List Coded
  pub rest : List Bool
  pub stand : bits ≡ list_bits c items ++ rest
  pub cover : Cover c (block_count c count) q items
  pub readable : AreReadable c q items
  pub entries : read.entries ≡ told_by c q items

nothing : (c : Coding) (count q : ℕ) (bits : List Bool) (read : Decoded) → block_count c count ≤ q → read ≡ ended_by None
    → Parsed c count q bits read
nothing c count q bits read end is =
    record { items = []; rest = bits; stand = refl; cover = end; readable = tt; entries = ap (λ (d : Decoded). d.entries) is }

item_more : (most : ℕ) (c : Coding) (count q : ℕ) (bits rest : List Bool) (coded : Coded) → Fits c → is_padded c ≡ false
    → q < block_count c count → front_item c ((q % c.interval == 0) && is_mapped c) bits ≡ Found coded rest → item_fault c count q coded ≡ None
    → Parsed c count (block_after c q coded) rest (items_from most c count (block_after c q coded) rest)
    → Parsed c count q bits (items_from (suc most) c count q bits)
item_more most c count q bits rest coded fits unpadded within front fault later =
    let t = (q % c.interval == 0) && is_mapped c in
    let found = item_found c t bits coded rest ((fits_block c fits).0) front in
    let good = sound c count q coded fault in
    let entries = entries_of c (q % c.interval) coded in
    record {
      items = coded ∷ later.items;
      rest = later.rest;
      stand = found.0 ∙ (ap (λ (xs : List Bool). coded_bits c coded ++ xs) later.stand
          ∙ sym (append_assoc (coded_bits c coded) (list_bits c later.items) later.rest));
      cover = (within, found.1, later.cover);
      readable = (good.0, good.1, later.readable);
      entries = ap (λ (d : Decoded). d.entries) (step most c count q bits rest coded within unpadded front fault)
          ∙ ap (λ (es : List Told). entries ++ es) later.entries;
    }

parse : (most : ℕ) (c : Coding) (count q : ℕ) (bits : List Bool) → Fits c → is_padded c ≡ false → block_count c count ≤ q + most
    → (items_from most c count q bits).fault ≡ None → Parsed c count q bits (items_from most c count q bits)
parse zero c count q bits fits unpadded enough good = nothing c count q bits (items_from zero c count q bits) (omega (arith, enough)) refl
parse (suc most) c count q bits fits unpadded enough good = elim (cases_lt q (block_count c count)) [
  | inr end ↦ nothing c count q bits (items_from (suc most) c count q bits) end (ended (suc most) c count q bits end)
  | inl within ↦
      let t = (q % c.interval == 0) && is_mapped c in
      let next : ℕ → List Bool → Decoded = λ (block' : ℕ) (rest : List Bool). items_from most c count block' rest in
      let one = one_item most c count q bits within unpadded in
      elim (found_or_ended (front_item c t bits)) [
        | inl short ↦
            let read : items_from (suc most) c count q bits ≡ ended_by (Some Short) = one ∙ ap (after_item c count q next) short in
            absurd (some_no Short (sym (ap (λ (d : Decoded). d.fault) read) ∙ good))
        | inr f ↦ elim (none_or_some (item_fault c count q f.value)) [
          | inr bad ↦
              let read : items_from (suc most) c count q bits ≡ ended_by (Some bad.value) =
              one ∙ (ap (after_item c count q next) f.is
              ∙ ap (λ (o : Option BlockFault). unless_fault o (entries_of c (q % c.interval) f.value)
              (λ (_ : ℕ). next (block_after c q f.value) f.rest)) bad.is) in
              absurd (some_no bad.value (sym (ap (λ (d : Decoded). d.fault) read) ∙ good))
          | inl none ↦
              let some = covers_some c (q % c.interval) f.value.item (mod_below q c.interval fits.some_blocks) in
              let read = step most c count q bits f.rest f.value within unpadded f.is none in
              item_more most c count q bits f.rest f.value fits unpadded within f.is none
              (parse most c count (block_after c q f.value) f.rest fits unpadded (omega (arith, enough, some))
              (sym (ap (λ (d : Decoded). d.fault) read) ∙ good))
        ]
      ]
]

pub all_parsed : (c : Coding) (numbers : List ℕ) (bits : List Bool) → Fits c → is_padded c ≡ false
    → decoded c (length numbers) bits ≡ read_as c numbers → (items : List Coded) × BeginWith c numbers bits items
all_parsed c numbers bits fits unpadded is =
    let count = length numbers in
    let blocks = block_count c count in
    let good : (items_from blocks c count 0 bits).fault ≡ None = ap (λ (d : Decoded). d.fault) is in
    let p = parse blocks c count 0 bits fits unpadded (omega arith) good in (
      p.items,
      record {
        tells = record {
          whole = p.cover;
          told = ap (take count) (sym p.entries) ∙ ap (λ (d : Decoded). d.entries) is;
        };
        readable = p.readable;
        rest = p.rest;
        stand = p.stand;
      },
    )
