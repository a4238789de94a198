use Rattle.std.proofs.Common.{◌≡◌, ℕ, zero, suc, ◌+◌, ◌-◌, ◌<◌, ◌≤◌, ◌^◌, ◌++◌, ◌∷◌, [], List, Bool, length, map, take, replicate, All, refl, sym, ap, ap₂, ◌∙◌, arith, append_assoc, subst}
use Rattle.std.proofs.lemmas.List.Elements.{All-replicate, All-head}
use Rattle.std.proofs.lemmas.List.{append-nil, length-append, length-replicate, take-replicate}
use Rattle.grib_base.specs.declared.code.Code.{Code}
use Rattle.grib_packing.specs.Groupings.{IsGrouping, runs, joined, length_bits, width_of, reference_bits_of}
use Rattle.grib_packing.specs.Packed.{fields, padded, group_fields, group_parts, reference_of}
use Rattle.grib_codes.specs.Span.{IsTold}
use Rattle.grib_codes.proofs.Bounds.{references_fit, reference_bits-few}
use Rattle.grib_packing.proofs.Left.{even_after}
use Rattle.grib_groups.proofs.Parts.{parts-are}
use Rattle.grib_groups.proofs.Same.{references_same, no_numbers, no_bits, width_bits_same, reference_same}
use Rattle.grib_groups.proofs.encoding.encode_same.Goals as goal

-- the parts of groups of one code
parts_same : (k b n r : ℕ) (c : Code) (lengths : List ℕ) → b ≡ reference_bits_of k (replicate n c) → r ≡ reference_of b (c ∷ []) → IsGrouping n lengths
    → group_parts k (replicate n c) lengths ≡ padded (fields b (map (λ l. r) lengths)) ++ padded (fields length_bits (map (λ l. l - 1) lengths))
parts_same k b n r c lengths is_b is_r g =
    let codes = replicate n c in
    let first : map (reference_of b) (runs lengths codes) ≡ map (λ l. r) lengths = references_same c b n lengths g ∙ ap (λ (q : ℕ). map (λ l. q) lengths) (sym is_r) in
    let third = padded (fields length_bits (map (λ l. l - 1) lengths)) in
    let widths = no_bits (map (width_of k) (runs lengths codes)) in
    parts-are k k b 0 codes lengths refl is_b (sym (width_bits_same k c n))
    ∙ ap₂ (λ (xs : List ℕ) (ys : List Bool). ((padded (fields b xs) ++ padded ys) ++ third) ++ padded (joined (map (group_fields k b) (runs lengths codes)))) first widths
    ∙ ap (λ (ys : List Bool). ((padded (fields b (map (λ l. r) lengths)) ++ []) ++ third) ++ padded ys) (no_numbers c k b n lengths g)
    ∙ append-nil ((padded (fields b (map (λ l. r) lengths)) ++ []) ++ third)
    ∙ ap (λ (xs : List Bool). xs ++ third) (append-nil (padded (fields b (map (λ l. r) lengths))))

-- all codes are told
all_told : (k n : ℕ) (c : Code) → IsTold k c → All (IsTold k) (replicate n c)
all_told k n c is = All-replicate (IsTold k) n c is

told_one : (k n : ℕ) (c : Code) → 1 ≤ n → All (IsTold k) (replicate n c) → IsTold k c
told_one k zero c some told = absurd (omega arith)
told_one k (suc n) c some told = All-head (IsTold k) c (replicate n c) told

grouping_of : (n : ℕ) (c : Code) (lengths : List ℕ) → IsGrouping (length (replicate n c)) lengths → IsGrouping n lengths
grouping_of n c lengths g = subst (λ (m : ℕ). IsGrouping m lengths) (length-replicate n c) g

reference_fits : (k b n : ℕ) (c : Code) → b ≡ reference_bits_of k (replicate n c) → 1 ≤ n → k ≤ 2 → IsTold k c → reference_of b (c ∷ []) < 2 ^ b
reference_fits k b zero c is some few told = absurd (omega arith)
reference_fits k b (suc n) c is some few told =
    let whole : take (suc n) (replicate (suc n) c) ≡ replicate (suc n) c = take-replicate (suc n) (suc n) c (omega arith) in
    let P : List Code → Type 0 = λ run. reference_of b run < 2 ^ b in
    let head : reference_of b (take (suc n) (replicate (suc n) c)) < 2 ^ b =
    All-head P (take (suc n) (replicate (suc n) c)) [] (references_fit k b (replicate (suc n) c) (suc n ∷ []) is few (all_told k (suc n) c told)) in
    omega (arith, head, ap (reference_of b) whole, reference_same b c n)

bits-few : (k b n : ℕ) (c : Code) → b ≡ reference_bits_of k (replicate n c) → k ≤ 2 → IsTold k c → b ≤ 32
bits-few k b n c is few told = reference_bits-few k b (replicate n c) is few (all_told k n c told)

pub reference-requires : goal.reference-requires
reference-requires c = bits-few c.args.layout.now.management c.from-bits.result c.args.count c.args.code (c.from-bits.ensures ∙ c.requires.lays_out.reference_bits) c.requires.lays_out.management (told_one c.args.layout.now.management c.args.count c.args.code c.requires.some c.requires.lays_out.codes_are_told)

pub put_same-requires-clause-few : goal.put_same-requires-clause-few
put_same-requires-clause-few c = bits-few c.args.layout.now.management c.from-bits.result c.args.count c.args.code (c.from-bits.ensures ∙ c.requires.lays_out.reference_bits) c.requires.lays_out.management (told_one c.args.layout.now.management c.args.count c.args.code c.requires.some c.requires.lays_out.codes_are_told)

pub put_same-requires-clause-fits : goal.put_same-requires-clause-fits
put_same-requires-clause-fits c =
    let fits = reference_fits c.args.layout.now.management c.from-bits.result c.args.count c.args.code (c.from-bits.ensures ∙ c.requires.lays_out.reference_bits) c.requires.some c.requires.lays_out.management (told_one c.args.layout.now.management c.args.count c.args.code c.requires.some c.requires.lays_out.codes_are_told) in
    omega (arith, fits, c.reference.ensures (c.args.code ∷ []) c.of.ensures.span)

parts_length : (k b n r : ℕ) (c : Code) (lengths : List ℕ) → b ≡ reference_bits_of k (replicate n c) → r ≡ reference_of b (c ∷ []) → IsGrouping n lengths
    → length (group_parts k (replicate n c) lengths) ≡ length (padded (fields b (map (λ l. r) lengths))) + length (padded (fields length_bits (map (λ l. l - 1) lengths)))
parts_length k b n r c lengths is_b is_r g =
    ap length (parts_same k b n r c lengths is_b is_r g) ∙ length-append (padded (fields b (map (λ l. r) lengths))) (padded (fields length_bits (map (λ l. l - 1) lengths)))

pub put_same-requires-clause-room : goal.put_same-requires-clause-room
put_same-requires-clause-room c = omega (arith, parts_length c.args.layout.now.management c.from-bits.result c.args.count c.reference.result c.args.code c.args.lengths.now (c.from-bits.ensures ∙ c.requires.lays_out.reference_bits) (c.reference.ensures (c.args.code ∷ []) c.of.ensures.span) (grouping_of c.args.count c.args.code c.args.lengths.now c.requires.lays_out.grouping), c.requires.room)

pub put_lengths-requires-clause-whole : goal.put_lengths-requires-clause-whole
put_lengths-requires-clause-whole c =
    even_after c.args.out.now.bits c.put_same.new.out.bits (fields c.from-bits.result (map (λ l. c.reference.result) c.args.lengths.now)) c.requires.whole c.put_same.ensures.bits

pub put_lengths-requires-clause-room : goal.put_lengths-requires-clause-room
put_lengths-requires-clause-room c = omega (arith, parts_length c.args.layout.now.management c.from-bits.result c.args.count c.reference.result c.args.code c.args.lengths.now (c.from-bits.ensures ∙ c.requires.lays_out.reference_bits) (c.reference.ensures (c.args.code ∷ []) c.of.ensures.span) (grouping_of c.args.count c.args.code c.args.lengths.now c.requires.lays_out.grouping), c.requires.room, c.put_same.ensures.spare)

pub returns : goal.returns
returns c =
    let first = padded (fields c.from-bits.result (map (λ l. c.reference.result) c.args.lengths.now)) in
    let third = padded (fields length_bits (map (λ l. l - 1) c.args.lengths.now)) in
    record {
      bits =
          c.put_lengths.ensures.bits ∙ ap (λ (xs : List Bool). xs ++ third) c.put_same.ensures.bits ∙ append_assoc c.args.out.now.bits first third
          ∙ ap (λ (xs : List Bool). c.args.out.now.bits ++ xs) (sym (parts_same c.args.layout.now.management c.from-bits.result c.args.count c.reference.result c.args.code c.args.lengths.now (c.from-bits.ensures ∙ c.requires.lays_out.reference_bits) (c.reference.ensures (c.args.code ∷ []) c.of.ensures.span) (grouping_of c.args.count c.args.code c.args.lengths.now c.requires.lays_out.grouping)));
      spare = omega (arith, parts_length c.args.layout.now.management c.from-bits.result c.args.count c.reference.result c.args.code c.args.lengths.now (c.from-bits.ensures ∙ c.requires.lays_out.reference_bits) (c.reference.ensures (c.args.code ∷ []) c.of.ensures.span) (grouping_of c.args.count c.args.code c.args.lengths.now c.requires.lays_out.grouping), c.put_same.ensures.spare, c.put_lengths.ensures.spare);
    }
