-- Items from what their parts are.
use Rattle.std.proofs.Common.{◌≡◌, ℕ, suc, ◌+◌, ◌-◌, ◌/◌, ◌^◌, Bool, false, List, length, Option, refl, sym, ap, ap₂, ◌∙◌, arith, ◌==◌}
use Rattle.std.proofs.lemmas.Bool.{ne_eqb}
use Rattle.grib_coding.specs.Coding.{identifier_width}
use Rattle.grib_coding.specs.declared.coding.Coding.{Coding}
use Rattle.grib_coding.specs.Items.{Run, Second, Split, Plain}
use Rattle.grib_coding.specs.Reading.{Front, Ended, Found, Coded, and_then, front_number, front_sequence, front_list, front_reference, front_zero, front_plain, front_split, front_kind, front_item, skipped}
use Rattle.grib_block_reading.specs.declared.item.Kind.{Kind}
use Rattle.grib_block_reading.specs.declared.item.Kind.TheVariants.{Zeros, Codes, Long}
use Rattle.grib_block_reading.specs.Fronts.{LowFound}
use Rattle.grib_block_reading.specs.ItemRead.{ItemRead, IsOfKind, IsSpread, HasReference}

pub chain : {A B : Type 0} (front : Front A) (next : A → List Bool → Front B) (x : A) (rest : List Bool) (end : Front B)
    → front ≡ Found x rest → next x rest ≡ end → and_then front next ≡ end
chain front next x rest end is then = ap (λ f. and_then f next) is ∙ then

-- ---- plain blocks

plain_next : Coding → Bool → Option ℕ → List Bool → Front Coded
plain_next c s reference rest =
    and_then (front_list (front_number c.bits) (c.block - skipped s) rest) (λ codes rest'. Found (record { reference = reference; item = Plain codes }) rest')

room : (c : Coding) (s : Bool) (n : ℕ) → n + skipped s ≡ c.block → n ≡ c.block - skipped s
room c s n is = omega (arith, is)

pub plain_ended : (c : Coding) (s : Bool) (bits rest : List Bool) (reference : Option ℕ) (n : ℕ) → front_reference c s bits ≡ Found reference rest
    → n + skipped s ≡ c.block → front_list (front_number c.bits) n rest ≡ Ended → front_plain c s bits ≡ Ended
unfolding plain_next
plain_ended c s bits rest reference n is long ends =
    chain (front_reference c s bits) (plain_next c s) reference rest Ended is
    (ap (λ m. and_then (front_list (front_number c.bits) m rest) (λ codes rest'. Found (record { reference = reference; item = Plain codes }) rest')) (sym (room c s n long))
    ∙ ap (λ f. and_then f (λ codes rest'. Found (record { reference = reference; item = Plain codes }) rest')) ends)

pub plain_read : (c : Coding) (s : Bool) (bits rest last : List Bool) (reference : Option ℕ) (n : ℕ) (codes : List ℕ) → front_reference c s bits ≡ Found reference rest
    → HasReference c s reference → n + skipped s ≡ c.block → front_list (front_number c.bits) n rest ≡ Found codes last
    → ItemRead c s (front_plain c s bits) (record { reference = reference; kind = Codes }) codes last
unfolding plain_next
plain_read c s bits rest last reference n codes is has long found = record {
  item = Plain codes;
  found = chain (front_reference c s bits) (plain_next c s) reference rest _ is
      (ap (λ m. and_then (front_list (front_number c.bits) m rest) (λ xs rest'. Found (record { reference = reference; item = Plain xs }) rest')) (sym (room c s n long))
      ∙ ap (λ f. and_then f (λ xs rest'. Found (record { reference = reference; item = Plain xs }) rest')) found);
  kind_is = record { one = λ place. refl; short = refl; codes_are = λ place. refl };
  reference_is = has;
}

-- ---- splits

split_next : Coding → Bool → ℕ → Option ℕ → List Bool → Front Coded
split_next c s k reference rest =
    and_then (front_list front_sequence (c.block - skipped s) rest) (λ high rest'.
    and_then (front_list (front_number k) (c.block - skipped s) rest') (λ low rest''.
    Found (record { reference = reference; item = Split k high low }) rest''))

split_low : Coding → Bool → ℕ → Option ℕ → List ℕ → List Bool → Front Coded
split_low c s k reference high rest =
    and_then (front_list (front_number k) (c.block - skipped s) rest) (λ low rest'.
    Found (record { reference = reference; item = Split k high low }) rest')

pub split_high_ended : (c : Coding) (s : Bool) (k : ℕ) (bits rest : List Bool) (reference : Option ℕ) (n : ℕ) → front_reference c s bits ≡ Found reference rest
    → n + skipped s ≡ c.block → front_list front_sequence n rest ≡ Ended → front_split c s k bits ≡ Ended
unfolding split_next split_low
split_high_ended c s k bits rest reference n is long ends =
    chain (front_reference c s bits) (split_next c s k) reference rest Ended is
    (ap (λ m. and_then (front_list front_sequence m rest) (split_low c s k reference)) (sym (room c s n long))
    ∙ ap (λ f. and_then f (split_low c s k reference)) ends)

pub split_low_ended : (c : Coding) (s : Bool) (k : ℕ) (bits rest last : List Bool) (reference : Option ℕ) (n : ℕ) (high : List ℕ)
    → front_reference c s bits ≡ Found reference rest → n + skipped s ≡ c.block → front_list front_sequence n rest ≡ Found high last
    → front_list (front_number k) n last ≡ Ended → front_split c s k bits ≡ Ended
unfolding split_next split_low
split_low_ended c s k bits rest last reference n high is long found ends =
    chain (front_reference c s bits) (split_next c s k) reference rest Ended is
    (ap (λ m. and_then (front_list front_sequence m rest) (split_low c s k reference)) (sym (room c s n long))
    ∙ chain (front_list front_sequence n rest) (split_low c s k reference) high last Ended found
    (ap (λ m. and_then (front_list (front_number k) m last) (λ low rest'. Found (record { reference = reference; item = Split k high low }) rest')) (sym (room c s n long))
    ∙ ap (λ f. and_then f (λ low rest'. Found (record { reference = reference; item = Split k high low }) rest')) ends))

pub split_read : (c : Coding) (s : Bool) (k : ℕ) (bits rest middle last : List Bool) (reference : Option ℕ) (n : ℕ) (high codes : List ℕ)
    → front_reference c s bits ≡ Found reference rest → HasReference c s reference → n + skipped s ≡ c.block → length high ≡ n
    → front_list front_sequence n rest ≡ Found high middle → LowFound k middle high codes last
    → ItemRead c s (front_split c s k bits) (record { reference = reference; kind = Codes }) codes last
unfolding split_next split_low
split_read c s k bits rest middle last reference n high codes is has long same found low = record {
  item = Split k high low.low;
  found = chain (front_reference c s bits) (split_next c s k) reference rest _ is
      (ap (λ m. and_then (front_list front_sequence m rest) (split_low c s k reference)) (sym (room c s n long))
      ∙ chain (front_list front_sequence n rest) (split_low c s k reference) high middle _ found
      (ap (λ m. and_then (front_list (front_number k) m middle) (λ xs rest'. Found (record { reference = reference; item = Split k high xs }) rest')) (sym (room c s n long) ∙ sym same)
      ∙ ap (λ f. and_then f (λ xs rest'. Found (record { reference = reference; item = Split k high xs }) rest')) low.found));
  kind_is = record { one = λ place. refl; short = refl; codes_are = λ place. sym low.codes };
  reference_is = has;
}

-- ---- runs

run_next : Option ℕ → List Bool → Front Coded
run_next reference rest = and_then (front_sequence rest) (λ number rest'. Found (record { reference = reference; item = Run number }) rest')

pub run_ended : (c : Coding) (s : Bool) (bits rest : List Bool) (reference : Option ℕ) → front_reference c s bits ≡ Found reference rest
    → front_sequence rest ≡ Ended → front_zero c s 0 bits ≡ Ended
unfolding run_next
run_ended c s bits rest reference is ends =
    chain (front_reference c s bits) run_next reference rest Ended is
    (ap (λ f. and_then f (λ number rest'. Found (record { reference = reference; item = Run number }) rest')) ends)

pub run_read : (c : Coding) (s : Bool) (bits rest last : List Bool) (reference : Option ℕ) (number : ℕ) (codes : List ℕ) → front_reference c s bits ≡ Found reference rest
    → HasReference c s reference → front_sequence rest ≡ Found number last
    → ItemRead c s (front_zero c s 0 bits) (record { reference = reference; kind = Zeros number }) codes last
unfolding run_next
run_read c s bits rest last reference number codes is has found = record {
  item = Run number;
  found = chain (front_reference c s bits) run_next reference rest _ is
      (ap (λ f. and_then f (λ n rest'. Found (record { reference = reference; item = Run n }) rest')) found);
  kind_is = refl;
  reference_is = has;
}

-- ---- second extensions

second_next : Coding → Option ℕ → List Bool → Front Coded
second_next c reference rest =
    and_then (front_list front_sequence (c.block / 2) rest) (λ pairs rest'. Found (record { reference = reference; item = Second pairs }) rest')

pub second_ended : (c : Coding) (s : Bool) (other : ℕ) (bits rest : List Bool) (reference : Option ℕ) (n : ℕ) → front_reference c s bits ≡ Found reference rest
    → n ≡ c.block / 2 → front_list front_sequence n rest ≡ Ended → front_zero c s (suc other) bits ≡ Ended
unfolding second_next
second_ended c s other bits rest reference n is long ends =
    chain (front_reference c s bits) (second_next c) reference rest Ended is
    (ap (λ m. and_then (front_list front_sequence m rest) (λ pairs rest'. Found (record { reference = reference; item = Second pairs }) rest')) (sym long)
    ∙ ap (λ f. and_then f (λ pairs rest'. Found (record { reference = reference; item = Second pairs }) rest')) ends)

pub second_kind : (c : Coding) (s : Bool) (pairs : List ℕ) (kind : Kind) (codes : List ℕ) → IsSpread (skipped s) pairs kind codes → IsOfKind c (skipped s) kind (Second pairs) codes
second_kind c s pairs (Zeros number) codes spread = absurd spread
second_kind c s pairs Codes codes spread = record { one = λ place. refl; short = spread.0; codes_are = λ place. sym spread.1 }
second_kind c s pairs Long codes spread = spread

pub second_read : (c : Coding) (s : Bool) (other : ℕ) (bits rest last : List Bool) (reference : Option ℕ) (n : ℕ) (pairs : List ℕ) (kind : Kind) (codes : List ℕ)
    → front_reference c s bits ≡ Found reference rest → HasReference c s reference → n ≡ c.block / 2 → front_list front_sequence n rest ≡ Found pairs last
    → IsSpread (skipped s) pairs kind codes
    → ItemRead c s (front_zero c s (suc other) bits) (record { reference = reference; kind = kind }) codes last
unfolding second_next
second_read c s other bits rest last reference n pairs kind codes is has long found spread = record {
  item = Second pairs;
  found = chain (front_reference c s bits) (second_next c) reference rest _ is
      (ap (λ m. and_then (front_list front_sequence m rest) (λ ps rest'. Found (record { reference = reference; item = Second ps }) rest')) (sym long)
      ∙ ap (λ f. and_then f (λ ps rest'. Found (record { reference = reference; item = Second ps }) rest')) found);
  kind_is = second_kind c s pairs kind codes spread;
  reference_is = has;
}

-- ---- an identifier

kind_next : Coding → Bool → ℕ → List Bool → Front Coded
kind_next c s identifier rest = front_kind c s (identifier + 1 == 2 ^ identifier_width c) identifier rest

pub split_identified : (c : Coding) (s : Bool) (bits rest : List Bool) (identifier k : ℕ) → front_number (identifier_width c) bits ≡ Found identifier rest
    → identifier ≡ suc k → (identifier + 1 ≡ 2 ^ identifier_width c → ⊥) → front_item c s bits ≡ front_split c s k rest
unfolding kind_next
split_identified c s bits rest identifier k is some other =
    let no_greatest : (identifier + 1 == 2 ^ identifier_width c) ≡ false = ne_eqb (identifier + 1) (2 ^ identifier_width c) other in
    chain (front_number (identifier_width c) bits) (kind_next c s) identifier rest (front_split c s k rest) is
    (ap₂ (λ t i. front_kind c s t i rest) no_greatest some)
