-- Bits that are used of those at the front: what stands there does not depend on what follows.
use Rattle.std.proofs.Common.{◌≡◌, ℕ, zero, suc, ◌+◌, ◌-◌, ◌/◌, ◌%◌, ◌^◌, ◌==◌, ◌≤◌, Bool, true, false, cond, ◌&&◌, List, [], ◌∷◌, ◌++◌, length, take, drop, Some, None, refl, sym, ap, ap₂, ◌∙◌, arith, append_assoc, nat_le, take-append-drop}
use Rattle.std.proofs.lemmas.Bool.{leb-true}
use Rattle.std.proofs.lemmas.List.{length-append, length-take-le, take_at, drop_at}
use Rattle.grib_bits.specs.Bits.{num}
use Rattle.grib_coding.specs.declared.coding.Coding.{Coding}
use Rattle.grib_coding.specs.Coding.{identifier_width, is_padded}
use Rattle.grib_coding.specs.Items.{Run, Second, Split, Plain}
use Rattle.grib_coding.specs.Reading.{Front, Ended, Found, coded_of, and_then, front_number, front_sequence, front_list, front_reference, front_zero, front_plain, front_split, front_kind, front_item, skipped, padded}
use Rattle.grib_block_feeding.proofs.Bitwise.{number_found}

-- Something stands at the front of bits, and these are its bits.
pub record Uses {A : Type 0} (front : List Bool → Front A) (xs : List Bool) (x : A) (rest : List Bool) : Type 0 where
  pub used : List Bool
  pub split : xs ≡ used ++ rest
  pub again : (ys : List Bool) → front (used ++ ys) ≡ Found x ys

abbrev pub Steady : {A : Type 0} → (List Bool → Front A) → Type 0
Steady {A} front = (xs : List Bool) (x : A) (rest : List Bool) → front xs ≡ Found x rest → Uses front xs x rest

then_by : {A B : Type 0} (front : List Bool → Front A) (next : A → List Bool → Front B) → Steady front → ((x : A) → Steady (next x))
    → (xs : List Bool) (y : B) (rest : List Bool) (r : Front A) → front xs ≡ r → and_then r next ≡ Found y rest → Uses (λ bits. and_then (front bits) next) xs y rest
then_by front next one two xs y rest Ended is found = absurd (cc)
then_by front next one two xs y rest (Found x middle) is found =
    let u = one xs x middle is in
    let v = two x middle y rest found in
    record {
      used = u.used ++ v.used;
      split = u.split ∙ (ap (λ zs. u.used ++ zs) v.split ∙ sym (append_assoc u.used v.used rest));
      again = λ ys. ap (λ zs. and_then (front zs) next) (append_assoc u.used v.used ys)
          ∙ (ap (λ f. and_then f next) (u.again (v.used ++ ys)) ∙ v.again ys);
    }

steady_then : {A B : Type 0} (front : List Bool → Front A) (next : A → List Bool → Front B) → Steady front → ((x : A) → Steady (next x)) → Steady (λ bits. and_then (front bits) next)
steady_then front next one two xs y rest found = then_by front next one two xs y rest (front xs) refl found

steady_found : {A : Type 0} (x : A) → Steady (λ bits. Found x bits)
steady_found x xs y rest found =
    let same : x ≡ y = cc in
    let bits : xs ≡ rest = cc in
    record { used = []; split = bits; again = λ ys. ap (λ z. Found z ys) same }

number_by : (width : ℕ) (xs : List Bool) (n : ℕ) (rest : List Bool) (t : Bool) → nat_le width (length xs) ≡ t → cond t (Found (num (take width xs)) (drop width xs)) Ended ≡ Found n rest
    → Uses (front_number width) xs n rest
number_by width xs n rest true is found =
    let enough : width ≤ length xs = leb-true width (length xs) is in
    let number : num (take width xs) ≡ n = cc in
    let behind : drop width xs ≡ rest = cc in
    let long : length (take width xs) ≡ width = length-take-le width xs enough in
    record {
      used = take width xs;
      split = sym (take-append-drop width xs) ∙ ap (λ zs. take width xs ++ zs) behind;
      again = λ ys. number_found width (take width xs ++ ys) (omega (arith, long, length-append (take width xs) ys))
          ∙ ap₂ (λ zs zs'. Found (num zs) zs') (take_at (take width xs) ys width long) (drop_at (take width xs) ys width long)
          ∙ ap (λ m. Found m ys) number;
    }
number_by width xs n rest false is found = absurd (cc)

steady_number : (width : ℕ) → Steady (front_number width)
steady_number width xs n rest found = number_by width xs n rest (nat_le width (length xs)) refl found

sequence_by : (xs : List Bool) (n : ℕ) (rest : List Bool) (r : Front ℕ) → front_sequence xs ≡ r → and_then r (λ m rest'. Found (suc m) rest') ≡ Found n rest
    → ((m : ℕ) (middle : List Bool) → front_sequence xs ≡ Found m middle → Uses front_sequence xs m middle) → Uses front_sequence (false ∷ xs) n rest
sequence_by xs n rest Ended is found one = absurd (cc)
sequence_by xs n rest (Found m middle) is found one =
    let u = one m middle is in
    let number : suc m ≡ n = cc in
    let behind : middle ≡ rest = cc in
    record {
      used = false ∷ u.used;
      split = ap (λ zs. false ∷ zs) (u.split ∙ ap (λ zs. u.used ++ zs) behind);
      again = λ ys. ap (λ f. and_then f (λ k rest'. Found (suc k) rest')) (u.again ys) ∙ ap (λ k. Found k ys) number;
    }

steady_sequence : Steady front_sequence
steady_sequence [] n rest found = absurd (cc)
steady_sequence (true ∷ xs) n rest found =
    let number : 0 ≡ n = cc in
    let behind : xs ≡ rest = cc in
    record { used = true ∷ []; split = ap (λ zs. true ∷ zs) behind; again = λ ys. ap (λ k. Found k ys) number }
steady_sequence (false ∷ xs) n rest found = sequence_by xs n rest (front_sequence xs) refl found (λ m middle is. steady_sequence xs m middle is)

steady_list : (front : List Bool → Front ℕ) → Steady front → (count : ℕ) → Steady (front_list front count)
steady_list front one zero = steady_found []
steady_list front one (suc count) =
    steady_then front (λ x rest. and_then (front_list front count rest) (λ xs rest'. Found (x ∷ xs) rest')) one
    (λ x. steady_then (front_list front count) (λ xs rest'. Found (x ∷ xs) rest') (steady_list front one count) (λ xs. steady_found (x ∷ xs)))

steady_reference : (c : Coding) (s : Bool) → Steady (front_reference c s)
steady_reference c false = steady_found None
steady_reference c true = steady_then (front_number c.bits) (λ n rest. Found (Some n) rest) (steady_number c.bits) (λ n. steady_found (Some n))

steady_zero : (c : Coding) (s : Bool) (bit : ℕ) → Steady (front_zero c s bit)
steady_zero c s zero =
    steady_then (front_reference c s) (λ reference rest. and_then (front_sequence rest) (λ n rest'. Found (coded_of reference (Run n)) rest')) (steady_reference c s)
    (λ reference. steady_then front_sequence (λ n rest'. Found (coded_of reference (Run n)) rest') steady_sequence (λ n. steady_found (coded_of reference (Run n))))
steady_zero c s (suc other) =
    steady_then (front_reference c s) (λ reference rest. and_then (front_list front_sequence (c.block / 2) rest) (λ pairs rest'. Found (coded_of reference (Second pairs)) rest')) (steady_reference c s)
    (λ reference. steady_then (front_list front_sequence (c.block / 2)) (λ pairs rest'. Found (coded_of reference (Second pairs)) rest') (steady_list front_sequence steady_sequence (c.block / 2))
    (λ pairs. steady_found (coded_of reference (Second pairs))))

steady_plain : (c : Coding) (s : Bool) → Steady (front_plain c s)
steady_plain c s =
    let count = c.block - skipped s in
    steady_then (front_reference c s) (λ reference rest. and_then (front_list (front_number c.bits) count rest) (λ codes rest'. Found (coded_of reference (Plain codes)) rest')) (steady_reference c s)
    (λ reference. steady_then (front_list (front_number c.bits) count) (λ codes rest'. Found (coded_of reference (Plain codes)) rest') (steady_list (front_number c.bits) (steady_number c.bits) count)
    (λ codes. steady_found (coded_of reference (Plain codes))))

steady_split : (c : Coding) (s : Bool) (k : ℕ) → Steady (front_split c s k)
steady_split c s k =
    let count = c.block - skipped s in
    steady_then (front_reference c s)
    (λ reference rest. and_then (front_list front_sequence count rest) (λ high rest'. and_then (front_list (front_number k) count rest') (λ low rest''. Found (coded_of reference (Split k high low)) rest'')))
    (steady_reference c s)
    (λ reference. steady_then (front_list front_sequence count) (λ high rest'. and_then (front_list (front_number k) count rest') (λ low rest''. Found (coded_of reference (Split k high low)) rest''))
    (steady_list front_sequence steady_sequence count)
    (λ high. steady_then (front_list (front_number k) count) (λ low rest''. Found (coded_of reference (Split k high low)) rest'') (steady_list (front_number k) (steady_number k) count)
    (λ low. steady_found (coded_of reference (Split k high low)))))

steady_kind : (c : Coding) (s t : Bool) (identifier : ℕ) → Steady (front_kind c s t identifier)
steady_kind c s t zero = steady_then (front_number 1) (λ bit rest. front_zero c s bit rest) (steady_number 1) (steady_zero c s)
steady_kind c s true (suc k) = steady_plain c s
steady_kind c s false (suc k) = steady_split c s k

pub steady_item : (c : Coding) (s : Bool) → Steady (front_item c s)
steady_item c s =
    steady_then (front_number (identifier_width c)) (λ i rest. front_kind c s (i + 1 == 2 ^ identifier_width c) i rest) (steady_number (identifier_width c))
    (λ i. steady_kind c s (i + 1 == 2 ^ identifier_width c) i)

-- ---- what is passed over before it

-- what is passed over before an item, where so many bits are to come
pub record Passes (c : Coding) (first : Bool) (xs : List Bool) : Type 0 where
  pub before : List Bool
  pub split : xs ≡ before ++ padded c first xs
  pub again : (ys : List Bool) → length (before ++ ys) % 8 ≡ length xs % 8 → padded c first (before ++ ys) ≡ ys

passes_by : (c : Coding) (first : Bool) (xs : List Bool) (t : Bool) → (is_padded c && first) ≡ t → Passes c first xs
passes_by c first xs false is = record {
  before = [];
  split = sym (ap (λ b. cond b (drop (length xs % 8) xs) xs) is);
  again = λ ys same. ap (λ b. cond b (drop (length ys % 8) ys) ys) is;
}
passes_by c first xs true is =
    let n = length xs % 8 in
    let long : length (take n xs) ≡ n = length-take-le n xs (omega arith) in
    record {
      before = take n xs;
      split = sym (take-append-drop n xs) ∙ ap (λ zs. take n xs ++ zs) (sym (ap (λ b. cond b (drop n xs) xs) is));
      again = λ ys same. ap (λ b. cond b (drop (length (take n xs ++ ys) % 8) (take n xs ++ ys)) (take n xs ++ ys)) is
          ∙ (ap (λ m. drop m (take n xs ++ ys)) same ∙ drop_at (take n xs) ys n long);
    }

pub passes : (c : Coding) (first : Bool) (xs : List Bool) → Passes c first xs
passes c first xs = passes_by c first xs (is_padded c && first) refl
