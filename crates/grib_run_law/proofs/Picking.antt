-- What is written of a message that is filtered, and put on the shelf of one that is split, field for field.
use Rattle.std.proofs.Common.{◌≡◌, inl, inr, ℕ, zero, suc, ◌+◌, ◌≤◌, ◌==◌, Bool, true, false, cond, List, [], ◌∷◌, ◌++◌, map, filter, All, refl, sym, ap, ◌∙◌, arith, append-nil}
use Rattle.std.specs.List.{concat, flat_map, list_all, range_with_len}
use Rattle.std.proofs.lemmas.List.Concat.{flat_map-append}
use Rattle.std.proofs.lemmas.List.Elements.{All-nil, All-cons, All-head, All-tail, All-filter, All-append}
use Rattle.grib_bits.proofs.Logic.{left_true, right_true}
use Rattle.grib_base.specs.Rules.{choose}
use Rattle.grib_base.specs.declared.profile.Profile.{Profile}
use Rattle.grib2_sections.specs.Head.{edition}
use Rattle.grib1_sections.specs.Message.{IsMessage1}
use Rattle.grib2_message.specs.Message.{IsMessageUnder}
use Rattle.grib2_message.specs.Fields.{field_count, column_of}
use Rattle.grib_select.specs.Single.{single_of}
use Rattle.grib_items.specs.Items.{Item, Accepted, Refused}
use Rattle.grib_command.specs.Command.{texts_from}
use Rattle.grib_command.specs.Judging.{fields_of}
use Rattle.grib_edit.specs.Choosing.{all_chosen, single_chosen}
use Rattle.grib_edit.specs.Parts.{Part, part, part_name, part_of, parts1_of, parts_of}
use Rattle.grib_run_law.specs.Same.{columns_of, IsPicked}
use Rattle.grib_run_law.specs.Shelved.{IsAlone, First, Second, fields_in, fields_here, parts_here, parts_among}
use Rattle.grib_run_law.proofs.Accepting.{IsAccepted, OfMessage}

-- what is said of a field that is cut out of a message
pub record CutsOut (profile : Profile) (message : List ℕ) (i : ℕ) : Type 0 where
  pub accepted : IsMessageUnder profile (single_of message i)
  pub one : field_count (single_of message i) ≡ 1
  pub column : column_of (single_of message i) 1 ≡ column_of message i

-- the numbers of fields
abbrev pub IsField : ℕ → ℕ → Type 0
IsField most i = (1 ≤ i) × (i ≤ most)

fields_from : (first n most : ℕ) → 1 ≤ first → first + n ≤ most + 1 → All (IsField most) (range_with_len first n)
fields_from first zero most low high = All-nil (IsField most)
fields_from first (suc n) most low high =
    All-cons (IsField most) first (range_with_len (first + 1) n) (low, omega arith) (fields_from (first + 1) n most (omega arith) (omega arith))

pub fields_of_message : (message : List ℕ) → All (IsField (field_count message)) (range_with_len 1 (field_count message))
fields_of_message message = fields_from 1 (field_count message) (field_count message) (omega arith) (omega arith)

all_stay : (p : ℕ → Bool) (xs : List ℕ) → list_all p xs ≡ true → filter p xs ≡ xs
all_stay p [] is = refl
all_stay p (x ∷ xs) is =
    ap (λ b. cond b (x ∷ filter p xs) (filter p xs)) (left_true (p x) (list_all p xs) is) ∙ ap (λ ys. x ∷ ys) (all_stay p xs (right_true (p x) (list_all p xs) is))

module _ (profile : Profile) (law : (message : List ℕ) (i : ℕ) → IsMessageUnder profile message → 1 ≤ i → i ≤ field_count message → CutsOut profile message i) where
  -- ---- fields that are cut out of a message

  own_column : (message : List ℕ) (i : ℕ) → CutsOut profile message i → columns_of (single_of message i) ≡ column_of message i ∷ []
  own_column message i cut = ap (λ n. map (column_of (single_of message i)) (range_with_len 1 n)) cut.one ∙ ap (λ c. c ∷ []) cut.column

  cut_columns : (message : List ℕ) (fields : List ℕ) → IsMessageUnder profile message → All (IsField (field_count message)) fields
      → flat_map columns_of (map (single_of message) fields) ≡ map (column_of message) fields
  cut_columns message [] h all = refl
  cut_columns message (i ∷ fields) h all =
      let is = All-head (IsField (field_count message)) i fields all in
      ap (λ xs. xs ++ flat_map columns_of (map (single_of message) fields)) (own_column message i (law message i h is.0 is.1))
      ∙ ap (λ xs. column_of message i ∷ xs) (cut_columns message fields h (All-tail (IsField (field_count message)) i fields all))

  cut_accepted : (message : List ℕ) (fields : List ℕ) → IsMessageUnder profile message → All (IsField (field_count message)) fields → All (IsMessageUnder profile) (map (single_of message) fields)
  cut_accepted message [] h all = All-nil (IsMessageUnder profile)
  cut_accepted message (i ∷ fields) h all =
      let is = All-head (IsField (field_count message)) i fields all in
      All-cons (IsMessageUnder profile) (single_of message i) (map (single_of message) fields) (law message i h is.0 is.1).accepted
      (cut_accepted message fields h (All-tail (IsField (field_count message)) i fields all))

  -- ---- the parts of a message

  -- a message of edition 2 is of no other
  second_is : (message : List ℕ) → IsMessageUnder profile message → (edition message == 1) ≡ false
  second_is message is = ap (λ e. e == 1) is.edition_stands

  part_fields : (out : List ℕ) (before : ℕ) (message : List ℕ) (fields : List ℕ) → IsMessageUnder profile message → All (IsField (field_count message)) fields
      → flat_map (λ (part : Part). fields_in part.octets) (map (part_of out before message) fields) ≡ map Second (map (column_of message) fields)
  part_fields out before message [] h all = refl
  part_fields out before message (i ∷ fields) h all =
      let is = All-head (IsField (field_count message)) i fields all in
      let cut = law message i h is.0 is.1 in
      let single = single_of message i in
      let own : fields_in single ≡ Second (column_of message i) ∷ [] =
      ap (λ b. choose b (λ _. First single ∷ []) (λ _. map Second (columns_of single))) (second_is single cut.accepted) ∙ ap (map Second) (own_column message i cut) in
      ap (λ xs. xs ++ flat_map (λ (part : Part). fields_in part.octets) (map (part_of out before message) fields)) own
      ∙ ap (λ xs. Second (column_of message i) ∷ xs) (part_fields out before message fields h (All-tail (IsField (field_count message)) i fields all))

  parts_alone : (out : List ℕ) (before : ℕ) (message : List ℕ) (fields : List ℕ) → IsMessageUnder profile message → All (IsField (field_count message)) fields
      → All (IsAlone profile) (map (part_of out before message) fields)
  parts_alone out before message [] h all = All-nil (IsAlone profile)
  parts_alone out before message (i ∷ fields) h all =
      let is = All-head (IsField (field_count message)) i fields all in
      let cut = law message i h is.0 is.1 in
      let single = single_of message i in
      All-cons (IsAlone profile) (part_of out before message i) (map (part_of out before message) fields)
      (record { accepted = inr cut.accepted; one_field = ap (λ b. choose b (λ _. 1) (λ _. field_count single)) (second_is single cut.accepted) ∙ cut.one })
      (parts_alone out before message fields h (All-tail (IsField (field_count message)) i fields all))

  -- the part of a message of edition 1, where it has one
  first_alone : (edition_1 : Bool) (out : List ℕ) (before : ℕ) (message : List ℕ) → IsMessage1 message → All (IsAlone profile) (cond edition_1 (parts1_of out before message) [])
  first_alone true out before message is =
      All-cons (IsAlone profile) (part (part_name out (before + 1)) message) []
      (record { accepted = inl is; one_field = ap (λ e. choose (e == 1) (λ _. 1) (λ _. field_count message)) is.edition_stands }) (All-nil (IsAlone profile))
  first_alone false out before message is = All-nil (IsAlone profile)

  first_fields : (edition_1 : Bool) (out : List ℕ) (before : ℕ) (message : List ℕ) → IsMessage1 message
      → flat_map (λ (part : Part). fields_in part.octets) (cond edition_1 (parts1_of out before message) []) ≡ cond edition_1 (First message ∷ []) []
  first_fields true out before message is =
      ap (λ e. choose (e == 1) (λ _. First message ∷ []) (λ _. map Second (columns_of message)) ++ []) is.edition_stands
  first_fields false out before message is = refl

  module _ (edition_1 : Bool) (out : List ℕ) where
    here_alone : (b : Bool) (before : ℕ) (message : List ℕ) → (b ≡ true → IsMessage1 message) → (b ≡ false → IsMessageUnder profile message)
        → All (IsAlone profile) (choose b (λ _. cond edition_1 (parts1_of out before message) []) (λ _. parts_of out before message))
    here_alone true before message first second = first_alone edition_1 out before message (first refl)
    here_alone false before message first second =
        parts_alone out before message (range_with_len 1 (field_count message)) (second refl) (fields_of_message message)

    pub all_alone : (before : ℕ) (items : List Item) → All (OfMessage (IsAccepted profile)) items → All (IsAlone profile) (parts_among edition_1 out before items)
    all_alone before [] all = All-nil (IsAlone profile)
    all_alone before (Refused refused ∷ later) all = all_alone before later (All-tail (OfMessage (IsAccepted profile)) (Refused refused) later all)
    all_alone before (Accepted found ∷ later) all =
        let own = All-head (OfMessage (IsAccepted profile)) (Accepted found) later all in
        All-append (IsAlone profile) (parts_here edition_1 out before found.octets) (parts_among edition_1 out (before + fields_of found.octets) later)
        (here_alone (edition found.octets == 1) before found.octets own.first own.second)
        (all_alone (before + fields_of found.octets) later (All-tail (OfMessage (IsAccepted profile)) (Accepted found) later all))

    here_fields : (b : Bool) (before : ℕ) (message : List ℕ) → (b ≡ true → IsMessage1 message) → (b ≡ false → IsMessageUnder profile message)
        → flat_map (λ (part : Part). fields_in part.octets) (choose b (λ _. cond edition_1 (parts1_of out before message) []) (λ _. parts_of out before message))
        ≡ choose b (λ _. cond edition_1 (First message ∷ []) []) (λ _. map Second (columns_of message))
    here_fields true before message first second = first_fields edition_1 out before message (first refl)
    here_fields false before message first second =
        part_fields out before message (range_with_len 1 (field_count message)) (second refl) (fields_of_message message)

    pub all_fields : (before : ℕ) (items : List Item) → All (OfMessage (IsAccepted profile)) items
        → flat_map (λ (part : Part). fields_in part.octets) (parts_among edition_1 out before items) ≡ flat_map (fields_here edition_1) items
    all_fields before [] all = refl
    all_fields before (Refused refused ∷ later) all = all_fields before later (All-tail (OfMessage (IsAccepted profile)) (Refused refused) later all)
    all_fields before (Accepted found ∷ later) all =
        let own = All-head (OfMessage (IsAccepted profile)) (Accepted found) later all in
        flat_map-append (λ (part : Part). fields_in part.octets) (parts_here edition_1 out before found.octets) (parts_among edition_1 out (before + fields_of found.octets) later)
        ∙ (ap (λ xs. xs ++ flat_map (λ (part : Part). fields_in part.octets) (parts_among edition_1 out (before + fields_of found.octets) later))
        (here_fields (edition found.octets == 1) before found.octets own.first own.second)
        ∙ ap (λ xs. fields_here edition_1 (Accepted found) ++ xs) (all_fields (before + fields_of found.octets) later (All-tail (OfMessage (IsAccepted profile)) (Accepted found) later all)))

  -- ---- what is written of a message that is filtered

  module _ (picks : List ℕ → ℕ → Bool) where
    abbrev pub fields_picked : List ℕ → List ℕ
    fields_picked message = filter (picks message) (range_with_len 1 (field_count message))

    abbrev pub picked_by : Bool → List ℕ → List (List ℕ)
    picked_by b message = choose b (λ _. message ∷ []) (λ _. map (single_of message) (fields_picked message))

    one_picked : (b : Bool) (message : List ℕ) (i : ℕ) (later : List ℕ)
        → choose b (λ _. single_of message i) (λ _. []) ++ concat (map (single_of message) later) ≡ concat (map (single_of message) (cond b (i ∷ later) later))
    one_picked true message i later = refl
    one_picked false message i later = refl

    texts_picked : (message : List ℕ) (n i : ℕ)
        → texts_from (single_chosen (picks message) message) n i ≡ concat (map (single_of message) (filter (picks message) (range_with_len i n)))
    texts_picked message zero i = refl
    texts_picked message (suc n) i =
        ap (λ xs. single_chosen (picks message) message i ++ xs) (texts_picked message n (i + 1))
        ∙ one_picked (picks message i) message i (filter (picks message) (range_with_len (i + 1) n))

    pub by_bool : (b : Bool) (message : List ℕ)
        → choose b (λ _. message) (λ _. texts_from (single_chosen (picks message) message) (field_count message) 1) ≡ concat (picked_by b message)
    by_bool true message = sym (append-nil message)
    by_bool false message = texts_picked message (field_count message) 1

    pub picked_bool : (b : Bool) (message : List ℕ) → IsMessageUnder profile message → all_chosen (picks message) message ≡ b
        → IsPicked profile picks message (picked_by b message)
    picked_bool true message h is = record {
      accepted = All-cons (IsMessageUnder profile) message [] h (All-nil (IsMessageUnder profile));
      columns = append-nil (columns_of message)
          ∙ sym (ap (map (column_of message)) (all_stay (picks message) (range_with_len 1 (field_count message)) is));
    }
    picked_bool false message h is =
        let fields = All-filter (picks message) (IsField (field_count message)) (range_with_len 1 (field_count message)) (fields_of_message message) in
        record { accepted = cut_accepted message (fields_picked message) h fields; columns = cut_columns message (fields_picked message) h fields }
