-- The fields of a message that are written, one after another.
use Rattle.std.proofs.Common.{◌≡◌, ◌≢◌, ℕ, refl, ⊎_elim, zero, suc, ◌&&◌, ◌+◌, ◌-◌, ◌<◌, ◌≤◌, Bool, true, false, List, [], ◌++◌, length, sym, ap, ◌∙◌, subst, arith, append_assoc, append-nil, length-append, Ok, Err, IfOk}
use Rattle.std.specs.declared.result.Result.{Result}
use Rattle.std.specs.List.{list_all, range_with_len}
use Rattle.std.specs.declared.option.Option.{Option}
use Rattle.std.specs.Io.KnownBytes.{Appends}
use Rattle.std.proofs.KnownBytes.{Appends-trans}
use Rattle.std.proofs.lemmas.Bool.{cases_eq, and_right}
use Rattle.grib_edit.specs.Fronts.{IsFront}
use Rattle.grib_io.specs.Outside.{AppendsFront}
use Rattle.grib_base.specs.Rules.{choose}
use Rattle.grib_base.specs.declared.limits.TheConstants.{MOST_OCTETS}
use Rattle.grib_select.specs.Single.{single_of}
use Rattle.grib2_message.specs.Fields.{field_count}
use Rattle.grib_command.specs.Pending.{Writes}
use Rattle.grib_command.specs.Command.{texts_from}
use Rattle.grib_edit.specs.Choosing.{all_chosen, single_chosen, chosen_of}
use Rattle.grib_command.proofs.Outside.{front_more}
use Rattle.grib_command.proofs.Passing.{texts_more, texts_join}

-- whether n fields from field i on are chosen
abbrev pub all_from : (ℕ → Bool) → List ℕ → ℕ → ℕ → Bool
all_from chosen message i n = list_all chosen (range_with_len i n)

each_on : (chosen : ℕ → Bool) (message : List ℕ) (i n : ℕ) → ((j : ℕ) → i ≤ j → j < i + n → chosen j ≡ true)
    → all_from chosen message i n ≡ true
each_on chosen message i zero each = refl
each_on chosen message i (suc n) each =
    ap (λ b. b && all_from chosen message (i + 1) n) (each i (omega arith) (omega arith))
    ∙ each_on chosen message (i + 1) n (λ j low high. each j (omega arith) (omega arith))

one_off : (chosen : ℕ → Bool) (message : List ℕ) (i n j : ℕ) → i ≤ j → j < i + n → chosen j ≡ false
    → all_from chosen message i n ≡ false
one_off chosen message i zero j low high off = absurd (omega arith)
one_off chosen message i (suc n) j low high off =
    ⊎_elim
    (λ (here : i ≡ j). ap (λ b. b && all_from chosen message (i + 1) n) (ap (λ k. chosen k) here ∙ off))
    (λ (later : i ≢ j).
    and_right (chosen i) (all_from chosen message (i + 1) n) (one_off chosen message (i + 1) n j (omega (arith, later)) (omega arith) off))
    (cases_eq i j)

-- where all fields are chosen, and where one does not
pub front_whole : (chosen : ℕ → Bool) (message : List ℕ) (front : ℕ) → IsFront chosen message front → field_count message ≤ front
    → all_chosen chosen message ≡ true
front_whole chosen message front is all =
    each_on chosen message 1 (field_count message) (λ j low high. is.fulfil j low (omega arith))

pub front_short : (chosen : ℕ → Bool) (message : List ℕ) (front : ℕ) → IsFront chosen message front → front < field_count message
    → all_chosen chosen message ≡ false
front_short chosen message front is less =
    one_off chosen message 1 (field_count message) (front + 1) (omega arith) (omega arith) (is.next less)

-- one field more
pub front_one_more : (chosen : ℕ → Bool) (message : List ℕ) (n field : ℕ) → field ≡ n + 1
    → ((j : ℕ) → 1 ≤ j → j ≤ n → chosen j ≡ true) → chosen field ≡ true
    → (j : ℕ) → 1 ≤ j → j ≤ n + 1 → chosen j ≡ true
front_one_more chosen message n field is before here j low high =
    ⊎_elim
    (λ (same : j ≡ field). ap (λ k. chosen k) same ∙ here)
    (λ (other : j ≢ field). before j low (omega (arith, other)))
    (cases_eq j field)

-- whether a field is written
pub is_single : (chosen : ℕ → Bool) (message : List ℕ) (i : ℕ) → chosen i ≡ true → single_chosen chosen message i ≡ single_of message i
is_single chosen message i here = ap (λ b. choose b (λ _. single_of message i) (λ _. [])) here

-- whether the message is written whole
pub is_whole : (chosen : ℕ → Bool) (message : List ℕ) → all_chosen chosen message ≡ true → chosen_of chosen message ≡ message
is_whole chosen message all = ap (λ b. choose b (λ _. message) (λ _. texts_from (single_chosen chosen message) (field_count message) 1)) all

pub is_parted : (chosen : ℕ → Bool) (message : List ℕ) → all_chosen chosen message ≡ false
    → chosen_of chosen message ≡ texts_from (single_chosen chosen message) (field_count message) 1
is_parted chosen message some = ap (λ b. choose b (λ _. message) (λ _. texts_from (single_chosen chosen message) (field_count message) 1)) some

-- a field more was written
pub text_written : (a b c : Option (List ℕ)) (text : ℕ → List ℕ) (k field : ℕ) → field ≡ 1 + k → Appends a b (texts_from text k 1)
    → Appends b c (text field) → Appends a c (texts_from text (k + 1) 1)
text_written a b c text k field is before now =
    subst (Appends a c) (ap (λ n. texts_from text k 1 ++ text n) is ∙ sym (texts_more text k 1))
    (Appends-trans a b c (texts_from text k 1) (text field) before now)

-- or a front of it
pub text_refused : (a b c : Option (List ℕ)) (text : ℕ → List ℕ) (k field n : ℕ) → field ≡ 1 + k → k < n → Appends a b (texts_from text k 1)
    → AppendsFront b c (text field) → AppendsFront a c (texts_from text n 1)
text_refused a b c text k field n is less before (front, rest, is_front, appended) =
    let count : (k + 1) + (n - (k + 1)) ≡ n = omega arith in
    let later : List ℕ = texts_from text (n - (k + 1)) (1 + (k + 1)) in
    let so_far : texts_from text (k + 1) 1 ≡ (texts_from text k 1 ++ front) ++ rest =
    texts_more text k 1
    ∙ (ap (λ m. texts_from text k 1 ++ text m) (sym is)
    ∙ (ap (λ xs. texts_from text k 1 ++ xs) is_front ∙ sym (append_assoc (texts_from text k 1) front rest))) in
    let all : texts_from text (k + 1) 1 ++ later ≡ texts_from text n 1 = sym (texts_join text (k + 1) (n - (k + 1)) 1) ∙ ap (λ m. texts_from text m 1) count in
    subst (AppendsFront a c) all
    (front_more a c (texts_from text (k + 1) 1) later (texts_from text k 1 ++ front, rest, so_far, Appends-trans a b c (texts_from text k 1) front before appended))

-- and its octets counted
pub text_counted : (text : ℕ → List ℕ) (k field before more : ℕ) → field ≡ 1 + k → before ≡ length (texts_from text k 1) → more ≡ length (text field)
    → before + more ≡ length (texts_from text (k + 1) 1)
text_counted text k field before more is so_far here =
    let e : length (texts_from text (k + 1) 1) ≡ length (texts_from text k 1 ++ text field) =
    ap length (texts_more text k 1 ∙ ap (λ n. texts_from text k 1 ++ text n) (sym is)) in
    omega (arith, length-append (texts_from text k 1) (text field))

-- all were written
pub texts_whole : {E : Type 0} (a b : Option (List ℕ)) (text : ℕ → List ℕ) (k n count : ℕ) → k ≡ n → Appends a b (texts_from text k 1)
    → Writes {E = E} (Ok count) a b (texts_from text n 1)
texts_whole a b text k n count is appended =
    let all : Appends a b (texts_from text n 1) = subst (λ m. Appends a b (texts_from text m 1)) is appended in
    record { whole = all; front = (texts_from text n 1, [], sym (append-nil (texts_from text n 1)), all) }

-- as a message of its own a field has no more octets than a message may have
pub few_written : {E : Type 0} (result : Result ℕ E) (shown octets : List ℕ) → shown ≡ octets → length octets ≤ MOST_OCTETS
    → IfOk result (λ count. count ≡ length shown) → IfOk result (λ count. count ≤ MOST_OCTETS)
few_written (Ok count) shown octets is few counts = let same = ap length is in omega (arith, counts)
few_written (Err e) shown octets is few counts = tt
