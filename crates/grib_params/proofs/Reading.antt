-- A text, read record by record.
use Rattle.std.proofs.Common.{◌≡◌, ◌+◌, ◌<◌, ◌≤◌, ◌∙◌, ℕ, Bool, true, false, List, [], ◌∷◌, ◌++◌, Option, None, Some, length, suc, zero, refl, arith}
use Rattle.std.specs.Prelude.{◌==◌, ◌||◌, ◌&&◌, if◌then◌else◌}
use Rattle.csv.specs.Machine.{Read, start_field, ends_at_end, field_after, fields_after, in_field, is_end, next_record, step}
use Rattle.csv.specs.Reading.{ReadRecord, Reached, default_config, records_from, source_of, strip_bom}
use Rattle.csv.specs.declared.parser.Action.{Action}
use Rattle.csv.specs.declared.parser.State.{State}
use Rattle.csv.specs.declared.parser.State.TheVariants as st
use Rattle.csv.specs.declared.reader.Reader.{Reader}
use Rattle.csv.proofs.ReadFacts.{rows-end, rows-more}
use Rattle.grib_params.specs.Fields.{Fields, records_of}
use Rattle.grib_params.specs.declared.table.TheConstants.{MOST_OCTETS}

-- where an octet ends a record, the end of the text would end none
abbrev pub Ends : State × Action → Type 0
Ends q = is_end q.1 ≡ true → ends_at_end q.0 ≡ false

either : (b : Bool) (x y : State × Action) → Ends x → Ends y → Ends (if b then x else y)
either true x y p q = p
either false x y p q = q

after_line : (b : Bool) → ends_at_end (if b then st.AfterCr else st.StartRecord) ≡ false
after_line true = refl
after_line false = refl

in_field-ends : (c : ℕ) → Ends (in_field default_config c)
in_field-ends c = either (c == 44) _ _ (λ e. cc e) (either ((c == 13) || (c == 10)) _ _ (λ e. after_line (c == 13)) (λ e. cc e))

start_field-ends : (c : ℕ) → Ends (start_field default_config c)
start_field-ends c = either (c == 34) _ _ (λ e. cc e) (in_field-ends c)

step-ends : (s : State) (c : ℕ) → Ends (step default_config s c)
step-ends st.StartRecord c = either ((c == 13) || (c == 10)) _ _ (λ e. refl) (start_field-ends c)
step-ends st.StartField c = start_field-ends c
step-ends st.InField c = in_field-ends c
step-ends st.InQuoted c = either (c == 34) _ _ (λ e. cc e) (λ e. cc e)
step-ends st.InEscape c = λ e. cc e
step-ends st.AfterQuote c = either (c == 34) _ _ (λ e. cc e) (in_field-ends c)
step-ends st.InComment c = either (c == 10) _ _ (λ e. refl) (λ e. cc e)
step-ends st.AfterCr c = either (c == 10) _ _ (λ e. refl) (either ((c == 13) || (c == 10)) _ _ (λ e. refl) (start_field-ends c))

-- a record leaves no more octets than there were, and the reader between two records
leaves : (s : State) (fields : List (List ℕ)) (field xs : List ℕ) (p : Read) → next_record default_config s fields field xs ≡ Some p
    → (length p.2 ≤ length xs) × (ends_at_end p.1 ≡ false)
unfolding next_record
leaves s fields field [] p e = by (ends_at_end s) e
  where
    by : (b : Bool) → (if b then Some (fields ++ (field ∷ []), st.StartRecord, []) else None) ≡ Some p → (length p.2 ≤ 0) × (ends_at_end p.1 ≡ false)
    by true e =
        let same : ◌≡◌ {A = Read} (fields ++ (field ∷ []), st.StartRecord, []) p = cc in
        rw (← same) (omega arith, refl)
    by false e = cc e
leaves s fields field (c ∷ rest) p e = by (is_end (step default_config s c).1) refl e (leaves (step default_config s c).0 (fields_after (step default_config s c).1 fields field) (field_after (step default_config s c).1 c field) rest p)
  where
    by : (b : Bool) → is_end (step default_config s c).1 ≡ b
        → (if b then Some (fields_after (step default_config s c).1 fields field, (step default_config s c).0, rest)
        else next_record default_config (step default_config s c).0 (fields_after (step default_config s c).1 fields field) (field_after (step default_config s c).1 c field) rest) ≡ Some p
        → (next_record default_config (step default_config s c).0 (fields_after (step default_config s c).1 fields field) (field_after (step default_config s c).1 c field) rest ≡ Some p → (length p.2 ≤ length rest) × (ends_at_end p.1 ≡ false))
        → (length p.2 ≤ suc (length rest)) × (ends_at_end p.1 ≡ false)
    by true is e more =
        let same : ◌≡◌ {A = Read} (fields_after (step default_config s c).1 fields field, (step default_config s c).0, rest) p = cc in
        rw (← same) (omega arith, step-ends s c is)
    by false is e more = let (less, between) = more e in (omega arith, between)

-- between two records, a record takes one octet at least
shorter : (s : State) (xs : List ℕ) (p : Read) → ends_at_end s ≡ false → next_record default_config s [] [] xs ≡ Some p → length p.2 < length xs
unfolding next_record
shorter s [] p between e = cc (rw between at e)
shorter s (c ∷ rest) p between e = by (is_end (step default_config s c).1) e
  where
    by : (b : Bool) → (if b then Some (fields_after (step default_config s c).1 [] [], (step default_config s c).0, rest)
        else next_record default_config (step default_config s c).0 (fields_after (step default_config s c).1 [] []) (field_after (step default_config s c).1 c []) rest) ≡ Some p
        → length p.2 < suc (length rest)
    by true e =
        let same : ◌≡◌ {A = Read} (fields_after (step default_config s c).1 [] [], (step default_config s c).0, rest) p = cc in
        rw (← same) (omega arith)
    by false e = let (less, between) = leaves (step default_config s c).0 _ _ rest p e in omega arith

-- the records that are left, where there is a next one
unrolled : (turns : ℕ) (s : State) (xs : List ℕ) (p : Read) → length xs < turns → next_record default_config s [] [] xs ≡ Some p
    → (m : ℕ) × (turns ≡ suc m) × (records_from default_config turns s xs ≡ p.0 ∷ records_from default_config m p.1 p.2)
unfolding records_from
unrolled zero s xs p enough e = absurd (omega arith)
unrolled (suc m) s xs p enough e = (m, refl, rw e refl)

-- and where there is none
none_left : (turns : ℕ) (s : State) (xs : List ℕ) → next_record default_config s [] [] xs ≡ None → records_from default_config turns s xs ≡ []
unfolding records_from
none_left zero s xs e = refl
none_left (suc m) s xs e = rw e refl

-- Where a reader stands whose records so far make a table: what all records of a text make, `whole`, is what those
-- that are left make of that table, by `from`
pub record Standing {R T V : Type 0} (from : ℕ → T → List Fields → V) (whole : V) (rem : R → Option (List ℕ)) (reader : Reader R) (number : ℕ) (table : T) : Type 0 where
  pub left_over : List ℕ
  pub turns : ℕ
  pub config : reader.config ≡ default_config
  pub source : source_of rem reader ≡ Some left_over
  pub between : ends_at_end reader.state ≡ false
  pub enough : length left_over < turns
  pub counted : number + length left_over ≤ MOST_OCTETS
  pub verdict : whole ≡ from number table (records_from default_config turns reader.state left_over)

stripped : (text : List ℕ) → length (strip_bom text) ≤ length text
unfolding strip_bom
stripped [] = omega arith
stripped (a ∷ []) = omega arith
stripped (a ∷ b ∷ []) = omega arith
stripped (a ∷ b ∷ c ∷ rest) = by ((a == 239) && (b == 187) && (c == 191))
  where
    by : (mark : Bool) → length (if mark then rest else a ∷ b ∷ c ∷ rest) ≤ suc (suc (suc (length rest)))
    by true = omega arith
    by false = omega arith

-- one record more, which has these fields
pub record Stepped {R T V : Type 0} (from : ℕ → T → List Fields → V) (whole : V) (rem : R → Option (List ℕ)) (reader : Reader R) (number : ℕ) (table : T) (fields : Fields) : Type 0 where
  pub left_over : List ℕ
  pub turns : ℕ
  pub config : reader.config ≡ default_config
  pub source : source_of rem reader ≡ Some left_over
  pub between : ends_at_end reader.state ≡ false
  pub enough : length left_over < turns
  pub counted : number + 1 + length left_over ≤ MOST_OCTETS
  pub verdict : whole ≡ from number table (fields ∷ records_from default_config turns reader.state left_over)

module _ {R T V : Type 0} (from : ℕ → T → List Fields → V) (rem : R → Option (List ℕ)) where
  -- a reader at the start of a text
  pub begins : (table : T) (reader : Reader R) (text : List ℕ) → length text ≤ MOST_OCTETS
      → reader.config ≡ default_config → source_of rem reader ≡ Some (strip_bom text) → reader.state ≡ st.StartRecord → Standing from (from 0 table (records_of text)) rem reader 0 table
  begins table reader text small config source start = record {
    left_over = strip_bom text;
    turns = length (strip_bom text) + 1;
    config = config;
    source = source;
    between = rw start refl;
    enough = omega arith;
    counted = omega (arith, stripped text);
    verdict = rw start refl;
  }

  continued : (number : ℕ) (table : T) (turns m : ℕ) (s s2 : State) (xs ys : List ℕ) (fields : Fields) (p : Read)
      → records_from default_config turns s xs ≡ p.0 ∷ records_from default_config m p.1 p.2 → fields ≡ p.0 → p.1 ≡ s2 → p.2 ≡ ys
      → from number table (records_from default_config turns s xs) ≡ from number table (fields ∷ records_from default_config m s2 ys)
  continued number table turns m s s2 xs ys fields p e a b d = rw (e, a, ← b, ← d) refl

  pub stepped : (whole : V) (a b : Reader R) (number : ℕ) (table : T) (fields : Fields)
      → Standing from whole rem a number table → ReadRecord rem a b true fields → Stepped from whole rem b number table fields
  unfolding Reached
  stepped whole a b number table fields at read =
      let (rest, source, reached) = rows-more rem a b fields default_config a.state at.left_over at.left_over [] at.config at.source (refl, refl) read in
      let (p, next, same, (state, over)) = reached in
      let (m, turn, records) = unrolled at.turns a.state at.left_over p at.enough next in
      let less = shorter a.state at.left_over p at.between next in
      let (_, between) = leaves a.state [] [] at.left_over p next in
      let short : length rest < length at.left_over = rw over at less in
      record {
        left_over = rest;
        turns = m;
        config = read.2 ∙ at.config;
        source = source;
        between = rw state at between;
        enough = omega (arith, short, at.enough, turn);
        counted = omega (arith, short, at.counted);
        verdict = at.verdict ∙ continued number table at.turns m a.state b.state at.left_over rest fields p records same state over;
      }

  -- the record joins the table
  pub stands_on : (whole : V) (b : Reader R) (number : ℕ) (table more : T) (fields : Fields) → (at : Stepped from whole rem b number table fields)
      → ((records : List Fields) → from number table (fields ∷ records) ≡ from (number + 1) more records) → Standing from whole rem b (number + 1) more
  stands_on whole b number table more fields at joins = record {
    left_over = at.left_over;
    turns = at.turns;
    config = at.config;
    source = at.source;
    between = at.between;
    enough = at.enough;
    counted = at.counted;
    verdict = at.verdict ∙ joins (records_from default_config at.turns b.state at.left_over);
  }

  -- no record more
  pub ended : (whole : V) (a b : Reader R) (number : ℕ) (table : T) → Standing from whole rem a number table → ReadRecord rem a b false [] → whole ≡ from number table []
  ended whole a b number table at read =
      let none = rows-end rem a b [] default_config at.left_over at.config at.source read in
      at.verdict ∙ rw (none_left at.turns a.state at.left_over none) refl
