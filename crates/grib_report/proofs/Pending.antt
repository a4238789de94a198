-- Octets that go through a buffer to a sink, one step after another.
use Rattle.std.proofs.Common.{◌≡◌, ℕ, ◌+◌, ◌-◌, ◌<◌, ◌≤◌, List, [], ◌∷◌, ◌++◌, length, take, drop, ap, sym, ◌∙◌, arith, append_assoc, take-append-drop, subst}
use Rattle.std.specs.declared.option.Option.{Option}
use Rattle.std.specs.declared.result.Result.{Result}
use Rattle.std.specs.Io.KnownBytes.{Appends}
use Rattle.std.proofs.KnownBytes.{Appends-trans}
use Rattle.std.proofs.lemmas.Result.{on_ok_weaker}
use Rattle.grib_io.specs.Outside.{AppendsFront}
use Rattle.grib_packing.specs.declared.column.Point.{Point}
use Rattle.grib_bits.specs.Bits.{bits_of, signed}
use Rattle.grib_dyadic.specs.Reference.{Binary, ieee, ibm, reduced}
use Rattle.grib_text.specs.Lines.{lines_by, point_lines, list_line, reference_line}
use Rattle.grib_text.specs.Lines1.{list_line1}
use Rattle.grib_text.proofs.Joined.{lines_join, lines_next}
use Rattle.grib1_sections.specs.Column.{column1_of}
use Rattle.grib_packing.specs.declared.column.Column.{Column}
use Rattle.grib2_message.specs.Fields.{column_of}
use Rattle.grib_command.specs.Command.{texts_from}
use Rattle.grib_report.specs.Dumping.{dumped, dump_text_1, dump_text}
use Rattle.grib_decimal.specs.Decimal.{Scale}
use Rattle.grib_decimal.specs.Summary.{summary_of}
use Rattle.grib_decimal.specs.declared.extreme.Summary.{Summary}
use Rattle.grib_text.specs.Stats.{stats_line}
use Rattle.grib_text.specs.Values.{value_lines}
use Rattle.grib_report.specs.Summing.{summed, stats_text, stats_text_1}
use Rattle.grib_report.specs.Valuing.{scale_by, valued, value_text, value_text_1}
use Rattle.grib_command.specs.Pending.{Writes, AppendsAllBut, WritesAllBut}
use Rattle.grib_command.proofs.Outside.{front_more}
use Rattle.grib_command.proofs.Passing.{texts_more, texts_join}

-- one step after another
pub pending_more : (a b c : Option (List ℕ)) (octets pending more left : List ℕ) → AppendsAllBut a b octets pending
    → AppendsAllBut b c (pending ++ more) left → AppendsAllBut a c (octets ++ more) left
pending_more a b c octets pending more left (first, is, appended) (then, is_then, told_then) = (
  first ++ then,
  ap (λ xs. xs ++ more) is ∙ (append_assoc first pending more ∙ (ap (λ xs. first ++ xs) is_then ∙ sym (append_assoc first then left))),
  Appends-trans a b c first then appended told_then,
)

-- octets that only went into the buffer
pub pending_then : (a b : Option (List ℕ)) (octets pending more now : List ℕ) → AppendsAllBut a b octets pending → now ≡ pending ++ more
    → AppendsAllBut a b (octets ++ more) now
pending_then a b octets pending more now (first, is, appended) grown =
    (first, ap (λ xs. xs ++ more) is ∙ (append_assoc first pending more ∙ ap (λ xs. first ++ xs) (sym grown)), appended)

-- a step of which only a front was written
pub pending_front : (a b c : Option (List ℕ)) (octets pending more : List ℕ) → AppendsAllBut a b octets pending → AppendsFront b c (pending ++ more)
    → AppendsFront a c (octets ++ more)
pending_front a b c octets pending more (first, is, appended) (front, rest, is_front, told_front) = (
  first ++ front,
  rest,
  ap (λ xs. xs ++ more) is ∙ (append_assoc first pending more ∙ (ap (λ xs. first ++ xs) is_front ∙ sym (append_assoc first front rest))),
  Appends-trans a b c first front appended told_front,
)

-- the lines of a number of points, after what stood in the buffer, and the next line
lines_more : (line : ℕ → Point → List ℕ) (old : List ℕ) (xs : List Point) (i : ℕ) (x : Point) → take (i + 1) xs ≡ take i xs ++ x ∷ [] → i ≤ length xs
    → (old ++ lines_by line 1 (take i xs)) ++ line (i + 1) x ≡ old ++ lines_by line 1 (take (i + 1) xs)
lines_more line old xs i x next within =
    append_assoc old (lines_by line 1 (take i xs)) (line (i + 1) x) ∙ ap (λ ys. old ++ ys) (sym (lines_next line xs i x next within))

-- a step of the loop that wrote the line, but for the buffer
pub line_written : (line : ℕ → Point → List ℕ) (a b c : Option (List ℕ)) (old pending left : List ℕ) (xs : List Point) (i : ℕ) (x : Point)
    → take (i + 1) xs ≡ take i xs ++ x ∷ [] → i ≤ length xs → AppendsAllBut a b (old ++ lines_by line 1 (take i xs)) pending
    → AppendsAllBut b c (pending ++ line (i + 1) x) left → AppendsAllBut a c (old ++ lines_by line 1 (take (i + 1) xs)) left
line_written line a b c old pending left xs i x next within before now =
    subst (λ octets. AppendsAllBut a c octets left) (lines_more line old xs i x next within)
    (pending_more a b c (old ++ lines_by line 1 (take i xs)) pending (line (i + 1) x) left before now)

-- and one that wrote a front of it
pub line_refused : (line : ℕ → Point → List ℕ) (a b c : Option (List ℕ)) (old pending : List ℕ) (xs : List Point) (i : ℕ) (x : Point)
    → take (i + 1) xs ≡ take i xs ++ x ∷ [] → i ≤ length xs → AppendsAllBut a b (old ++ lines_by line 1 (take i xs)) pending
    → AppendsFront b c (pending ++ line (i + 1) x) → AppendsFront a c (old ++ lines_by line 1 xs)
line_refused line a b c old pending xs i x next within before front =
    let front : AppendsFront a c (old ++ lines_by line 1 (take (i + 1) xs)) =
    subst (AppendsFront a c) (lines_more line old xs i x next within)
    (pending_front a b c (old ++ lines_by line 1 (take i xs)) pending (line (i + 1) x) before front) in
    let rest : List ℕ = lines_by line (1 + length (take (i + 1) xs)) (drop (i + 1) xs) in
    let all : lines_by line 1 xs ≡ lines_by line 1 (take (i + 1) xs) ++ rest =
    ap (lines_by line 1) (sym (take-append-drop (i + 1) xs)) ∙ lines_join line 1 (take (i + 1) xs) (drop (i + 1) xs) in
    subst (AppendsFront a c) (append_assoc old (lines_by line 1 (take (i + 1) xs)) rest ∙ ap (λ ys. old ++ ys) (sym all))
    (front_more a c (old ++ lines_by line 1 (take (i + 1) xs)) rest front)

-- and then all of what was pending, or a front of it
pending_ends : (a b c : Option (List ℕ)) (octets pending shown : List ℕ) → AppendsAllBut a b octets pending → shown ≡ pending → Appends b c shown
    → Appends a c octets
pending_ends a b c octets pending shown (first, is, appended) same told_rest =
    subst (Appends a c) (ap (λ xs. first ++ xs) same ∙ sym is) (Appends-trans a b c first shown appended told_rest)

pending_ends_front : (a b c : Option (List ℕ)) (octets pending shown : List ℕ) → AppendsAllBut a b octets pending → shown ≡ pending → AppendsFront b c shown
    → AppendsFront a c octets
pending_ends_front a b c octets pending shown (first, is, appended) same (front, rest, is_front, told_front) = (
  first ++ front,
  rest,
  is ∙ (ap (λ xs. first ++ xs) (sym same ∙ is_front) ∙ sym (append_assoc first front rest)),
  Appends-trans a b c first front appended told_front,
)

-- a step that was written, or a front of it
pub writes_then : {T E : Type 0} (result : Result T E) (a b c : Option (List ℕ)) (octets pending more left : List ℕ) → AppendsAllBut a b octets pending
    → WritesAllBut result b c (pending ++ more) left → WritesAllBut result a c (octets ++ more) left
writes_then result a b c octets pending more left before now = record {
  whole = on_ok_weaker result (pending_more a b c octets pending more left before) now.whole;
  front = pending_front a b c octets pending more before now.front;
}

-- a step that was written, or a front of it, where the text goes on from `old`
pub writes_on : {T E : Type 0} (result : Result T E) (a b c : Option (List ℕ)) (old shown more whole pending left : List ℕ) → shown ++ more ≡ whole
    → AppendsAllBut a b (old ++ shown) pending → WritesAllBut result b c (pending ++ more) left → WritesAllBut result a c (old ++ whole) left
writes_on result a b c old shown more whole pending left is before now =
    subst (λ octets. WritesAllBut result a c octets left) (append_assoc old shown more ∙ ap (λ xs. old ++ xs) is)
    (writes_then result a b c (old ++ shown) pending more left before now)

-- a front of the first part of it
pub front_on : (a b : Option (List ℕ)) (old shown more whole : List ℕ) → shown ++ more ≡ whole → AppendsFront a b (old ++ shown) → AppendsFront a b (old ++ whole)
front_on a b old shown more whole is front =
    subst (AppendsFront a b) (append_assoc old shown more ∙ ap (λ xs. old ++ xs) is) (front_more a b (old ++ shown) more front)

-- a field more was written but for the buffer
pub field_written : (a b c : Option (List ℕ)) (old pending left : List ℕ) (text : ℕ → List ℕ) (k field : ℕ) → field ≡ 1 + k
    → AppendsAllBut a b (old ++ texts_from text k 1) pending → AppendsAllBut b c (pending ++ text field) left → AppendsAllBut a c (old ++ texts_from text (k + 1) 1) left
field_written a b c old pending left text k field is before now =
    subst (λ octets. AppendsAllBut a c octets left)
    (append_assoc old (texts_from text k 1) (text field) ∙ ap (λ xs. old ++ xs) (ap (λ n. texts_from text k 1 ++ text n) is ∙ sym (texts_more text k 1)))
    (pending_more a b c (old ++ texts_from text k 1) pending (text field) left before now)

-- or a front of it
pub field_refused : (a b c : Option (List ℕ)) (old pending : List ℕ) (text : ℕ → List ℕ) (k field n : ℕ) → field ≡ 1 + k → k < n
    → AppendsAllBut a b (old ++ texts_from text k 1) pending → AppendsFront b c (pending ++ text field) → AppendsFront a c (old ++ texts_from text n 1)
field_refused a b c old pending text k field n is less before front =
    let count : (k + 1) + (n - (k + 1)) ≡ n = omega arith in
    let texts : (texts_from text k 1 ++ text field) ++ texts_from text (n - (k + 1)) (1 + (k + 1)) ≡ texts_from text n 1 =
    ap (λ xs. xs ++ texts_from text (n - (k + 1)) (1 + (k + 1))) (ap (λ m. texts_from text k 1 ++ text m) is ∙ sym (texts_more text k 1))
    ∙ (sym (texts_join text (k + 1) (n - (k + 1)) 1) ∙ ap (λ m. texts_from text m 1) count) in
    front_on a c old (texts_from text k 1 ++ text field) (texts_from text (n - (k + 1)) (1 + (k + 1))) (texts_from text n 1) texts
    (subst (AppendsFront a c) (append_assoc old (texts_from text k 1) (text field))
    (pending_front a b c (old ++ texts_from text k 1) pending (text field) before front))

-- what `dump` prints of a field, by its parts
pub dumped_is : (listed numbers : List ℕ) (reference : Binary) (column : Column) (points : List Point)
    → numbers ≡ reference_line reference (signed (bits_of 16 column.e)) (signed (bits_of 16 column.d)) → points ≡ column.points
    → (listed ++ numbers) ++ point_lines 1 points ≡ dumped listed reference column
dumped_is listed numbers reference column points is_numbers are_points =
    ap (λ xs. (listed ++ xs) ++ point_lines 1 points) is_numbers
    ∙ ap (λ ps. (listed ++ reference_line reference (signed (bits_of 16 column.e)) (signed (bits_of 16 column.d))) ++ point_lines 1 ps) are_points

-- two parts that were written, and a third
pub three_written : {T E : Type 0} (result : Result T E) (a b c d : Option (List ℕ)) (old one before two between rest whole left : List ℕ)
    → (one ++ two) ++ rest ≡ whole → AppendsAllBut a b (old ++ one) before → AppendsAllBut b c (before ++ two) between
    → WritesAllBut result c d (between ++ rest) left → WritesAllBut result a d (old ++ whole) left
three_written result a b c d old one before two between rest whole left is first second third =
    writes_on result a c d old (one ++ two) rest whole between left is
    (subst (λ xs. AppendsAllBut a c xs between) (append_assoc old one two) (pending_more a b c (old ++ one) before two between first second)) third

-- or a front of the first or of the second
pub one_refused : (a b : Option (List ℕ)) (old one two rest whole : List ℕ) → (one ++ two) ++ rest ≡ whole → AppendsFront a b (old ++ one) → AppendsFront a b (old ++ whole)
one_refused a b old one two rest whole is front = front_on a b old one (two ++ rest) whole (sym (append_assoc one two rest) ∙ is) front

pub two_refused : (a b c : Option (List ℕ)) (old one before two rest whole : List ℕ) → (one ++ two) ++ rest ≡ whole → AppendsAllBut a b (old ++ one) before
    → AppendsFront b c (before ++ two) → AppendsFront a c (old ++ whole)
two_refused a b c old one before two rest whole is first front =
    front_on a c old (one ++ two) rest whole is
    (subst (AppendsFront a c) (append_assoc old one two) (pending_front a b c (old ++ one) before two first front))

-- the text of a field in `dump`
pub dump_is : (m : List ℕ) (number i : ℕ) (column : Column) (listed : List ℕ) (reference : Binary) → column ≡ column_of m i
    → listed ≡ list_line m number i → reference ≡ reduced (ieee column.reference) → dumped listed reference column ≡ dump_text m number i
dump_is m number i column listed reference is_column is_listed is_reference =
    ap (λ xs. dumped xs reference column) is_listed
    ∙ (ap (λ r. dumped (list_line m number i) r column) is_reference ∙ ap (λ x. dumped (list_line m number i) (reduced (ieee x.reference)) x) is_column)

-- and that of a message of edition 1
pub dump_is_1 : (m : List ℕ) (number : ℕ) (column : Column) (listed : List ℕ) (reference : Binary) → column ≡ column1_of m
    → listed ≡ list_line1 m number → reference ≡ reduced (ibm column.reference) → dumped listed reference column ≡ dump_text_1 m number
dump_is_1 m number column listed reference is_column is_listed is_reference =
    ap (λ xs. dumped xs reference column) is_listed
    ∙ (ap (λ r. dumped (list_line1 m number) r column) is_reference ∙ ap (λ x. dumped (list_line1 m number) (reduced (ibm x.reference)) x) is_column)

-- and what `stats` prints
summed_is : (number i : ℕ) (column : Column) (summary : Summary) (reference : Binary) (form : ℕ → Binary) (word e d : ℕ) → summary ≡ summary_of column.points → reference ≡ reduced (form word)
    → word ≡ column.reference → e ≡ column.e → d ≡ column.d
    → stats_line number i summary ++ reference_line reference (signed (bits_of 16 e)) (signed (bits_of 16 d)) ≡ summed number i (reduced (form column.reference)) column
summed_is number i column summary reference form word e d is_summary is_reference is_word is_e is_d =
    let r : reference ≡ reduced (form column.reference) = is_reference ∙ ap (λ w. reduced (form w)) is_word in
    ap (λ s. stats_line number i s ++ reference_line reference (signed (bits_of 16 e)) (signed (bits_of 16 d))) is_summary
    ∙ ap (λ x. stats_line number i (summary_of column.points) ++ reference_line x (signed (bits_of 16 e)) (signed (bits_of 16 d))) r
    ∙ ap (λ n. stats_line number i (summary_of column.points) ++ reference_line (reduced (form column.reference)) (signed (bits_of 16 n)) (signed (bits_of 16 d))) is_e
    ∙ ap (λ n. stats_line number i (summary_of column.points) ++ reference_line (reduced (form column.reference)) (signed (bits_of 16 column.e)) (signed (bits_of 16 n))) is_d

pub sums_are : (m : List ℕ) (number i : ℕ) (summary : Summary) (reference : Binary) (word e d : ℕ) → summary ≡ summary_of (column_of m i).points → reference ≡ reduced (ieee word)
    → word ≡ (column_of m i).reference → e ≡ (column_of m i).e → d ≡ (column_of m i).d
    → stats_line number i summary ++ reference_line reference (signed (bits_of 16 e)) (signed (bits_of 16 d)) ≡ stats_text m number i
sums_are m number i summary reference word e d = summed_is number i (column_of m i) summary reference ieee word e d

pub sums_are_1 : (m : List ℕ) (number : ℕ) (summary : Summary) (reference : Binary) (word e d : ℕ) → summary ≡ summary_of (column1_of m).points → reference ≡ reduced (ibm word)
    → word ≡ (column1_of m).reference → e ≡ (column1_of m).e → d ≡ (column1_of m).d
    → stats_line number 1 summary ++ reference_line reference (signed (bits_of 16 e)) (signed (bits_of 16 d)) ≡ stats_text_1 m number
sums_are_1 m number summary reference word e d = summed_is number 1 (column1_of m) summary reference ibm word e d

-- and `dump decimals=`
pub valued_is : (places : ℕ) (listed numbers : List ℕ) (reference : Binary) (column : Column) (scale : Scale) (points : List Point)
    → numbers ≡ reference_line reference (signed (bits_of 16 column.e)) (signed (bits_of 16 column.d)) → scale ≡ scale_by places reference column → points ≡ column.points
    → (listed ++ numbers) ++ value_lines scale 1 points ≡ valued places listed reference column
valued_is places listed numbers reference column scale points is_numbers is_scale are_points =
    ap (λ xs. (listed ++ xs) ++ value_lines scale 1 points) is_numbers
    ∙ ap (λ s. (listed ++ reference_line reference (signed (bits_of 16 column.e)) (signed (bits_of 16 column.d))) ++ value_lines s 1 points) is_scale
    ∙ ap (λ ps. (listed ++ reference_line reference (signed (bits_of 16 column.e)) (signed (bits_of 16 column.d))) ++ value_lines (scale_by places reference column) 1 ps) are_points

pub values_are : (places : ℕ) (m : List ℕ) (number i : ℕ) (column : Column) (listed : List ℕ) (reference : Binary) → column ≡ column_of m i
    → listed ≡ list_line m number i → reference ≡ reduced (ieee column.reference) → valued places listed reference column ≡ value_text places m number i
values_are places m number i column listed reference is_column is_listed is_reference =
    ap (λ xs. valued places xs reference column) is_listed
    ∙ ap (λ r. valued places (list_line m number i) r column) is_reference
    ∙ ap (λ (x : Column). valued places (list_line m number i) (reduced (ieee x.reference)) x) is_column

pub values_are_1 : (places : ℕ) (m : List ℕ) (number : ℕ) (column : Column) (listed : List ℕ) (reference : Binary) → column ≡ column1_of m
    → listed ≡ list_line1 m number → reference ≡ reduced (ibm column.reference) → valued places listed reference column ≡ value_text_1 places m number
values_are_1 places m number column listed reference is_column is_listed is_reference =
    ap (λ xs. valued places xs reference column) is_listed
    ∙ ap (λ r. valued places (list_line1 m number) r column) is_reference
    ∙ ap (λ (x : Column). valued places (list_line1 m number) (reduced (ibm x.reference)) x) is_column

-- a buffer that was empty
pub from_empty : (a b : Option (List ℕ)) (empty octets pending : List ℕ) → empty ≡ [] → AppendsAllBut a b (empty ++ octets) pending → AppendsAllBut a b octets pending
from_empty a b empty octets pending none before = subst (λ xs. AppendsAllBut a b (xs ++ octets) pending) none before

pub front_from_empty : (a b : Option (List ℕ)) (empty octets : List ℕ) → empty ≡ [] → AppendsFront a b (empty ++ octets) → AppendsFront a b octets
front_from_empty a b empty octets none front = subst (λ xs. AppendsFront a b (xs ++ octets)) none front

pub pending_written : {T E : Type 0} (result : Result T E) (a b c : Option (List ℕ)) (octets pending shown : List ℕ) → AppendsAllBut a b octets pending
    → shown ≡ pending → Writes result b c shown → Writes result a c octets
pending_written result a b c octets pending shown before same now = record {
  whole = on_ok_weaker result (pending_ends a b c octets pending shown before same) now.whole;
  front = pending_ends_front a b c octets pending shown before same now.front;
}
