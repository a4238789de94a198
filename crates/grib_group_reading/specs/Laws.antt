-- Laws of what takes codes.
use Rattle.std.proofs.Common.{◌≡◌, ℕ, ◌+◌, ◌*◌, ◌≤◌, List, [], ◌++◌, length, map, vec_capacity, refl, sym, ap, ap₂, ◌∙◌, arith, append_assoc, subst}
use Rattle.std.proofs.lemmas.List.{append-nil, map-append, length-append, length-map}
use Rattle.grib_base.specs.declared.code.Code.{Code}
use Rattle.grib_group_reading.specs.declared.lists.References.{References}
use Rattle.grib_group_reading.specs.declared.lists.Widths.{Widths}
use Rattle.grib_group_reading.specs.declared.lists.Lengths.{Lengths}
use Rattle.grib_group_reading.specs.Taking.{number_of}
use Rattle.grib_group_reading.specs.Lists.{Grown, ReferencesTook, WidthsAre, WidthsTook, coded_widths, LengthsAre, LengthsTook, coded_lengths_by, ReferencesRoom, WidthsRoom, LengthsRoom}

-- ---- a list that grows

pub grown_none : {X : Type 0} (f : Code → X) (items : List X) (capacity : ℕ) → Grown items capacity (map f []) items capacity
grown_none f items capacity = record { items = sym (append-nil items); capacity = omega arith }

pub grown_more : {X : Type 0} (f : Code → X) (before between after : List X) (m n k : ℕ) (codes more_codes : List Code)
    → (length before + length codes ≤ m → Grown before m (map f codes) between n) → (length between + length more_codes ≤ n → Grown between n (map f more_codes) after k)
    → length before + length (codes ++ more_codes) ≤ m → Grown before m (map f (codes ++ more_codes)) after k
grown_more f before between after m n k codes more_codes first second room =
    let one = first (omega (arith, length-append codes more_codes)) in
    let two = second (omega (arith, ap length one.items, length-append before (map f codes), length-map codes f, length-append codes more_codes, one.capacity)) in
    record {
      items =
          two.items ∙ ap (λ xs. xs ++ map f more_codes) one.items ∙ append_assoc before (map f codes) (map f more_codes)
          ∙ ap (λ xs. before ++ xs) (sym (map-append f codes more_codes));
      capacity = omega (arith, one.capacity, two.capacity);
    }

pub references-none : (taker : References) → ReferencesTook taker [] taker
references-none taker = λ room. grown_none number_of taker.items.items (vec_capacity taker.items)

pub references-more : (before between after : References) (codes more_codes : List Code) → ReferencesTook before codes between → ReferencesTook between more_codes after
    → ReferencesTook before (codes ++ more_codes) after
references-more before between after codes more_codes first second =
    grown_more number_of before.items.items between.items.items after.items.items (vec_capacity before.items) (vec_capacity between.items) (vec_capacity after.items) codes more_codes first second

-- ---- widths and lengths

pub widths-none : (taker : Widths) → WidthsTook taker [] taker
widths-none taker = record {
  reference = refl;
  capacity = omega arith;
  long = λ room. omega arith;
  read = λ read room are. subst (λ (xs : List ℕ). WidthsAre taker xs) (sym (append-nil read)) are;
}

pub widths-more : (before between after : Widths) (codes more_codes : List Code) → WidthsTook before codes between → WidthsTook between more_codes after
    → WidthsTook before (codes ++ more_codes) after
widths-more before between after codes more_codes first second = record {
  reference = second.reference ∙ first.reference;
  capacity = omega (arith, first.capacity, second.capacity);
  long = λ room.
      let one = first.long (omega (arith, length-append codes more_codes)) in
      omega (arith, one, second.long (omega (arith, one, length-append codes more_codes, first.capacity)), length-append codes more_codes);
  read = λ read room are.
      let one = coded_widths before.reference codes in
      let both : (read ++ one) ++ coded_widths between.reference more_codes ≡ read ++ coded_widths before.reference (codes ++ more_codes) =
      ap (λ (r : ℕ). (read ++ one) ++ coded_widths r more_codes) first.reference
      ∙ append_assoc read one (coded_widths before.reference more_codes)
      ∙ ap (λ xs. read ++ xs) (sym (map-append (λ (code : Code). before.reference + number_of code) codes more_codes)) in
      let here = first.read read (omega (arith, length-append codes more_codes)) are in
      let room_after : length (read ++ one) + length more_codes ≤ vec_capacity between.items =
      omega (arith, length-append read one, length-map codes (λ (code : Code). before.reference + number_of code), length-append codes more_codes, first.capacity) in
      subst (λ (xs : List ℕ). WidthsAre after xs) both (second.read (read ++ one) room_after here);
}

pub lengths-none : (taker : Lengths) → LengthsTook taker [] taker
lengths-none taker = record {
  same = record { reference = refl; increment = refl; capacity = omega arith };
  long = λ room. omega arith;
  read = λ values read room are. subst (λ (xs : List ℕ). LengthsAre values taker xs) (sym (append-nil read)) are;
}

pub lengths-more : (before between after : Lengths) (codes more_codes : List Code) → LengthsTook before codes between → LengthsTook between more_codes after
    → LengthsTook before (codes ++ more_codes) after
lengths-more before between after codes more_codes first second = record {
  same = record {
    reference = second.same.reference ∙ first.same.reference;
    increment = second.same.increment ∙ first.same.increment;
    capacity = omega (arith, first.same.capacity, second.same.capacity);
  };
  long = λ room.
      let one = first.long (omega (arith, length-append codes more_codes)) in
      omega (arith, one, second.long (omega (arith, one, length-append codes more_codes, first.same.capacity)), length-append codes more_codes);
  read = λ values read room are.
      let code_length = λ (code : Code). before.reference + before.increment * number_of code in
      let one = map code_length codes in
      let both : (read ++ one) ++ coded_lengths_by between.reference between.increment more_codes ≡ read ++ coded_lengths_by before.reference before.increment (codes ++ more_codes) =
      ap₂ (λ (r i : ℕ). (read ++ one) ++ coded_lengths_by r i more_codes) first.same.reference first.same.increment
      ∙ append_assoc read one (map code_length more_codes)
      ∙ ap (λ xs. read ++ xs) (sym (map-append code_length codes more_codes)) in
      let here = first.read values read (omega (arith, length-append codes more_codes)) are in
      let room_after : length (read ++ one) + length more_codes ≤ vec_capacity between.items =
      omega (arith, length-append read one, length-map codes code_length, length-append codes more_codes, first.same.capacity) in
      subst (λ (xs : List ℕ). LengthsAre values after xs) both (second.read values (read ++ one) room_after here);
}

-- ---- room

pub references-fewer : (taker : References) (n m : ℕ) → n ≤ m → ReferencesRoom taker m → ReferencesRoom taker n
references-fewer taker n m fewer room = omega arith

pub references-room : (before after : References) (codes : List Code) (n : ℕ) → ReferencesTook before codes after → ReferencesRoom before (length codes + n) → ReferencesRoom after n
references-room before after codes n took room =
    let grown = took (omega arith) in
    omega (arith, grown.capacity, ap length grown.items, length-append before.items.items (map number_of codes), length-map codes number_of)

pub widths-fewer : (taker : Widths) (n m : ℕ) → n ≤ m → WidthsRoom taker m → WidthsRoom taker n
widths-fewer taker n m fewer room = omega arith

pub widths-room : (before after : Widths) (codes : List Code) (n : ℕ) → WidthsTook before codes after → WidthsRoom before (length codes + n) → WidthsRoom after n
widths-room before after codes n took room =
    omega (arith, took.capacity, took.long (omega arith))

pub lengths-fewer : (taker : Lengths) (n m : ℕ) → n ≤ m → LengthsRoom taker m → LengthsRoom taker n
lengths-fewer taker n m fewer room = omega arith

pub lengths-room : (before after : Lengths) (codes : List Code) (n : ℕ) → LengthsTook before codes after → LengthsRoom before (length codes + n) → LengthsRoom after n
lengths-room before after codes n took room =
    omega (arith, took.same.capacity, took.long (omega arith))
