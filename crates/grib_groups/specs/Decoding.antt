-- The codes of a whole Section 7, as they are taken.
use Rattle.std.proofs.Common.{ℕ, ◌+◌, ◌≤◌, List, [], ◌++◌, length, map, vec_capacity, ap, arith}
use Rattle.std.proofs.lemmas.List.{length-append, length-map}
use Rattle.grib_base.specs.declared.code.Code.{Code}
use Rattle.grib_groups.specs.declared.decoding.Codes.{Codes}
use Rattle.grib_group_reading.specs.Lists.{Grown}
use Rattle.grib_group_reading.specs.Laws.{grown_none, grown_more}

-- there is memory for n further codes
abbrev pub CodesRoom : Codes → ℕ → Type 0
CodesRoom codes n = length codes.items.items + n ≤ vec_capacity codes.items

abbrev pub CodesTook : Codes → List Code → Codes → Type 0
CodesTook before codes after =
    length before.items.items + length codes ≤ vec_capacity before.items
    → Grown before.items.items (vec_capacity before.items) (map (λ code. code) codes) after.items.items (vec_capacity after.items)

pub codes-none : (taker : Codes) → CodesTook taker [] taker
codes-none taker = λ room. grown_none (λ (code : Code). code) taker.items.items (vec_capacity taker.items)

pub codes-more : (before between after : Codes) (codes more_codes : List Code) → CodesTook before codes between → CodesTook between more_codes after
    → CodesTook before (codes ++ more_codes) after
codes-more before between after codes more_codes first second =
    grown_more (λ (code : Code). code) before.items.items between.items.items after.items.items (vec_capacity before.items) (vec_capacity between.items) (vec_capacity after.items) codes more_codes first second

pub codes-fewer : (taker : Codes) (n m : ℕ) → n ≤ m → CodesRoom taker m → CodesRoom taker n
codes-fewer taker n m fewer room = omega arith

pub codes-room : (before after : Codes) (codes : List Code) (n : ℕ) → CodesTook before codes after → CodesRoom before (length codes + n) → CodesRoom after n
codes-room before after codes n took room =
    let grown = took (omega arith) in
    omega (arith, grown.capacity, ap length grown.items, length-append before.items.items (map (λ (code : Code). code) codes), length-map codes (λ (code : Code). code))
