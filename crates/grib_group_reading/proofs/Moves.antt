-- Lemmas on codes that go from groups and bits to what takes them.
use Rattle.std.proofs.Common.{◌≡◌, ℕ, ◌+◌, ◌-◌, ◌*◌, ◌%◌, ◌^◌, ◌<◌, ◌≤◌, Bool, List, [], ◌∷◌, ◌++◌, length, take, drop, map, bit_or, refl, sym, ap, ap₂, ◌∙◌, arith, subst, mul_comm, append_assoc}
use Rattle.std.proofs.lemmas.List.{drop-drop, drop_at, take_at, take-append-drop, length-append, length-take-le, length-drop}
use Rattle.std.proofs.lemmas.Nat.{shl_whole, or_shifted}
use Rattle.grib_bits.specs.Bits.{num}
use Rattle.grib_bits.specs.Plain.{plain, plain_at}
use Rattle.grib_bits.proofs.Numbers.{num-append, num-lt}
use Rattle.grib_base.specs.declared.code.Code.{Code}
use Rattle.grib_packing.specs.declared.group.Group.{Group}
use Rattle.grib_packing.specs.declared.layout.Layout.{Layout}
use Rattle.grib_packing.specs.Groups.{code_of}
use Rattle.grib_group_reading.specs.Taking.{Taken, values}
use Rattle.grib_group_reading.specs.Going.{Went}
use Rattle.grib_group_reading.proofs.Taken.{taken_run, taken_then}

-- ---- a number of which the first bits came before

-- `first << missing | last`
pub number_across : (pending piece : List Bool) (missing width first last : ℕ) → length pending + missing ≡ width → width ≤ 48 → missing ≤ length piece
    → first ≡ num pending → last ≡ num (take missing piece) → bit_or (first * 2 ^ missing % 2 ^ 64) last ≡ num (take width (pending ++ piece))
number_across pending piece missing width first last parts short within is_first is_last =
    let end = take missing piece in
    let long : length end ≡ missing = length-take-le missing piece within in
    let small : first < 2 ^ length pending = subst (λ (n : ℕ). n < 2 ^ length pending) (sym is_first) (num-lt pending) in
    let low : last < 2 ^ missing = subst (λ (k : ℕ). last < 2 ^ k) long (subst (λ (n : ℕ). n < 2 ^ length end) (sym is_last) (num-lt end)) in
    let whole : pending ++ piece ≡ (pending ++ end) ++ drop missing piece =
    ap (λ bs. pending ++ bs) (sym (take-append-drop missing piece)) ∙ sym (append_assoc pending end (drop missing piece)) in
    let front : take width (pending ++ piece) ≡ pending ++ end =
    ap (take width) whole ∙ take_at (pending ++ end) (drop missing piece) width (omega (arith, length-append pending end)) in
    ap (λ (n : ℕ). bit_or n last) (shl_whole first (length pending) missing 64 small (omega arith))
    ∙ or_shifted first missing last low
    ∙ ap₂ (λ (m n : ℕ). m * 2 ^ missing + n) is_first is_last
    ∙ ap (λ (k : ℕ). num pending * 2 ^ k + num end) (sym long)
    ∙ sym (num-append pending end)
    ∙ ap num (sym front)

pub rest_across : (pending piece : List Bool) (missing width : ℕ) → length pending + missing ≡ width → drop width (pending ++ piece) ≡ drop missing piece
rest_across pending piece missing width parts =
    ap (λ (k : ℕ). drop k (pending ++ piece)) (sym parts)
    ∙ sym (drop-drop missing (length pending) (pending ++ piece))
    ∙ ap (drop missing) (drop_at pending piece (length pending) refl)

-- ---- moves

module _ {S : Type 0} (took : S → List Code → S → Type 0) (layout : Layout) where
  -- the first m of the m + n numbers of a group
  pub went_run : (group : Group) (groups : List Group) (bits : List Bool) (at m n next : ℕ) (before after : S) → group.count ≡ m + n → at + m * group.width ≤ length bits
      → next ≡ at + m * group.width → took before (map (code_of layout group) (plain (drop at bits) group.width m)) after
      → Went took layout (group ∷ groups) (drop at bits) before (record group { count = n } ∷ groups) (drop next bits) after
  went_run group groups bits at m n next before after parts within is_next passed =
      let left : Group = record group { count = n } in
      let codes = map (code_of layout group) (plain (drop at bits) group.width m) in
      let rest : drop (group.width * m) (drop at bits) ≡ drop next bits =
      drop-drop (group.width * m) at bits ∙ ap (λ (k : ℕ). drop k bits) (omega (arith, is_next, mul_comm group.width m)) in
      let taken = taken_run layout group groups (drop at bits) m n parts (omega (arith, length-drop at bits, mul_comm group.width m)) in
      record {
        codes = codes;
        taken = subst (λ (bs : List Bool). Taken layout (group ∷ groups) (drop at bits) codes (left ∷ groups) bs) rest taken;
        passed = passed;
      }

  -- a number that begins among the pending bits
  pub went_across : (group : Group) (groups : List Group) (pending piece : List Bool) (missing number : ℕ) (code : Code) (before after : S) → 0 < group.count
      → length pending + missing ≡ group.width → missing ≤ length piece → number ≡ num (take group.width (pending ++ piece)) → code ≡ code_of layout group number
      → took before (code ∷ []) after
      → Went took layout (group ∷ groups) (pending ++ piece) before (record group { count = group.count - 1 } ∷ groups) (drop missing piece) after
  went_across group groups pending piece missing number code before after some parts within is_number is_code passed =
      let bits = pending ++ piece in
      let nowhere : 0 * group.width ≡ 0 = omega arith in
      let once : 1 * group.width ≡ group.width = omega arith in
      let one : code ≡ code_of layout group (plain_at bits group.width 0) =
      is_code ∙ ap (code_of layout group) (is_number ∙ ap (λ (k : ℕ). num (take group.width (drop k bits))) (sym nowhere)) in
      let first = went_run group groups bits 0 1 (group.count - 1) group.width before after (omega arith) (omega (arith, length-append pending piece)) (omega arith)
      (subst (λ (c : Code). took before (c ∷ []) after) one passed) in
      subst (λ (bs : List Bool). Went took layout (group ∷ groups) bits before (record group { count = group.count - 1 } ∷ groups) bs after) (rest_across pending piece missing group.width parts) first

module _ {S : Type 0} (took : S → List Code → S → Type 0) (none : (taker : S) → took taker [] taker)
    (more : (before between after : S) (codes more_codes : List Code) → took before codes between → took between more_codes after → took before (codes ++ more_codes) after) (layout : Layout) where
  -- nothing but the groups and the bits changed
  pub went_same : (groups left : List Group) (bits rest : List Bool) (taker : S) → Taken layout groups bits [] left rest → Went took layout groups bits taker left rest taker
  went_same groups left bits rest taker taken = record { codes = []; taken = taken; passed = none taker }

  pub went_then : {groups left last : List Group} {bits rest end : List Bool} {before between after : S} → Went took layout groups bits before left rest between
      → Went took layout left rest between last end after → Went took layout groups bits before last end after
  went_then {before = before} {between = between} {after = after} first second = record {
    codes = first.codes ++ second.codes;
    taken = taken_then first.taken second.taken;
    passed = more before between after first.codes second.codes first.passed second.passed;
  }

-- ---- room for the codes that are left

module _ {S : Type 0} (took : S → List Code → S → Type 0) (room : S → ℕ → Type 0) (room_after : (before after : S) (codes : List Code) (n : ℕ) → took before codes after → room before (length codes + n) → room after n) where
  pub room_left : {layout : Layout} {groups left : List Group} {bits rest : List Bool} {before after : S} → Went took layout groups bits before left rest after → room before (values groups) → room after (values left)
  room_left {left = left} {before = before} {after = after} went enough = room_after before after went.codes (values left) went.passed (subst (room before) went.taken.counted enough)

  pub room_beside : {layout : Layout} {groups left : List Group} {bits rest : List Bool} {before after : S} → Went took layout groups bits before left rest after → (n : ℕ) → room before (values groups + n) → room after (values left + n)
  room_beside {groups = groups} {left = left} {before = before} {after = after} went n enough =
      let parts : values groups + n ≡ length went.codes + (values left + n) = omega (arith, went.taken.counted) in
      room_after before after went.codes (values left + n) went.passed (subst (room before) parts enough)
