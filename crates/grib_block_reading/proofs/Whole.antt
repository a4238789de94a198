-- Items one after another.
use Rattle.std.proofs.Common.{◌≡◌, ℕ, zero, suc, ◌+◌, ◌-◌, ◌*◌, ◌/◌, ◌%◌, ◌<◌, ◌≤◌, Bool, false, List, [], ◌++◌, length, take, refl, sym, ap, ap₂, subst, ◌∙◌, arith, append_assoc, nat_le, Option, Some, None}
use Rattle.std.proofs.Math.Nat.{div-mul-le_self, mul-le-mul_right}
use Rattle.std.proofs.Math.Seq.{take-add, take-append_seam, drop-append_seam}
use Rattle.std.proofs.lemmas.Bool.{le-leb}
use Rattle.std.proofs.lemmas.Bool.Decides.{nat_tests}
use Rattle.std.proofs.lemmas.List.{take_all, append-nil, length-append}
use Rattle.grib_coding.specs.declared.coding.Coding.{Coding}
use Rattle.grib_coding.specs.declared.fault.BlockFault.{BlockFault}
use Rattle.grib_coding.specs.declared.fault.BlockFault.TheVariants.{Short}
use Rattle.grib_coding.specs.Coding.{block_count}
use Rattle.grib_coding.specs.Items.{covered}
use Rattle.grib_coding.specs.Numbers.{Told, told_after}
use Rattle.grib_coding.specs.Reading.{Front, Ended, Found, Coded, Decoded, decoded, fault_of, items_from, after_item, unless_fault, unless_ended, ended_by, behind, item_fault, entries_of}
use Rattle.grib_block_reading.specs.Taking.{front_at}

pub take_none : (n : ℕ) → take {A = Told} n [] ≡ []
take_none zero = refl
take_none (suc n) = refl

not_le : (a b : ℕ) → b < a → nat_le a b ≡ false
not_le a b less = grind (arith, nat_tests)

-- an item more
pub one_more : (c : Coding) (count block most : ℕ) (bits : List Bool) → block < block_count c count
    → items_from (suc most) c count block bits ≡ after_item c count block (λ block' rest. items_from most c count block' rest) (front_at c block bits)
one_more c count block most bits less =
    ap (λ t. unless_ended t (λ _. after_item c count block (λ block' rest. items_from most c count block' rest) (front_at c block bits))) (not_le (block_count c count) block less)

-- what is wrong with the item at the front
abbrev pub outcome : Coding → ℕ → ℕ → Front Coded → Option BlockFault
outcome c count block Ended = Some Short
outcome c count block (Found coded rest) = item_fault c count block coded

pub fault_by : (c : Coding) (count block : ℕ) (next : ℕ → List Bool → Decoded) (front : Front Coded) (fault : BlockFault) → outcome c count block front ≡ Some fault
    → after_item c count block next front ≡ ended_by (Some fault)
fault_by c count block next Ended fault is = ap ended_by is
fault_by c count block next (Found coded rest) fault is =
    ap (λ f. unless_fault f (entries_of c (block % c.interval) coded) (λ _. next (block + covered c (block % c.interval) coded.item) rest)) is

pub found_by : (c : Coding) (count block blocks : ℕ) (next : ℕ → List Bool → Decoded) (coded : Coded) (rest : List Bool) → item_fault c count block coded ≡ None
    → blocks ≡ covered c (block % c.interval) coded.item
    → after_item c count block next (Found coded rest) ≡ behind (entries_of c (block % c.interval) coded) (next (block + blocks) rest)
found_by c count block blocks next coded rest none is =
    ap (λ f. unless_fault f (entries_of c (block % c.interval) coded) (λ _. next (block + covered c (block % c.interval) coded.item) rest)) none
    ∙ ap (λ n. behind (entries_of c (block % c.interval) coded) (next (block + n) rest)) (sym is)

pub behind_behind : (one two : List Told) (d : Decoded) → behind one (behind two d) ≡ behind (one ++ two) d
behind_behind one two d = ap (λ es. record { entries = es; fault = d.fault }) (sym (append_assoc one two d.entries))

pub take_behind : (count : ℕ) (one two : List Told) → length one ≤ count → take count (one ++ two) ≡ one ++ take (count - length one) two
take_behind count one two less =
    let sum : length one + (count - length one) ≡ count = omega arith in
    ap (λ n. take n (one ++ two)) (sym sum)
    ∙ (take-add (length one) (count - length one) (one ++ two)
    ∙ ap₂ (λ a b. a ++ take (count - length one) b) (take-append_seam one two) (drop-append_seam one two))

within_size : (count size block blocks : ℕ) → 0 < size → blocks ≡ (count + size - 1) / size → block < blocks → block * size < count
within_size count size block blocks some is less =
    let above : block + 1 ≤ blocks = omega (arith, less) in
    let next : (block + 1) * size ≤ blocks * size = mul-le-mul_right size above in
    let most : blocks * size ≤ count + size - 1 = subst (λ n. n * size ≤ count + size - 1) (sym is) (div-mul-le_self (count + size - 1) size) in
    omega (arith, next, most, some)

pub within_count : (c : Coding) (count block : ℕ) → 0 < c.block → block < block_count c count → block * c.block < count
within_count c count block some less = within_size count c.block block (block_count c count) some refl less
