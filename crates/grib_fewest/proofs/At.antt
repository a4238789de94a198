-- An item at the block that it begins with.
use Rattle.std.proofs.Common.{◌≡◌, ℕ, ◌-◌, ◌*◌, ◌%◌, ◌<◌, ◌≤◌, List, ◌++◌, take, drop, length, Option, sym, ◌∙◌, arith}
use Rattle.std.proofs.Math.Nat.{mul-le-mul_left}
use Rattle.std.proofs.lemmas.Nat.{mod_below}
use Rattle.grib_coding.specs.declared.coding.Coding.{Coding}
use Rattle.grib_coding.specs.Coding.{Fits, block_count}
use Rattle.grib_coding.specs.Items.{Item, IsItem, covered}
use Rattle.grib_coding.specs.Numbers.{Told, told_after}
use Rattle.grib_coding.specs.Reading.{entries_with}
use Rattle.grib_coding.specs.Blocks.{reference_of}
use Rattle.grib_block_writing.specs.Steps.{block_at}
use Rattle.grib_coding.specs.Written.{skip_of}
use Rattle.grib_block_writing.proofs.Zeros.{fits_block}
use Rattle.grib_fewest.proofs.Items.{covers_some, entries-reference, length-entries, same_reference}

-- an item that begins with a block, by what it tells and what is told behind it
pub record At (c : Coding) (numbers : List ℕ) (q : ℕ) (reference : Option ℕ) (item : Item) (rest : List Told) : Type 0 where
  pub fits : Fits c
  pub within : q < block_count c (length numbers)
  pub is : IsItem c (skip_of reference) item
  pub told : take (length numbers - q * c.block) (entries_with c (q % c.interval) reference item ++ rest)
      ≡ drop (q * c.block) (told_after c 0 0 numbers)

pub long : (c : Coding) (numbers : List ℕ) (q : ℕ) (reference : Option ℕ) (item : Item) (rest : List Told) → At c numbers q reference item rest
    → length (entries_with c (q % c.interval) reference item) ≡ c.block * covered c (q % c.interval) item
long c numbers q reference item rest at =
    let B = fits_block c at.fits in
    length-entries c (q % c.interval) reference item B.0 B.2
    (covers_some c (q % c.interval) item (mod_below q c.interval at.fits.some_blocks)) at.is

pub reference_at : (c : Coding) (numbers : List ℕ) (q : ℕ) (reference : Option ℕ) (item : Item) (rest : List Told) → At c numbers q reference item rest
    → reference ≡ reference_of (block_at c numbers q)
reference_at c numbers q reference item rest at =
    let place = q % c.interval in
    let entries = entries_with c place reference item in
    let B = fits_block c at.fits in
    let some : 1 ≤ covered c place item = covers_some c place item (mod_below q c.interval at.fits.some_blocks) in
    let least : c.block * 1 ≤ c.block * covered c place item = mul-le-mul_left c.block some in
    sym (same_reference c numbers q entries rest B.0 at.within (omega (arith, long c numbers q reference item rest at, least, B.0)) at.told
    ∙ entries-reference c place reference item)
