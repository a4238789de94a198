-- What a shelf in memory holds.
use Rattle.std.specs.Prelude.{ℕ, List, Option, option_map, String, Vec}
use Rattle.std.specs.BTreeMap.{BTreeMap, get_by_text}
use Rattle.grib_io.specs.Memory.{Calls}
use Rattle.grib_io.specs.declared.memory_shelf.MemoryShelf.{MemoryShelf}

-- the octets under each name of a map
abbrev pub octets_in : {X Y : Type 0} → BTreeMap (String X) (Vec ℕ Y) → List ℕ → Option (List ℕ)
octets_in names name = option_map (λ octets. octets.items) (get_by_text names name)

-- the octets under each name of the shelf
abbrev pub octets_under : MemoryShelf → List ℕ → Option (List ℕ)
octets_under shelf = octets_in shelf.names

-- the shelf's calls
abbrev pub calls : MemoryShelf → Calls
calls shelf = shelf.calls
