-- What can be fed.
use Rattle.std.proofs.Common.{ℕ, List, ◌++◌}
use Rattle.grib_packing.specs.declared.column.Point.{Point}
use Rattle.grib_coding.specs.declared.coding.Coding.{Coding}
use Rattle.grib_block_feeding.specs.declared.feeding.FedBlocks.{FedBlocks}
use Rattle.grib_block_feeding.specs.Feeding.{BlocksAgree, IsFedBlocks}

pub is_fed : {S : Type 0} (kept : S → List Point → S → Type 0) (c : Coding) (count : ℕ) (keeper : S) (octets : List ℕ) (fed : FedBlocks S) → BlocksAgree kept c count keeper octets fed
    → IsFedBlocks kept fed
is_fed kept c count keeper octets fed agrees = record {
  coding = c;
  count = count;
  keeper = keeper;
  octets = octets;
  agrees = agrees;
}

pub fed_on : {S : Type 0} (kept : S → List Point → S → Type 0) (piece : List ℕ) (before after : FedBlocks S) → IsFedBlocks kept before
    → ((c : Coding) (count : ℕ) (keeper : S) (octets : List ℕ) → BlocksAgree kept c count keeper octets before → BlocksAgree kept c count keeper (octets ++ piece) after)
    → IsFedBlocks kept after
fed_on kept piece before after fed on = record {
  coding = fed.coding;
  count = fed.count;
  keeper = fed.keeper;
  octets = fed.octets ++ piece;
  agrees = on fed.coding fed.count fed.keeper fed.octets fed.agrees;
}
