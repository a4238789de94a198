use Rattle.std.proofs.Common.{◌≡◌, ℕ, ◌+◌, ◌++◌, List, length, map, sym, ap, arith, subst, mul_comm}
use Rattle.std.proofs.lemmas.List.{length-append}
use Rattle.grib_packing.specs.Groups.{reference_octets, width_octets}
use Rattle.grib_group_reading.specs.declared.list_feeding.FedLists.{FedLists}
use Rattle.grib_group_reading.specs.Feeding.{AreFeedable, Listing}
use Rattle.grib_group_reading.proofs.Pieces.{references_more, widths_more}
use Rattle.grib_group_reading.proofs.list_feeding.FedLists.push.Goals as goal

pub returns-in-AtReferences-clause-fed : goal.returns-in-AtReferences-clause-fed
returns-in-AtReferences-clause-fed c = λ values octets is_before fed.
    let here = subst (λ (lists : FedLists). Listing c.args.layout.now fed.start octets lists) c.in-AtReferences.is fed.listing in
    record { start = fed.start; empty = fed.empty; listing = c.push_references.ensures.fed fed.start octets is_before (omega (arith, here.short)) here.reads here.widths_wait here.lengths_wait }

pub returns-in-AtWidths-clause-fed : goal.returns-in-AtWidths-clause-fed
returns-in-AtWidths-clause-fed c = λ values octets is_before fed.
    let here = subst (λ (lists : FedLists). Listing c.args.layout.now fed.start octets lists) c.in-AtWidths.is fed.listing in
    record {
      start = fed.start;
      empty = fed.empty;
      listing = c.push_widths.ensures.fed fed.start octets is_before (omega (arith, here.short)) (references_more c.args.layout.now fed.start octets c.args.piece.now c.in-AtWidths.references here.references_are) here.reads here.lengths_wait;
    }

pub returns-in-AtLengths-clause-fed : goal.returns-in-AtLengths-clause-fed
returns-in-AtLengths-clause-fed c = λ values octets is_before fed.
    let here = subst (λ (lists : FedLists). Listing c.args.layout.now fed.start octets lists) c.in-AtLengths.is fed.listing in
    record {
      start = fed.start;
      empty = fed.empty;
      listing = c.push_lengths.ensures.fed fed.start octets is_before (references_more c.args.layout.now fed.start octets c.args.piece.now c.in-AtLengths.references here.references_are)
          (widths_more c.args.layout.now fed.start octets c.args.piece.now c.in-AtLengths.widths here.widths_are) here.reads;
    }
