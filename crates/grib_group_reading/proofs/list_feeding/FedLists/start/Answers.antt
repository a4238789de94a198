use Rattle.std.proofs.Common.{pow_mono, ℕ, ◌+◌, List, [], length, ap, arith, refl, sym, subst}
use Rattle.grib_packing.specs.Groups.{reference_octets}
use Rattle.grib_group_reading.specs.Lists.{ReferencesTook}
use Rattle.grib_group_reading.specs.Feeding.{no_marks, plain_groups, WasFed}
use Rattle.grib_group_reading.proofs.Pieces.{no_part}
use Rattle.grib_group_reading.proofs.list_feeding.FedLists.start.Goals as goal

pub list-references-requires-clause-limit : goal.list-references-requires-clause-limit
list-references-requires-clause-limit c = pow_mono c.requires.groups.references

pub push_references-requires-clause-room : goal.push_references-requires-clause-room
push_references-requires-clause-room c =
    let empty = c.requires.empty.1 in
    c.list-references.ensures.room 0 (omega (arith, empty.reference_memory, ap length empty.references))

pub push_references-requires-clause-widths : goal.push_references-requires-clause-widths
push_references-requires-clause-widths c =
    let empty = c.requires.empty.1 in
    omega (arith, empty.width_memory, empty.widths.long)

pub push_references-requires-clause-lengths : goal.push_references-requires-clause-lengths
push_references-requires-clause-lengths c =
    let empty = c.requires.empty.1 in
    omega (arith, empty.length_memory, empty.lengths.long)

pub returns-clause-fed : goal.returns-clause-fed
returns-clause-fed c = λ values empty.
    let layout = c.args.layout.now in
    record {
      start = c.args.lists;
      empty = empty;
      listing = c.push_references.ensures.fed c.args.lists [] refl (omega arith)
          (subst (λ (os : List ℕ). WasFed ReferencesTook no_marks (plain_groups layout.reference_bits layout.groups) c.args.lists.references os c.list-references.result) (sym (no_part 0 (reference_octets layout))) c.list-references.ensures.fed)
          refl refl;
    }
