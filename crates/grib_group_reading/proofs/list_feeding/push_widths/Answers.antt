use Rattle.std.proofs.Common.{◌≡◌, ℕ, ◌+◌, ◌-◌, ◌≤◌, ◌++◌, List, [], length, refl, sym, ap, ap₂, ◌∙◌, arith, subst, pow_mono}
use Rattle.std.proofs.lemmas.List.{length-append}
use Rattle.grib_base.specs.declared.code.Code.{Code}
use Rattle.grib_packing.specs.Groups.{reference_octets, width_octets, length_octets}
use Rattle.grib_group_reading.specs.Lists.{LengthsTook, WidthsTook}
use Rattle.grib_group_reading.specs.Feeding.{part, no_marks, plain_groups, WasFed}
use Rattle.grib_group_reading.proofs.Pieces.{part_enough, part_codes, part_more, part_none}
use Rattle.grib_group_reading.proofs.list_feeding.push_widths.Goals as goal

pub list-lengths-requires-clause-limit : goal.list-lengths-requires-clause-limit
list-lengths-requires-clause-limit c = pow_mono c.requires.groups.lengths

pub push_lengths-requires-clause-room : goal.push_lengths-requires-clause-room
push_lengths-requires-clause-room c = c.list-lengths.ensures.room 1 (omega (arith, c.requires.lengths, c.requires.groups.groups))

pub returns-then-saturating_add-first-clause-fed : goal.returns-then-saturating_add-first-clause-fed
returns-then-saturating_add-first-clause-fed c = λ start octets is_before below references fed lengths.
    let layout = c.args.layout.now in
    record {
      short = omega (arith, length-append octets c.args.piece.now, is_before);
      references_are = references;
      reads = subst (λ (os : List ℕ). WasFed WidthsTook no_marks (plain_groups layout.width_bits layout.groups) start.widths os c.push-widths.result) (part_more (reference_octets layout) (width_octets layout) c.octets_of-first.result c.octets_of-size.result octets c.args.piece.now c.part_of.result.now c.octets_of-first.ensures.octets c.octets_of-size.ensures.octets (c.part_of.ensures.part octets is_before))
          (c.push-widths.ensures.fed no_marks (plain_groups layout.width_bits layout.groups) start.widths (part (reference_octets layout) (width_octets layout) octets) fed);
      lengths_wait = lengths;
    }

pub returns-clause-fed : goal.returns-clause-fed
returns-clause-fed c = λ start octets is_before below references fed lengths.
    let layout = c.args.layout.now in
    let n = layout.groups in
    let from = reference_octets layout in
    let size = width_octets layout in
    let all = octets ++ c.args.piece.now in
    let long = length-append octets c.args.piece.now in
    let came : from + size ≤ length all = omega (arith, long, is_before, c.octets_of-first.ensures.octets, c.octets_of-size.ensures.octets) in
    let pushed = subst (λ (os : List ℕ). WasFed WidthsTook no_marks (plain_groups layout.width_bits n) start.widths os c.push-widths.result) (part_more (reference_octets layout) (width_octets layout) c.octets_of-first.result c.octets_of-size.result octets c.args.piece.now c.part_of.result.now c.octets_of-first.ensures.octets c.octets_of-size.ensures.octets (c.part_of.ensures.part octets is_before))
    (c.push-widths.ensures.fed no_marks (plain_groups layout.width_bits n) start.widths (part from size octets) fed) in
    let took = subst (λ (cs : List Code). WidthsTook start.widths cs c.finish.result) (part_codes from size layout.width_bits n all came (omega arith))
    (c.finish.ensures.took no_marks (plain_groups layout.width_bits n) start.widths (part from size all) pushed (part_enough from size layout.width_bits n all came (omega arith))) in
    let fresh = subst (λ (os : List ℕ). WasFed LengthsTook no_marks (plain_groups layout.length_bits (n - 1)) c.args.lengths os c.list-lengths.result) (sym (part_none (from + size) (length_octets layout) octets below)) c.list-lengths.ensures.fed in
    c.push_lengths.ensures.fed start octets is_before references (record { came = came; took = took })
    (subst (λ l. WasFed LengthsTook no_marks (plain_groups layout.length_bits (n - 1)) l (part (from + size) (length_octets layout) octets) c.list-lengths.result) lengths fresh)

pub finish-requires-clause-room : goal.finish-requires-clause-room
finish-requires-clause-room c = c.push-widths.ensures.room 0 c.requires.room

pub returns-then-saturating_add-first-clause-feedable : goal.returns-then-saturating_add-first-clause-feedable
returns-then-saturating_add-first-clause-feedable c = record { groups = c.requires.groups; list = (c.push-widths.ensures.feedable, c.push-widths.ensures.room 0 c.requires.room, c.requires.lengths) }
