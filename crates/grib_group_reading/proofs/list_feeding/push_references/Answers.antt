use Rattle.std.proofs.Common.{◌≡◌, ℕ, ◌+◌, ◌-◌, ◌≤◌, ◌++◌, List, [], length, refl, sym, ap, ap₂, ◌∙◌, arith, subst, pow_mono}
use Rattle.std.proofs.lemmas.List.{length-append}
use Rattle.grib_base.specs.declared.code.Code.{Code}
use Rattle.grib_packing.specs.Groups.{reference_octets, width_octets}
use Rattle.grib_group_reading.specs.Lists.{ReferencesTook, WidthsTook}
use Rattle.grib_group_reading.specs.Feeding.{part, no_marks, plain_groups, WasFed}
use Rattle.grib_group_reading.proofs.Pieces.{part_enough, part_codes, part_more, part_none}
use Rattle.grib_group_reading.proofs.list_feeding.push_references.Goals as goal

pub list-widths-requires-clause-limit : goal.list-widths-requires-clause-limit
list-widths-requires-clause-limit c = pow_mono c.requires.groups.widths

pub push_widths-requires-clause-room : goal.push_widths-requires-clause-room
push_widths-requires-clause-room c = c.list-widths.ensures.room 0 (omega (arith, c.requires.widths))

pub returns-then-saturating_add-size-clause-fed : goal.returns-then-saturating_add-size-clause-fed
returns-then-saturating_add-size-clause-fed c = λ start octets is_before below fed widths lengths.
    let layout = c.args.layout.now in
    record {
      short = omega (arith, length-append octets c.args.piece.now, is_before);
      reads = subst (λ (os : List ℕ). WasFed ReferencesTook no_marks (plain_groups layout.reference_bits layout.groups) start.references os c.push-references.result) (part_more 0 (reference_octets layout) 0 c.octets_of-size.result octets c.args.piece.now c.part_of.result.now refl c.octets_of-size.ensures.octets (c.part_of.ensures.part octets is_before))
          (c.push-references.ensures.fed no_marks (plain_groups layout.reference_bits layout.groups) start.references (part 0 (reference_octets layout) octets) fed);
      widths_wait = widths;
      lengths_wait = lengths;
    }

pub returns-clause-fed : goal.returns-clause-fed
returns-clause-fed c = λ start octets is_before below fed widths lengths.
    let layout = c.args.layout.now in
    let n = layout.groups in
    let size = reference_octets layout in
    let all = octets ++ c.args.piece.now in
    let long = length-append octets c.args.piece.now in
    let came : size ≤ length all = omega (arith, long, is_before, c.octets_of-size.ensures.octets) in
    let pushed = subst (λ (os : List ℕ). WasFed ReferencesTook no_marks (plain_groups layout.reference_bits n) start.references os c.push-references.result) (part_more 0 (reference_octets layout) 0 c.octets_of-size.result octets c.args.piece.now c.part_of.result.now refl c.octets_of-size.ensures.octets (c.part_of.ensures.part octets is_before))
    (c.push-references.ensures.fed no_marks (plain_groups layout.reference_bits n) start.references (part 0 size octets) fed) in
    let took = subst (λ (cs : List Code). ReferencesTook start.references cs c.finish.result) (part_codes 0 size layout.reference_bits n all (omega arith) (omega arith))
    (c.finish.ensures.took no_marks (plain_groups layout.reference_bits n) start.references (part 0 size all) pushed (part_enough 0 size layout.reference_bits n all (omega arith) (omega arith))) in
    let fresh = subst (λ (os : List ℕ). WasFed WidthsTook no_marks (plain_groups layout.width_bits n) c.args.widths os c.list-widths.result) (sym (part_none size (width_octets layout) octets below)) c.list-widths.ensures.fed in
    c.push_widths.ensures.fed start octets is_before (omega arith) (record { came = came; took = took })
    (subst (λ w. WasFed WidthsTook no_marks (plain_groups layout.width_bits n) w (part size (width_octets layout) octets) c.list-widths.result) widths fresh)
    lengths

pub finish-requires-clause-room : goal.finish-requires-clause-room
finish-requires-clause-room c = c.push-references.ensures.room 0 c.requires.room

pub returns-then-saturating_add-size-clause-feedable : goal.returns-then-saturating_add-size-clause-feedable
returns-then-saturating_add-size-clause-feedable c = record { groups = c.requires.groups; list = (c.push-references.ensures.feedable, c.push-references.ensures.room 0 c.requires.room, c.requires.widths, c.requires.lengths) }
