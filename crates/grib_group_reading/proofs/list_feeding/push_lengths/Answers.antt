use Rattle.std.proofs.Common.{◌≡◌, ℕ, ◌+◌, ◌-◌, ◌++◌, List, sym, ap₂, subst}
use Rattle.grib_packing.specs.Groups.{reference_octets, width_octets, length_octets}
use Rattle.grib_group_reading.specs.Lists.{LengthsTook}
use Rattle.grib_group_reading.specs.Feeding.{part, no_marks, plain_groups, WasFed}
use Rattle.grib_group_reading.proofs.list_feeding.push_lengths.Goals as goal

pub returns-clause-fed : goal.returns-clause-fed
returns-clause-fed c = λ start octets is_before references widths fed.
    let layout = c.args.layout.now in
    let piece = c.args.piece.now in
    let n = layout.groups in
    let from = reference_octets layout + width_octets layout in
    let size = length_octets layout in
    let is_from : c.octets_of-first.result + c.octets_of-second.result ≡ from = ap₂ ◌+◌ c.octets_of-first.ensures.octets c.octets_of-second.ensures.octets in
    let here : part from size octets ++ c.part_of-part.result.now ≡ part from size (octets ++ piece) =
    subst (λ (f : ℕ). part f size octets ++ c.part_of-part.result.now ≡ part f size (octets ++ piece)) is_from
    (subst (λ (k : ℕ). part (c.octets_of-first.result + c.octets_of-second.result) k octets ++ c.part_of-part.result.now ≡ part (c.octets_of-first.result + c.octets_of-second.result) k (octets ++ piece)) c.octets_of-size.ensures.octets (sym (c.part_of-part.ensures.part octets is_before))) in
    record {
      references_are = references;
      widths_are = widths;
      reads = subst (λ (os : List ℕ). WasFed LengthsTook no_marks (plain_groups layout.length_bits (n - 1)) start.lengths os c.push.result) here
          (c.push.ensures.fed no_marks (plain_groups layout.length_bits (n - 1)) start.lengths (part from size octets) fed);
    }

pub returns-clause-feedable : goal.returns-clause-feedable
returns-clause-feedable c = record { groups = c.requires.groups; list = (c.push.ensures.feedable, c.push.ensures.room 1 c.requires.room) }
