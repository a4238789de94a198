use Rattle.std.proofs.Common.{List, length, ap, ◌∙◌, arith}
use Rattle.std.proofs.lemmas.List.FromFn.{length-map-range_with_len}
use Rattle.grib_packing.specs.declared.written.Packed.{Packed}
use Rattle.grib_base.specs.declared.profile.Profile.TheVariants.{Open}
use Rattle.grib2_message.specs.Fields.{field_count}
use Rattle.grib2_message.specs.Assembled.{assembled}
use Rattle.grib2_message.proofs.Parted.{message_most}
use Rattle.grib_least.specs.Least.{least_form}
use Rattle.grib_least.proofs.Tried.{long_by}
use Rattle.grib_least.proofs.choosing.repack_least.Goals as goal

pub assemble-requires-clause-one_each : goal.assemble-requires-clause-one_each
assemble-requires-clause-one_each c =
    let m = c.args.message.now in
    let h = rw c.in-Some.is at c.in_ok-forms.ensures in
    ap length (c.deref.ensures.value ∙ h.0) ∙ length-map-range_with_len (least_form c.args.profile m) 1 (field_count m)

pub unreachable-requires : goal.unreachable-requires
unreachable-requires c =
    let m = c.args.message.now in
    let h = rw c.in-Some.is at c.in_ok-forms.ensures in
    let same = ap (λ (parts : List Packed). length (assembled m parts)) (c.deref.ensures.value ∙ h.0) in
    let fault = c.in-Err-TooLong in
    omega (
      arith,
      same,
      h.2,
      message_most Open m c.octets-octets.ensures.message,
      long_by (length (assembled m c.deref.result.now)) fault.field-0-0 fault.field-0 fault.field-0-is fault.ensures,
    )
