use Rattle.grib_base.specs.declared.profile.Profile.TheVariants.{Open}
use Rattle.grib2_message.proofs.Ahead.{ahead_passes, counting_start, counting_next, counting_end}
use Rattle.grib2_message.proofs.Parted.{message_least, message_most}
use Rattle.grib2_message.proofs.assembling.assembled_length.Goals as goal

pub new-frame-requires-clause-shortest : goal.new-frame-requires-clause-shortest
new-frame-requires-clause-shortest c = message_least Open c.args.octets.now c.requires.message

pub new-frame-requires-clause-longest : goal.new-frame-requires-clause-longest
new-frame-requires-clause-longest c = message_most Open c.args.octets.now c.requires.message

pub loop-section-init : goal.loop-section-init
loop-section-init c = counting_start Open c.args.octets.now c.args.packed.now c.new-frame.result c.requires.message c.new-frame.ensures c.requires.short

pub next_section-requires : goal.next_section-requires
next_section-requires c fault e = ahead_passes Open c.args.octets.now c.loop-section.frame c.loop-section.invariant.left fault c.loop-section.invariant.ahead e

pub loop-section-preserved : goal.loop-section-preserved
loop-section-preserved c =
    let told = c.in-Some.ensures in
    let section = c.in-Some.section in
    counting_next Open c.args.octets.now c.args.packed.now c.loop-section.frame c.next_section.new.frame section.start section.number section.octets.now
    c.loop-section.parts.now c.parts_after-parts.result.now told.0 section.itself told.1 told.2 c.parts_after-parts.ensures
    c.loop-section.total c.in_place.result.now c.loop-section.invariant c.in_place.ensures

pub returns : goal.returns
returns c =
    counting_end Open c.args.octets.now c.args.packed.now c.loop-section.frame c.loop-section.parts.now c.loop-section.total c.loop-section.invariant c.in_default.ensures
