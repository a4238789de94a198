use Rattle.std.proofs.Common.{refl}
use Rattle.grib_base.specs.declared.profile.Profile.TheVariants.{Open}
use Rattle.grib2_message.proofs.Ahead.{ahead_passes, copying_start, copying_here, copying_next, copying_end}
use Rattle.grib2_message.proofs.Parted.{message_least, message_most}
use Rattle.grib2_message.proofs.assembling.put_sections.Goals as goal

pub new-frame-requires-clause-shortest : goal.new-frame-requires-clause-shortest
new-frame-requires-clause-shortest g c = message_least Open c.args.octets.now c.requires.message

pub new-frame-requires-clause-longest : goal.new-frame-requires-clause-longest
new-frame-requires-clause-longest g c = message_most Open c.args.octets.now c.requires.message

pub loop-section-init : goal.loop-section-init
loop-section-init g c =
    copying_start Open (g.G.NewGrid.becomes c.args.grid.now) (g.G.NewGrid.takes c.args.grid.now) c.args.octets.now c.args.packed.now c.new-frame.result c.args.out.now.items
    c.requires.message c.requires.grids c.new-frame.ensures

pub next_section-requires : goal.next_section-requires
next_section-requires g c fault e = ahead_passes Open c.args.octets.now c.loop-section.frame c.loop-section.invariant.left fault c.loop-section.invariant.ahead e

pub put_section-requires : goal.put_section-requires
put_section-requires g c three =
    let told = c.in-Some.ensures in
    let section = c.in-Some.section in
    copying_here Open c.args.octets.now c.args.packed.now c.loop-section.frame c.next_section.new.frame section.start section.number section.octets.now
    c.loop-section.parts.now _ told.0 section.itself told.1 told.2 refl
    (g.G.NewGrid.becomes c.args.grid.now) (g.G.NewGrid.takes c.args.grid.now) c.args.out.now.items c.loop-section.out.items c.loop-section.invariant three

pub loop-section-preserved : goal.loop-section-preserved
loop-section-preserved g c =
    let told = c.in-Some.ensures in
    let section = c.in-Some.section in
    copying_next Open c.args.octets.now c.args.packed.now c.loop-section.frame c.next_section.new.frame section.start section.number section.octets.now
    c.loop-section.parts.now c.parts_after-parts.result.now told.0 section.itself told.1 told.2 c.parts_after-parts.ensures
    (g.G.NewGrid.becomes c.args.grid.now) (g.G.NewGrid.takes c.args.grid.now)
    c.args.out.now.items c.loop-section.out.items _ c.loop-section.invariant c.in_ok-put_section.ensures

pub returns : goal.returns
returns g c =
    copying_end Open (g.G.NewGrid.becomes c.args.grid.now) (g.G.NewGrid.takes c.args.grid.now) c.args.octets.now c.args.packed.now c.loop-section.frame c.loop-section.parts.now
    c.args.out.now.items c.loop-section.out.items c.loop-section.invariant c.in_default.ensures
