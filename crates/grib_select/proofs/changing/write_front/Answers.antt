use Rattle.std.proofs.Common.{◌≡◌, ℕ, ◌≤◌, ◌<◌, List, ◌++◌, length, take, sym, ap, ◌∙◌, subst, arith}
use Rattle.std.proofs.lemmas.List.Elements.{All-from_get_or}
use Rattle.grib_base.specs.declared.profile.Profile.TheVariants.{Open}
use Rattle.grib2_sections.specs.Frame.{Position}
use Rattle.grib2_message.specs.Message.{IsAnyMessage}
use Rattle.grib2_message.proofs.Ahead.{ahead_passes}
use Rattle.grib_select.specs.Changed.{with_changes, IsChangedFront}
use Rattle.grib_select.proofs.Composed.{message_most}
use Rattle.grib_select.proofs.Front.{Written, written_start, written_next, written_within, written_there, keys_here, front_made}
use Rattle.grib_select.proofs.Kept.{can_be_set}
use Rattle.grib_select.proofs.Long.{long_first}
use Rattle.grib_select.proofs.changing.write_front.Goals as goal

pub new-frame-requires-clause-longest : goal.new-frame-requires-clause-longest
new-frame-requires-clause-longest c = omega (arith, c.length.ensures, message_most Open c.args.message.now c.octets-octets.ensures.message)

pub loop-section-init : goal.loop-section-init
loop-section-init c =
    let octets = c.octets-octets.result.now in
    let changes = c.args.changes.now in
    let same : octets ≡ c.args.message.now = c.octets-octets.ensures.octets in
    let message : IsAnyMessage octets = subst (λ (m : List ℕ). IsAnyMessage m) (sym same) c.octets-octets.ensures.message in
    let frame = c.new-frame.ensures ∙ ap (λ (n : ℕ). let at : Position = record { total = n; place = 17; last = 0 } in at) (c.length.ensures ∙ ap length (sym same)) in
    let written = c.in_ok-append_changed.ensures ∙ ap (λ (xs : List ℕ). xs ++ with_changes changes 0 (take 16 octets)) c.in_ok-front.ensures.items in
    subst (Written octets changes c.new-frame.result) (sym written)
    (written_start octets changes c.new-frame.result message (All-from_get_or (λ octet. octet < 256) octets 0 (λ i below. (c.type_inv.octets i).fits)) (can_be_set changes c.requires) frame)

pub next_section-requires : goal.next_section-requires
next_section-requires c fault e = ahead_passes Open c.octets-octets.result.now c.loop-section.frame c.loop-section.invariant.left fault c.loop-section.invariant.ahead e

pub append_section-requires-clause-keys : goal.append_section-requires-clause-keys
append_section-requires-clause-keys c =
    let section = c.in-Some.section in
    keys_here c.octets-octets.result.now c.args.changes.now c.loop-section.frame c.loop-section.front.items section.start section.number section.octets.now
    c.loop-section.invariant c.in-Some.ensures.0 c.in-Some.ensures.1 section.itself

pub append_section-requires-clause-behind : goal.append_section-requires-clause-behind
append_section-requires-clause-behind c = omega (arith, c.in-Some.ensures.1, written_within _ _ _ _ c.loop-section.invariant)

pub append_section-requires-clause-there : goal.append_section-requires-clause-there
append_section-requires-clause-there c = omega (arith, c.in-Some.ensures.1, written_there _ _ _ _ c.loop-section.invariant)

pub loop-section-preserved : goal.loop-section-preserved
loop-section-preserved c =
    let section = c.in-Some.section in
    let told = c.in-Some.ensures in
    written_next c.octets-octets.result.now c.args.changes.now c.loop-section.frame c.next_section.new.frame c.loop-section.front.items c.append_section.new.out.items
    section.start section.number section.octets.now (can_be_set c.args.changes.now c.requires) c.loop-section.invariant told.0 told.1 told.2 section.itself c.in_ok-append_section.ensures

pub append_up_to-requires-clause-there : goal.append_up_to-requires-clause-there
append_up_to-requires-clause-there c =
    let octets = c.octets-octets.result.now in
    let least : 35 ≤ length octets = subst (λ (m : List ℕ). 35 ≤ length m) (sym c.octets-octets.ensures.octets) (long_first Open c.args.message.now c.octets-octets.ensures.message) in
    omega (arith, c.max-end.ensures, c.len.ensures, written_within _ _ _ _ c.loop-section.invariant, written_there _ _ _ _ c.loop-section.invariant)

pub returns : goal.returns
returns c =
    let octets = c.octets-octets.result.now in
    let changes = c.args.changes.now in
    let least : 35 ≤ length octets = subst (λ (m : List ℕ). 35 ≤ length m) (sym c.octets-octets.ensures.octets) (long_first Open c.args.message.now c.octets-octets.ensures.message) in
    subst (λ (m : List ℕ). IsChangedFront m changes c.append_up_to.new.out.items) c.octets-octets.ensures.octets
    (front_made octets changes c.loop-section.frame c.loop-section.front.items c.append_up_to.new.out.items c.max-end.result c.loop-section.invariant c.in_default.ensures
    (omega (arith, c.max-end.ensures, c.len.ensures)) (omega (arith, c.max-end.ensures))
    (omega (arith, c.max-end.ensures, c.len.ensures, written_within _ _ _ _ c.loop-section.invariant, written_there _ _ _ _ c.loop-section.invariant))
    c.in_ok-append_up_to.ensures)
