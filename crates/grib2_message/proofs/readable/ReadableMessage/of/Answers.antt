use Rattle.std.proofs.Common.{◌≡◌, ◌+◌, ◌-◌, ◌<◌, ℕ, List, length, true, false, inl, inr, refl, sym, ap, ◌∙◌, arith}
use Rattle.std.proofs.lemmas.Bool.{cases_lt}
use Rattle.grib_base.specs.declared.profile.Profile.TheVariants.{Open}
use Rattle.grib2_grids.specs.Grid.{grid_points}
use Rattle.grib_packing.specs.Entries.{is_opaque_packing}
use Rattle.grib_packing.specs.Packing.{packing_template}
use Rattle.grib_packing.proofs.OpaquePackings.{passes_under}
use Rattle.grib2_message.specs.Fields.{field_count, part_octets}
use Rattle.grib2_message.specs.Message.{IsReadable}
use Rattle.grib2_message.proofs.FirstOpaque.{opaque_first, opaque_none}
use Rattle.grib2_message.proofs.readable.ReadableMessage.of.Goals as goal

-- where the packings of n fields are stated ones, each has values
all_read : (message : List ℕ) (n : ℕ) → n ≡ field_count message → ((j : ℕ) → j < n → is_opaque_packing (part_octets message (j + 1) 5) ≡ false) → IsReadable message
all_read message n all stated i low high =
    let at : i - 1 + 1 ≡ i = omega (arith, low) in
    ap (λ (k : ℕ). is_opaque_packing (part_octets message k 5)) (sym at) ∙ stated (i - 1) (omega (arith, low, high, all))

pub is_opaque-requires : goal.is_opaque-requires
is_opaque-requires c =
    let m = c.args.message.now in
    let i = c.loop-index.index + 1 in
    omega (arith, ap length c.in-Some.ensures.part.1, (passes_under Open (part_octets m i 5) (grid_points (part_octets m i 3)) c.in-Some.ensures.passes.packing).long)

pub returns-then-is_opaque : goal.returns-then-is_opaque
returns-then-is_opaque c =
    let m = c.args.message.now in
    let d = c.loop-index.index in
    let is = c.in-Some.ensures.part.1 in
    let opaque : is_opaque_packing (part_octets m (d + 1) 5) ≡ true = ap is_opaque_packing (sym is) ∙ sym c.is_opaque.ensures ∙ c.if-is_opaque.true in
    record {
      first = opaque_first m d (omega (arith, c.fields-index-end.ensures.count, c.loop-index-test.true))
          (λ i low high. (
          let at : i - 1 + 1 ≡ i = omega (arith, low) in
          ap (λ (k : ℕ). is_opaque_packing (part_octets m k 5)) (sym at) ∙ c.loop-index.invariant (i - 1) (omega (arith, low, high)))) opaque;
      template = c.u16_at-template.ensures ∙ ap packing_template is;
    }

pub loop-index-preserved : goal.loop-index-preserved
loop-index-preserved c j before =
    let m = c.args.message.now in
    let d = c.loop-index.index in
    let stated : is_opaque_packing (part_octets m (d + 1) 5) ≡ false = ap is_opaque_packing (sym c.in-Some.ensures.part.1) ∙ sym c.is_opaque.ensures ∙ c.if-is_opaque.false in
    elim (cases_lt j d) [
      | inl earlier ↦ c.loop-index.invariant j earlier
      | inr now ↦ (let e : j + 1 ≡ d + 1 = omega (arith, now, before) in ap (λ (k : ℕ). is_opaque_packing (part_octets m k 5)) e ∙ stated)
    ]

pub invariant_of-result : goal.invariant_of-result
invariant_of-result c =
    all_read c.args.message.now c.loop-index.index (omega (arith, c.fields-index-end.ensures.count, c.loop-index-test.false, c.loop-index.auto.index-end)) c.loop-index.invariant

pub returns : goal.returns
returns c =
    let m = c.args.message.now in
    let readable = all_read m c.loop-index.index (omega (arith, c.fields-index-end.ensures.count, c.loop-index-test.false, c.loop-index.auto.index-end)) c.loop-index.invariant in
    (refl, readable, opaque_none m readable)
