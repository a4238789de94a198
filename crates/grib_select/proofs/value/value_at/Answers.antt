use Rattle.std.proofs.Common.{◌≡◌, ℕ, ◌+◌, ◌-◌, ◌*◌, Bool, false, cond, ◌&&◌, pos, refl, sym, ap, ap₂, ◌∙◌, arith, w64, SFits, to_z-of_z}
use Rattle.std.proofs.lemmas.Bool.{and_left, and_right}
use Rattle.grib_bits.specs.Octets.{octets, signed_octets}
use Rattle.grib_bits.specs.Bits.{bits_of, signed}
use Rattle.grib_bits.proofs.OctetNumbers.{AreOctets-known, octets-lt, signed-octets}
use Rattle.grib_bits.proofs.Encoding.{pow_256}
use Rattle.grib_keys.specs.declared.condition.Value.TheVariants.{Number, Missing}
use Rattle.grib_select.specs.Values.{is_all_ones, octet_count}
use Rattle.grib_select.proofs.value.value_at.Goals as goal
use Rattle.grib_select.proofs.value.value_at.Goals.{else-kind-via-then-kind+else-is_all_ones, else-kind-via-else-kind}

pub is_all_ones-requires-clause-fits : goal.is_all_ones-requires-clause-fits
is_all_ones-requires-clause-fits c =
    let p = c.args.place.now in
    let n = c.count-count.result in
    let h = c.requires in
    let lt = octets-lt c.args.section.now p.first (p.first + n - 1) n (AreOctets-known c.args.section.now c.type_inv.section) h.low
    (omega (arith, h.low, h.some, c.count-count.ensures)) (omega (arith, h.low, h.some, h.high, c.count-count.ensures)) in
    omega (arith, c.from.ensures, c.uint_at-raw.ensures, pow_256 n)

pub signed_of-requires-clause-fits : goal.signed_of-requires-clause-fits
signed_of-requires-clause-fits c =
    let p = c.args.place.now in
    let n = c.count-count.result in
    let h = c.requires in
    let lt = octets-lt c.args.section.now p.first (p.first + n - 1) n (AreOctets-known c.args.section.now c.type_inv.section) h.low
    (omega (arith, h.low, h.some, c.count-count.ensures)) (omega (arith, h.low, h.some, h.high, c.count-count.ensures)) in
    omega (arith, c.from-then-kind-2.ensures, c.uint_at-raw.ensures)

pub returns-then-kind-2 : goal.returns-then-kind-2
returns-then-kind-2 c =
    let p = c.args.place.now in
    let s = c.args.section.now in
    let kind = c.args.kind in
    let n = c.count-count.result in
    let h = c.requires in
    let number = octets s p.first p.last in
    let last : p.first + n - 1 ≡ p.last = omega (arith, h.low, h.some, c.count-count.ensures) in
    let read : c.uint_at-raw.result ≡ number = c.uint_at-raw.ensures ∙ ap (octets s p.first) last in
    let raw : c.from-then-kind-2.result ≡ number = c.from-then-kind-2.ensures ∙ read in
    let fits : SFits w64 c.signed_of.result = record { sfits = c.signed_of.type_inv } in
    let value : c.signed_of.result ≡ signed_octets s p.first p.last =
    c.signed_of.ensures ∙ ap (λ (k : ℕ). signed (bits_of (8 * n) k)) raw
    ∙ signed-octets s p.first p.last n (AreOctets-known s c.type_inv.section) h.low (omega (arith, h.low, h.some, c.count-count.ensures)) h.high (8 * n) refl in
    let present : (kind.may_be_missing && is_all_ones (octet_count p) number) ≡ false =
    elim c.else-kind.branch [
      | else-kind-via-then-kind+else-is_all_ones w ↦
          and_right kind.may_be_missing (is_all_ones (octet_count p) number)
          (sym (ap₂ is_all_ones c.count-count.ensures (w.from.ensures ∙ read)) ∙ sym w.is_all_ones.ensures ∙ w.if-is_all_ones.false)
      | else-kind-via-else-kind w ↦ and_left kind.may_be_missing (is_all_ones (octet_count p) number) w.if-kind.false
    ] in
    ap Number (to_z-of_z fits ∙ value)
    ∙ sym (ap₂ (λ (b d : Bool). cond b Missing (Number (cond d (signed_octets s p.first p.last) (pos number)))) present c.if-kind-2.true)
