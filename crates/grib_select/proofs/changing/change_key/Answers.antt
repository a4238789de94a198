use Rattle.std.proofs.Common.{◌≡◌, ℕ, ◌-◌, ◌^◌, ◌<◌, ◌++◌, Option, Some, None, unwrap_or, List, length, take, drop, sym, ap, ◌∙◌, subst, arith}
use Rattle.std.specs.Prelude.{IfSome}
use Rattle.grib_bits.specs.Encoding.{octets_of}
use Rattle.grib_select.specs.Values.{HasKeys}
use Rattle.grib_select.specs.Changed.{key_octets, new_number, with_key}
use Rattle.grib_select.proofs.Changes.{key_alike, ready, ready_stays, ready_keys}
use Rattle.grib_select.proofs.Numbers.{some_octets}
use Rattle.grib_select.proofs.Sections.{put_is}
use Rattle.grib_select.proofs.changing.change_key.Goals as goal

fits : (o : Option ℕ) (n : ℕ) → IfSome o (λ raw. raw < 256 ^ n) → unwrap_or o 0 < 256 ^ n
fits None n h = omega (arith, some_octets n)
fits (Some raw) n h = h

pub place_in-requires : goal.place_in-requires
place_in-requires c = subst (λ (n : ℕ). HasKeys n c.args.section.now) (sym (sym c.row.ensures.section ∙ c.if-row-number.false)) c.requires.keys

pub write_uint-requires-clause-fits : goal.write_uint-requires-clause-fits
write_uint-requires-clause-fits c =
    subst (λ (n : ℕ). c.unwrap_or-raw.result < 256 ^ n) (sym (c.count.ensures ∙ c.in-Some.ensures.size))
    (subst (λ (raw : ℕ). raw < 256 ^ key_octets c.args.change.now.key) (sym c.unwrap_or-raw.ensures)
    (fits c.new_number.result (key_octets c.args.change.now.key) c.new_number.ensures.fits))

pub returns-clause-changed : goal.returns-clause-changed
returns-clause-changed c =
    let p = c.in-Some.place in
    let s = c.args.section.now in
    let raw_number = unwrap_or (new_number c.args.change.now) 0 in
    let raw = c.unwrap_or-raw.ensures ∙ ap (λ (o : Option ℕ). unwrap_or o 0) c.new_number.ensures.number in
    put_is c.args.change.now c.args.number c.args.section.now p c.write_uint.new.buf
    (sym c.row.ensures.section ∙ c.if-row-number.false) c.in-Some.ensures.place
    c.in-Some.ensures.within
    (subst (λ (k : ℕ). c.write_uint.new.buf ≡ octets_of k raw_number ++ drop k (take (length s - (p.first - 1)) (drop (p.first - 1) s))) c.count.ensures
    (subst (λ (n : ℕ). c.write_uint.new.buf ≡ octets_of c.count.result n ++ drop c.count.result (take (length s - (p.first - 1)) (drop (p.first - 1) s))) raw c.write_uint.ensures))

pub returns-clause-keys : goal.returns-clause-keys
returns-clause-keys c =
    let s = c.args.section.now in
    let n = c.args.number in
    let r = ready n s c.requires.keys in
    subst (λ (t : List ℕ). HasKeys n t) (sym (returns-clause-changed c))
    (ready_keys n (with_key c.args.change.now n s) (ready_stays n s (with_key c.args.change.now n s) (key_alike n s c.args.change.now r c.requires.settable) r))
