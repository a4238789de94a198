use Rattle.std.proofs.Common.{◌≡◌, ◌↔◌, IsTrue, IsOk, Err, sym, subst, rules}
use Rattle.std.proofs.lemmas.Bool.{false≢true}
use Rattle.std.specs.Str.{IsUtf8}
use Rattle.grib_decimal.specs.Decimal.{is_too_large, decimal_text as text_of}
use Rattle.grib_decimal.specs.declared.fault.DecimalFault.TheVariants as DecimalFault
use Rattle.grib.specs.Exact.{exact_of}
use Rattle.grib.proofs.Texts.{utf8_unless}
use Rattle.grib.proofs.value.Exact.decimal.Goals as goal

pub unreachable-requires : goal.unreachable-requires
unreachable-requires c =
    let exact = exact_of c.args.self.now in
    let text : c.in_ok-text.text.items ≡ text_of exact c.args.places = search rules in
    let range : (c.decimal_text.result ≡ Err DecimalFault.Range) ↔ IsTrue (is_too_large exact c.args.places) = search rules in
    let read = c.in_ok-text.was in
    let utf8 : IsUtf8 c.in_ok-text.text.items =
    subst IsUtf8 (sym text) (utf8_unless exact c.args.places (λ large. let refused = range.1 large in let never : ⊥ = cc in never)) in
    false≢true (subst IsOk c.in_default.is (c.from_utf8.ensures.succeeds utf8))
