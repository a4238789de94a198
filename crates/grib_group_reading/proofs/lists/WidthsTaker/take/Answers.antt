use Rattle.std.proofs.Common.{◌≡◌, ℕ, ◌+◌, ◌∷◌, [], ◌++◌, length, min, ltb, refl, ap, ap₂, ◌∙◌, subst}
use Rattle.std.proofs.lemmas.List.{length_push}
use Rattle.grib_group_reading.specs.Taking.{number_of}
use Rattle.grib_group_reading.specs.Lists.{WidthsAre, noted_first}
use Rattle.grib_group_reading.proofs.Listing.{width_more}
use Rattle.grib_group_reading.proofs.lists.WidthsTaker.take.Goals as goal

pub returns : goal.returns
returns c = record {
  reference = refl;
  capacity = c.push_within.ensures.capacity;
  long = λ room. ap length c.push_within.ensures.items ∙ length_push c.args.self.items.items c.min.result;
  read = λ read room are.
      let before = c.args.self in
      let sum = c.from.result + c.number.result in
      let after = record before { items = c.push_within.new.items; too_wide = c.first_noted-self.result } in
      let here : c.push_within.new.items.items ≡ before.items.items ++ min sum 32 ∷ [] = c.push_within.ensures.items ∙ ap (λ (n : ℕ). before.items.items ++ n ∷ []) c.min.ensures in
      let place : c.first_noted-self.result ≡ noted_first before.too_wide (ltb 32 sum) (length before.items.items + 1) =
      c.first_noted-self.ensures ∙ ap (λ (n : ℕ). noted_first before.too_wide (ltb 32 sum) (n + 1)) (c.len.ensures ∙ before.items.ok.0) in
      let width : c.from.result + c.number.result ≡ before.reference + number_of c.args.code = ap₂ ◌+◌ c.from.ensures c.number.ensures in
      subst (λ (n : ℕ). WidthsAre after (read ++ n ∷ [])) width (width_more before after read sum are here place);
}
