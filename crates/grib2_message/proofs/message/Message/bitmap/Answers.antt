use Rattle.std.proofs.Common.{◌≡◌, ℕ, List, sym, subst}
use Rattle.grib2_message.specs.Fields.{field_sections, field_bitmap, field_bitmap_start}
use Rattle.grib2_message.specs.Kept.{IsField}
use Rattle.grib2_message.proofs.message.Message.bitmap.Goals as goal

pub own_bitmap-requires : goal.own_bitmap-requires
own_bitmap-requires c =
    let m = c.self.inside.octets.now in
    let i = c.args.field in
    (field_sections m i, subst (λ (x : List ℕ). IsField x (field_sections x i) c.places.result.now) (sym c.self.view_is) c.places.ensures.kept)

pub returns-clause-octets : goal.returns-clause-octets
returns-clause-octets c =
    let m = c.self.inside.octets.now in
    let i = c.args.field in
    let kept = subst (λ (x : List ℕ). IsField x (field_sections x i) c.places.result.now) (sym c.self.view_is) c.places.ensures.kept in
    subst (λ (x : List ℕ). c.own_bitmap.result.octets.now ≡ field_bitmap x i) c.self.view_is (c.own_bitmap.ensures.octets (field_sections m i) kept)

pub returns-clause-start : goal.returns-clause-start
returns-clause-start c =
    let m = c.self.inside.octets.now in
    let i = c.args.field in
    let kept = subst (λ (x : List ℕ). IsField x (field_sections x i) c.places.result.now) (sym c.self.view_is) c.places.ensures.kept in
    subst (λ (x : List ℕ). c.own_bitmap.result.start ≡ field_bitmap_start x i) c.self.view_is (c.own_bitmap.ensures.start (field_sections m i) kept)
