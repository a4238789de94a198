use Rattle.std.proofs.Common.{◌≡◌, pos, FitsSigned, to_z, of_z, to_z-of_z, ◌∙◌, rules}
use Rattle.std.specs.Int.{w64}
use Rattle.grib_places.proofs.Sums.{product-fits, sum-fits, sum-small}
use Rattle.grib_places.proofs.lines.sum_of.Goals as goal

pub overflow_add-result : goal.overflow_add-result
overflow_add-result c =
    let from : FitsSigned w64 c.from.result = search rules in
    let from' : FitsSigned w64 c.from-2.result = search rules in
    let first : to_z w64 (of_z w64 c.args.first) ≡ c.args.first = to_z-of_z c.ranges.first in
    let way : to_z w64 (of_z w64 c.args.way) ≡ c.args.way = to_z-of_z c.ranges.way in
    let parts : to_z w64 (of_z w64 c.from.result) ≡ pos c.args.parts = to_z-of_z from ∙ c.from.ensures in
    let k : to_z w64 (of_z w64 c.from-2.result) ≡ pos c.args.k = to_z-of_z from' ∙ c.from-2.ensures in
    rw (first, parts, way, k, to_z-of_z (product-fits c.args.first c.args.parts c.requires.first c.requires.parts), to_z-of_z (product-fits c.args.way c.args.k c.requires.way c.requires.k))
    (sum-fits c.args.first c.args.way c.args.parts c.args.k c.requires.first c.requires.way c.requires.parts c.requires.k)

pub returns-clause-value : goal.returns-clause-value
returns-clause-value c =
    let from : FitsSigned w64 c.from.result = search rules in
    let from' : FitsSigned w64 c.from-2.result = search rules in
    let first : to_z w64 (of_z w64 c.args.first) ≡ c.args.first = to_z-of_z c.ranges.first in
    let way : to_z w64 (of_z w64 c.args.way) ≡ c.args.way = to_z-of_z c.ranges.way in
    let parts : to_z w64 (of_z w64 c.from.result) ≡ pos c.args.parts = to_z-of_z from ∙ c.from.ensures in
    let k : to_z w64 (of_z w64 c.from-2.result) ≡ pos c.args.k = to_z-of_z from' ∙ c.from-2.ensures in
    rw (first, parts, way, k, to_z-of_z (product-fits c.args.first c.args.parts c.requires.first c.requires.parts), to_z-of_z (product-fits c.args.way c.args.k c.requires.way c.requires.k))
    (to_z-of_z (sum-fits c.args.first c.args.way c.args.parts c.args.k c.requires.first c.requires.way c.requires.parts c.requires.k))

pub returns-clause-small : goal.returns-clause-small
returns-clause-small c =
    let from : FitsSigned w64 c.from.result = search rules in
    let from' : FitsSigned w64 c.from-2.result = search rules in
    let first : to_z w64 (of_z w64 c.args.first) ≡ c.args.first = to_z-of_z c.ranges.first in
    let way : to_z w64 (of_z w64 c.args.way) ≡ c.args.way = to_z-of_z c.ranges.way in
    let parts : to_z w64 (of_z w64 c.from.result) ≡ pos c.args.parts = to_z-of_z from ∙ c.from.ensures in
    let k : to_z w64 (of_z w64 c.from-2.result) ≡ pos c.args.k = to_z-of_z from' ∙ c.from-2.ensures in
    rw (first, parts, way, k, to_z-of_z (product-fits c.args.first c.args.parts c.requires.first c.requires.parts), to_z-of_z (product-fits c.args.way c.args.k c.requires.way c.requires.k), to_z-of_z (sum-fits c.args.first c.args.way c.args.parts c.args.k c.requires.first c.requires.way c.requires.parts c.requires.k))
    (sum-small c.args.first c.args.way c.args.parts c.args.k c.requires.first c.requires.way c.requires.parts c.requires.k)
