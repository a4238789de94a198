use Rattle.std.proofs.Common.{string_bytes, sym, ◌∙◌}
use Rattle.grib_words.proofs.Asked.{sides_stand}
use Rattle.grib_words.proofs.crop.has_box.Goals as goal

pub number_by-requires : goal.number_by-requires
number_by-requires c = (sides_stand string_bytes c.args.words.now c.requires (sym c.has_sides.ensures ∙ c.if-not-has_sides.false)).i0

pub number_by-requires-2 : goal.number_by-requires-2
number_by-requires-2 c = (sides_stand string_bytes c.args.words.now c.requires (sym c.has_sides.ensures ∙ c.if-not-has_sides.false)).i1

pub number_by-requires-then-number_by : goal.number_by-requires-then-number_by
number_by-requires-then-number_by c = (sides_stand string_bytes c.args.words.now c.requires (sym c.has_sides.ensures ∙ c.if-not-has_sides.false)).j0

pub number_by-requires-then-number_by-2 : goal.number_by-requires-then-number_by-2
number_by-requires-then-number_by-2 c = (sides_stand string_bytes c.args.words.now c.requires (sym c.has_sides.ensures ∙ c.if-not-has_sides.false)).j1
