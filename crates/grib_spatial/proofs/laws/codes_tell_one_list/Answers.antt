use Rattle.std.proofs.Common.{inl, inr, sym, ◌∙◌}
use Rattle.grib_spatial.proofs.Undone.{undone-first, undone-second}
use Rattle.grib_spatial.proofs.Told.{told_1, told_2, only_1, only_2}
use Rattle.grib_spatial.proofs.laws.codes_tell_one_list.Goals as goal

pub returns-clause-is_told : goal.returns-clause-is_told
returns-clause-is_told c d codes (inl one) = rw (undone-first d codes one) (rw one (told_1 d.first d.second d.minimum codes))
returns-clause-is_told c d codes (inr two) = rw (undone-second d codes two) (rw two (told_2 d.first d.second d.minimum codes))

pub returns-clause-the_only_one : goal.returns-clause-the_only_one
returns-clause-the_only_one c d codes xs (inl one) h =
    only_1 d.first d.second d.minimum codes xs (rw one at h) ∙ sym (undone-first d codes one)
returns-clause-the_only_one c d codes xs (inr two) h =
    only_2 d.first d.second d.minimum codes xs (rw two at h) ∙ sym (undone-second d codes two)
