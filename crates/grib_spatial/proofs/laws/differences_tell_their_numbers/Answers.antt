use Rattle.std.proofs.Common.{ℕ, sym, ◌∙◌, subst, inl, inr}
use Rattle.grib_packing.specs.Differences.{Differenced, descriptors_of, difference_codes}
use Rattle.grib_spatial.proofs.Again.{told_of}
use Rattle.grib_spatial.proofs.Undone.{undone-first, undone-second}
use Rattle.grib_spatial.proofs.Told.{only_1, only_2}
use Rattle.grib_spatial.proofs.laws.differences_tell_their_numbers.Goals as goal

pub returns : goal.returns
returns c order xs (inl one) =
    let d = descriptors_of order xs in
    let codes = difference_codes order xs in
    let P : ℕ → Type 0 = λ n. Differenced n d.first d.second d.minimum codes xs in
    undone-first d codes one ∙ sym (only_1 d.first d.second d.minimum codes xs (subst P one (told_of order xs (inl one))))
returns c order xs (inr two) =
    let d = descriptors_of order xs in
    let codes = difference_codes order xs in
    let P : ℕ → Type 0 = λ n. Differenced n d.first d.second d.minimum codes xs in
    undone-second d codes two ∙ sym (only_2 d.first d.second d.minimum codes xs (subst P two (told_of order xs (inr two))))
