use Rattle.std.proofs.Common.{None, Some, ap, sym, ◌∙◌, lit<, w32}
use Rattle.std.proofs.lemmas.Int.{to_z_pos}
use Rattle.std.proofs.lemmas.Str.Pattern.{strip_prefix_char}
use Rattle.grib_numbers.proofs.Signed.{without_sign}
use Rattle.grib_numbers.proofs.degrees.degrees_of.Goals as goal

pub returns-in_err-magnitude_of-in-None : goal.returns-in_err-magnitude_of-in-None
returns-in_err-magnitude_of-in-None c =
    let text = c.args.text.now in
    c.from_residual-in_err-magnitude_of-in-None.ensures
    ∙ without_sign text None (strip_prefix_char 45 text None c.in-None.ensures.cases (lit< tt)) (sym c.magnitude_of-in-None.ensures.value ∙ c.in_err-magnitude_of-in-None.was)

pub returns-in_ok-magnitude_of-in-None : goal.returns-in_ok-magnitude_of-in-None
returns-in_ok-magnitude_of-in-None c =
    let text = c.args.text.now in
    let magnitude = c.in_ok-magnitude_of-in-None.field-0 in
    ap Some (to_z_pos w32 magnitude (c.in_ok-magnitude_of-in-None.ensures.few))
    ∙ without_sign text (Some magnitude) (strip_prefix_char 45 text None c.in-None.ensures.cases (lit< tt)) (sym c.magnitude_of-in-None.ensures.value ∙ c.in_ok-magnitude_of-in-None.was)
