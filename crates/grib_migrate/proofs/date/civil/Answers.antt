use Rattle.std.proofs.Common.{◌≡◌, pos, arith, sym, ◌∙◌, w8, w16, to_z}
use Rattle.std.proofs.lemmas.Int.{to_z_pos}
use Rattle.grib_migrate.proofs.Later.{from_date, to_date}
use Rattle.grib_migrate.proofs.date.civil.Goals as goal

pub returns-clause-civil : goal.returns-clause-civil
returns-clause-civil c =
    let m = c.args.moment in
    let ey : to_z w16 m.year ≡ pos m.year = to_z_pos w16 m.year (omega arith) in
    let emo : to_z w8 m.month ≡ pos m.month = to_z_pos w8 m.month (omega arith) in
    let ed : to_z w8 m.day ≡ pos m.day = to_z_pos w8 m.day (omega arith) in
    let eh : to_z w8 m.hour ≡ pos m.hour = to_z_pos w8 m.hour (omega arith) in
    let emi : to_z w8 m.minute ≡ pos m.minute = to_z_pos w8 m.minute (omega arith) in
    let es : to_z w8 m.second ≡ pos m.second = to_z_pos w8 m.second (omega arith) in
    let variant = c.ok.ensures.variant in (
      λ some. from_date m _ _ _ _ _ _ ey emo ed eh emi es (omega arith) (c.new.ensures.succeeds.0 (sym variant ∙ some)),
      λ civil. variant ∙ c.new.ensures.succeeds.1 (to_date m _ _ _ _ _ _ ey emo ed eh emi es civil),
    )
