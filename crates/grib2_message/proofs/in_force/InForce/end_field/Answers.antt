use Rattle.std.proofs.Common.{refl, arith}
use Rattle.grib2_message.proofs.After.{force_ended}
use Rattle.grib2_message.proofs.in_force.InForce.end_field.Goals as goal

-- there are few fields
pub overflow_add-self : goal.overflow_add-self
overflow_add-self c =
    let h = c.requires.few.1 in
    omega (arith, h.fields, h.sound.counted, h.sound.few)

pub returns-clause-force : goal.returns-clause-force
returns-clause-force c = λ before s h seven follows accepted. force_ended before s 7 seven follows c.args.self.now h accepted refl _ refl
