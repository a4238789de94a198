use Rattle.std.proofs.Common.{ℕ, ap, ◌∙◌}
use Rattle.grib_bits.specs.Octets.{octets}
use Rattle.grib_packing.specs.Misfits.{ToSimple}
use Rattle.grib_packed.specs.Written.{packed}
use Rattle.grib_synthetic.specs.Points.{made_column}
use Rattle.grib_synthetic.specs.Made.{MayBeMade, made}
use Rattle.grib_synthetic.proofs.Accepted.{Parts, is_message, one_field, its_column, its_packing}
use Rattle.grib_synthetic.proofs.Parts.{made_parts, made_is, parts_packed}
use Rattle.grib_synthetic.proofs.laws.what_is_made_is_accepted.Goals as goal

pub returns : goal.returns
returns c =
    let parts : (seed ni nj : ℕ) → MayBeMade seed ni nj
    → let p = packed ToSimple (made_column seed ni nj) 0 in Parts ni nj (made_column seed ni nj) p.section5 p.section6 p.section7 =
    λ seed ni nj may. made_parts seed ni nj may c.what_is_packed_simply_reads_back.ensures in
    record {
      accepted = λ seed ni nj may.
          let p = packed ToSimple (made_column seed ni nj) 0 in
          is_message seed ni nj (made_column seed ni nj) p.section5 p.section6 p.section7 may (parts seed ni nj may) (made seed ni nj) (made_is seed ni nj);
      one_field = λ seed ni nj may.
          let p = packed ToSimple (made_column seed ni nj) 0 in
          one_field seed ni nj (made_column seed ni nj) p.section5 p.section6 p.section7 may (parts seed ni nj may) (made seed ni nj) (made_is seed ni nj);
      its_column = λ seed ni nj may.
          let p = packed ToSimple (made_column seed ni nj) 0 in
          its_column seed ni nj (made_column seed ni nj) p.section5 p.section6 p.section7 may (parts seed ni nj may) (made seed ni nj) (made_is seed ni nj);
      its_kind = λ seed ni nj may.
          let p = packed ToSimple (made_column seed ni nj) 0 in
          let packing = parts_packed seed ni nj may in
          ap (λ s. octets s 21 21)
          (its_packing seed ni nj (made_column seed ni nj) p.section5 p.section6 p.section7 may (parts seed ni nj may) (made seed ni nj) (made_is seed ni nj))
          ∙ packing.numbers.kind_stands;
    }
