-- The sections of the packing of what is made.
use Rattle.std.proofs.Common.{◌≡◌, ℕ, ◌+◌, ◌*◌, ◌≤◌, List, length, refl, ap, ◌∙◌, subst, arith}
use Rattle.grib_packing.specs.declared.column.Column.{Column}
use Rattle.grib_packing.specs.declared.column.Point.{Point}
use Rattle.std.specs.Prelude.{None}
use Rattle.grib_packing.specs.Misfits.{ToSimple, first_misfit}
use Rattle.grib_packing.specs.Written.{MayBePacked}
use Rattle.grib_packing.specs.Packed.{IsSimple}
use Rattle.grib_packing.specs.Laws.{UnpackTo}
use Rattle.grib_packing.specs.declared.written.Packed.{Packed}
use Rattle.grib_packed.specs.Written.{HasWords, packed}
use Rattle.grib_packed.proofs.Short.{simple_short}
use Rattle.grib_packed.proofs.Written.{simple_only, simple_written}
use Rattle.grib_synthetic.specs.Points.{made_column, made_points}
use Rattle.grib_packing.specs.Entries.{packing_of}
use Rattle.grib_synthetic.specs.Made.{MayBeMade, made}
use Rattle.grib_synthetic.proofs.Accepted.{Parts, message_of_parts}
use Rattle.grib_synthetic.proofs.Fitting.{made_fits, made_may_be_packed, length-made_points}
use Rattle.grib_synthetic.proofs.OneByOne.{few_points}

pub made_words : (seed ni nj : ℕ) → HasWords (made_column seed ni nj)
made_words seed ni nj = record { reference = omega arith; binary_scale = omega arith; decimal_scale = omega arith }

-- ---- what is packed

-- it has few octets,
parts_few : (seed ni nj : ℕ) → MayBeMade seed ni nj
    → let p = packed ToSimple (made_column seed ni nj) 0 in length p.section5 + length p.section6 + length p.section7 ≤ 11 * length (made_column seed ni nj).points + 300
unfolding packed
parts_few seed ni nj may = simple_short (made_column seed ni nj) 0 (made_may_be_packed seed ni nj may) (made_fits ToSimple seed ni nj)

pub parts_short : (seed ni nj : ℕ) → MayBeMade seed ni nj
    → let p = packed ToSimple (made_column seed ni nj) 0 in length p.section5 + length p.section6 + length p.section7 ≤ 268435000
parts_short seed ni nj may =
    omega (arith, parts_few seed ni nj may, length-made_points seed ni nj, few_points ni nj may.few_columns may.few_rows)

-- and is a packing,
pub parts_packed : (seed ni nj : ℕ) → MayBeMade seed ni nj
    → let p = packed ToSimple (made_column seed ni nj) 0 in IsSimple (made_column seed ni nj) 0 p.section5 p.section6 p.section7
unfolding packed
parts_packed seed ni nj may =
    simple_written (made_column seed ni nj) 0 (made_may_be_packed seed ni nj may) (made_words seed ni nj) (omega arith) (made_fits ToSimple seed ni nj)

-- from which the column reads back where each packing does
abbrev pub ReadsBack : Type 0
ReadsBack = (column : Column) (kind : ℕ) (s5 s6 s7 : List ℕ) → MayBePacked column → first_misfit ToSimple column.points ≡ None
    → IsSimple column kind s5 s6 s7 → UnpackTo column s5 s6 s7

pub made_parts : (seed ni nj : ℕ) → MayBeMade seed ni nj → ReadsBack
    → let p = packed ToSimple (made_column seed ni nj) 0 in Parts ni nj (made_column seed ni nj) p.section5 p.section6 p.section7
made_parts seed ni nj may reads =
    let p = packed ToSimple (made_column seed ni nj) 0 in
    let packing = parts_packed seed ni nj may in
    record {
      long = length-made_points seed ni nj;
      itself_5 = packing.numbers.itself;
      itself_6 = packing.bitmap.itself;
      itself_7 = packing.values.itself;
      stated = ap (λ (t : ℕ). (packing_of t).stated) packing.numbers.template_stands;
      back = reads (made_column seed ni nj) 0 p.section5 p.section6 p.section7 (made_may_be_packed seed ni nj may) (made_fits ToSimple seed ni nj) packing;
      short = parts_short seed ni nj may;
    }

pub made_is : (seed ni nj : ℕ) → let p = packed ToSimple (made_column seed ni nj) 0 in made seed ni nj ≡ message_of_parts ni nj p.section5 p.section6 p.section7
unfolding made
made_is seed ni nj = refl

-- ---- it is the one packing

pub parts_are : (seed ni nj : ℕ) (parts : Packed) → IsSimple (made_column seed ni nj) 0 parts.section5 parts.section6 parts.section7
    → parts ≡ packed ToSimple (made_column seed ni nj) 0
unfolding packed
parts_are seed ni nj parts packing =
    let p = packed ToSimple (made_column seed ni nj) 0 in
    let only = simple_only (made_column seed ni nj) 0 parts.section5 parts.section6 parts.section7 packing in
    let all_5 : parts ≡ record { section5 = p.section5; section6 = parts.section6; section7 = parts.section7 } =
    ap (λ (s : List ℕ). let q : Packed = record { section5 = s; section6 = parts.section6; section7 = parts.section7 } in q) only.0 in
    all_5
    ∙ ap (λ (s : List ℕ). let q : Packed = record { section5 = p.section5; section6 = s; section7 = parts.section7 } in q) only.1
    ∙ ap (λ (s : List ℕ). let q : Packed = record { section5 = p.section5; section6 = p.section6; section7 = s } in q) only.2

-- as it is known where points were made
pub parts_made : (seed ni nj : ℕ) (points : List Point) (parts : Packed) → points ≡ made_points seed ni nj
    → (let column : Column = record { reference = 0xC2ED4000; e = 0x8003; d = 0x0001; points = points } in IsSimple column 0 parts.section5 parts.section6 parts.section7)
    → parts ≡ packed ToSimple (made_column seed ni nj) 0
parts_made seed ni nj points parts is packing =
    parts_are seed ni nj parts
    (subst (λ (xs : List Point). let column : Column = record { reference = 0xC2ED4000; e = 0x8003; d = 0x0001; points = xs } in IsSimple column 0 parts.section5 parts.section6 parts.section7) is packing)
