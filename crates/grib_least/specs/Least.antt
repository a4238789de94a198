-- What a message is in the fewest octets: each field in the one of its forms that takes the fewest octets in
-- Sections 5, 6 and 7 (WMO-No. 306, Volume I.2, FM 92 GRIB edition 2, code table 5.0), of the packings that a profile
-- has. All other octets but the total length stay.
use Rattle.std.specs.Prelude.{ℕ, ◌+◌, cond, Option, Some, None, List, [], ◌∷◌, length, map, nat_lt}
use Rattle.std.specs.List.{range_with_len, filter_map}
use Rattle.grib_base.specs.declared.profile.Profile.{Profile}
use Rattle.grib_base.specs.declared.profile.Profile.TheVariants.{Stated, Open}
use Rattle.grib_packing.specs.Misfits.{Target, ToSimple, ToComplex, ToSpatial, ToCoded, Misfit, first_misfit}
use Rattle.grib_packing.specs.declared.column.Column.{Column}
use Rattle.grib_packing.specs.declared.written.Packed.{Packed}
use Rattle.grib_packed.specs.Written.{packed}
use Rattle.grib2_message.specs.Fields.{field_count, part_octets, field_bitmap, column_of}
use Rattle.grib2_message.specs.Assembled.{assembled}
use Rattle.grib_repack.specs.Repacked.{kind_of}

-- The Sections 5, 6 and 7 that field i has. In place of a Section 6 that repeats an earlier bitmap (indicator
-- 254 of code table 6.0) stands the one with the bits.
abbrev pub own_form : List ℕ → ℕ → Packed
own_form message i = record {
  section5 = part_octets message i 5;
  section6 = field_bitmap message i;
  section7 = part_octets message i 7;
}

-- The packings that are tried, in this order: those that the profile has. CCSDS packing has blocks of 8, 16, 32 and 64
-- values, and 128 blocks from one reference to the next.
abbrev pub targets : Profile → List Target
targets Stated = ToSimple ∷ ToComplex ∷ ToSpatial 1 ∷ ToSpatial 2 ∷ []
targets Open =
    ToSimple ∷ ToComplex ∷ ToSpatial 1 ∷ ToSpatial 2 ∷ ToCoded 8 128 ∷ ToCoded 16 128 ∷ ToCoded 32 128 ∷ ToCoded 64 128 ∷ []

-- a form counts where nothing fails to fit
abbrev pub unless_misfit : Option Misfit → Packed → Option Packed
unless_misfit (Some misfit) form = None
unless_misfit None form = Some form

-- what packing a column to a target writes; `kind` is the type of the original values (code table 5.1)
abbrev pub form_of : Column → ℕ → Target → Option Packed
form_of column kind target = unless_misfit (first_misfit target column.points) (packed target column kind)

abbrev pub packed_forms : Profile → List ℕ → ℕ → List Packed
packed_forms profile message i = filter_map (form_of (column_of message i) (kind_of message i)) (targets profile)

-- the forms of field i, its own first
abbrev pub forms : Profile → List ℕ → ℕ → List Packed
forms profile message i = own_form message i ∷ packed_forms profile message i

-- how many octets the sections of a form have
abbrev pub size_of : Packed → ℕ
size_of form = length form.section5 + length form.section6 + length form.section7

-- a later form stands for an earlier one only where it has fewer octets
abbrev pub smaller : Packed → Packed → Packed
smaller best form = cond (nat_lt (size_of form) (size_of best)) form best

-- the first of the smallest of a form and those after it
abbrev pub smallest : Packed → List Packed → Packed
smallest best [] = best
smallest best (form ∷ later) = smallest (smaller best form) later

-- the form in which field i is written
abbrev pub least_form : Profile → List ℕ → ℕ → Packed
least_form profile message i = smallest (own_form message i) (packed_forms profile message i)

-- fields count from 1
abbrev pub least_forms : Profile → List ℕ → List Packed
least_forms profile message = map (least_form profile message) (range_with_len 1 (field_count message))

-- the shorter of a message and another; where they are as long, the message
abbrev pub shorter : List ℕ → List ℕ → List ℕ
shorter message other = cond (nat_lt (length other) (length message)) other message

-- the message with these forms, where it is shorter than the message itself
abbrev pub least : Profile → List ℕ → List ℕ
least profile message = shorter message (assembled message (least_forms profile message))
