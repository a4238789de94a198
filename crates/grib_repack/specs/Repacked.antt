-- What repacking writes: the message with Sections 5, 6 and 7 of each field written anew (WMO-No. 306,
-- Volume I.2, FM 92 GRIB edition 2). They rest on the column of the field and on octet 21 of its Section 5,
-- the type of the original values, alone. All other octets but the total length stay.
use Rattle.std.specs.Prelude.{◌≡◌, ℕ, ◌<◌, cond, Option, Some, None, List, [], ◌∷◌, length, map, nat_lt, option_map, All}
use Rattle.std.specs.List.{range_with_len}
use Rattle.grib_base.specs.declared.profile.Profile.{Profile}
use Rattle.grib_base.specs.declared.profile.Profile.TheVariants.{Stated, Open}
use Rattle.grib_bits.specs.Octets.{octets}
use Rattle.grib_base.specs.Rules.{or_later, first_among}
use Rattle.grib_packing.specs.Misfits as packing
use Rattle.grib_packing.specs.Misfits.{Target, ToSimple, ToComplex, ToSpatial, ToCoded, Misfit, first_misfit}
use Rattle.grib_packing.specs.declared.written.Packed.{Packed}
use Rattle.grib_packing.specs.Written.{IsTarget}
use Rattle.grib_packed.specs.Written.{packed}
use Rattle.grib2_message.specs.Fields.{field_count, part_octets, column_of}
use Rattle.grib2_message.specs.Message.{IsMessageUnder, IsReadable}
use Rattle.grib2_message.specs.Assembled.{assembled}

-- the type of the original values of field i (code table 5.1)
abbrev pub kind_of : List ℕ → ℕ → ℕ
kind_of message i = octets (part_octets message i 5) 21 21

-- Sections 5, 6 and 7 of field i
abbrev pub packed_field : Target → List ℕ → ℕ → Packed
packed_field target message i = packed target (column_of message i) (kind_of message i)

-- Sections 5, 6 and 7 of each field; fields count from 1
abbrev pub packed_fields : Target → List ℕ → List Packed
packed_fields target message = map (packed_field target message) (range_with_len 1 (field_count message))

abbrev pub repacked : Target → List ℕ → List ℕ
repacked target message = assembled message (packed_fields target message)

-- why a message is not repacked: by a field, and a point of it, or by the length that it would have
pub data RepackMisfit : Type 0 where
  SecondaryMissing : ℕ → ℕ → RepackMisfit
  OutOfRange : ℕ → ℕ → RepackMisfit
  DifferenceRange : ℕ → RepackMisfit
  OutputTooLong : ℕ → RepackMisfit

-- the misfit of a column, as one of field i
abbrev pub in_field : ℕ → Misfit → RepackMisfit
in_field i (packing.SecondaryMissing point) = SecondaryMissing i point
in_field i (packing.OutOfRange point) = OutOfRange i point
in_field i packing.DifferenceRange = DifferenceRange i

abbrev pub field_misfit : Target → List ℕ → ℕ → Option RepackMisfit
field_misfit target message i = option_map (in_field i) (first_misfit target (column_of message i).points)

-- a message has 268,435,456 octets at most
abbrev pub length_misfit : ℕ → Option RepackMisfit
length_misfit l = cond (nat_lt 268435456 l) (Some (OutputTooLong l)) None

-- the first misfit: that of a field, else that of the whole
abbrev pub repack_misfit : Target → List ℕ → Option RepackMisfit
repack_misfit target message =
    or_later (first_among (field_misfit target message) (field_count message) 1)
    (λ _. length_misfit (length (repacked target message)))

-- whether a profile has the packing of a target: the stated one has no CCSDS packing
abbrev pub HasPacking : Profile → Target → Type 0
HasPacking Open target = Unit {0}
HasPacking Stated ToSimple = Unit {0}
HasPacking Stated ToComplex = Unit {0}
HasPacking Stated (ToSpatial order) = Unit {0}
HasPacking Stated (ToCoded block interval) = ⊥

-- a message that a profile accepts, whose values can be read and of which nothing fails to fit a packing that the
-- profile has
pub record MayBeRepacked (profile : Profile) (target : Target) (message : List ℕ) : Type 0 where
  pub accepted : IsMessageUnder profile message
  pub readable : IsReadable message
  pub are_octets : All (λ octet. octet < 256) message
  pub target_stands : IsTarget target
  pub packing : HasPacking profile target
  pub fits : repack_misfit target message ≡ None
