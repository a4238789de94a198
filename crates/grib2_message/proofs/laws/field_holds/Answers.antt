use Rattle.grib_bits.proofs.Listed.{AreOctets-from_All}
use Rattle.grib_base.specs.declared.profile.Profile.TheVariants.{Stated}
use Rattle.grib2_message.proofs.Holding.{field_passes_alone, field_mask_long}
use Rattle.grib2_message.proofs.Opened.{field_read, stated_read}
use Rattle.grib2_message.proofs.FirstOpaque.{none_opaque, opaque_none}
use Rattle.grib2_message.proofs.laws.field_holds.Goals as goal

pub returns-clause-passes : goal.returns-clause-passes
returns-clause-passes c = field_passes_alone

pub returns-clause-reads : goal.returns-clause-reads
returns-clause-reads c profile message i h read low high = field_read profile message i (field_passes_alone profile message i h low high) read

pub returns-clause-stated : goal.returns-clause-stated
returns-clause-stated c message h i low high = stated_read message i (field_passes_alone Stated message i h low high)

pub returns-clause-opaque : goal.returns-clause-opaque
returns-clause-opaque c message = (none_opaque message, opaque_none message)

pub returns-clause-mask : goal.returns-clause-mask
returns-clause-mask c profile message i h octets low high = field_mask_long profile message i h (AreOctets-from_All message octets) low high
