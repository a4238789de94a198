-- The numbers and the names of the reasons for which a message is refused, and the text of a refusal.
use Rattle.std.specs.Prelude.{ℕ, List, ◌++◌, codes}
use Rattle.std.specs.Fmt.{decimal}
use Rattle.grib_base.specs.declared.fault.Fault.{Fault}
use Rattle.grib_base.specs.declared.fault.Reason.{Reason}
use Rattle.grib_base.specs.declared.fault.Reason.TheVariants.{Truncated, Edition, TotalLength, SectionLength, SectionOrder, GridSource, GridTemplate, PointCount, ListShape, ProductTemplate, PackingTemplate, Jpeg2000, PngPacked, Ccsds, ReferenceNotFinite, BitmapIndicator, NoEarlierBitmap, BitmapSize, ValueCount, MissingManagement, GroupCount, GroupWidth, GroupShape, DifferenceOrder, ExtraOctets, FirstValueSign, DataTooShort, ScaledRange, EndMark, LengthDisagrees, BitWidth, FieldCount, NoGridSection, GridType, SecondOrder, Harmonics, ExtraFlags, BlockCode}

abbrev pub number_of : Reason → ℕ
number_of Truncated = 1
number_of Edition = 2
number_of TotalLength = 3
number_of SectionLength = 4
number_of SectionOrder = 5
number_of GridSource = 6
number_of GridTemplate = 7
number_of PointCount = 8
number_of ListShape = 9
number_of ProductTemplate = 10
number_of PackingTemplate = 11
number_of Jpeg2000 = 12
number_of PngPacked = 13
number_of Ccsds = 14
number_of ReferenceNotFinite = 15
number_of BitmapIndicator = 16
number_of NoEarlierBitmap = 17
number_of BitmapSize = 18
number_of ValueCount = 19
number_of MissingManagement = 20
number_of GroupCount = 21
number_of GroupWidth = 22
number_of GroupShape = 23
number_of DifferenceOrder = 24
number_of ExtraOctets = 25
number_of FirstValueSign = 26
number_of DataTooShort = 27
number_of ScaledRange = 28
number_of EndMark = 29
number_of LengthDisagrees = 30
number_of BitWidth = 31
number_of FieldCount = 32
number_of NoGridSection = 33
number_of GridType = 34
number_of SecondOrder = 35
number_of Harmonics = 36
number_of ExtraFlags = 37
number_of BlockCode = 38

abbrev pub name_of : Reason → List ℕ
name_of Truncated = codes "Truncated"
name_of Edition = codes "Edition"
name_of TotalLength = codes "TotalLength"
name_of SectionLength = codes "SectionLength"
name_of SectionOrder = codes "SectionOrder"
name_of GridSource = codes "GridSource"
name_of GridTemplate = codes "GridTemplate"
name_of PointCount = codes "PointCount"
name_of ListShape = codes "ListShape"
name_of ProductTemplate = codes "ProductTemplate"
name_of PackingTemplate = codes "PackingTemplate"
name_of Jpeg2000 = codes "Jpeg2000"
name_of PngPacked = codes "PngPacked"
name_of Ccsds = codes "Ccsds"
name_of ReferenceNotFinite = codes "ReferenceNotFinite"
name_of BitmapIndicator = codes "BitmapIndicator"
name_of NoEarlierBitmap = codes "NoEarlierBitmap"
name_of BitmapSize = codes "BitmapSize"
name_of ValueCount = codes "ValueCount"
name_of MissingManagement = codes "MissingManagement"
name_of GroupCount = codes "GroupCount"
name_of GroupWidth = codes "GroupWidth"
name_of GroupShape = codes "GroupShape"
name_of DifferenceOrder = codes "DifferenceOrder"
name_of ExtraOctets = codes "ExtraOctets"
name_of FirstValueSign = codes "FirstValueSign"
name_of DataTooShort = codes "DataTooShort"
name_of ScaledRange = codes "ScaledRange"
name_of EndMark = codes "EndMark"
name_of LengthDisagrees = codes "LengthDisagrees"
name_of BitWidth = codes "BitWidth"
name_of FieldCount = codes "FieldCount"
name_of NoGridSection = codes "NoGridSection"
name_of GridType = codes "GridType"
name_of SecondOrder = codes "SecondOrder"
name_of Harmonics = codes "Harmonics"
name_of ExtraFlags = codes "ExtraFlags"
name_of BlockCode = codes "BlockCode"

-- the octet that decides a refusal, the reason and its detail
abbrev pub fault_text : Fault → List ℕ
fault_text fault = codes "octet " ++ decimal fault.octet ++ codes " " ++ name_of fault.reason ++ codes " " ++ decimal fault.detail
