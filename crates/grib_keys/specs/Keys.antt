-- The keys of a field: the names by which a command line speaks of numbers in the sections of a message
-- of edition 2, with the place and the kind of each. Octets of a section count from 1. An opaque section has
-- the keys alone that stand before its template, and an opaque product those too that its template is known to
-- have where template 4.0 has them, or two octets later.
use Rattle.std.specs.Prelude.{ℕ, Bool, true, false, cond, ◌==◌, ◌+◌, Option, Some, None, List, [], ◌∷◌, codes, option_map}
use Rattle.std.specs.List.{find, list_any}
use Rattle.std.specs.Str.{bytes_eq}
use Rattle.grib2_sections.specs.Instant.{instant_shift}
use Rattle.grib_keys.specs.declared.table.Octets.{Octets}
use Rattle.grib_keys.specs.declared.table.Layout.{Layout}
use Rattle.grib_keys.specs.declared.table.Place.{Place}
use Rattle.grib_keys.specs.declared.table.Place.TheVariants.{At, Stated, ScanningMode, FirstPoint, Instant, Ensemble, Interval, FirstRange}
use Rattle.grib_keys.specs.declared.table.Kind.{Kind}
use Rattle.grib_keys.specs.declared.key.Key.{Key}
use Rattle.grib_keys.specs.declared.key.Key.TheVariants.{Discipline, Centre, SubCentre, MasterTables, LocalTables, Significance, Year, Month, Day, Hour, Minute, Second, Status, DataType, EarthShape, Points, GridTemplate, Ni, Nj, Scanning, La1, Lo1, ProductTemplate, Category, Number, Process, Generator, TimeUnit, ForecastTime, Surface1, Surface1Scale, Surface1Value, Surface2, Surface2Scale, Surface2Value, EnsembleType, EnsembleNumber, EnsembleMembers, EndYear, EndMonth, EndDay, EndHour, EndMinute, EndSecond, RangeProcess, RangeIncrementType, RangeUnit, RangeLength, Packing, Bits}

-- the octets from the first to the last
abbrev pub span : ℕ → ℕ → Octets
span first last = record { first = first; last = last }

-- ---- places: the octets of a number by the layout of its section, none where a section of this layout has no such
-- number

-- whether the template is one of these
abbrev pub is_of : List ℕ → ℕ → Bool
is_of templates template = list_any (λ t. t == template) templates

-- the octets of a number that stands in each stated template: an opaque section does not have it
abbrev pub unless_opaque : Option Octets → Layout → Option Octets
unless_opaque place layout = cond layout.is_opaque None place

-- grids by latitude and longitude: templates 3.0, 3.1 and 3.40
abbrev pub is_by_angles : ℕ → Bool
is_by_angles = is_of (0 ∷ 1 ∷ 40 ∷ [])

-- the scanning mode: templates 3.0, 3.1, 3.40; 3.10; 3.20, 3.30
abbrev pub scanning_place : Layout → Option Octets
scanning_place layout =
    unless_opaque
    (cond (is_by_angles layout.template) (Some (span 72 72))
    (cond (is_of (10 ∷ []) layout.template) (Some (span 60 60))
    (cond (is_of (20 ∷ 30 ∷ []) layout.template) (Some (span 65 65)) None))) layout

-- an angle of the first grid point, four octets from here in grids by latitude and longitude, from there in
-- grids on a plane: templates 3.10, 3.20 and 3.30
abbrev pub first_point : ℕ → ℕ → Layout → Option Octets
first_point here there layout =
    unless_opaque
    (cond (is_by_angles layout.template) (Some (span here (here + 3)))
    (cond (is_of (10 ∷ 20 ∷ 30 ∷ []) layout.template) (Some (span there (there + 3))) None)) layout

-- a number of template 4.0 beyond the parameter, octets 12-34: it stands in each template that is known to have
-- it, there or later by the shift of the template
abbrev pub instant_place : ℕ → ℕ → Layout → Option Octets
instant_place first last layout =
    option_map (λ shift. span (first + shift) (last + shift)) (instant_shift layout.template)

-- a number of an ensemble: templates 4.1 and 4.11 alone have it
abbrev pub ensemble_place : Octets → Layout → Option Octets
ensemble_place octets layout = cond (is_of (1 ∷ 11 ∷ []) layout.template) (Some octets) None

-- a number of an interval: at these octets in template 4.8, three octets later in template 4.11, whose
-- octets 35-37 are the ensemble's
abbrev pub interval_place : ℕ → ℕ → Layout → Option Octets
interval_place first last layout =
    cond (layout.template == 8) (Some (span first last))
    (cond (layout.template == 11) (Some (span (first + 3) (last + 3))) None)

-- a number of the first time range of an interval, which stands there where the interval has a time range
abbrev pub range_place : ℕ → ℕ → Layout → Option Octets
range_place first last layout = cond (layout.ranges == 0) None (interval_place first last layout)

-- The octets that a place names, by the layout of the section. Sections 0 and 1 have no template, and their numbers
-- stand at the same octets in each; so do those before the template of a section, and the parameter's category and number.
abbrev pub octets_by : Place → Layout → Option Octets
octets_by (At octets) layout = Some octets
octets_by (Stated octets) layout = unless_opaque (Some octets) layout
octets_by ScanningMode layout = scanning_place layout
octets_by (FirstPoint here there) layout = first_point here there layout
octets_by (Instant first last) layout = instant_place first last layout
octets_by (Ensemble octets) layout = ensemble_place octets layout
octets_by (Interval first last) layout = interval_place first last layout
octets_by (FirstRange first last) layout = range_place first last layout

-- a layout in which all keys of the section with this number stand: templates 3.1 and 4.11, with a time range
abbrev pub full_layout : ℕ → Layout
full_layout section =
    cond (section == 4) (record { template = 11; is_opaque = false; ranges = 1 })
    (record { template = 1; is_opaque = false; ranges = 0 })

-- a number with a sign has sign and magnitude; one that may be missing is missing where all its bits are 1
abbrev pub unsigned : Kind
unsigned = record { is_signed = false; may_be_missing = false; can_set = true }

abbrev pub signed : Kind
signed = record { is_signed = true; may_be_missing = false; can_set = true }

abbrev pub unsigned_or_missing : Kind
unsigned_or_missing = record { is_signed = false; may_be_missing = true; can_set = true }

abbrev pub signed_or_missing : Kind
signed_or_missing = record { is_signed = true; may_be_missing = true; can_set = true }

-- numbers by which others are read or counted: they cannot be set
abbrev pub fixed : Kind
fixed = record { is_signed = false; may_be_missing = false; can_set = false }

abbrev pub fixed_or_missing : Kind
fixed_or_missing = record { is_signed = false; may_be_missing = true; can_set = false }

-- a key's name, its section, its place there, and its kind
pub record Row : Type 0 where
  pub name : List ℕ
  pub section : ℕ
  pub place : Place
  pub kind : Kind

abbrev pub row : List ℕ → ℕ → Place → Kind → Row
row name section place kind = record { name = name; section = section; place = place; kind = kind }

abbrev pub row_of : Key → Row
row_of Discipline = row (codes "discipline") 0 (At (span 7 7)) unsigned
row_of Centre = row (codes "centre") 1 (At (span 6 7)) unsigned
row_of SubCentre = row (codes "subCentre") 1 (At (span 8 9)) unsigned
row_of MasterTables = row (codes "masterTables") 1 (At (span 10 10)) unsigned
row_of LocalTables = row (codes "localTables") 1 (At (span 11 11)) unsigned
row_of Significance = row (codes "significance") 1 (At (span 12 12)) unsigned
row_of Year = row (codes "year") 1 (At (span 13 14)) unsigned
row_of Month = row (codes "month") 1 (At (span 15 15)) unsigned
row_of Day = row (codes "day") 1 (At (span 16 16)) unsigned
row_of Hour = row (codes "hour") 1 (At (span 17 17)) unsigned
row_of Minute = row (codes "minute") 1 (At (span 18 18)) unsigned
row_of Second = row (codes "second") 1 (At (span 19 19)) unsigned
row_of Status = row (codes "status") 1 (At (span 20 20)) unsigned
row_of DataType = row (codes "dataType") 1 (At (span 21 21)) unsigned
row_of EarthShape = row (codes "earthShape") 3 (Stated (span 15 15)) unsigned
row_of Points = row (codes "points") 3 (At (span 7 10)) fixed
row_of GridTemplate = row (codes "gridTemplate") 3 (At (span 13 14)) fixed
row_of Ni = row (codes "ni") 3 (Stated (span 31 34)) fixed_or_missing
row_of Nj = row (codes "nj") 3 (Stated (span 35 38)) fixed_or_missing
row_of Scanning = row (codes "scanning") 3 ScanningMode unsigned
row_of La1 = row (codes "la1") 3 (FirstPoint 47 39) signed
row_of Lo1 = row (codes "lo1") 3 (FirstPoint 51 43) unsigned
row_of ProductTemplate = row (codes "productTemplate") 4 (At (span 8 9)) fixed
row_of Category = row (codes "category") 4 (At (span 10 10)) unsigned
row_of Number = row (codes "number") 4 (At (span 11 11)) unsigned
row_of Process = row (codes "process") 4 (Instant 12 12) unsigned
row_of Generator = row (codes "generator") 4 (Instant 14 14) unsigned
row_of TimeUnit = row (codes "timeUnit") 4 (Instant 18 18) unsigned
row_of ForecastTime = row (codes "forecastTime") 4 (Instant 19 22) signed
row_of Surface1 = row (codes "surface1") 4 (Instant 23 23) unsigned_or_missing
row_of Surface1Scale = row (codes "surface1Scale") 4 (Instant 24 24) signed_or_missing
row_of Surface1Value = row (codes "surface1Value") 4 (Instant 25 28) unsigned_or_missing
row_of Surface2 = row (codes "surface2") 4 (Instant 29 29) unsigned_or_missing
row_of Surface2Scale = row (codes "surface2Scale") 4 (Instant 30 30) signed_or_missing
row_of Surface2Value = row (codes "surface2Value") 4 (Instant 31 34) unsigned_or_missing
row_of EnsembleType = row (codes "ensembleType") 4 (Ensemble (span 35 35)) unsigned
row_of EnsembleNumber = row (codes "ensembleNumber") 4 (Ensemble (span 36 36)) unsigned
row_of EnsembleMembers = row (codes "ensembleMembers") 4 (Ensemble (span 37 37)) unsigned
row_of EndYear = row (codes "endYear") 4 (Interval 35 36) unsigned
row_of EndMonth = row (codes "endMonth") 4 (Interval 37 37) unsigned
row_of EndDay = row (codes "endDay") 4 (Interval 38 38) unsigned
row_of EndHour = row (codes "endHour") 4 (Interval 39 39) unsigned
row_of EndMinute = row (codes "endMinute") 4 (Interval 40 40) unsigned
row_of EndSecond = row (codes "endSecond") 4 (Interval 41 41) unsigned
row_of RangeProcess = row (codes "rangeProcess") 4 (FirstRange 47 47) unsigned
row_of RangeIncrementType = row (codes "rangeIncrementType") 4 (FirstRange 48 48) unsigned
row_of RangeUnit = row (codes "rangeUnit") 4 (FirstRange 49 49) unsigned
row_of RangeLength = row (codes "rangeLength") 4 (FirstRange 50 53) unsigned
row_of Packing = row (codes "packing") 5 (At (span 10 11)) fixed
row_of Bits = row (codes "bits") 5 (Stated (span 20 20)) fixed

-- all keys
abbrev pub keys : List Key
keys = Discipline ∷ Centre ∷ SubCentre ∷ MasterTables ∷ LocalTables ∷ Significance ∷ Year ∷ Month ∷ Day ∷ Hour ∷ Minute ∷ Second ∷ Status ∷ DataType ∷ EarthShape ∷ Points ∷ GridTemplate ∷ Ni ∷ Nj ∷ Scanning ∷ La1 ∷ Lo1 ∷ ProductTemplate ∷ Category ∷ Number ∷ Process ∷ Generator ∷ TimeUnit ∷ ForecastTime ∷ Surface1 ∷ Surface1Scale ∷ Surface1Value ∷ Surface2 ∷ Surface2Scale ∷ Surface2Value ∷ EnsembleType ∷ EnsembleNumber ∷ EnsembleMembers ∷ EndYear ∷ EndMonth ∷ EndDay ∷ EndHour ∷ EndMinute ∷ EndSecond ∷ RangeProcess ∷ RangeIncrementType ∷ RangeUnit ∷ RangeLength ∷ Packing ∷ Bits ∷ []

abbrev pub name_of : Key → List ℕ
name_of key = (row_of key).name

-- the octets of a key in a section of this layout
abbrev pub key_place : Key → Layout → Option Octets
key_place key layout = octets_by (row_of key).place layout

abbrev pub can_set : Key → Bool
can_set key = (row_of key).kind.can_set

-- the key of this name, if there is one
abbrev pub key_named : List ℕ → Option Key
key_named name = find (λ key. bytes_eq (name_of key) name) keys
