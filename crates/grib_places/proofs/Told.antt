-- What has places can be put in another order.
use Rattle.std.proofs.Common.{◌≡◌, ℕ, ◌%◌, Bool, true, false, not, cond, ◌&&◌, Option, Some, None, List, [], ◌∷◌, eqb, refl}
use Rattle.grib_bits.specs.Octets.{octets}
use Rattle.grib_rescan.specs.declared.cause.GridCause.{GridCause}
use Rattle.grib_rescan.specs.declared.cause.GridCause.TheVariants as rescanning
use Rattle.grib_rescan.specs.Causes.{is_lat_lon, rescan_cause_of, first_cause, row}
use Rattle.grib_places.specs.declared.cause.PlaceCause.{PlaceCause}
use Rattle.grib_places.specs.declared.cause.PlaceCause.TheVariants.{GridKind, ScanMode}
use Rattle.grib_places.specs.Places.{place_cause_of}

abbrev places_by : Bool → Bool → Bool → Option PlaceCause
places_by lat_lon angle mode = cond (not (lat_lon && angle)) (Some GridKind) (cond (not mode) (Some ScanMode) None)

abbrev orders_by : Bool → Bool → Option GridCause
orders_by lat_lon mode = first_cause (row (not lat_lon) rescanning.GridKind ∷ row (not mode) rescanning.ScanMode ∷ [])

uncaused_by : (lat_lon angle mode : Bool) → places_by lat_lon angle mode ≡ None → orders_by lat_lon mode ≡ None
uncaused_by false angle mode none = let no : ⊥ = cc in absurd no
uncaused_by true false mode none = let no : ⊥ = cc in absurd no
uncaused_by true true false none = let no : ⊥ = cc in absurd no
uncaused_by true true true none = refl

pub uncaused : (s : List ℕ) → place_cause_of s ≡ None → rescan_cause_of s ≡ None
uncaused s none = uncaused_by (is_lat_lon s) (eqb (octets s 39 42) 0) (eqb (octets s 72 72 % 16) 0) none
