-- Sections 3 that no rule refuses.
use Rattle.std.proofs.Common.{◌≡◌, ℕ, ◌*◌, ◌<◌, ◌≤◌, inl, inr, true, false, List, length, None, refl, sym, ap, ap₂, ◌∙◌, arith, eq-eqb, ne_eqb, ltb, eqb}
use Rattle.std.proofs.lemmas.Bool.{le-ltb}
use Rattle.std.proofs.Math.Nat.{mul-le-mul, mul_comm, one-le-mul}
use Rattle.grib_bits.specs.Octets.{octets, octet_list, num_on}
use Rattle.grib_base.specs.Rules.{first_fault}
use Rattle.grib_base.specs.declared.limits.TheConstants.{MOST_POINTS}
use Rattle.grib_base.specs.declared.profile.Profile.{Profile}
use Rattle.grib2_grids.specs.Grid.{grid_rules}
use Rattle.grib2_grids.specs.Opaque.{grid_rules_under}
use Rattle.grib2_grids.proofs.Under.{grid_accepted}
use Rattle.grib_rescan.specs.declared.points.Area.{Area}
use Rattle.grib_rescan.specs.Scanning.{scanning_of}
use Rattle.grib_rescan.specs.Points.{IsBox, width, height}
use Rattle.grib_rescan.specs.Sections.{IsLatLon, rescanned_section, cropped_section}
use Rattle.grib_rescan.proofs.Kept.{as_before, rescanned-length, box-elsewhere, box-length, box-points, box-ni, box-nj}

pub accepted : (s : List ℕ) → IsLatLon s → first_fault (grid_rules s) ≡ None
accepted s is =
    let long : ltb (length s) 14 ≡ false = le-ltb (length s) 14 (omega (arith, is.long)) in
    let whole : ltb (length s) 72 ≡ false = le-ltb (length s) 72 is.long in
    let some : eqb (octets s 7 10) 0 ≡ false = ne_eqb (octets s 7 10) 0 (λ none. omega (arith, none, is.some)) in
    let few : ltb MOST_POINTS (octets s 7 10) ≡ false = le-ltb MOST_POINTS (octets s 7 10) is.few in
    let product : eqb (octets s 31 34 * octets s 35 38) (octets s 7 10) ≡ true = eq-eqb _ _ is.product in
    rw (is.source, is.template, is.list, long, whole, some, few, product) refl

pub accepted_under : (profile : Profile) (s : List ℕ) → IsLatLon s → first_fault (grid_rules_under profile s) ≡ None
accepted_under profile s is = grid_accepted profile s (accepted s is)

number : (s t : List ℕ) (first last : ℕ) → octet_list s first last ≡ octet_list t first last → octets s first last ≡ octets t first last
number s t first last same = ap (num_on 0) same

pub rescanned : (s : List ℕ) → IsLatLon s → IsLatLon (rescanned_section s)
rescanned s is =
    let order = scanning_of (octets s 72 72) in
    let t = rescanned_section s in
    let head : (first last : ℕ) → 1 ≤ first → last < 47 → octets t first last ≡ octets s first last = λ first last some before.
    number t s first last (as_before s is.long order.northward order.westward first last some (inl before) (inl (omega (arith, before))) (inl (omega (arith, before)))) in
    let points = head 7 10 (omega arith) (omega arith) in
    record {
      long = omega (arith, is.long, rescanned-length s is.long order.northward order.westward);
      source = head 6 6 (omega arith) (omega arith) ∙ is.source;
      template = head 13 14 (omega arith) (omega arith) ∙ is.template;
      list = head 11 11 (omega arith) (omega arith) ∙ is.list;
      some = omega (arith, points, is.some);
      few = omega (arith, points, is.few);
      product = ap₂ (λ (n m : ℕ). n * m) (head 31 34 (omega arith) (omega arith)) (head 35 38 (omega arith) (omega arith)) ∙ is.product ∙ sym points;
    }

-- a box has a point at least, and no more than its grid
pub record HasSize (area : Area) (s : List ℕ) : Type 0 where
  pub width_some : 1 ≤ width area
  pub height_some : 1 ≤ height area
  pub few : height area * width area ≤ MOST_POINTS
  pub some : 1 ≤ height area * width area
  pub width_few : width area < 4294967296
  pub height_few : height area < 4294967296

pub has_size : (area : Area) (s : List ℕ) → IsLatLon s → IsBox area (octets s 31 34) (octets s 35 38) → HasSize area s
has_size area s is box =
    let w : 1 ≤ width area = omega (arith, box.columns) in
    let h : 1 ≤ height area = omega (arith, box.rows) in
    let all : height area * width area ≤ octets s 35 38 * octets s 31 34 = mul-le-mul (omega (arith, box.last_row)) (omega (arith, box.last_column)) in
    let few : height area * width area ≤ MOST_POINTS = omega (arith, all, is.product, is.few, mul_comm (octets s 31 34) (octets s 35 38)) in
    let w_few : 1 * width area ≤ height area * width area = mul-le-mul h (omega arith) in
    let h_few : height area * 1 ≤ height area * width area = mul-le-mul (omega arith) w in
    record {
      width_some = w;
      height_some = h;
      few = few;
      some = one-le-mul h w;
      width_few = omega (arith, w_few, few);
      height_few = omega (arith, h_few, few);
    }

pub cropped : (area : Area) (s : List ℕ) → IsLatLon s → IsBox area (octets s 31 34) (octets s 35 38) → IsLatLon (cropped_section area s)
cropped area s is box =
    let t = cropped_section area s in
    let size = has_size area s is box in
    let points : octets t 7 10 ≡ height area * width area = box-points area s is.long (omega (arith, size.few)) in
    record {
      long = omega (arith, is.long, box-length area s is.long);
      source = number t s 6 6 (box-elsewhere area s is.long 6 6 (omega arith) (inl (omega arith)) (inl (omega arith)) (inl (omega arith)) (inl (omega arith))) ∙ is.source;
      template = number t s 13 14 (box-elsewhere area s is.long 13 14 (omega arith) (inr (omega arith)) (inl (omega arith)) (inl (omega arith)) (inl (omega arith))) ∙ is.template;
      list = number t s 11 11 (box-elsewhere area s is.long 11 11 (omega arith) (inr (omega arith)) (inl (omega arith)) (inl (omega arith)) (inl (omega arith))) ∙ is.list;
      some = omega (arith, points, size.some);
      few = omega (arith, points, size.few);
      product = ap₂ (λ (n m : ℕ). n * m) (box-ni area s is.long size.width_few) (box-nj area s is.long size.height_few) ∙ mul_comm (width area) (height area) ∙ sym points;
    }
