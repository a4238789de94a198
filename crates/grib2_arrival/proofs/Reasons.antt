-- No rule on the length, the number or the contents of a section, or on an End Section, says that
-- the octets end too early.
use Rattle.std.proofs.Common.{◌≡◌, ◌≢◌, ℕ, zero, suc, Bool, true, false, cond, Option, Some, None, List, [], ◌∷◌, length, get_or, ◌==◌, ◌+◌, ap, ◌∙◌}
use Rattle.grib_base.specs.declared.profile.Profile.{Profile}
use Rattle.grib_base.specs.declared.profile.Profile.TheVariants.{Stated, Open}
use Rattle.grib_base.specs.declared.fault.Fault.{Fault}
use Rattle.grib_base.specs.declared.fault.Reason.TheVariants.{Truncated, Jpeg2000, PngPacked, Ccsds, PackingTemplate}
use Rattle.grib_base.specs.Rules.{Rule, first_fault, located, or_then, choose}
use Rattle.grib2_sections.specs.Frame.{Placed, Position, section_number, end_rules, end_fault, opening_rules, opening_fault}
use Rattle.grib2_sections.specs.Identification.{identification_rules}
use Rattle.grib2_grids.specs.Grid.{grid_rules}
use Rattle.grib2_grids.specs.Opaque.{is_opaque_grid, opaque_grid_rules, grid_rules_under}
use Rattle.grib2_products.specs.Product.{product_rules}
use Rattle.grib2_products.specs.Opaque.{is_opaque_product, opaque_product_rules, product_rules_under}
use Rattle.grib_bitmap.specs.Mask.{bitmap_rules}
use Rattle.grib_packing.specs.Packing.{packing_template, template_reason, value_count}
use Rattle.grib_packing.specs.Complex.{complex_rules, layout_of, descriptor_octets}
use Rattle.grib_packing.specs.Groups.{list_rules}
use Rattle.grib_packing.specs.Simple.{simple_rules}
use Rattle.grib_packing.specs.Entries.{own_packing, packing_rules, packing_fault, is_opaque_packing, opaque_packing_rules, is_stated_packing, unstated_rules, packing_fault_under, data_fault, complex_data_fault, group_data_fault, group_data_rules, range_rules, has_no_groups}
use Rattle.grib_coding.specs.declared.fault.BlockFault.{BlockFault}
use Rattle.grib_coding.specs.declared.fault.BlockFault.TheVariants.{Short, Block, Value}
use Rattle.grib_packing.specs.Coded.{block_refusal, coded_data_fault, decoded_of, is_coded}
use Rattle.grib_packing.proofs.Packings.{each_packing}
use Rattle.grib2_message.specs.View.{octets_in_force, points_in_force, earlier_mask, section_count}
use Rattle.grib2_message.specs.Acceptance.{section_fault_under, contents_faults, no_rules}

-- a refusal, if any, is for another reason
abbrev pub IsOther : Option Fault → Type 0
IsOther None = Unit {0}
IsOther (Some fault) = fault.reason ≢ Truncated

abbrev AllOther : List Rule → Type 0
AllOther [] = Unit {0}
AllOther (r ∷ rules) = (r.fault.reason ≢ Truncated) × AllOther rules

cond_other : (b : Bool) (x y : Option Fault) → IsOther x → IsOther y → IsOther (cond b x y)
cond_other true x y h k = h
cond_other false x y h k = k

rules_other : (rules : List Rule) → AllOther rules → IsOther (first_fault rules)
rules_other [] h = tt
rules_other (r ∷ rules) h = cond_other r.fails (Some r.fault) (first_fault rules) h.0 (rules_other rules h.1)

located_other : (start : ℕ) (o : Option Fault) → IsOther o → IsOther (located start o)
located_other start None h = tt
located_other start (Some fault) h = h

then_other : (first : Option Fault) (later : Unit {0} → List Rule) → IsOther first → AllOther (later tt) → IsOther (or_then first later)
then_other (Some fault) later h k = h
then_other None later h k = rules_other (later tt) k

choose_other : (b : Bool) (x y : Unit {0} → Option Fault) → IsOther (x tt) → IsOther (y tt) → IsOther (choose b x y)
choose_other true x y h k = h
choose_other false x y h k = k

template_by : (a b c : Bool) → cond a Jpeg2000 (cond b PngPacked (cond c Ccsds PackingTemplate)) ≢ Truncated
template_by true b c = λ e. cc
template_by false true c = λ e. cc
template_by false false true = λ e. cc
template_by false false false = λ e. cc

template_other : (t : ℕ) → template_reason t ≢ Truncated
template_other t = template_by (t == 40) (t == 41) (t == 42)

pub end_other : (at : Position) (mark : ℕ) → IsOther (end_fault at mark)
end_other at mark = rules_other (end_rules at.total at.last at.place mark) (λ e. cc, (λ e. cc, (λ e. cc, tt)))

pub opening_other : (at : Position) (l number : ℕ) → IsOther (opening_fault at l number)
opening_other at l number = rules_other (opening_rules at.total at.last at.place l number []) (λ e. cc, (λ e. cc, tt))

identification_other : (s : List ℕ) → AllOther (identification_rules s)
identification_other s = (λ e. cc, tt)

grid_other : (s : List ℕ) → AllOther (grid_rules s)
grid_other s = (λ e. cc, (λ e. cc, (λ e. cc, (λ e. cc, (λ e. cc, (λ e. cc, (λ e. cc, (λ e. cc, (λ e. cc, (λ e. cc, (λ e. cc, tt)))))))))))

product_other : (s : List ℕ) (n : ℕ) → AllOther (product_rules s n)
product_other s n = (λ e. cc, (λ e. cc, (λ e. cc, (λ e. cc, (λ e. cc, tt)))))

-- rules by a choice
either_other : (b : Bool) (rules others : List Rule) → AllOther rules → AllOther others → AllOther (cond b rules others)
either_other true rules others h k = h
either_other false rules others h k = k

grid_other_under : (profile : Profile) (s : List ℕ) → AllOther (grid_rules_under profile s)
grid_other_under Stated s = grid_other s
grid_other_under Open s = either_other (is_opaque_grid s) (opaque_grid_rules s) (grid_rules s) (λ e. cc, (λ e. cc, tt)) (grid_other s)

product_other_under : (profile : Profile) (s : List ℕ) (n : ℕ) → AllOther (product_rules_under profile s n)
product_other_under Stated s n = product_other s n
product_other_under Open s n =
    either_other (is_opaque_product s) (opaque_product_rules s n) (product_rules s n) (λ e. cc, (λ e. cc, (λ e. cc, tt))) (product_other s n)

bitmap_other : (s : List ℕ) (points values : ℕ) (earlier : Option (List Bool)) → AllOther (bitmap_rules s points values earlier)
bitmap_other s points values earlier = (λ e. cc, (λ e. cc, (λ e. cc, (λ e. cc, (λ e. cc, (λ e. cc, tt))))))

complex_other : (s : List ℕ) → AllOther (complex_rules s)
complex_other s = (λ e. cc, (λ e. cc, (λ e. cc, (λ e. cc, (λ e. cc, (λ e. cc, (λ e. cc, tt)))))))

packing_other : (s : List ℕ) (points : ℕ) → IsOther (packing_fault s points)
packing_other s points =
    then_other (first_fault (packing_rules s points)) (λ _. (own_packing s).rules s)
    (rules_other (packing_rules s points) (λ e. cc, (template_other (packing_template s), (λ e. cc, (λ e. cc, (λ e. cc, (λ e. cc, tt)))))))
    (each_packing (λ p. AllOther (p.rules s)) (packing_template s) tt (complex_other s) (complex_other s) (λ e. cc, (λ e. cc, (λ e. cc, tt))) tt)

packing_other_under : (profile : Profile) (s : List ℕ) (points : ℕ) → IsOther (packing_fault_under profile s points)
packing_other_under Stated s points =
    choose_other (is_stated_packing s) (λ _. packing_fault s points) (λ _. first_fault (unstated_rules s)) (packing_other s points)
    (rules_other (unstated_rules s) (λ e. cc, (template_other (packing_template s), tt)))
packing_other_under Open s points =
    choose_other (is_opaque_packing s) (λ _. first_fault (opaque_packing_rules s points)) (λ _. packing_fault s points)
    (rules_other (opaque_packing_rules s points) (λ e. cc, (λ e. cc, tt))) (packing_other s points)

group_other : (s5 s7 : List ℕ) → IsOther (group_data_fault s5 s7)
group_other s5 s7 =
    let lists = list_rules (layout_of s5) (length s7) (descriptor_octets s5) in
    then_other (or_then (first_fault lists) (λ _. group_data_rules s5 s7)) (λ _. range_rules s5 s7)
    (then_other (first_fault lists) (λ _. group_data_rules s5 s7) (rules_other lists (λ e. cc, tt)) (λ e. cc, (λ e. cc, (λ e. cc, (λ e. cc, (λ e. cc, tt))))))
    (λ e. cc, tt)

refusal_other : (l : ℕ) (fault : Option BlockFault) → IsOther (block_refusal l fault)
refusal_other l None = tt
refusal_other l (Some Short) = λ e. cc
refusal_other l (Some (Block block)) = λ e. cc
refusal_other l (Some (Value value)) = λ e. cc

pub data_other : (s5 s7 : List ℕ) → IsOther (data_fault s5 s7)
data_other s5 s7 =
    let complex : IsOther (complex_data_fault s5 s7) = choose_other (has_no_groups s5) (λ _. None) (λ _. group_data_fault s5 s7) tt (group_other s5 s7) in
    let coded : IsOther (coded_data_fault s5 s7) = choose_other (is_coded s5) (λ _. block_refusal (length s7) (decoded_of s5 s7).fault) (λ _. None) (refusal_other (length s7) (decoded_of s5 s7).fault) tt in
    each_packing (λ p. IsOther (p.fault s5 s7)) (packing_template s5) (rules_other (simple_rules s5 (length s7)) (λ e. cc, tt)) complex complex coded tt

by_number : (profile : Profile) (n : ℕ) (before : List Placed) (s : Placed) → IsOther (get_or (contents_faults profile) n no_rules before s)
by_number profile zero before s = tt
by_number profile (suc zero) before s = located_other s.start (first_fault (identification_rules s.octets)) (rules_other (identification_rules s.octets) (identification_other s.octets))
by_number profile (suc (suc zero)) before s = tt
by_number profile (suc (suc (suc zero))) before s = located_other s.start (first_fault (grid_rules_under profile s.octets)) (rules_other (grid_rules_under profile s.octets) (grid_other_under profile s.octets))
by_number profile (suc (suc (suc (suc zero)))) before s =
    let rules = product_rules_under profile s.octets (section_count 4 before + 1) in
    located_other s.start (first_fault rules) (rules_other rules (product_other_under profile s.octets (section_count 4 before + 1)))
by_number profile (suc (suc (suc (suc (suc zero))))) before s = located_other s.start (packing_fault_under profile s.octets (points_in_force before)) (packing_other_under profile s.octets (points_in_force before))
by_number profile (suc (suc (suc (suc (suc (suc zero)))))) before s =
    let rules = bitmap_rules s.octets (points_in_force before) (value_count (octets_in_force 5 before)) (earlier_mask before) in
    located_other s.start (first_fault rules) (rules_other rules (bitmap_other s.octets (points_in_force before) (value_count (octets_in_force 5 before)) (earlier_mask before)))
by_number profile (suc (suc (suc (suc (suc (suc (suc zero))))))) before s =
    located_other s.start (data_fault (octets_in_force 5 before) s.octets) (data_other (octets_in_force 5 before) s.octets)
by_number profile (suc (suc (suc (suc (suc (suc (suc (suc n)))))))) before s = tt

pub section_other : (profile : Profile) (before : List Placed) (s : Placed) → IsOther (section_fault_under profile before s)
section_other profile before s = by_number profile (section_number s.octets) before s

pub other_reason : (o : Option Fault) (fault : Fault) → IsOther o → o ≡ Some fault → fault.reason ≢ Truncated
other_reason None fault h e = cc
other_reason (Some found) fault h e = λ t. (let same : found ≡ fault = cc in h (ap (λ f. f.reason) same ∙ t))
