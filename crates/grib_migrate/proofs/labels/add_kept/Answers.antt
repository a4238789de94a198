use Rattle.std.proofs.Common.{◌≡◌, ℕ, List, [], ◌++◌, ◌&&◌, cond, sym, ap, ◌∙◌, subst, OnOk, arith}
use Rattle.grib_bits.specs.Encoding.{section_of}
use Rattle.grib_migrate.specs.Source.{local_octets}
use Rattle.std.proofs.lemmas.List.{take_rest}
use Rattle.grib_bits.proofs.OctetNumbers.{AreOctets-known}
use Rattle.grib_migrate.proofs.Sections.{short}
use Rattle.grib_migrate.proofs.labels.add_kept.Goals as goal

pub add_section-requires : goal.add_section-requires
add_section-requires c =
    let long = c.requires.long in
    let few = short c.args.section1.now (omega arith) (AreOctets-known c.args.section1.now c.type_inv.section1) c.requires.stands in
    grind (arith, few)

pub returns : goal.returns
returns c =
    let has = ap (λ h. cond h (section_of 2 (local_octets c.args.section1.now)) []) (sym c.has_local.ensures ∙ c.if-not-has_local.false) in
    subst (λ (xs : List ℕ). OnOk c.add_section.result (c.add_section.new.out.items ≡ c.args.out.now.items ++ xs)) (sym has)
    (subst (λ (xs : List ℕ). OnOk c.add_section.result (c.add_section.new.out.items ≡ c.args.out.now.items ++ section_of 2 xs)) (take_rest c.args.section1.now 40) c.add_section.ensures)
