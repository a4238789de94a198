use Rattle.std.proofs.Common.{◌≡◌, All, IsTrue, List, [], ◌∙◌, refl, sym, ap, subst}
use Rattle.grib1_sections.specs.Keys.{number1_of}
use Rattle.grib_keys.specs.Keys1.{can_set1}
use Rattle.grib1_select.specs.declared.condition.Change1.{Change1}
use Rattle.grib1_select.specs.Changed.{with_keys1, set_fault1}
use Rattle.grib_command.specs.Command.{under}
use Rattle.grib_edit.specs.Setting1.{set1_command}
use Rattle.grib_run_law.specs.Answered.{items_of}
use Rattle.grib_run_law.specs.Same.{SetsKeys1, IfOctets}
use Rattle.grib_run_law.proofs.Accepting.{accepted_all, stands}
use Rattle.grib_run_law.proofs.Alone.{set1_fixed}
use Rattle.grib_run_law.proofs.Each.{each_split, set1_each}
use Rattle.grib_run_law.proofs.Writing.{writes_items}
use Rattle.grib_run_law.proofs.laws.what_is_set_in_edition_1_keeps_the_field.Goals as goal

pub returns : goal.returns
returns c =
    let law = c.what_is_set_keeps_the_column.ensures in
    let values = c.what_is_set_stands.ensures in
    λ profile dates changes policy more octets can.
    writes_items (IfOctets (SetsKeys1 dates changes)) (under profile (set1_command dates changes)) policy (λ totals. refl) (set1_fixed dates changes)
    (set1_each profile dates changes
    (λ message small is none valid. record {
      accepted = law.accepted message changes small is can;
      column = law.column message changes small is can;
      values = each_split (λ c. number1_of (with_keys1 message changes) c.key ≡ c.value) [] changes
          (λ front change behind same others.
          subst (λ (all : List Change1). number1_of (with_keys1 message all) change.key ≡ change.value) (sym same)
          (values.set message front change behind is (subst (All (λ c. IsTrue (can_set1 c.key))) same can) (ap set_fault1 (sym same) ∙ none) others));
      others = λ key apart. values.others message changes key is apart;
      as_long = law.as_long message changes is;
      rest = λ q low apart. values.octets message changes q is low apart;
      dated = valid;
    }))
    more octets (accepted_all profile more octets (items_of profile policy more octets).items (stands profile c.items_stand.ensures.items policy more octets))
