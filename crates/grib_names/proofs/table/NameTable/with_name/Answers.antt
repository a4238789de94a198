use Rattle.std.proofs.Common.{◌≡◌, true, ap, sym, ◌∙◌}
use Rattle.std.specs.Prelude.{string_bytes}
use Rattle.std.specs.BTreeMap.{insert_entry}
use Rattle.std.proofs.lemmas.Map.Text.{btree_set_updates_text}
use Rattle.grib_names.specs.Table.{NameEntries, has_name, numbers_cmp}
use Rattle.grib_names.proofs.Taking.{has_joined, new_numbers}
use Rattle.grib_names.proofs.table.NameTable.with_name.Goals as goal

pub invariant_of-result : goal.invariant_of-result
invariant_of-result c q =
    let entries = c.self.inside.names.entries in
    let given = c.args.name.now in
    let absent = new_numbers entries (c.args.numbers, given) (rw (sym c.self.view_is) at c.requires) in
    let updated = btree_set_updates_text (string_bytes c.in_ok-from_str.field-0) c.self.inside.taken c.insert.new.self true c.in_ok-insert.ensures.updates q in
    let named : c.of.result ≡ given = c.of.ensures ∙ c.in_ok-from_str-2.ensures.ok in
    has_joined entries c.args.numbers given q _ _ absent (c.self.invariant q) (rw c.in_ok-from_str.ensures.ok at updated)
    ∙ ap (λ (es : NameEntries). has_name es q) (sym (c.in_ok-insert-2.ensures.entries ∙ ap (insert_entry numbers_cmp entries c.args.numbers) named))
