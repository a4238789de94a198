-- What is known of a field that is edited.
use Rattle.std.proofs.Common.{◌≡◌, ℕ, ◌≤◌, None, option_map, List, length, refl, sym, ap, ap₂, ◌∙◌, subst}
use Rattle.std.specs.List.{list_any}
use Rattle.grib_bits.specs.Octets.{octets}
use Rattle.grib_base.proofs.Firsts.{none_after}
use Rattle.grib_base.specs.Rules.{first_fault}
use Rattle.grib_base.specs.declared.profile.Profile.TheVariants.{Open}
use Rattle.grib2_grids.specs.Grid.{grid_rules}
use Rattle.grib2_grids.specs.Opaque.{grid_rules_under}
use Rattle.grib_packing.specs.declared.column.Column.{Column}
use Rattle.grib_packing.specs.Misfits.{first_misfit, is_missing2}
use Rattle.grib_packing.specs.Packed.{Packed as HasPacked}
use Rattle.grib_packing.specs.declared.written.Packed.{Packed}
use Rattle.grib_packing.specs.Written.{MayBePacked}
use Rattle.grib_packed.specs.Written.{packed}
use Rattle.grib2_message.specs.Fields.{part_octets, column_of}
use Rattle.grib2_message.specs.Message.{FieldReads}
use Rattle.grib_repack.proofs.Columns.{packable}
use Rattle.grib_repack.proofs.Packing.{IsOnly}
use Rattle.grib_repack.proofs.Sections.{are_written}
use Rattle.grib_reorder.specs.declared.edit.GridEdit.{GridEdit}
use Rattle.grib_reorder.specs.Fields.{IsColumnEdited, IsFieldEdited}
use Rattle.grib_reorder.specs.Rescanned.{Stands, OfGrid, OfColumn, cause_of, new_column, own_target, grid_misfit, column_misfit}
use Rattle.grib_reorder.proofs.Packs.{none_secondary}
use Rattle.grib_reorder.proofs.Points.{none_new, new_packable}
use Rattle.grib_reorder.proofs.Grids.{stated_rules}

module _ (edit : GridEdit) (message : List ℕ) (i : ℕ) where
  -- the Section 3 of a field that is edited passes the rules of the stated grids
  pub rules_stated : (s : List ℕ) → s ≡ part_octets message i 3 → FieldReads message i → cause_of edit s ≡ None → first_fault (grid_rules s) ≡ None
  rules_stated s s_is passes free =
      stated_rules edit Open s (subst (λ (x : List ℕ). first_fault (grid_rules_under Open x) ≡ None) (sym s_is) passes.grid) free

  pub column_edited : (s : List ℕ) (old new : Column) → Stands edit → s ≡ part_octets message i 3 → FieldReads message i → cause_of edit s ≡ None → old ≡ column_of message i
      → 1 ≤ length old.points → length old.points ≤ 33554432 → new ≡ new_column edit s old → IsColumnEdited edit message i new
  column_edited s old new stands s_is passes free old_is some few new_is =
      let here : cause_of edit (part_octets message i 3) ≡ None = ap (cause_of edit) (sym s_is) ∙ free in
      let is = new_is ∙ ap₂ (new_column edit) s_is old_is in
      let rules = rules_stated (part_octets message i 3) refl passes here in
      let may = packable message i old old_is passes some few in
      record {
        uncaused = ap (option_map (OfGrid i)) here;
        is = is;
        may_be_packed =
            subst MayBePacked (sym is) (new_packable edit (part_octets message i 3) (column_of message i) stands rules here (subst MayBePacked old_is may));
        no_secondary = λ bitmap.
            ap (λ (column : Column). list_any is_missing2 column.points) is
            ∙ none_new is_missing2 refl edit (part_octets message i 3) (column_of message i) (none_secondary message i bitmap);
        rules = rules;
      }

  same_parts : (p q : Packed) → (p.section5 ≡ q.section5) × (p.section6 ≡ q.section6) × (p.section7 ≡ q.section7) → p ≡ q
  same_parts p q e = λ j. record { section5 = e.0 j; section6 = e.1 j; section7 = e.2 j }

  pub field_edited : IsOnly → (s5 : List ℕ) (column : Column) (p : Packed) → s5 ≡ part_octets message i 5 → IsColumnEdited edit message i column
      → (first_misfit (own_target s5) column.points ≡ None) × HasPacked (own_target s5) column (octets s5 21 21) p.section5 p.section6 p.section7
      → IsFieldEdited edit message i p
  field_edited only s5 column p s5_is h fits =
      let target = own_target s5 in
      let written = are_written target column (octets s5 21 21) p.section5 p.section6 p.section7 fits.1 in
      record {
        fits =
            none_after (grid_misfit edit message i) (λ _. column_misfit edit message i) h.uncaused
            (ap (option_map (OfColumn i)) (ap₂ (λ (s : List ℕ) (c : Column). first_misfit (own_target s) c.points) (sym s5_is) (sym h.is) ∙ fits.0));
        is =
            same_parts p (packed target column (octets s5 21 21)) (only target column (octets s5 21 21) p.section5 p.section6 p.section7 fits.1)
            ∙ ap₂ (λ (s : List ℕ) (c : Column). packed (own_target s) c (octets s 21 21)) s5_is h.is;
        short = record { short_5 = written.short_5; short_6 = written.short_6; short_7 = written.short_7 };
        rules = h.rules;
      }
