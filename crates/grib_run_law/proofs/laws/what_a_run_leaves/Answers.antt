use Rattle.grib_run_law.proofs.Accepting.{stands}
use Rattle.grib_run_law.proofs.Leaving.{job_leaves}
use Rattle.grib_run_law.proofs.laws.what_a_run_leaves.Goals as goal

pub returns : goal.returns
returns c = λ profile.
    job_leaves profile (stands profile c.items_stand.ensures.items) (record {
      repacked = c.what_is_repacked_keeps_each_value.ensures profile;
      migrated = c.what_is_migrated_keeps_each_value.ensures profile;
      set = c.what_is_set_keeps_each_field.ensures profile;
      set1 = c.what_is_set_in_edition_1_keeps_the_field.ensures profile;
      filtered = c.what_is_filtered_keeps_each_column.ensures.keys profile;
      filtered_named = c.what_is_filtered_keeps_each_column.ensures.names profile;
      filtered1 = c.what_is_filtered_in_edition_1_is_whole.ensures profile;
    })
