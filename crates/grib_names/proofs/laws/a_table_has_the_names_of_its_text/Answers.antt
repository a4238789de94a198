use Rattle.grib_names.proofs.Meaning.{of_text}
use Rattle.grib_names.proofs.laws.a_table_has_the_names_of_its_text.Goals as goal

pub returns : goal.returns
returns c text table good discipline category number = of_text text table (discipline, category, number) good
