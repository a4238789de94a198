use Rattle.grib_tests_packings.proofs.complex.whole_by.Goals as goal

pub unpack-requires : goal.unpack-requires
unpack-requires g c = record {
  some = c.requires.some;
  few = c.requires.few;
  accepted = c.requires.accepted;
  is_template = c.requires.template;
  values = c.requires.values;
}
