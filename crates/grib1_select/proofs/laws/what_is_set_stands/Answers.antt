use Rattle.grib1_select.proofs.Set.{opens, last_stands, other_stays, octets_stay}
use Rattle.grib1_select.proofs.laws.what_is_set_stands.Goals as goal

pub returns : goal.returns
returns c = record {
  set = λ m before change behind h can none others. last_stands m before change behind (opens m h) can none others;
  others = λ m changes key h others. other_stays m changes (opens m h) key others;
  octets = λ m changes q h low out. octets_stay m changes (opens m h) q low out;
}
