use Rattle.std.proofs.Common.{map, string_bytes, codes, arith}
use Rattle.grib_words.specs.Reading.{value_of}
use Rattle.grib_words.specs.declared.command.Command.TheVariants.{Dump, Repack, Crop, Make}
use Rattle.grib_words.proofs.Asked.{has_read, decimals_stand, crop_stands, repack_stands, make_stands, make_sized, wider}
use Rattle.grib_words.proofs.asking.job_of_command.Goals as goal

pub number_if_given-requires : goal.number_if_given-requires
number_if_given-requires c = λ has.
    wider 0 18 4294967295 (value_of (codes "decimals") (map string_bytes c.args.words.now))
    (decimals_stand (map string_bytes c.args.words.now) (has_read Dump (map string_bytes c.args.words.now) (rw c.in-Dump.is at c.requires)) has) (omega arith)

pub repack_of-requires : goal.repack_of-requires
repack_of-requires c = λ other. (repack_stands (map string_bytes c.args.words.now) (has_read Repack (map string_bytes c.args.words.now) (rw c.in-Repack.is at c.requires)) other).order

pub number_by-requires : goal.number_by-requires
number_by-requires c = wider 0 2147483647 4294967295 (value_of (codes "seed") (map string_bytes c.args.words.now)) (make_sized (map string_bytes c.args.words.now) (has_read Make (map string_bytes c.args.words.now) (rw c.in-Make.is at c.requires))).seed (omega arith)

pub number_by-requires-in-Make : goal.number_by-requires-in-Make
number_by-requires-in-Make c = wider 1 4096 4294967295 (value_of (codes "ni") (map string_bytes c.args.words.now)) (make_sized (map string_bytes c.args.words.now) (has_read Make (map string_bytes c.args.words.now) (rw c.in-Make.is at c.requires))).ni (omega arith)

pub number_by-requires-in-Make-2 : goal.number_by-requires-in-Make-2
number_by-requires-in-Make-2 c = wider 1 4096 4294967295 (value_of (codes "nj") (map string_bytes c.args.words.now)) (make_sized (map string_bytes c.args.words.now) (has_read Make (map string_bytes c.args.words.now) (rw c.in-Make.is at c.requires))).nj (omega arith)

pub target_of-requires : goal.target_of-requires
target_of-requires c = (make_stands (map string_bytes c.args.words.now) (has_read Make (map string_bytes c.args.words.now) (rw c.in-Make.is at c.requires))).order

pub crop_of-requires : goal.crop_of-requires
crop_of-requires c = λ no_place no_degrees.
    (crop_stands (map string_bytes c.args.words.now) (has_read Crop (map string_bytes c.args.words.now) (rw c.in-Crop.is at c.requires)) no_place no_degrees).sides
