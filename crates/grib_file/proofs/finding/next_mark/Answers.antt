use Rattle.std.proofs.lemmas.List.{take_rest}
use Rattle.grib_file.proofs.Found.{none_behind}
use Rattle.grib_file.proofs.finding.next_mark.Goals as goal

pub returns-then-rest-before-lt4 : goal.returns-then-rest-before-lt4
returns-then-rest-before-lt4 c =
    let found = c.octets_before_mark-before in
    none_behind c.args.place found.result c.args.octets.now _ (take_rest c.args.octets.now c.args.place) found.ensures.unmarked.none found.ensures.within c.if-rest-before-lt4.true
