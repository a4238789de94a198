use Rattle.std.proofs.Common.{◌≡◌, sym, subst, rules, tests, string_bytes, IfOk}
use Rattle.std.proofs.lemmas.Iterator.{YieldsList-from_slice, items_from_collect}
use Rattle.std.proofs.lemmas.Iterator.Consumers.{YieldsList-from_filter_map}
use Rattle.grib_words.specs.Words.{change1_of}
use Rattle.grib_words.proofs.Parts.{filter_map-map}
use Rattle.grib_words.proofs.changes.changes1_of.Goals as goal

pub returns : goal.returns
returns c =
    let words = c.args.words.now in
    subst (λ those. IfOk c.collect.result (λ v. v.items ≡ those)) (sym (filter_map-map change1_of string_bytes words))
    (items_from_collect _ c.collect.ensures.ran (YieldsList-from_filter_map _ (λ word. change1_of (string_bytes word)) (YieldsList-from_slice words cc) c.filter_map.ensures.closure (λ x r q k. search (rules, tests))))
