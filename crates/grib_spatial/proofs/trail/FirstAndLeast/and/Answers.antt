use Rattle.std.proofs.Common.{◌≡◌, ℕ, ◌-◌, map, get_or, pos, sym, ap, ◌∙◌, arith, w64, SFits, to_z-of_z, rules}
use Rattle.std.specs.List.{range_with_len}
use Rattle.grib_packing.specs.Differences.{difference_at, least}
use Rattle.grib_spatial.proofs.Telling.{first_more, second_more}
use Rattle.grib_spatial.proofs.trail.FirstAndLeast.and.Goals as goal

pub returns-clause-told : goal.returns-clause-told
returns-clause-told c numbers told is =
    let order = c.args.order in
    let n = c.args.self.trail.count in
    let back = to_z-of_z c.ranges.x in
    let x : get_or numbers n (pos 0) ≡ _ = is ∙ sym back in
    let first : SFits w64 c.first_with.result = search rules in
    let second : SFits w64 c.second_with.result = search rules in
    let minimum : SFits w64 c.least.result = search rules in
    record {
      trail = c.and.ensures.is numbers told.trail x;
      first = λ some. to_z-of_z first ∙ first_more numbers n _ x c.args.self.first c.first_with.result c.first_with.ensures.here c.first_with.ensures.later told.first;
      no_first = λ none. absurd (omega (arith, c.and.ensures.count));
      second = λ some. to_z-of_z second
          ∙ second_more numbers n _ x order c.args.self.second c.second_with.result c.requires.order c.second_with.ensures.here c.second_with.ensures.later told.second told.no_second (omega (arith, some, c.and.ensures.count));
      no_second = λ few. to_z-of_z second ∙ c.second_with.ensures.later (λ one. absurd (omega (arith, few, c.and.ensures.count))) ∙ told.no_second (omega (arith, few, c.and.ensures.count));
      minimum = to_z-of_z minimum ∙ c.least.ensures numbers told x ∙ ap (λ (k : ℕ). least (map (difference_at order numbers) (range_with_len order (k - order)))) (sym c.and.ensures.count);
    }
