use Rattle.std.proofs.Common.{◌≡◌, ℕ, List, map, drop, refl, ap, ◌∙◌}
use Rattle.grib_topics.specs.Nearest.{Seen, none, nearest, nearest_name}
use Rattle.grib_topics.specs.Topics.{key_texts, first_key_texts}
use Rattle.grib_topics.proofs.nearest.nearest_name.Goals as goal

-- of two tables, by their parts
of_both : (word : List ℕ) (keys first keys2 first2 : List (List ℕ)) (second best : Seen)
    → second ≡ nearest word none keys → best ≡ nearest word second first → keys ≡ keys2 → first ≡ first2
    → best ≡ nearest word (nearest word none keys2) first2
of_both word keys first keys2 first2 second best e f k g =
    f ∙ (ap (λ s. nearest word s first) (e ∙ ap (λ ks. nearest word none ks) k) ∙ ap (λ fs. nearest word (nearest word none keys2) fs) g)

pub returns : goal.returns
unfolding nearest_name
returns c = ap (λ (found : Seen). found.name) (of_both c.args.word.now _ _ (drop 1 key_texts) (drop 1 first_key_texts) _ _ c.in_ok-second.ensures c.in_ok-best.ensures refl refl)
