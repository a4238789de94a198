use Rattle.std.proofs.Common.{◌≡◌, ℕ, ◌+◌, List, length, refl, sym, ap, ◌∙◌, subst, rules, arith, append-nil}
use Rattle.grib_stream.specs.Acts.{Act}
use Rattle.grib_stream.specs.Task.{Gives}
use Rattle.grib_edit.specs.Parts.{part, part_name, parts1_of, puts, puts_all, octets_within}
use Rattle.grib_edit.specs.Shelving.{DidOnShelf, DidFrontOnShelf}
use Rattle.grib_edit.proofs.splitting.put_whole.Goals as goal

-- the acts of the one part
one_part : (name : List ℕ) (before : ℕ) (message octets : List ℕ) → octets ≡ message → puts (part (part_name name (before + 1)) octets) ≡ puts_all (parts1_of name before message)
one_part name before message octets is =
    ap (λ (xs : List ℕ). puts (part (part_name name (before + 1)) xs)) is ∙ sym (append-nil (puts (part (part_name name (before + 1)) message)))

one_within : (name : List ℕ) (before : ℕ) (message : List ℕ) → octets_within (parts1_of name before message) ≡ length message
one_within name before message = omega arith

pub returns-in-Ok : goal.returns-in-Ok
returns-in-Ok g c = λ m.
    let name = c.args.name.now in
    let before = c.args.before in
    let message = c.args.message.now in
    let acts = puts_all (parts1_of name before message) in
    record {
      answers = λ output. (
        acts,
        ap (Gives acts) (one_within name before message ∙ sym (c.in-Ok.ensures.written ∙ ap length c.octets.ensures.octets)),
        subst (λ (xs : List Act). DidOnShelf (g.H.Shelf.contents c.args.shelf.now) (g.H.Shelf.contents c.put_numbered.new.shelf) xs) (one_part name before message c.octets.result.now c.octets.ensures.octets)
            c.in-Ok.ensures.shelved.whole output,
      );
      shelf_fault = λ no. absurd (cc no);
      shelf_stays = λ other. c.in-Ok.ensures.counted;
      unwritten = λ no. cc;
    }

pub returns-in-Err-Failed : goal.returns-in-Err-Failed
returns-in-Err-Failed g c = λ m. record {
  answers = λ output.
      subst (λ (xs : List Act). DidFrontOnShelf (g.H.Shelf.contents c.args.shelf.now) (g.H.Shelf.contents c.put_numbered.new.shelf) xs)
      (one_part c.args.name.now c.args.before c.args.message.now c.octets.result.now c.octets.ensures.octets) c.in-Err-Failed.ensures.shelved.front output;
  shelf_fault = λ same. search rules;
  shelf_stays = λ other. absurd (other refl);
  unwritten = λ no. cc;
}

pub returns-in-Err-Memory : goal.returns-in-Err-Memory
returns-in-Err-Memory g c = λ m. record {
  answers = λ output.
      subst (λ (xs : List Act). DidFrontOnShelf (g.H.Shelf.contents c.args.shelf.now) (g.H.Shelf.contents c.put_numbered.new.shelf) xs)
      (one_part c.args.name.now c.args.before c.args.message.now c.octets.result.now c.octets.ensures.octets) c.in-Err-Memory.ensures.shelved.front output;
  shelf_fault = λ no. absurd (cc no);
  shelf_stays = λ other. search rules;
  unwritten = λ no. cc;
}
