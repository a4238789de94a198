use Rattle.std.proofs.Common.{◌≡◌, ◌+◌, arith, rules, refl, ap, ◌∙◌, subst}
use Rattle.grib2_message.specs.Fields.{field_count}
use Rattle.grib_stream.specs.Acts.{world}
use Rattle.grib_stream.proofs.Worlds.{did_none}
use Rattle.grib_edit.specs.PartOctets.{octets_more}
use Rattle.grib_edit.specs.Parts.{first_parts, puts_all, octets_within}
use Rattle.grib_edit.specs.Shelving.{DidOnShelf}
use Rattle.grib_edit.proofs.Shelved.{fields_put, fields_cut, whole_told}
use Rattle.grib_edit.proofs.splitting.put_fields.Goals as goal

pub loop-index-init : goal.loop-index-init
loop-index-init g c = record { shelved = λ output. did_none (world output (g.H.Shelf.contents c.args.shelf.now)); sum = refl; few = omega arith; faults_stay = refl }

pub returns-in_err-written-clause-shelved : goal.returns-in_err-written-clause-shelved
returns-in_err-written-clause-shelved g c = record {
  whole = search rules;
  front = fields_cut c.args.name.now c.args.before c.args.message.now _ _ _ c.loop-index.index (c.loop-index.index + 1) (field_count c.args.message.now) (omega arith) (omega arith) c.loop-index.invariant.shelved
      c.put_field.ensures.shelved.front;
}

pub loop-index-preserved : goal.loop-index-preserved
loop-index-preserved g c =
    let more = octets_more c.args.name.now c.args.before c.args.message.now c.loop-index.index (c.loop-index.index + 1) (omega arith) in
    record {
      shelved = fields_put c.args.name.now c.args.before c.args.message.now _ _ _ c.loop-index.index (c.loop-index.index + 1) (omega arith) c.loop-index.invariant.shelved
          c.in_ok-written.ensures.shelved.whole;
      sum = omega (arith, c.loop-index.invariant.sum, c.in_ok-written.ensures.written, more);
      few = omega (arith, c.loop-index.invariant.few, c.in_ok-written.ensures.few);
      faults_stay = c.in_ok-written.ensures.counted ∙ c.loop-index.invariant.faults_stay;
    }

pub returns : goal.returns
returns g c =
    let all : c.loop-index.index ≡ field_count c.args.message.now = omega arith in
    record {
      shelved = whole_told _ _ _ _
          (subst (λ n. DidOnShelf (g.H.Shelf.contents c.args.shelf.now) (g.H.Shelf.contents c.loop-index.shelf) (puts_all (first_parts c.args.name.now c.args.before c.args.message.now n)))
          all c.loop-index.invariant.shelved);
      written = c.loop-index.invariant.sum ∙ ap (λ n. octets_within (first_parts c.args.name.now c.args.before c.args.message.now n)) all;
      counted = c.loop-index.invariant.faults_stay;
    }
