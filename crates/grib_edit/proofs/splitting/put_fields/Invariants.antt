use Rattle.std.proofs.Common.{◌≡◌, ◌*◌, ◌≤◌}
use Rattle.grib_base.specs.declared.limits.TheConstants.{MOST_OCTETS}
use Rattle.grib_edit.specs.Parts.{first_parts, puts_all, octets_within}
use Rattle.grib_edit.specs.Shelving.{DidOnShelf}
use Rattle.grib_edit.proofs.splitting.put_fields.Given as goal

-- the fields so far were put whole, and no fault
abbrev pub invariant-loop-index : goal.invariant-loop-index
invariant-loop-index g l = record {
  shelved : DidOnShelf (g.H.Shelf.contents l.fn.shelf) (g.H.Shelf.contents l.shelf) (puts_all (first_parts l.name l.before l.message l.index));
  sum : l.written ≡ octets_within (first_parts l.name l.before l.message l.index);
  few : l.written ≤ MOST_OCTETS * l.index;
  faults_stay : g.H.Shelf.faults l.shelf ≡ g.H.Shelf.faults l.fn.shelf;
}
