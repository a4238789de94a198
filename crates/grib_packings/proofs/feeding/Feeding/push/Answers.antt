use Rattle.std.proofs.Common.{◌++◌, refl, sym, ◌∙◌}
use Rattle.grib_bits.proofs.OctetNumbers.{AreOctets-known}
use Rattle.grib_packings.proofs.Read.{push_read}
use Rattle.grib_packings.proofs.feeding.Feeding.push.Goals as goal

pub returns-clause-read : goal.returns-clause-read
returns-clause-read g c =
    push_read g.K.Keeper.kept c.args.self.now c.in-Some.reading c.push-reading.result c.args.piece.now _ (sym c.take.ensures.value ∙ c.in-Some.is) refl c.requires.within (AreOctets-known c.args.piece.now c.type_inv.piece) c.push-reading.ensures

pub returns-clause-fed : goal.returns-clause-fed
returns-clause-fed g c =
    let fed = c.requires.fed in
    record {
      s5 = fed.s5;
      keeper = fed.keeper;
      start = fed.start;
      l = fed.l;
      octets = fed.octets ++ c.args.piece.now;
      read = push_read g.K.Keeper.kept c.args.self.now c.in-Some.reading c.push-reading.result c.args.piece.now _ (sym c.take.ensures.value ∙ c.in-Some.is) refl c.requires.within (AreOctets-known c.args.piece.now c.type_inv.piece) c.push-reading.ensures fed.s5 fed.keeper fed.start fed.l fed.octets fed.read;
    }
