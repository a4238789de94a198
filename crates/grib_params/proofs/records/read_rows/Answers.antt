use Rattle.std.proofs.Common.{◌+◌, Bor, List, ℕ, ◌∙◌, refl, sym, subst, inl, inr, Some, arith}
use Rattle.std.proofs.lemmas.Result.{err_from_is_err_and}
use Rattle.csv.specs.Records.{fields_of}
use Rattle.grib_params.proofs.Reading.{begins, ended, stands_on, stepped}
use Rattle.grib_params.proofs.records.read_rows.Goals as goal

pub returns-then-text-gt-MOST_OCTETS : goal.returns-then-text-gt-MOST_OCTETS
returns-then-text-gt-MOST_OCTETS g c = g.met.R.FromRecords.judged.large c.args.text.now (omega arith)

pub returns-in-Err : goal.returns-in-Err
returns-in-Err g c = g.met.R.FromRecords.judged.unknown _

pub loop-record-init : goal.loop-record-init
loop-record-init g c =
    let made = c.from_reader.ensures in
    let headers = c.has_headers.ensures in
    let flexible = c.flexible.ensures in
    let start = c.into_iter-record-iterator.ensures.into_iter_gives ∙ refl in
    let reader = c.into_byte_records-records.ensures.rdr in
    let left = c.into_byte_records-records.ensures.left in
    let trim = rw (flexible, headers) at made.trim in
    let named = rw (flexible, headers) at made.has_headers in
    let any = rw flexible at made.flexible in
    let config = rw (flexible, headers) at made.config in
    rw (start, reader, c.empty-table.ensures, g.met.R.FromRecords.judged.small c.args.text.now (omega arith)) (record {
      trim = trim ∙ c.new.ensures.trim;
      ready = inr (inr (named, made.headers));
      flexible = any;
      left = left;
      stands = begins g.R.FromRecords.verdict_from (λ (s : Bor (List ℕ)). Some s.now) g.R.FromRecords.none c.from_reader.result c.args.text.now (omega arith) (config ∙ c.new.ensures.config) made.source made.state;
    })

pub returns-in_err-table : goal.returns-in_err-table
returns-in_err-table g c =
    let inv = c.loop-record.invariant in
    let s = rw (c.in-Some.is, c.in-Ok.is) at ((c.next.ensures.steps inv.left inv.trim).0 inv.ready) in
    let at = stepped g.R.FromRecords.verdict_from (λ (s : Bor (List ℕ)). Some s.now) (g.R.FromRecords.verdict c.args.text.now) c.loop-record.record-iterator.rdr c.next.new.self.rdr c.loop-record.number c.loop-record.table (fields_of c.in-Ok.record) inv.stands s.0 in
    let p = err_from_is_err_and c.from_residual.result c.from_residual.ensures.1 in
    rw (p.1, p.2) (subst (λ v. g.R.FromRecords.IsFault v c.in_err-table.field-0.0) (sym at.verdict) (c.in_err-table.ensures c.loop-record.number _ refl))

pub loop-record-preserved : goal.loop-record-preserved
loop-record-preserved g c =
    let inv = c.loop-record.invariant in
    let s = rw (c.in-Some.is, c.in-Ok.is) at ((c.next.ensures.steps inv.left inv.trim).0 inv.ready) in
    let at = stepped g.R.FromRecords.verdict_from (λ (s : Bor (List ℕ)). Some s.now) (g.R.FromRecords.verdict c.args.text.now) c.loop-record.record-iterator.rdr c.next.new.self.rdr c.loop-record.number c.loop-record.table (fields_of c.in-Ok.record) inv.stands s.0 in
    let any = rw (c.in-Some.is, c.in-Ok.is) at (c.next.ensures.steps inv.left inv.trim).3 in
    record {
      trim = s.0.3 ∙ inv.trim;
      ready = inl s.1;
      flexible = any ∙ inv.flexible;
      left = s.2;
      stands = stands_on g.R.FromRecords.verdict_from (λ (s : Bor (List ℕ)). Some s.now) (g.R.FromRecords.verdict c.args.text.now) c.next.new.self.rdr c.loop-record.number c.loop-record.table c.in_ok-table.table (fields_of c.in-Ok.record) at
          (λ rest. c.in_ok-table.ensures c.loop-record.number rest refl);
    }

pub returns : goal.returns
returns g c =
    let inv = c.loop-record.invariant in
    let s = rw c.in-None.is at ((c.next.ensures.steps inv.left inv.trim).0 inv.ready) in
    ended g.R.FromRecords.verdict_from (λ (s : Bor (List ℕ)). Some s.now) (g.R.FromRecords.verdict c.args.text.now) c.loop-record.record-iterator.rdr c.next.new.self.rdr c.loop-record.number c.loop-record.table inv.stands s
    ∙ g.met.R.FromRecords.judged.ends c.loop-record.number c.loop-record.table
