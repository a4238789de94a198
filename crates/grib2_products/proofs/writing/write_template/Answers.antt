-- The template is that of the arm.
use Rattle.std.proofs.Common.{◌++◌, length, sym, ap, arith, subst}
use Rattle.grib_bits.proofs.Encoding.{AddsOctets-append}
use Rattle.grib2_products.specs.Writable.{CountsRanges}
use Rattle.grib2_products.specs.Written.{template_octets, WritesTemplate, ensemble_octets, end_octets, specs_octets}
use Rattle.grib2_products.specs.declared.product.Product.{Product}
use Rattle.grib2_products.proofs.Ranges.{length-specs_octets}
use Rattle.grib2_products.proofs.writing.write_template.Goals as goal

pub write_interval-requires-clause-room : goal.write_interval-requires-clause-room
write_interval-requires-clause-room c =
    omega (arith, ap (λ (p : Product). length (template_octets p)) c.in-Interval.is, length-specs_octets c.in-Interval.interval.specs, c.write_instant-in-Interval.ensures.octets.spare)

pub write_interval-requires-in-EnsembleInterval-clause-room : goal.write_interval-requires-in-EnsembleInterval-clause-room
write_interval-requires-in-EnsembleInterval-clause-room c =
    omega (
      arith,
      ap (λ (p : Product). length (template_octets p)) c.in-EnsembleInterval.is,
      length-specs_octets c.in-EnsembleInterval.interval.specs,
      c.write_instant-in-EnsembleInterval.ensures.octets.spare,
      c.write_ensemble-in-EnsembleInterval.ensures.octets.spare,
    )

pub write_interval-requires-clause-counted : goal.write_interval-requires-clause-counted
write_interval-requires-clause-counted c = subst CountsRanges c.in-Interval.is c.requires.counted

pub write_interval-requires-in-EnsembleInterval-clause-counted : goal.write_interval-requires-in-EnsembleInterval-clause-counted
write_interval-requires-in-EnsembleInterval-clause-counted c = subst CountsRanges c.in-EnsembleInterval.is c.requires.counted

pub returns-in-Instant : goal.returns-in-Instant
returns-in-Instant c =
    subst (WritesTemplate c.args.out.now c.write_instant.new.out) (sym c.in-Instant.is)
    (record { octets = c.write_instant.ensures.octets; spelled = c.write_instant.ensures.spelled })

pub returns-in-Ensemble : goal.returns-in-Ensemble
returns-in-Ensemble c =
    subst (WritesTemplate c.args.out.now c.write_ensemble.new.out) (sym c.in-Ensemble.is) (record {
      octets = AddsOctets-append c.write_instant-in-Ensemble.ensures.octets c.write_ensemble.ensures.octets;
      spelled = λ l count template rest. (
        c.write_instant-in-Ensemble.ensures.spelled l count template (ensemble_octets c.in-Ensemble.ensemble ++ rest),
        c.write_ensemble.ensures.spelled l count template c.in-Ensemble.instant rest,
      );
    })

pub returns-in-Interval : goal.returns-in-Interval
returns-in-Interval c =
    let i = c.in-Interval.interval in
    subst (WritesTemplate c.args.out.now c.write_interval.new.out) (sym c.in-Interval.is) (record {
      octets = AddsOctets-append c.write_instant-in-Interval.ensures.octets c.write_interval.ensures.octets;
      spelled = λ l count template rest. (
        c.write_instant-in-Interval.ensures.spelled l count template ((end_octets i ++ specs_octets i.specs) ++ rest),
        c.write_interval.ensures.at_35 l count template c.in-Interval.instant rest,
      );
    })

pub returns-in-EnsembleInterval : goal.returns-in-EnsembleInterval
returns-in-EnsembleInterval c =
    let i = c.in-EnsembleInterval.interval in
    let v = c.in-EnsembleInterval.instant in
    let e = c.in-EnsembleInterval.ensemble in
    let instant = c.write_instant-in-EnsembleInterval.ensures in
    let ensemble = c.write_ensemble-in-EnsembleInterval.ensures in
    let interval = c.write_interval-in-EnsembleInterval.ensures in
    subst (WritesTemplate c.args.out.now c.write_interval-in-EnsembleInterval.new.out) (sym c.in-EnsembleInterval.is) (record {
      octets = AddsOctets-append (AddsOctets-append instant.octets ensemble.octets) interval.octets;
      spelled = λ l count template rest.
          let after = (end_octets i ++ specs_octets i.specs) ++ rest in (
            instant.spelled l count template (ensemble_octets e ++ after),
            ensemble.spelled l count template v after,
            interval.at_38 l count template v e rest,
          );
    })
