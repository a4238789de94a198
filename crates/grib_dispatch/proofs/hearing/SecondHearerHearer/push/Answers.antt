use Rattle.std.proofs.Common.{◌++◌, ◌∙◌, take, ap, subst}
use Rattle.grib2_arrival.specs.Heard.{StopsUnder}
use Rattle.grib_stream.specs.Hearing.{is_closed}
use Rattle.grib_command.specs.Judging.{judged}
use Rattle.grib_dispatch.proofs.HeardMessages.{not_truncated, undecided_open, second_is, second_long}
use Rattle.grib_dispatch.proofs.hearing.SecondHearerHearer.push.Goals as goal

pub push-requires : goal.push-requires
push-requires c =
    let octets = c.requires.1.0 in
    let heard = c.requires.1.1 in
    let second = c.requires.1.3 in
    record {
      live = (
        heard.0,
        octets,
        heard.2,
        record {
          begins = second_is (octets ++ c.args.piece.now) (second_long (octets ++ c.args.piece.now) second) second;
          unfinished = λ e. c.requires.1.2 (ap (λ j. j octets) heard.1 ∙ ap judged e);
        },
      );
    }

pub returns-in-Ok : goal.returns-in-Ok
returns-in-Ok c =
    λ judge octets heard.
    let profile = heard.0 in
    let pushed = c.in-Ok.ensures.heard profile octets heard.2 in
    record {
      within = pushed.0;
      heard = (profile, heard.1, pushed.1);
      unrefused = ap (λ j. is_closed (j (octets ++ c.args.piece.now))) heard.1 ∙ undecided_open _ (c.in-Ok.ensures.undecided profile octets heard.2);
      whole = λ less. ap (λ j. j (octets ++ take c.in-Ok.count c.args.piece.now)) heard.1 ∙ ap judged (pushed.2 less);
    }

pub returns-in-Err-Refused : goal.returns-in-Err-Refused
returns-in-Err-Refused c =
    λ judge octets heard.
    let profile = heard.0 in
    let stops = subst (StopsUnder profile (octets ++ c.args.piece.now)) c.in-Err-Refused.field-0-is (c.in-Err-Refused.ensures.heard profile octets heard.2) in
    (ap (λ j. j (octets ++ c.args.piece.now)) heard.1 ∙ ap judged stops.0, not_truncated c.in-Err-Refused.fault.reason stops.1)
