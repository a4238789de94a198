use Rattle.grib2_arrival.proofs.state.State.push.Goals as goal

pub returns-in-Feeds : goal.returns-in-Feeds
returns-in-Feeds c = λ profile u heard.
    let h = rw c.in-Feeds.is at heard in
    c.hand_on.ensures profile u h.0
