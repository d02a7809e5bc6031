use Rattle.filed.proofs.Filed.{not_judged, judged}
use Rattle.filed.proofs.judged.judged.Goals as goal

pub returns-in-Err : goal.returns-in-Err
returns-in-Err g c =
    not_judged _ _ _ _ _ c.unwrap_or.ensures c.no_latencies-latencies.ensures c.decode-fits.ensures c.is_some.ensures c.is_some-2.ensures
    c.ready.ensures c.in-Err.is

pub returns-in-Ok : goal.returns-in-Ok
returns-in-Ok g c =
    judged _ _ _ _ _ c.unwrap_or.ensures c.no_latencies-latencies.ensures c.decode-fits.ensures c.is_some.ensures c.is_some-2.ensures
    c.ready.ensures c.in-Ok.is _ c.unwrap_or-in-Ok.ensures c.concluded.ensures
