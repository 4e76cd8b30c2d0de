-- `own::put_own` meets its contract: record by record, and there is room for all.
use Rattle.images.proofs.Laws.{ImagesSized}
use Rattle.own.proofs.Laws.{AssignedSized, own-all}
use Rattle.std.proofs.Common.{rules}
use Rattle.own.proofs.put_own.Goals as goal

pub returns : goal.returns
returns c =
    let s = c.args.state in
    let assigned : AssignedSized s.assigned = record { ids = search rules; groups = search rules } in
    let images : ImagesSized s.images =
    record {
      running = search rules;
      hash = search rules;
      name = search rules;
      version = search rules;
      bitmap = search rules;
      backup = search rules;
    } in
    own-all _ _ (search rules) assigned images c.put_subscription-a.ensures c.put_time-b.ensures c.put_groups-c.ensures c.put_images.ensures
