-- `images::put_backup` meets its contract: by whether there is one.
use Rattle.images.proofs.Laws.{backup-not, backup-put}
use Rattle.images.proofs.put_backup.Goals as goal

pub returns-then-not-images : goal.returns-then-not-images
returns-then-not-images c = backup-not _ c.if-not-images.true c.put.ensures

pub returns : goal.returns
returns c = backup-put _ c.if-not-images.false c.load_time-time.ensures c.put_backup.ensures
