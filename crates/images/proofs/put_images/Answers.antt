-- `images::put_images` meets its contract: row by row.
use Rattle.images.proofs.Laws.{images-join}
use Rattle.images.proofs.put_images.Goals as goal

pub returns : goal.returns
returns c = images-join _ c.put_running-a.ensures c.put_open-b.ensures c.put_backup.ensures
