-- `images::put_open` meets its contract: by whether an image is open.
use Rattle.images.proofs.Laws.{open-not, open-put}
use Rattle.images.proofs.put_open.Goals as goal

pub returns-then-not-images : goal.returns-then-not-images
returns-then-not-images c = open-not _ c.if-not-images.true c.put.ensures

pub returns : goal.returns
returns c = open-put _ c.if-not-images.false c.map_len.ensures c.load_time-time.ensures c.put_open.ensures
