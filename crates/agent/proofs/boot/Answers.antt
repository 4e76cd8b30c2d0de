-- `agent::boot` meets its contract: part by part.
use Rattle.calls.specs.Boot.{boot_of}
use Rattle.agent.proofs.boot.Goals as goal

pub returns : goal.returns
unfolding boot_of
returns c = rw (c.restart-registration.ensures, c.boot-images.ensures)
