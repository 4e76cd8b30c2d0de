-- Boot, document 01, "Transfer".
use Rattle.std.specs.Prelude.{false}
use Rattle.loading.specs.Load.{booted}
use Rattle.registration.specs.Redirect.{restarted}
use Rattle.state.specs.declared.State.{State}

-- makes the pending hash, if any, running, clears pending, restores the setup URL and restarts registration; all else stays
unfoldable pub boot_of : State → State
boot_of s =
    record {
      device = s.device;
      images = booted s.images;
      assigned = s.assigned;
      registration = restarted s.device s.registration s.device.home false;
      waiting = s.waiting;
    }
