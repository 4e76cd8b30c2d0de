-- Whether padded varints are refused, document 02, Q-8: the host's call.
use Rattle.std.specs.Prelude.{Bool}
use Rattle.state.specs.declared.Device.{Device}
use Rattle.state.specs.declared.State.{State}

abbrev pub with_padding_refused : Device → Bool → Device
with_padding_refused d on =
    record {
      hw_id = d.hw_id;
      vendor_hw_id = d.vendor_hw_id;
      home = d.home;
      image_len = d.image_len;
      interval_min = d.interval_min;
      interval_max = d.interval_max;
      signed_posts = d.signed_posts;
      signed_responses = d.signed_responses;
      refuse_padding = on;
    }

-- on or off; all else stays
unfoldable pub refusing_padding : State → Bool → State
refusing_padding s on =
    record { device = with_padding_refused s.device on; images = s.images; assigned = s.assigned; registration = s.registration; waiting = s.waiting }
