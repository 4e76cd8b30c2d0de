-- What starts registration, document 01, "Registration and reports", record 6.
use Rattle.std.specs.Prelude.{ℕ, List, [], ◌∷◌, Bool, true, false, None, Option, Some}
use Rattle.decode.specs.Read.{redirect_of}
use Rattle.protobuf.specs.Given.{bytes_given}
use Rattle.state.specs.Setup.{url_of}
use Rattle.state.specs.declared.Device.{Device}
use Rattle.state.specs.declared.Registration.{Registration}
use Rattle.buffer.specs.declared.text.Text.{Text}

-- not accepted, no round awaited, interval tIntervalMin; the message id goes on
unfoldable pub restarted : Device → Registration → Text 128 → Bool → Registration
restarted d r url immediate =
    record {
      accepted = false;
      awaited = false;
      round = 0;
      interval = d.interval_min;
      immediate = immediate;
      url = url;
      message_id = r.message_id;
    }

unfoldable pub is_set : Option Bool → Bool
is_set (Some b) = b
is_set None = false

-- ignored are redirects with no or an empty URL
unfoldable pub followed : Option (List ℕ) → Bool
followed None = false
followed (Some []) = false
followed (Some (b ∷ bs)) = true

unfoldable pub follow : Device → Registration → Option (List ℕ) → Bool → Registration
follow d r None immediate = r
follow d r (Some []) immediate = r
follow d r (Some (b ∷ bs)) immediate = restarted d r (url_of (b ∷ bs)) immediate

-- the URL of a redirect
unfoldable pub url_in : List ℕ → Option (List ℕ)
url_in v = bytes_given v (redirect_of v).url

unfoldable pub redirected : Device → Registration → List ℕ → Registration
redirected d r v = follow d r (url_in v) (is_set (redirect_of v).immediate)
