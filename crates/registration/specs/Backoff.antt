-- Waiting, document 01, "Registration and reports".
use Rattle.std.specs.Prelude.{ℕ, zero, suc, ◌+◌, ◌*◌, ◌-◌, ◌/◌, ◌%◌, ◌≡◌, List, [], ◌∷◌, ltb}
use Rattle.buffer.specs.Pick.{pick}
use Rattle.schedule.specs.declared.Length.{Length}
use Rattle.registration.specs.declared.wait.Schedule.{Schedule}
use Rattle.state.specs.declared.Device.{Device}
use Rattle.state.specs.declared.Registration.{Registration}

-- first wait: r mod (tIntervalMin + 1); 0 if a redirect marked immediate started it
unfoldable pub first_wait : Device → Registration → ℕ → Length
first_wait d r random = pick r.immediate (record { 0 = 0 }) (record { 0 = random % (d.interval_min.0 + 1) })

-- half the interval rounded up
unfoldable pub half_up : ℕ → ℕ
half_up n = (n + 1) / 2

-- h + r mod (interval - h + 1)
unfoldable pub backoff_of : Length → ℕ → Length
backoff_of i random = record { 0 = half_up i.0 + random % (i.0 - half_up i.0 + 1) }

-- the rest of the interval
unfoldable pub rest_of : Length → Length → Length
rest_of i wait = record { 0 = i.0 - wait.0 }

-- the interval then doubles and stops at the largest
unfoldable pub doubled : Length → Length → Length
doubled i largest = pick (ltb (i.0 * 2) largest.0) (record { 0 = i.0 * 2 }) largest

-- the schedule behind a round: the interval then doubles and stops at the largest, which stays
unfoldable pub advanced_of : Schedule → Schedule
advanced_of s = record { interval = doubled s.interval s.largest; largest = s.largest }

-- the intervals of so many rounds, one after the other
unfoldable pub intervals : ℕ → Length → Length → List ℕ
intervals zero i largest = []
intervals (suc n) i largest = i.0 ∷ intervals n (doubled i largest) largest

-- document 01, "Sample values": intervals 300, 600, 1200, 2400, 3600, 3600
abbrev pub Samples : Type 0
Samples = intervals 6 (record { 0 = 300 }) (record { 0 = 3600 }) ≡ 300 ∷ 600 ∷ 1200 ∷ 2400 ∷ 3600 ∷ 3600 ∷ []
