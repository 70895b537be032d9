-- Served time, by which connections are late: what a turn took longer was the desk's or the disk's time, and no client's.
use Rattle.std.specs.Prelude.{ℕ, ◌-◌, min}
use Rattle.serve_sockets.specs.declared.served_time.ServedTime.{ServedTime}

-- how many milliseconds there are between the stamps of two turns, of which 100 at most count
abbrev pub counted : ℕ → ℕ → ℕ
counted last millis = min (millis - last) 100

-- how many milliseconds of the turns so far count
abbrev pub served_of : ServedTime → ℕ
served_of time = time.served

-- the stamp of the last turn, in milliseconds
abbrev pub last_of : ServedTime → ℕ
last_of time = time.last
