-- How long one rests who waits.
use Rattle.std.specs.Prelude.{ℕ, ◌*◌, min}

-- the rest behind one of so many milliseconds: twice as long, up to 20
abbrev pub longer : ℕ → ℕ
longer rest = min (rest * 2) 20
