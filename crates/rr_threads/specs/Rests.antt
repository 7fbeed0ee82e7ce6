-- How long a thread rests that finds nothing to do.
use Rattle.std.specs.Prelude.{◌≡◌, ◌+◌, ◌*◌, min, nat_lt, if◌then◌else◌}
use Rattle.rr_turn.specs.Asked.{Call, goes_on, rests_aside}
use Rattle.rr_threads.specs.declared.rest.Rest.{Rest}

-- one more vain look: ten of them come before a rest
abbrev pub looked : Rest → Rest
looked r = if nat_lt r.looks 10 then record r { looks = r.looks + 1 } else r

-- the same, and a rest that is due is followed by one twice as long, up to the longest
abbrev pub longer : Rest → Rest
longer r = if nat_lt r.looks 10 then record r { looks = r.looks + 1 } else record r { micros = min (r.micros * 2) r.longest }

-- what a call of a flusher or a publisher does to its rest: where there is something to do the rests are short again, and each vain look
-- is counted. The other calls leave it
abbrev pub rest_gives : Rest → Call → Rest → Type 0
rest_gives a goes_on b = b ≡ record a { looks = 0; micros = a.first }
rest_gives a rests_aside b = b ≡ longer a
rest_gives a call b = b ≡ a
