-- What lies on a client's counter.
use Rattle.std.specs.Prelude.{◌≡◌, Option, Some}
use Rattle.rr_turn.specs.Asked.{Call, wants_reply}
use Rattle.rr_threads.specs.declared.desk.Wanted.{Wanted}

-- a command that is wanted is put there; the other calls of a client leave what was put there last
abbrev pub errand_gives : Option Wanted → Call → Option Wanted → Type 0
errand_gives a (wants_reply command) b = b ≡ Some (record { command = command })
errand_gives a call b = b ≡ a

module _ {L : Type 0} (wanted : L → Option Wanted) where
  -- the same, of what has a counter
  abbrev pub gives_there : L → Call → L → Type 0
  gives_there a call b = errand_gives (wanted a) call (wanted b)
