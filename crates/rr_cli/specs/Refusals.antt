-- What a refusal ends the program with, and the line that tells it.
use Rattle.std.specs.Prelude.{ℕ, List, [], ◌∷◌, codes, decimal}
use Rattle.rr_types.specs.declared.refusal.Refusal.{Refusal}
use Rattle.rr_types.specs.declared.refusal.Refusal.TheVariants.{OutOfMemory, Device, Damaged, Failed, Down, BadNodes, BadName, BadValue, ListFull, RoundsOut, Malformed, StrangeMark, Busy, BadEvent, SeatsTaken, TooLarge, AuditNo, NoGuard}
use Rattle.rr_types.specs.Refusal.{number_of, refusal_text}
use Rattle.rr_text.specs.ReportTexts.{line}

-- the exit status that a refusal ends the program with; 5, the status of devices, where a run can't end by it
abbrev pub status_of : Refusal → ℕ
status_of OutOfMemory = 6
status_of Device = 5
status_of (Damaged area offset) = 4
status_of Failed = 5
status_of Down = 5
status_of BadNodes = 3
status_of BadName = 5
status_of BadValue = 5
status_of ListFull = 5
status_of RoundsOut = 5
status_of (Malformed offset) = 5
status_of StrangeMark = 5
status_of Busy = 5
status_of (BadEvent line) = 3
status_of SeatsTaken = 5
status_of TooLarge = 5
status_of (AuditNo index) = 7
status_of NoGuard = 5

-- the line that tells a refusal: the program, the refusal's number, and its name with the numbers behind it
abbrev pub refusal_line : Refusal → List ℕ
refusal_line r = line (codes "rr:" ∷ decimal (number_of r) ∷ refusal_text r ∷ [])
