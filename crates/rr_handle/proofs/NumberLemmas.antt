-- Each refusal has a number.
use Rattle.std.proofs.Common.{◌≢◌}
use Rattle.rr_types.specs.declared.refusal.Refusal.{Refusal}
use Rattle.rr_types.specs.declared.refusal.Refusal.TheVariants.{OutOfMemory, Device, Damaged, Failed, Down, BadNodes, BadName, BadValue, ListFull, RoundsOut, Malformed, StrangeMark, Busy, BadEvent, SeatsTaken, TooLarge, AuditNo, NoGuard}
use Rattle.rr_types.specs.Refusal.{number_of}

-- it's never 0, which is the number of a call that wasn't refused
pub has_number : (e : Refusal) → number_of e ≢ 0
has_number OutOfMemory = λ z. absurd cc
has_number Device = λ z. absurd cc
has_number (Damaged area offset) = λ z. absurd cc
has_number Failed = λ z. absurd cc
has_number Down = λ z. absurd cc
has_number BadNodes = λ z. absurd cc
has_number BadName = λ z. absurd cc
has_number BadValue = λ z. absurd cc
has_number ListFull = λ z. absurd cc
has_number RoundsOut = λ z. absurd cc
has_number (Malformed offset) = λ z. absurd cc
has_number StrangeMark = λ z. absurd cc
has_number Busy = λ z. absurd cc
has_number (BadEvent line) = λ z. absurd cc
has_number SeatsTaken = λ z. absurd cc
has_number TooLarge = λ z. absurd cc
has_number (AuditNo index) = λ z. absurd cc
has_number NoGuard = λ z. absurd cc
