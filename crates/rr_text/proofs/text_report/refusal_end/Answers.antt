use Rattle.std.proofs.Common.{codes, arith}
use Rattle.rr_text.proofs.WordLemmas.{one_digit, two_digits}
use Rattle.rr_text.proofs.text_report.refusal_end.Goals as goal

pub returns-in-OutOfMemory : goal.returns-in-OutOfMemory
returns-in-OutOfMemory c = rw c.in-OutOfMemory.is (one_digit 1 (codes "OutOfMemory") (omega arith))

pub returns-in-Device : goal.returns-in-Device
returns-in-Device c = rw c.in-Device.is (one_digit 2 (codes "Device") (omega arith))

pub returns-in-Damaged : goal.returns-in-Damaged
returns-in-Damaged c = rw c.in-Damaged.is (one_digit 3 (codes "Damaged") (omega arith))

pub returns-in-Failed : goal.returns-in-Failed
returns-in-Failed c = rw c.in-Failed.is (one_digit 4 (codes "Failed") (omega arith))

pub returns-in-Down : goal.returns-in-Down
returns-in-Down c = rw c.in-Down.is (one_digit 5 (codes "Down") (omega arith))

pub returns-in-BadNodes : goal.returns-in-BadNodes
returns-in-BadNodes c = rw c.in-BadNodes.is (one_digit 6 (codes "BadNodes") (omega arith))

pub returns-in-BadName : goal.returns-in-BadName
returns-in-BadName c = rw c.in-BadName.is (one_digit 7 (codes "BadName") (omega arith))

pub returns-in-BadValue : goal.returns-in-BadValue
returns-in-BadValue c = rw c.in-BadValue.is (one_digit 8 (codes "BadValue") (omega arith))

pub returns-in-ListFull : goal.returns-in-ListFull
returns-in-ListFull c = rw c.in-ListFull.is (one_digit 9 (codes "ListFull") (omega arith))

pub returns-in-RoundsOut : goal.returns-in-RoundsOut
returns-in-RoundsOut c = rw c.in-RoundsOut.is (two_digits 0 (codes "RoundsOut") (omega arith))

pub returns-in-Malformed : goal.returns-in-Malformed
returns-in-Malformed c = rw c.in-Malformed.is (two_digits 1 (codes "Malformed") (omega arith))

pub returns-in-StrangeMark : goal.returns-in-StrangeMark
returns-in-StrangeMark c = rw c.in-StrangeMark.is (two_digits 2 (codes "StrangeMark") (omega arith))

pub returns-in-Busy : goal.returns-in-Busy
returns-in-Busy c = rw c.in-Busy.is (two_digits 3 (codes "Busy") (omega arith))

pub returns-in-BadEvent : goal.returns-in-BadEvent
returns-in-BadEvent c = rw c.in-BadEvent.is (two_digits 4 (codes "BadEvent") (omega arith))

pub returns-in-SeatsTaken : goal.returns-in-SeatsTaken
returns-in-SeatsTaken c = rw c.in-SeatsTaken.is (two_digits 5 (codes "SeatsTaken") (omega arith))

pub returns-in-TooLarge : goal.returns-in-TooLarge
returns-in-TooLarge c = rw c.in-TooLarge.is (two_digits 6 (codes "TooLarge") (omega arith))

pub returns-in-AuditNo : goal.returns-in-AuditNo
returns-in-AuditNo c = rw c.in-AuditNo.is (two_digits 7 (codes "AuditNo") (omega arith))

pub returns-in-NoGuard : goal.returns-in-NoGuard
returns-in-NoGuard c = rw c.in-NoGuard.is (two_digits 8 (codes "NoGuard") (omega arith))
