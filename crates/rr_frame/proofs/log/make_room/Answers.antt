use Rattle.std.proofs.Common.{sym}
use Rattle.std.proofs.lemmas.List.{append-nil}
use Rattle.rr_frame.proofs.log.make_room.Goals as goal

pub returns-then-len-ge-NEWEST : goal.returns-then-len-ge-NEWEST
returns-then-len-ge-NEWEST c all stands = (all, rw c.clear.ensures.items (sym (append-nil all)))
