-- The ways so far have put what was late, and the others are as they were.
use Rattle.std.proofs.Common.{◌≡◌, ◌≤◌, length}
use Rattle.rr_threads.proofs.Mailing.{HaveSome}
use Rattle.rr_threads.proofs.wires.Mail.put_late.Given as goal

abbrev pub invariant-loop-place : goal.invariant-loop-place
invariant-loop-place g l =
    (l.self.inbox ≡ l.fn.self.inbox) × (l.self.kept ≡ l.fn.self.kept) × (l.place ≤ length l.fn.self.ways.items) × HaveSome l.place l.fn.self.ways.items l.self.ways.items
