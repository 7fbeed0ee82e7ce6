-- There is a promise for each disk so far.
use Rattle.std.proofs.Common.{◌≡◌, length}
use Rattle.rr_client.proofs.promises.promises_of.Given as goal

abbrev pub invariant-disks : goal.invariant-disks
invariant-disks g l = length l.promises.items ≡ length l.back.items
