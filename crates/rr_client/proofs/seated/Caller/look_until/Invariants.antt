-- No look so far has told a change.
use Rattle.rr_client.specs.Asking.{IsQuiet}
use Rattle.rr_client.proofs.seated.Caller.look_until.Given as goal

abbrev pub invariant-looks : goal.invariant-looks
invariant-looks g l = IsQuiet l.prefix l.fn.self l.self
