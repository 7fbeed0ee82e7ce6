use Rattle.std.proofs.Common.{List, ℕ, subst}
use Rattle.rr_lively.specs.Finishes.{Adds}
use Rattle.rr_lively.proofs.finish.finish_on.Goals as goal

pub finish_of-requires-clause-adds : goal.finish_of-requires-clause-adds
finish_of-requires-clause-adds g c = subst (λ (given : List ℕ). Adds c.args.nodes given c.go_on.new.going.schedule.items) c.in_ok-going.ensures.whole c.in_ok-ending.ensures.adds

pub finish_of-requires-clause-read : goal.finish_of-requires-clause-read
finish_of-requires-clause-read g c = (c.in_ok-going.going.line, c.in_ok-going.ensures.read)
