use Rattle.std.proofs.Common.{length, arith}
use Rattle.rr_state.proofs.TailLemmas.{taken_back}
use Rattle.rr_state.proofs.unmarked.Unmarked.take_back.Goals as goal

pub returns : goal.returns
returns c = taken_back c.self.inside.running c.self.inside.facts.items c.truncate.new.self.items c.args.self.now (length c.args.facts.now) _ c.self.view_is c.self.invariant c.requires (omega (arith, c.len.ensures)) c.truncate.ensures.items
