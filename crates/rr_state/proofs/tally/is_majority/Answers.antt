use Rattle.std.proofs.Common.{arith, sym}
use Rattle.rr_state.proofs.TallyLemmas.{empty_lacks}
use Rattle.rr_state.proofs.tally.is_majority.Goals as goal

-- src/tally.rt:225:9
pub returns-then-bits-eq0 : goal.returns-then-bits-eq0
returns-then-bits-eq0 c = sym (empty_lacks c.args.nodes c.args.set (omega (arith, c.if-bits-eq0.true, c.bits.ensures.value)))
