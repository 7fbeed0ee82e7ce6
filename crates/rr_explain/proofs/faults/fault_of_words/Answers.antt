use Rattle.std.proofs.Common.{refl}
use Rattle.rr_explain.proofs.FaultLemmas.{ends_whole, ends_behind, on_rest}
use Rattle.rr_explain.proofs.faults.fault_of_words.Goals as goal

pub loop-init : goal.loop-init
loop-init c = ends_whole c.args.line.now

pub loop-preserved : goal.loop-preserved
loop-preserved c = ends_behind c.args.line.now c.loop.rest.now c.next_word.result.0.now c.in-Some-behind.behind.now c.loop.invariant (rw c.in-Some-behind.is at c.next_word.ensures.behind)

pub returns-in-Some : goal.returns-in-Some
returns-in-Some c = record { same = refl; on = on_rest c.args.line.now c.loop.rest.now _ _ c.loop.invariant c.column_of.ensures (c.in-Some.ensures c.loop.rest.now c.next_word.ensures.word) }
