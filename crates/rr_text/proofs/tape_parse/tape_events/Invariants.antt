use Rattle.std.proofs.Common.{length}
use Rattle.rr_text.specs.Taped.{IsTapeEvent}
use Rattle.rr_text.specs.TapeTexts.{tape_line}
use Rattle.rr_text.proofs.LineReading.{SoFar}
use Rattle.rr_text.proofs.tape_parse.tape_events.Given as goal

-- the events so far and the rest make the whole
abbrev pub invariant-loop-refusal : goal.invariant-loop-refusal
invariant-loop-refusal l = SoFar (IsTapeEvent l.nodes) tape_line l.bytes l.events.items l.rest

abbrev pub decreases-loop-refusal : goal.decreases-loop-refusal
decreases-loop-refusal l = length l.rest
