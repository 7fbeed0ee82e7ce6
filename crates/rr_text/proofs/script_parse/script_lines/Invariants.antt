use Rattle.std.proofs.Common.{length}
use Rattle.rr_text.proofs.ScriptReading.{SoFar}
use Rattle.rr_text.proofs.script_parse.script_lines.Given as goal

-- the lines so far and the rest make the whole
abbrev pub invariant-loop-rest : goal.invariant-loop-rest
invariant-loop-rest l = SoFar l.nodes l.bytes l.lines.items l.rest

abbrev pub decreases-loop-rest : goal.decreases-loop-rest
decreases-loop-rest l = length l.rest
