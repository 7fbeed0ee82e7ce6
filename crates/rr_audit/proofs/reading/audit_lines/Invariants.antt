use Rattle.std.proofs.Common.{◌≡◌, length}
use Rattle.rr_audit.proofs.ReadLaws.{AuditedSoFar}
use Rattle.rr_audit.proofs.reading.audit_lines.Given as goal

-- the audit has followed the events of the lines so far
abbrev pub invariant-loop-refusal : goal.invariant-loop-refusal
invariant-loop-refusal g l =
    record {
      audited : AuditedSoFar l.nodes l.bytes l.line l.rest l.progress;
      unprinted : g.O.Sink.printing l.out ≡ g.O.Sink.printing l.initial.out;
    }

abbrev pub decreases-loop-refusal : goal.decreases-loop-refusal
decreases-loop-refusal g l = length l.rest
