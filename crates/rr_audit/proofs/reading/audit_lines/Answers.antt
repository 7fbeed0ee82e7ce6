use Rattle.std.proofs.Common.{◌+◌, ◌∙◌, rules, refl, arith}
use Rattle.rr_audit.proofs.ReadLaws.{audited_more, audited_all}
use Rattle.rr_audit.proofs.reading.audit_lines.Goals as goal

pub returns-in-Ok-None-clause-ok : goal.returns-in-Ok-None-clause-ok
returns-in-Ok-None-clause-ok g c =
    audited_all c.args.nodes c.args.bytes.now c.loop-refusal.line c.loop-refusal.rest.now c.loop-refusal.progress c.verdict.result c.requires.some c.requires.few c.loop-refusal.invariant.audited (search rules)
    (λ m events counted under_way. c.verdict.ensures m events (omega (arith, counted)) under_way)

pub loop-refusal-preserved : goal.loop-refusal-preserved
loop-refusal-preserved g c =
    record {
      audited = audited_more c.args.nodes c.args.bytes.now c.loop-refusal.line (c.loop-refusal.line + 1) c.loop-refusal.rest.now c.in-Ok-Some.behind.now c.loop-refusal.progress c.follow.new.self c.in-Ok-Some.event
          c.loop-refusal.invariant.audited (search rules) (λ m events counted under_way. c.in_ok-follow-in-Ok-Some.ensures.ok m events (omega (arith, counted)) under_way) refl;
      unprinted = c.tell_step.ensures ∙ c.loop-refusal.invariant.unprinted;
    }
