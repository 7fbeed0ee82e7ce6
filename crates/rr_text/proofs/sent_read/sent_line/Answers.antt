use Rattle.std.proofs.Common.{rules}
use Rattle.rr_text.proofs.sent_read.sent_line.Goals as goal

pub returns-in-Some-Estimate-default-clause-ok : goal.returns-in-Some-Estimate-default-clause-ok
returns-in-Some-Estimate-default-clause-ok c = let known = c.kind_and_fields.ensures c.args.nodes in let said = c.estimated.ensures.ok c.args.nodes in search rules

pub returns-in-Some-Estimate-default-clause-err : goal.returns-in-Some-Estimate-default-clause-err
returns-in-Some-Estimate-default-clause-err c = let known = c.kind_and_fields.ensures c.args.nodes in let said = c.estimated.ensures.err c.args.nodes in search rules

pub returns-in-Some-Proposal-default-clause-ok : goal.returns-in-Some-Proposal-default-clause-ok
returns-in-Some-Proposal-default-clause-ok c = let known = c.kind_and_fields.ensures c.args.nodes in let said = c.proposed.ensures.ok c.args.nodes in search rules

pub returns-in-Some-Proposal-default-clause-err : goal.returns-in-Some-Proposal-default-clause-err
returns-in-Some-Proposal-default-clause-err c = let known = c.kind_and_fields.ensures c.args.nodes in let said = c.proposed.ensures.err c.args.nodes in search rules

pub returns-in-Some-Decision-default-clause-ok : goal.returns-in-Some-Decision-default-clause-ok
returns-in-Some-Decision-default-clause-ok c = let known = c.kind_and_fields.ensures c.args.nodes in let said = c.decided.ensures.ok c.args.nodes in search rules

pub returns-in-Some-Decision-default-clause-err : goal.returns-in-Some-Decision-default-clause-err
returns-in-Some-Decision-default-clause-err c = let known = c.kind_and_fields.ensures c.args.nodes in let said = c.decided.ensures.err c.args.nodes in search rules

pub returns-in-Some-Request-default-clause-ok : goal.returns-in-Some-Request-default-clause-ok
returns-in-Some-Request-default-clause-ok c = let known = c.kind_and_fields.ensures c.args.nodes in let said = c.requested.ensures.ok c.args.nodes in search rules

pub returns-in-Some-Request-default-clause-err : goal.returns-in-Some-Request-default-clause-err
returns-in-Some-Request-default-clause-err c = let known = c.kind_and_fields.ensures c.args.nodes in let said = c.requested.ensures.err c.args.nodes in search rules
