use Rattle.std.proofs.Common.{Option, Ok, sym, ◌∙◌, subst}
use Rattle.rr_audit.specs.declared.given.Given.{Given}
use Rattle.rr_audit.specs.Following.{Steps}
use Rattle.rr_audit.proofs.ReadLaws.{found_still, found_now, found_on}
use Rattle.rr_audit.proofs.progress.Progress.follow.Goals as goal

pub returns-then-is_some-clause-ok : goal.returns-then-is_some-clause-ok
returns-then-is_some-clause-ok c = λ n events counted h.
    found_still n events c.args.event.now c.args.self.now.replay c.args.self.now.stopped (sym c.is_some.ensures ∙ c.if-is_some.true) h

pub returns-in-Some-clause-ok : goal.returns-in-Some-clause-ok
returns-in-Some-clause-ok c = λ n events counted h.
    found_now n c.args.number events c.args.event.now c.args.self.now.replay c.step.new.self c.args.self.now.stopped c.in-Some.given (sym c.is_some.ensures ∙ c.if-is_some.false) counted h
    (subst (λ (g : Option Given). Steps c.args.event.now c.args.self.now.replay c.step.new.self (Ok g)) c.in-Some.is c.in_ok-given.ensures)

pub returns-in_default-clause-ok : goal.returns-in_default-clause-ok
returns-in_default-clause-ok c = λ n events counted h.
    found_on n events c.args.event.now c.args.self.now.replay c.step.new.self c.args.self.now.stopped (sym c.is_some.ensures ∙ c.if-is_some.false) h
    (subst (λ (g : Option Given). Steps c.args.event.now c.args.self.now.replay c.step.new.self (Ok g)) c.in_default.is c.in_ok-given.ensures)
