use Rattle.rr_sim.proofs.ActLaws.{told_refused}
use Rattle.rr_sim.proofs.cluster.Cluster.step_told.Goals as goal

pub returns-in-None : goal.returns-in-None
returns-in-None c =
    let steps = (rw c.in-None.is at c.in_ok-refused.ensures.ok) c.args.line in
    let spelt = (rw c.in-None.is at c.in_ok-refused.ensures.spelt) c.args.line in
    record { ok = (c.take.new.self, steps, spelt, c.in_ok-tell.ensures.kept, c.in_ok-tell.ensures.told) }

pub returns-in-Some : goal.returns-in-Some
returns-in-Some c =
    let steps = (rw c.in-Some.is at c.in_ok-refused.ensures.ok) c.args.line in
    let spelt = (rw c.in-Some.is at c.in_ok-refused.ensures.spelt) c.args.line in
    record {
      ok = told_refused _ c.push_refusal.result c.args.line c.args.event.now c.args.self.now c.take.new.self c.tell.new.self c.args.text.now.items c.tell.new.text.items c.push_refusal.new.text.items c.in-Some.refusal
          steps spelt c.in_ok-tell.ensures.kept c.in_ok-tell.ensures.told c.push_refusal.ensures.ok;
    }
