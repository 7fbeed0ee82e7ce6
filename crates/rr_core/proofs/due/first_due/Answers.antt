use Rattle.std.proofs.Common.{refl, ◌≡◌, ◌+◌, ap, sym, ◌∙◌, subst, true, drop, IsTrue, Option, None, option_map, arith}
use Rattle.rr_model.specs.NodeState.{Row}
use Rattle.rr_model.specs.NodeDue.{due_at, first_due}
use Rattle.rr_model.specs.NodeDue.Due.{Begin}
use Rattle.rr_core.proofs.DueLemmas.{IsSpent, first_due_more, first_due_here, due_begins, free_found, due_stops, due_unnamed, spent}
use Rattle.rr_core.proofs.due.first_due.Goals as goal
use Rattle.rr_core.proofs.due.first_due.Goals.{in-Some+in_default, in-None+then-not-is_pool_spent+in_default-first_free, in-None+else-not-is_pool_spent}

pub loop-instance-preserved : goal.loop-instance-preserved
loop-instance-preserved c =
    let s = c.args.step.now.state in
    let is = c.args.instances.now in
    let i = c.instance-item.result in
    let inv = c.loop-instance.invariant in
    let more : due_at s i ≡ None → first_due s (drop (c.loop-instance.instance-index + 1) is) ≡ first_due s is = λ none. sym (first_due_more s is c.loop-instance.instance-index i c.loop-instance-test.true c.instance-item.is none) ∙ inv.left in
    elim c.match-row.branch [
      | in-Some+in_default w ↦ record {
        left = more (due_stops s i _ _ _ w.in-Some.ensures refl refl w.in_default.ensures.value);
        spent = λ t. inv.spent (subst IsTrue w.is_pool_spent-is t);
      }
      | in-None+then-not-is_pool_spent+in_default-first_free w ↦
          let all : IsSpent s = spent s is i c.requires (sym (ap (option_map (λ v. v.now)) w.in_default-first_free.is) ∙ w.first_free.ensures) w.in-None.ensures in
          record { left = more (due_unnamed s i w.in-None.ensures (all i w.in-None.ensures)); spent = λ t. all }
      | in-None+else-not-is_pool_spent w ↦
          let t : c.loop-instance.is_pool_spent ≡ true = grind (arith, w.if-not-is_pool_spent.false) in
          record { left = more (due_unnamed s i w.in-None.ensures (inv.spent t i w.in-None.ensures)); spent = λ u. inv.spent t }
    ]

pub returns-in-Some-first_free-clause-value : goal.returns-in-Some-first_free-clause-value
returns-in-Some-first_free-clause-value c =
    let begin = due_begins c.args.step.now.state c.args.instances.now c.instance-item.result _ c.requires c.in-None.ensures (sym (ap (option_map (λ v. v.now)) c.in-Some-first_free.is) ∙ c.first_free.ensures) in
    sym (first_due_here c.args.step.now.state c.args.instances.now c.loop-instance.instance-index c.instance-item.result (Begin c.instance-item.result) c.loop-instance-test.true c.instance-item.is begin) ∙ c.loop-instance.invariant.left

pub returns-in-Some-first_free-clause-ready : goal.returns-in-Some-first_free-clause-ready
returns-in-Some-first_free-clause-ready c = (
  ap (λ (x : Option Row). option_map (λ (r : Row). r.standing) x) c.in-None.ensures,
  free_found c.args.step.now.state c.args.instances.now c.instance-item.result _ c.requires (sym (ap (option_map (λ v. v.now)) c.in-Some-first_free.is) ∙ c.first_free.ensures),
)
