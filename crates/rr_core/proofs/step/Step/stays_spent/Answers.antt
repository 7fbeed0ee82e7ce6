use Rattle.std.proofs.Common.{◌≡◌, ◌-◌, ◌∙◌, ap, sym, subst, true, false, Some, List, length}
use Rattle.std.specs.Option.{option_map_or}
use Rattle.std.specs.Prelude.{slice_get}
use Rattle.std.proofs.lemmas.Bool.{false≢true}
use Rattle.rr_types.specs.declared.command.Command.{Command}
use Rattle.rr_types.specs.declared.promise.Standing.TheVariants.{Open}
use Rattle.rr_model.specs.NodeState.{standing_at, is_open}
use Rattle.rr_core.specs.Places.{HasNoRound, enters_with}
use Rattle.rr_core.specs.Steps.{Stepped, Changed}
use Rattle.rr_core.proofs.StageLemmas.{spent_at, spent_without, spent_by_entering}
use Rattle.rr_core.proofs.step.Step.stays_spent.Goals as goal
use Rattle.rr_core.proofs.step.Step.stays_spent.Goals.{then-deref-3, else-deref-3}

pub returns-then-deref-2 : goal.returns-then-deref-2
returns-then-deref-2 c = λ t.
    let known : c.self.inside.changes.value.spent ≡ true = ap (λ (m : Changed). m.spent) (sym c.deref-in-None.ensures) ∙ ap (λ (m : Changed). m.spent) (sym c.behind-self-in-None.view_is) ∙ c.if-deref-2.true in
    let none = subst (λ i. HasNoRound (standing_at c.args.self.now.state i)) c.instance-2.ensures c.in-None.ensures in
    spent_without c.args.fact.now c.self.inside.base.now c.self.inside.changes.value c.args.self.now.state (ap (λ (w : Stepped). w.state) c.self.view_is) c.row-row.ensures.ascend c.requires none (c.self.invariant.spent known)

pub returns-then-deref : goal.returns-then-deref
returns-then-deref c = λ t.
    let known : c.self.inside.changes.value.spent ≡ true = ap (λ (m : Changed). m.spent) (sym c.deref.ensures) ∙ ap (λ (m : Changed). m.spent) (sym c.behind-self.view_is) ∙ c.if-deref.true in
    let there = subst (λ i. standing_at c.args.self.now.state i ≡ Some (Open c.in-Some.at.now)) c.instance-2.ensures c.in-Some.ensures in
    spent_at c.args.fact.now c.self.inside.base.now c.self.inside.changes.value c.args.self.now.state c.in-Some.at.now (ap (λ (w : Stepped). w.state) c.self.view_is) c.row-row.ensures.ascend c.requires there (sym c.leaves_estimate.ensures ∙ t) (c.self.invariant.spent known)

pub returns-then-enters_with_last : goal.returns-then-enters_with_last
returns-then-enters_with_last c = λ t. elim c.if-deref-3.branch [
  | then-deref-3 w ↦
      let known : c.self.inside.changes.value.front ≡ true = ap (λ (m : Changed). m.front) (sym c.deref-in-None-2.ensures) ∙ ap (λ (m : Changed). m.front) (sym c.behind-self-in-None-2.view_is) ∙ w.if-deref-3.true in
      let pooled = w.deref-then-deref-3-2.ensures.value ∙ ap (λ (m : Changed). m.pooled) w.behind-self-then-deref-3.view_is ∙ ap (λ (m : Changed). m.pooled) w.deref-then-deref-3.ensures in
      let last = ap (λ (cs : List Command). option_map_or (enters_with c.args.fact.now) (slice_get cs (length cs - 1)) false) (sym pooled) ∙ sym w.enters_with_last.ensures ∙ sym w.value-is ∙ c.if-enters_with_last.true in
      let none = subst (λ i. HasNoRound (standing_at c.args.self.now.state i)) c.instance-2.ensures c.in-None.ensures in
      let opened = ap (is_open c.args.self.now.state) (sym c.instance-then-enters_with_last.ensures) ∙ sym c.is_open.ensures ∙ t in
      spent_by_entering c.args.fact.now c.self.inside.base.now c.self.inside.changes.value c.args.self.now.state (ap (λ (w : Stepped). w.state) c.self.view_is) c.row-row.ensures.ascend c.requires none opened last (c.self.invariant.front known)
  | else-deref-3 w ↦ absurd (false≢true (sym w.if-deref-3.false ∙ sym w.value-is ∙ c.if-enters_with_last.true))
]
