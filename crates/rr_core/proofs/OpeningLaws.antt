-- A step of a node's opening, by what the step of its journal's opening answered.
use Rattle.std.proofs.Common.{◌≡◌, ℕ, List, Result, Ok, Vec, sym, ap, subst, ◌∙◌}
use Rattle.std.specs.declared.alloc.Global.{Global}
use Rattle.rr_types.specs.declared.promise.Entry.{Entry}
use Rattle.rr_types.specs.declared.refusal.Refusal.{Refusal}
use Rattle.rr_model.specs.NodeState.{NodeState}
use Rattle.rr_model.specs.NodeStep.{started}
use Rattle.rr_model.proofs.NodeSteady.{started_stays}
use Rattle.rr_disk.specs.declared.area.Area.{Area}
use Rattle.rr_disk.specs.Areas.{Areas}
use Rattle.rr_journal.specs.declared.journal.Journal.{Journal}
use Rattle.rr_journal.specs.declared.opened.Opened.{Opened}
use Rattle.rr_journal.specs.OpeningStates.{OpeningState}
use Rattle.rr_journal.specs.declared.opening.Progress.{Progress}
use Rattle.rr_journal.specs.declared.opening.Progress.TheVariants.{Done}
use Rattle.rr_journal.specs.OpeningSteps.{Steps}
use Rattle.rr_journal.specs.OpeningTable.{ComesToAny}
use Rattle.rr_journal.specs.OpenDisks.{IsReady}
use Rattle.rr_core.specs.Known.{HoldSoMany}
use Rattle.rr_core.specs.Recoveries.{end_of, IsStarted, StandsFor}
use Rattle.rr_core.proofs.KnowingLaws.{rests_so}

module _ {D : Type 0} where
  -- what holds of an opening and of what its step gave holds of them under other names
  pub moved : (P : OpeningState D → Progress D → Type 0) (o other : OpeningState D) (x y : Progress D) → o ≡ other → x ≡ y → P o x → P other y
  moved P o other x y same is h = subst (λ (q : OpeningState D). P q y) same (subst (P o) is h)

  -- the end that the journal's opening gave is that of the core and the areas
  same_end : (j slots : Journal D) (end : Opened) (core : NodeState) → slots ≡ j → core.marked ≡ end.promise → j.next ≡ end.next → j.nodes ≡ end.nodes → j.node ≡ end.node → end ≡ end_of core slots
  same_end j slots end core same marked next nodes node =
      let of_nodes : end.nodes ≡ slots.nodes = sym nodes ∙ ap (λ (k : Journal D). k.nodes) (sym same) in
      let of_node : end.node ≡ slots.node = sym node ∙ ap (λ (k : Journal D). k.node) (sym same) in
      let of_next : end.next ≡ slots.next = sym next ∙ ap (λ (k : Journal D). k.next) (sym same) in
      λ i. record { nodes = of_nodes i; node = of_node i; promise = sym marked i; next = of_next i }

  pub ended : (j slots : Journal D) (end : Opened) (core : NodeState) → slots ≡ j → core.marked ≡ end.promise → j.next ≡ end.next → j.nodes ≡ end.nodes → j.node ≡ end.node → Done j end ≡ Done slots (end_of core slots)
  ended j slots end core same marked next nodes node =
      ap (λ (k : Journal D). Done k end) (sym same) ∙ ap (λ (e : Opened). Done slots e) (same_end j slots end core same marked next nodes node)

  -- so is what a whole opening gave
  pub opened : (j slots : Journal D) (end : Opened) (core : NodeState) → slots ≡ j → core.marked ≡ end.promise → j.next ≡ end.next → j.nodes ≡ end.nodes → j.node ≡ end.node → Path (Journal D × Opened) (j, end) (slots, end_of core slots)
  opened j slots end core same marked next nodes node =
      let is = same_end j slots end core same marked next nodes node in
      λ i. (sym same i, is i)

  -- the core has started so
  pub starts : (j slots : Journal D) (end : Opened) (core : NodeState) → core ≡ started end.nodes end.node end.promise end.next → slots ≡ j → core.marked ≡ end.promise → j.next ≡ end.next → j.nodes ≡ end.nodes → j.node ≡ end.node → IsStarted core slots
  starts j slots end core is same marked next nodes node = is ∙ ap (λ (e : Opened). started e.nodes e.node e.promise e.next) (same_end j slots end core same marked next nodes node)

-- what the last step of the journal's opening leaves
module _ {D : Type 0} (of_read : D → Area → ℕ → ℕ → Result (Vec ℕ Global) Refusal → D → Type 0) (of_write : D → Area → ℕ → List ℕ → Result (Unit {0}) Refusal → D → Type 0) (of_sync : D → Result (Unit {0}) Refusal → D → Type 0) (areas : D → Areas) where
  pub last_whose : (o : OpeningState D) (j : Journal D) (end : Opened) → Steps of_read of_write of_sync o (Ok (Done j end)) → (j.nodes ≡ o.nodes) × (j.node ≡ o.node) × (j.next ≡ end.next) × (j.nodes ≡ end.nodes) × (j.node ≡ end.node)
  last_whose o j end (v, made, opens, is, nodes, node) = (
    ap (λ (k : Journal D). k.nodes) is,
    ap (λ (k : Journal D). k.node) is,
    ap (λ (k : Journal D). k.next) is,
    ap (λ (k : Journal D). k.nodes) is ∙ sym nodes,
    ap (λ (k : Journal D). k.node) is ∙ sym node,
  )

  pub last_stands : (o : OpeningState D) (x : Progress D) (j : Journal D) (end : Opened) → x ≡ Done j end → Steps of_read of_write of_sync o (Ok x) → ComesToAny areas x → StandsFor areas end.promise j
  last_stands o x j end is steps comes =
      let whose = last_whose o j end (subst (λ (y : Progress D). Steps of_read of_write of_sync o (Ok y)) is steps) in
      rests_so {D = D} areas j end whose.2 (subst (ComesToAny areas) is comes)

-- what the journal stands for, the areas and the core do
pub stands_so : {D : Type 0} (areas : D → Areas) (j slots : Journal D) (promise : List Entry) (core : NodeState) → slots ≡ j → core.marked ≡ promise → StandsFor areas promise j → StandsFor areas core.marked slots
stands_so {D} areas j slots promise core same marked stands = subst (λ (es : List Entry). StandsFor areas es slots) (sym marked) (subst (StandsFor areas promise) (sym same) stands)

-- a core that has just started has the promise that it started from
pub started_marked : (n p : ℕ) (promise : List Entry) (next : ℕ) (core : NodeState) → core ≡ started n p promise next → core.marked ≡ promise
started_marked n p promise next core is = ap (λ (s : NodeState). s.marked) is ∙ (started_stays n p promise next).marked

-- a core that has just started has marked as many facts as the opening numbered
pub numbered : {D : Type 0} (areas : D → Areas) (n p : ℕ) (j slots : Journal D) (end : Opened) (core : NodeState) → core ≡ started end.nodes end.node end.promise end.next → slots ≡ j
    → HoldSoMany n p (areas j.disk) end.next → HoldSoMany n p (areas slots.disk) core.marked_end
numbered {D} areas n p j slots end core is same many =
    subst (λ (k : ℕ). HoldSoMany n p (areas slots.disk) k) (sym (ap (λ (s : NodeState). s.marked_end) is ∙ (started_stays end.nodes end.node end.promise end.next).marked_end)) (subst (λ (k : Journal D). HoldSoMany n p (areas k.disk) end.next) (sym same) many)

pub numbered_at : {D : Type 0} (areas : D → Areas) (j slots : Journal D) (end : Opened) (core : NodeState) → core ≡ started end.nodes end.node end.promise end.next → slots ≡ j
    → HoldSoMany j.nodes j.node (areas j.disk) end.next → HoldSoMany slots.nodes slots.node (areas slots.disk) core.marked_end
numbered_at {D} areas j slots end core is same many =
    numbered {D = D} areas slots.nodes slots.node j slots end core is same
    (subst (λ (k : Journal D). HoldSoMany k.nodes k.node (areas j.disk) end.next) (sym same) many)

-- so is the end of a whole opening
pub found_end : {D : Type 0} (n p : ℕ) (j slots : Journal D) (end : Opened) (core : NodeState) → slots ≡ j → core.marked ≡ end.promise → IsReady n p (j, end) → Path (Journal D × Opened) (j, end) (slots, end_of core slots)
found_end {D} n p j slots end core same marked ready = opened {D = D} j slots end core same marked ready.2 (ready.0 ∙ sym ready.6) (ready.1 ∙ sym ready.7)
