-- The mark behind a node's marked facts stays there as the node goes on.
use Rattle.std.proofs.Common.{◌≡◌, ◌+◌, ℕ, List, length, ap, sym, ◌∙◌, refl, Option, Some, None, Result, Ok, Err}
use Rattle.std.specs.Prelude.{IfOk, IsSome, OnOk, OnErr, []}
use Rattle.std.specs.declared.alloc.AllocError.{AllocError}
use Rattle.rr_types.specs.declared.refusal.Refusal.{Refusal}
use Rattle.rr_types.specs.declared.command.RequestNo.{RequestNo}
use Rattle.rr_types.specs.declared.command.Reply.{Reply}
use Rattle.rr_types.specs.declared.promise.Entry.{Entry}
use Rattle.rr_types.specs.Groups.{Grouped}
use Rattle.rr_registry.specs.Kept.{Kept}
use Rattle.rr_model.specs.NodeState.{NodeState}
use Rattle.rr_model.specs.NodeStep.{group_taken, running_group, group_put_back, marked_running, started}
use Rattle.rr_model.proofs.NodeSteady.{started_stays}
use Rattle.rr_core.specs.Steps.{Changed, combined}
use Rattle.rr_core.specs.Marks.{Marked, mark_of}
use Rattle.rr_core.proofs.GroupLemmas.{runs_is}
use Rattle.rr_core.proofs.MarkLemmas.{IsAcked}

abbrev marked : ℕ → ℕ → Marked
marked p k = record { node = p; end = k }

-- a node that has just started, by the opening that it started from
pub started_mark : (n p : ℕ) (promise : List Entry) (next : ℕ) (s : NodeState) → s ≡ started n p promise next → mark_of s ≡ record { node = p; end = next }
started_mark n p promise next s is =
    let stays = started_stays n p promise next in
    ap mark_of is ∙ ap (λ (q : ℕ). marked q (started n p promise next).marked_end) stays.node ∙ ap (marked p) stays.marked_end

pub started_marks : (n p : ℕ) (promise : List Entry) (next q end : ℕ) (r : Result NodeState AllocError) → p ≡ q → next ≡ end → IfOk r (λ s. s ≡ started n p promise next) → IfOk r (λ s. mark_of s ≡ record { node = q; end = end })
started_marks n p promise next q end (Ok s) own there is = started_mark n p promise next s is ∙ ap (λ (k : ℕ). marked k next) own ∙ ap (marked q) there
started_marks n p promise next q end (Err e) own there is = tt

-- a step that was taken on, or not
pub commit_mark : (m : Marked) (s t : NodeState) (c : Changed) (r : Result (Unit {0}) AllocError) → OnOk r (t ≡ combined s c) → OnErr r (t ≡ s) → m ≡ mark_of s → m ≡ mark_of t
commit_mark m s t c (Ok u) ok err h = h ∙ ap mark_of (sym ok)
commit_mark m s t c (Err e) ok err h = h ∙ ap mark_of (sym err)

-- a group that was taken, or not
pub taken_mark : (m : Marked) (s t : NodeState) (r : Result (Option Grouped) Refusal) → IfOk r (λ g. g ≡ None → (t ≡ s) × (s.staged ≡ [])) → IfOk r (λ g. IsSome g → (t ≡ group_taken s) × (g ≡ running_group t)) → OnErr r (t ≡ s) → m ≡ mark_of s → m ≡ mark_of t
unfolding group_taken
taken_mark m s t (Ok None) none some err h = h ∙ ap mark_of (sym (none refl).0)
taken_mark m s t (Ok (Some g)) none some err h = h ∙ ap mark_of (sym (some refl).0)
taken_mark m s t (Err e) none some err h = h ∙ ap mark_of (sym err)

pub put_back_mark : (m : Marked) (s t : NodeState) → t ≡ group_put_back s → m ≡ mark_of s → m ≡ mark_of t
unfolding group_put_back
put_back_mark m s t e h = h ∙ ap mark_of (sym e)

-- the end of the running group is the mark once it is marked
pub marked_mark : (m : Marked) (s t : NodeState) (group : Grouped) (p : ℕ) → running_group s ≡ Some group → m ≡ record { node = p; end = group.serial + length group.facts } → p ≡ s.node → t ≡ marked_running s → m ≡ mark_of t
unfolding marked_running
marked_mark m s t group p runs is own e =
    let by = runs_is s group runs in
    let there : marked s.node (group.serial + length group.facts) ≡ mark_of (marked_running s) = rw (by.0, by.1) refl in
    is ∙ ap (λ (q : ℕ). marked q (group.serial + length group.facts)) own ∙ there ∙ ap mark_of (sym e)

-- an acknowledgement that was taken, or not
pub acked_mark : (m : Marked) (s t : NodeState) (k : Kept) (r : Option (RequestNo × Reply)) → IsAcked s t k r → m ≡ mark_of s → m ≡ mark_of t
acked_mark m s t k None h e = e ∙ ap mark_of (sym h.1)
acked_mark m s t k (Some a) h e = e ∙ ap mark_of (sym h.2)
