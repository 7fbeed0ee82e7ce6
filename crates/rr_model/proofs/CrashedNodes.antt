-- Whatever a crash leaves of each node's facts, what they decide is chosen, and what they have decided begins the list.
use Rattle.std.proofs.Common.{◌≡◌, ℕ, List, Contains, take, drop, None, Some, sym, inl, inr, subst}
use Rattle.std.proofs.lemmas.List.Elements.{Contains-append_left}
use Rattle.std.proofs.lemmas.Option.{none-some}
use Rattle.rr_types.specs.declared.command.Command.{Command}
use Rattle.rr_types.specs.declared.fact.Fact.TheVariants.{Decide}
use Rattle.rr_types.specs.Facts.{standing_of, decision_of}
use Rattle.rr_types.specs.Registry.{reply_of}
use Rattle.rr_model.specs.World.{World, Step, decided_prefix, IsRun, end_of}
use Rattle.rr_model.specs.Sound.{IsChosen, IsChosenList}
use Rattle.rr_model.specs.Laws.{settled, DoCrashedNodesDecideAlike, DoCrashedNodesBeginTheList, DoCrashedNodesKnowTheirReplies}
use Rattle.rr_model.proofs.Prefixes.{Begins, decided_by, prefix_decides, prefix_grows}
use Rattle.rr_model.proofs.Replies.{same_reply}
use Rattle.rr_model.proofs.Invariants.{Invariant, all_said, settled_whole, settled_history}
use Rattle.rr_model.proofs.Soundness.{invariant_of, sound_one_chosen, chosen_begins}

-- what a crash leaves is chosen where it is decided
left_is_chosen : (n : ℕ) (w : World) → Invariant n w → (p count i : ℕ) (v : Command) → Contains (settled w p count) (Decide i v) → IsChosen n w.wire i v
left_is_chosen n w I p count i v c =
    I.decides p i v
    (subst (λ z. Contains z (Decide i v)) (settled_whole w p count) (Contains-append_left (settled w p count) (drop count (w.staged p)) (Decide i v) c))

pub decided_is_chosen : (n : ℕ) (w : World) → Invariant n w → (p count i : ℕ) (v : Command) → decision_of (standing_of i (settled w p count)) ≡ Some v → IsChosen n w.wire i v
decided_is_chosen n w I p count i v d = elim (decided_by None i v (settled w p count) d) [
  | inl e ↦ absurd (none-some v e)
  | inr c ↦ left_is_chosen n w I p count i v c
]

pub decide_alike : (n : ℕ) (run : List Step) → IsRun n run → DoCrashedNodesDecideAlike run
decide_alike n run r p q count other i v w x y =
    let I : Invariant n (end_of run) = invariant_of n run r in
    sound_one_chosen n run r i v w (decided_is_chosen n (end_of run) I p count i v x) (decided_is_chosen n (end_of run) I q other i w y)

pub begin_the_list : (n : ℕ) (run : List Step) → IsRun n run → DoCrashedNodesBeginTheList n run
begin_the_list n run r list d p count =
    let I : Invariant n (end_of run) = invariant_of n run r in
    let chosen : IsChosenList n (end_of run).wire (decided_prefix (settled (end_of run) p count)) = (λ i v e. left_is_chosen n (end_of run) I p count i v (prefix_decides (settled (end_of run) p count) i v e)) in
    let b : Begins (decided_prefix (settled (end_of run) p count)) list = chosen_begins n run r (decided_prefix (settled (end_of run) p count)) list chosen d.chosen (d.longest (decided_prefix (settled (end_of run) p count)) chosen) in
    (b.rest, sym b.is)

pub know_their_replies : (n : ℕ) (run : List Step) → IsRun n run → DoCrashedNodesKnowTheirReplies run
know_their_replies n run r p count q reply told =
    let I : Invariant n (end_of run) = invariant_of n run r in
    let b : Begins (decided_prefix ((end_of run).kept p)) (decided_prefix (settled (end_of run) p count)) = prefix_grows n p (all_said (end_of run)) ((end_of run).kept p) (take count ((end_of run).staged p)) (settled_history n (end_of run) p count I) in
    subst (λ z. reply_of z q ≡ Some reply) b.is (same_reply (decided_prefix ((end_of run).kept p)) b.rest q reply (I.told.acknowledged p q reply told))
