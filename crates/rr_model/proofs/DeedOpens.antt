-- In a history the facts of each node, decisions aside, are of the lowest undecided instances: each turn keeps that.
use Rattle.std.proofs.Common.{◌≡◌, ℕ, ◌+◌, if◌then◌else◌, List, [], ◌∷◌, ◌++◌, length, take, drop, Option, None, Some, is_none, refl, ap, sym, ◌∙◌, subst, append-nil, append_assoc, take-append-drop}
use Rattle.std.specs.Option.{option_map, option_map_or}
use Rattle.rr_types.specs.declared.command.Command.{Command}
use Rattle.rr_types.specs.declared.fact.Fact.{Fact}
use Rattle.rr_types.specs.declared.fact.Fact.TheVariants.{Decide}
use Rattle.rr_types.specs.declared.input.Input.{Input}
use Rattle.rr_types.specs.declared.message.Message.{Message}
use Rattle.rr_types.specs.declared.promise.Entry.{Entry}
use Rattle.rr_model.specs.Deeds.{Life, Lives, unmarked_of, lived, after_what, after_deed, IsNextOf, FindsItsFacts, OpensWellAt}
use Rattle.rr_model.specs.Laws.{after_steps}
use Rattle.rr_model.specs.LostDisks.{decisions_from, decisions_of, all_facts}
use Rattle.rr_model.specs.NodeInWorld.{group_of}
use Rattle.rr_model.specs.NodeLaws as node
use Rattle.rr_model.specs.NodeLaws.{StateEvent, Grouped, Left, Answered, after_event, facts_of_input, marked_facts, IsTruthful}
use Rattle.rr_model.specs.NodeOpens.{AreOfOpen}
use Rattle.rr_model.specs.NodeReached.{IsProperEvent, opened_over}
use Rattle.rr_model.specs.NodeState.{NodeState}
use Rattle.rr_model.specs.NodeStep.{node_step, group_taken, marked_running, started}
use Rattle.rr_model.specs.RenewedDisks.{Turn, Does, Renewed, renewed, after_turn, after_turns, AreTurnsFrom}
use Rattle.rr_model.specs.World.{World}
use Rattle.rr_model.specs.declared.deed.Deed.{Deed}
use Rattle.rr_model.specs.declared.deed.What.{What}
use Rattle.rr_model.specs.declared.deed.What.TheVariants as deed
use Rattle.rr_model.proofs.DeedsInWorld.{IsThere, IsAlike, Took, takes, up_is, proper_input}
use Rattle.rr_model.proofs.Growth.{at_each}
use Rattle.rr_model.proofs.NodeFollows.{at_same}
use Rattle.rr_model.proofs.NodeLowest.{low_both, low_front}
use Rattle.rr_model.proofs.NodeReached.{event_of_nodes, reached_knows, reached_truthful}
use Rattle.rr_model.proofs.NodeRestarts.{opened_alike}
use Rattle.rr_model.proofs.Renews.{renewed_world, renews_alike}
use Rattle.rr_model.proofs.NodeStages.{Steps, steps, step_goes}

-- all facts of the node but its decisions are of instances that were open
abbrev pub HasOfOpen : Life → Type 0
HasOfOpen l = AreOfOpen [] (all_facts l)

-- the facts of a node that is up
up_facts : (l : Life) (s : NodeState) → l.state ≡ Some s → all_facts l ≡ l.marked ++ unmarked_of s
up_facts l s up = ap (λ o. l.marked ++ option_map_or unmarked_of o l.unmarked) up

-- and once it has lived on
lived_facts : (l : Life) (s : NodeState) (e : StateEvent) → l.state ≡ Some s → all_facts (lived e l) ≡ l.marked ++ unmarked_of (after_event s e)
lived_facts l s e up = ap (λ (o : Option NodeState). l.marked ++ option_map_or unmarked_of (option_map (λ x. after_event x e) o) l.unmarked) up

-- what leaves a node's facts as they are
unmoved : (l : Life) (s : NodeState) (e : StateEvent) → l.state ≡ Some s → unmarked_of (after_event s e) ≡ unmarked_of s → HasOfOpen l → HasOfOpen (lived e l)
unmoved l s e up same low = subst (AreOfOpen []) (up_facts l s up ∙ ap (λ z. l.marked ++ z) (sym same) ∙ sym (lived_facts l s e up)) low

took_same : (s : NodeState) → s.running ≡ None → unmarked_of (after_event s Grouped) ≡ unmarked_of s
unfolding group_taken
took_same s none =
    ap (λ (o : Option (List Fact)). unmarked_of (if is_none o then group_taken s else s)) none ∙ take-append-drop 64 s.staged
    ∙ ap (λ (o : Option (List Fact)). option_map_or (λ group. group) o [] ++ s.staged) (sym none)

marked_same : (l : Life) (s : NodeState) → l.state ≡ Some s → all_facts (record (lived node.Marked l) { marked = l.marked ++ option_map_or group_of l.state [] }) ≡ l.marked ++ unmarked_of s
unfolding marked_running
marked_same l s up =
    ap (λ (o : Option NodeState). (l.marked ++ option_map_or group_of o []) ++ option_map_or unmarked_of (option_map (λ x. after_event x node.Marked) o) l.unmarked) up
    ∙ by s.running refl
  where
    by : (o : Option (List Fact)) → s.running ≡ o → (l.marked ++ group_of s) ++ unmarked_of (marked_running s) ≡ l.marked ++ unmarked_of s
    by None e = rw e (append_assoc l.marked [] s.staged)
    by (Some fs) e = rw e (append_assoc l.marked fs s.staged)

-- an opened node has no facts but marked ones
opened_none : (n p : ℕ) (facts : List Fact) → unmarked_of (opened_over n p facts) ≡ []
opened_none n p facts = ap (λ (o : Option (List Fact)). option_map_or (λ group. group) o [] ++ (opened_over n p facts).staged) (opened_alike n p facts).running ∙ (opened_alike n p facts).staged

module _ (n p : ℕ) (v : Lives) (w : World) (A : IsAlike n v w) where
  -- the facts of a node that is up are those by which it was reached
  there_facts : (l : Life) (s : NodeState) (t : IsThere n p l.marked s w) → t.facts ≡ l.marked ++ unmarked_of s
  there_facts l s t =
      let T : IsTruthful p t.facts t.heard s = reached_truthful n p t.facts t.heard s t.reached in
      T.together ∙ ap (λ z. z ++ unmarked_of s) (sym (append-nil (marked_facts t.facts s)) ∙ sym t.in_world.kept ∙ at_same w.kept p l.marked)

  told_low : (input : Input Message) → IsNextOf n v.wire p (v.life p) (deed.Told input) → HasOfOpen (v.life p) → HasOfOpen (lived (node.Told input) (v.life p))
  told_low input next low =
      let l : Life = v.life p in
      let s : NodeState = next.0 in
      let t : IsThere n p l.marked s w = up_is n p l w s next.1 (A.lives p) in
      let proper : IsProperEvent n (node.Told input) = proper_input n p v input A.proper (next.2).0 in
      let g : Steps (Unit {0}) n p t.facts (node.heard_input p t.heard input) s (node_step input s) =
      steps (Unit {0}) n p t.facts (node.heard_input p t.heard input) s (node_step input s) (step_goes (Unit {0}) n p t.facts t.heard s input (event_of_nodes n (node.Told input) proper) (reached_knows n p t.facts t.heard s t.reached)) in
      let before : t.facts ≡ l.marked ++ unmarked_of s = there_facts l s t in
      let after : unmarked_of (node_step input s) ≡ unmarked_of s ++ facts_of_input s input =
      ap (λ (o : Option (List Fact)). option_map_or (λ group. group) o [] ++ (node_step input s).staged) g.running
      ∙ ap (λ z. group_of s ++ z) g.behind ∙ sym (append_assoc (group_of s) s.staged (facts_of_input s input)) in
      let all : t.facts ++ facts_of_input s input ≡ all_facts (lived (node.Told input) l) =
      ap (λ z. z ++ facts_of_input s input) before ∙ append_assoc l.marked (unmarked_of s) (facts_of_input s input) ∙ ap (λ z. l.marked ++ z) (sym after) ∙ sym (lived_facts l s (node.Told input) next.1) in
      subst (AreOfOpen []) all (low_both [] t.facts (facts_of_input s input) (subst (AreOfOpen []) (up_facts l s next.1 ∙ sym before) low) g.low)

  up_low : (promise : List Entry) (next : ℕ) → (v.life p).state ≡ None → FindsItsFacts (v.life p) promise next → HasOfOpen (v.life p) → HasOfOpen (after_what n p (deed.Up promise next) (v.life p))
  up_low promise next down found low =
      let l : Life = v.life p in
      let facts : List Fact = l.marked ++ take found.0 l.unmarked in
      let same : opened_over n p facts ≡ started n p promise next = ap (λ z. started n p z (length facts)) (sym found.3) ∙ ap (λ z. started n p promise z) (sym found.2) in
      let none : unmarked_of (started n p promise next) ≡ [] = subst (λ z. unmarked_of z ≡ []) same (opened_none n p facts) in
      let whole : all_facts l ≡ take next (l.marked ++ l.unmarked) ++ drop next (l.marked ++ l.unmarked) =
      ap (λ (o : Option NodeState). l.marked ++ option_map_or unmarked_of o l.unmarked) down ∙ sym (take-append-drop next (l.marked ++ l.unmarked)) in
      subst (AreOfOpen []) (sym (ap (λ z. take next (l.marked ++ l.unmarked) ++ z) none ∙ append-nil (take next (l.marked ++ l.unmarked))))
      (low_front [] (take next (l.marked ++ l.unmarked)) (drop next (l.marked ++ l.unmarked)) (subst (AreOfOpen []) whole low))

  -- what a node does keeps it
  what_low : (what : What) → IsNextOf n v.wire p (v.life p) what → OpensWellAt (v.life p) what → HasOfOpen (v.life p) → HasOfOpen (after_what n p what (v.life p))
  what_low (deed.Told input) next well low = told_low input next low
  what_low deed.Took next well low = unmoved (v.life p) next.0 Grouped next.1 (took_same next.0 (next.2).0) low
  what_low deed.Marked next well low = subst (AreOfOpen []) (up_facts (v.life p) next.0 next.1 ∙ sym (marked_same (v.life p) next.0 next.1)) low
  what_low (deed.Sent m) next well low = unmoved (v.life p) next.0 Left next.1 refl low
  what_low (deed.Acked q reply) next well low = unmoved (v.life p) next.0 Answered next.1 refl low
  what_low deed.Down next well low = low
  what_low (deed.Up promise number) next well low = up_low promise number next.1 well low

-- and so does each deed, at each node
deed_low : (n : ℕ) (v : Lives) (d : Deed) (w : World) → IsAlike n v w → IsNextOf n v.wire d.node (v.life d.node) d.what → OpensWellAt (v.life d.node) d.what → ((p : ℕ) → HasOfOpen (v.life p)) → (p : ℕ) → HasOfOpen ((after_deed n d v).life p)
deed_low n v d w A next well low = at_each (λ p l. HasOfOpen l) v.life d.node (after_what n d.node d.what (v.life d.node)) (what_low n d.node v w A d.what next well (low d.node)) low

-- decisions may be of any instance
decisions_open : (before : List Fact) (i : ℕ) (list : List Command) → AreOfOpen before (decisions_from i list)
decisions_open before i [] = tt
decisions_open before i (v ∷ list) = (tt, decisions_open (before ++ Decide i v ∷ []) (i + 1) list)

renewed_low : (list : List Command) → HasOfOpen (renewed list)
renewed_low list = subst (AreOfOpen []) (sym (append-nil (decisions_of list))) (decisions_open [] 0 list)

-- and so do turns
pub turns_low : (n : ℕ) (ts : List Turn) (v : Lives) (w : World) → IsAlike n v w → AreTurnsFrom n v ts → ((p : ℕ) → HasOfOpen (v.life p)) → (p : ℕ) → HasOfOpen ((after_turns n ts v).life p)
turns_low n [] v w A h low = low
turns_low n (Does d ∷ ts) v w A h low =
    let t : Took n v d w = takes n v d w A h.0.0 h.0.1 in
    turns_low n ts (after_deed n d v) (after_steps w t.steps) t.alike h.1 (deed_low n v d w A h.0.0 h.0.1 low)
turns_low n (Renewed p list ∷ ts) v w A h low =
    turns_low n ts (after_turn n (Renewed p list) v) (renewed_world p list w) (renews_alike n p list v w A h.0) h.1 (at_each (λ q l. HasOfOpen l) v.life p (renewed list) (renewed_low list) low)
