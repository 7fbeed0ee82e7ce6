-- What a node's calls answer follows its definition.
use Rattle.std.proofs.Common.{◌≡◌, ◌+◌, ℕ, Bool, eqb, if◌then◌else◌, List, [], Option, None, Some, option_map, Result, Ok, Err, refl, sym, ◌∙◌, ap, subst}
use Rattle.std.specs.Result.{OnOk, OnErr}
use Rattle.std.specs.Prelude.{slice_get, slice_set, length, get_or, ◌<◌}
use Rattle.std.proofs.lemmas.Option.{slice_get_read, same_Some}
use Rattle.std.proofs.lemmas.Bool.{eq-eqb}
use Rattle.std.specs.Option.{option_and_then}
use Rattle.rr_types.specs.declared.fact.Fact.{Fact}
use Rattle.rr_types.specs.declared.message.Message.{Message}
use Rattle.rr_types.specs.declared.refusal.Refusal.{Refusal}
use Rattle.rr_types.specs.declared.promise.Entry.{Entry}
use Rattle.rr_types.specs.Groups.{Grouped}
use Rattle.rr_types.specs.Inputs.{told_as, message_on}
use Rattle.rr_model.specs.NodeLaws.{StateEvent, Told, after_event}
use Rattle.rr_model.specs.NodeState.{NodeState}
use Rattle.rr_model.specs.NodeStays.{StaysMarked}
use Rattle.rr_types.specs.declared.input.Input.TheVariants as node
use Rattle.rr_types.specs.declared.input.Input.{Input}
use Rattle.rr_model.specs.NodeStep.{node_step, refusal_of, running_group, marked_running, restored, started}
use Rattle.rr_model.proofs.NodeSteady.{input_stays, started_stays}
use Rattle.rr_text.specs.declared.tape_event.TapeEvent.{TapeEvent}
use Rattle.rr_text.specs.declared.tape_event.Recorded.TheVariants as tape
use Rattle.rr_text.specs.Taped.{of_node}
use Rattle.rr_audit.specs.declared.given.Given.{Given}
use Rattle.rr_audit.specs.Audits.{IsNextAt}
use Rattle.rr_audit.specs.Following.{Answers, FollowsAt}

-- a node that stays marked has the same group running
pub group_stays : (s t : NodeState) → StaysMarked s t → running_group t ≡ running_group s
group_stays s t same =
    ap (λ (o : Option (List Fact)). option_map (λ facts. record { serial = t.marked_end; facts = facts }) o) same.running
    ∙ ap (λ (n : ℕ). option_map (λ (facts : List Fact). record { serial = n; facts = facts }) s.running) same.marked_end

-- an input leaves the running group alone
pub group_of_input : (input : Input Message) (s : NodeState) → running_group (node_step input s) ≡ running_group s
group_of_input input s = group_stays s (node_step input s) (input_stays input s)

-- an answer to what is next at the node is one to the event
pub follows : (wire : List Message) (e : TapeEvent) (old new next : NodeState) (r : Result (Option Given) Refusal) (Gives : Type 0) (does : StateEvent)
    → Answers Gives next new r → (Gives → IsNextAt wire old e does × (next ≡ after_event old does)) → ((other : StateEvent) → IsNextAt wire old e other → Gives) → FollowsAt wire e old new r
follows wire e old new next (Ok None) Gives does h to from = let g = to h.0 in (does, g.0, h.1 ∙ g.1)
follows wire e old new next (Ok (Some given)) Gives does h to from = λ other is. h (from other is)
follows wire e old new next (Err refusal) Gives does h to from = h

-- the same of what a node of this number is told, by an input that stands for this one
pub follows_told : (wire : List Message) (p : ℕ) (input : Input ℕ) (told : Input Message) (old new : NodeState) (r : Result (Option Given) Refusal)
    → told_as (message_on wire p) input ≡ Some told → Answers (refusal_of told old ≡ None) (node_step told old) new r → FollowsAt wire (of_node p (tape.Told input)) old new r
follows_told wire p input told old new r is h = follows wire (of_node p (tape.Told input)) old new (node_step told old) r (refusal_of told old ≡ None) (Told told) h (λ ok. ((told, is, refl, ok), refl)) from
  where
    from : (other : StateEvent) → IsNextAt wire old (of_node p (tape.Told input)) other → refusal_of told old ≡ None
    from other next = subst (λ (x : Input Message). refusal_of x old ≡ None) (same_Some next.0 told (sym next.1 ∙ is)) next.3

-- what a core answered to an input leaves the running group alone
pub told_group : (input : Input Message) (s t : NodeState) (r : Result (Unit {0}) Refusal) → OnOk r (t ≡ node_step input s) → OnErr r (t ≡ s) → running_group s ≡ running_group t
told_group input s t (Ok x) ok err = sym (ap running_group ok ∙ group_of_input input s)
told_group input s t (Err e) ok err = sym (ap running_group err)

-- a marked group leaves none running
pub marked_group : (s t : NodeState) → t ≡ marked_running s → running_group t ≡ None
unfolding marked_running
marked_group s t e = ap running_group e ∙ by s.running refl
  where
    by : (o : Option (List Fact)) → s.running ≡ o → running_group (marked_running s) ≡ None
    by None runs = rw runs refl
    by (Some facts) runs = rw runs refl

-- a node that has just opened flushes nothing
pub started_group : (n p : ℕ) (promise : List Entry) (next : ℕ) (t : NodeState) → t ≡ started n p promise next → running_group t ≡ None
started_group n p promise next t e = ap running_group e ∙ group_stays (restored n p promise next) (started n p promise next) (started_stays n p promise next)

-- a message of the wire that is for the node
heard_on : (wire : List Message) (p k : ℕ) (m : Message) → slice_get wire k ≡ Some m → m.to ≡ p → told_as (message_on wire p) (node.Hear k) ≡ Some (node.Hear m)
heard_on wire p k m at own =
    ap (λ (o : Option Message). option_map node.Hear (option_and_then (λ x. if eqb x.to p then Some x else None) o)) at
    ∙ ap (λ (b : Bool). option_map node.Hear (if b then Some m else None)) (eq-eqb m.to p own)

pub follows_hear : (wire : List Message) (p k : ℕ) (m : Message) (old new : NodeState) (r : Result (Option Given) Refusal) → slice_get wire k ≡ Some m → m.to ≡ p
    → Answers (refusal_of (node.Hear m) old ≡ None) (node_step (node.Hear m) old) new r → FollowsAt wire (of_node p (tape.Told (node.Hear k))) old new r
follows_hear wire p k m old new r at own h = follows_told wire p (node.Hear k) (node.Hear m) old new r (heard_on wire p k m at own) h
