-- An event of a node that is no message is the same event at the node itself.
use Rattle.std.proofs.Common.{◌≡◌, inl, inr, ℕ, Bool, true, false, Option, Some, Result, Ok, Err, sym, ◌∙◌, ap}
use Rattle.std.specs.Prelude.{OnOk}
use Rattle.std.specs.Option.{option_map_or}
use Rattle.std.specs.declared.alloc.AllocError.{AllocError}
use Rattle.rr_types.specs.declared.event.NodeEvent.{NodeEvent}
use Rattle.rr_types.specs.declared.message.Message.{Message}
use Rattle.rr_types.specs.Inputs.{happens_as, message_on}
use Rattle.rr_text.specs.Events.{event_of}
use Rattle.rr_sim.specs.Clusters.{Cluster, at_node, event_step, IsEither, Steps, IsSpeltAt, IsSpeltBehind}

-- the event does what that at its node does
pub steps_so : (r : Result (Unit {0}) AllocError) (at p : ℕ) (event : NodeEvent ℕ) (made : NodeEvent Message) (old new : Cluster) → ((name : ℕ → Option Message) → happens_as name event ≡ Some made)
    → OnOk r (IsEither (λ starved. new ≡ at_node p at starved made old)) → OnOk r (Steps at (event_of p event) old new)
steps_so (Err why) at p event made old new same left = tt
steps_so (Ok x) at p event made old new same left = by left
  where
    does : (starved : Bool) → event_step at starved (event_of p event) old ≡ at_node p at starved made old
    does starved = ap (λ (o : Option (NodeEvent Message)). option_map_or (λ e. at_node p at starved e old) o old) (same (message_on old.wire p))

    by : IsEither (λ starved. new ≡ at_node p at starved made old) → Steps at (event_of p event) old new
    by (inl is) = inl (is ∙ sym (does false))
    by (inr is) = inr (is ∙ sym (does true))

pub spelt_alone : (r : Result (Unit {0}) AllocError) (p : ℕ) (event : NodeEvent ℕ) (old new : Cluster) → OnOk r (IsSpeltAt p new) → OnOk r (IsSpeltBehind (event_of p event) old new)
spelt_alone (Err why) p event old new left = tt
spelt_alone (Ok x) p event old new left = inr left
