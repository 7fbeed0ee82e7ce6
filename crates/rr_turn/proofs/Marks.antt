-- What a node gives to its flusher.
use Rattle.std.proofs.Common.{◌≡◌, Option, Some, None, Ok, Err, refl, sym, subst}
use Rattle.std.specs.Prelude.{IfSome, IsSome}
use Rattle.rr_types.specs.Groups.{Grouped}
use Rattle.rr_types.specs.declared.refusal.Refusal.TheVariants.{Busy}
use Rattle.rr_model.specs.NodeState.{NodeState}
use Rattle.rr_model.specs.NodeStep.{running_group, group_taken}
use Rattle.rr_turn.specs.Asked.{Call, groups}
use Rattle.rr_turn.specs.Looks.{Groups}

runs_then : (s t : NodeState) (g : Option Grouped) → (IsSome g → (t ≡ group_taken s) × (g ≡ running_group t)) → IfSome g (λ group. running_group (group_taken s) ≡ Some group)
runs_then s t None h = tt
runs_then s t (Some g) h = let e = h refl in subst (λ u. running_group u ≡ Some g) e.0 (sym e.1)

module _ {L : Type 0} (gives : L → Call → L → Type 0) where
  -- a node's answer where it gives what it was asked for
  pub given_by : (s t : NodeState) (g : Option Grouped) (from to : L) → gives from (groups s (Ok g)) to → (IsSome g → (t ≡ group_taken s) × (g ≡ running_group t)) → Groups gives s g from to
  given_by s t g from to call runs = record { answer = Ok g; call = call; refused = tt; is = refl; runs = runs_then s t g runs }

  -- and where it gives nothing, since a group runs
  pub given_busy : (s : NodeState) (from to : L) → gives from (groups s (Err Busy)) to → Groups gives s None from to
  given_busy s from to call = record { answer = Err Busy; call = call; refused = refl; is = refl; runs = tt }
