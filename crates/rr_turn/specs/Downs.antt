-- A turn of the thread of a node that is down.
use Rattle.std.specs.Prelude.{◌⊎◌, ◌∷◌, [], true, false, None, Some}
use Rattle.rr_turn.specs.declared.down.Next.{Next}
use Rattle.rr_turn.specs.declared.down.Next.TheVariants.{Start, End, Turn}
use Rattle.rr_turn.specs.Asked.{Call, Ran, sees_over, sees_closed, keeps_all, sees_switch, rests_down}

module _ {E : Type 0} (gives : E → Call → E → Type 0) where
  -- the node comes up no more only where the run is found over, or closed to starts. Else its inbox is emptied, and it comes up where its
  -- switch is found on; or its thread rests
  abbrev pub StaysDown : Next → E → E → Type 0
  StaysDown End from to = Ran gives (sees_over true ∷ []) from to ⊎ Ran gives (sees_over false ∷ sees_closed true ∷ []) from to
  StaysDown (Start moves) from to = Ran gives (sees_over false ∷ sees_closed false ∷ keeps_all ∷ sees_switch (Some moves) ∷ []) from to
  StaysDown Turn from to = Ran gives (sees_over false ∷ sees_closed false ∷ keeps_all ∷ sees_switch None ∷ rests_down ∷ []) from to
