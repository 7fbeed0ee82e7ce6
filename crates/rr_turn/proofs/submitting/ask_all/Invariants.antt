use Rattle.std.proofs.Common.{◌-◌, ◌+◌, ◌≤◌, ℕ}
use Rattle.rr_turn.specs.Wants.{AsksFrom}
use Rattle.rr_turn.proofs.submitting.ask_all.Given as goal

abbrev pub invariant-loop-place : goal.invariant-loop-place
invariant-loop-place g l =
    (l.count ≤ l.place)
    × (l.place ≤ l.clients)
    × ((end : _) (later : ℕ) → AsksFrom g.L.Links.gives (l.clients - l.place) l.place later l.links end → AsksFrom g.L.Links.gives l.clients 0 (l.count + later) l.initial.links end)
