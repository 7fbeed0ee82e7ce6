-- An array of seven watches for any number of nodes: those behind the nodes are fresh.
use Rattle.std.specs.Prelude.{◌≡◌, ℕ, ◌-◌, ◌≤◌, List, ◌++◌, length, take, drop, replicate}
use Rattle.std.proofs.Common.{arith, ap, sym, ◌∙◌}
use Rattle.std.proofs.lemmas.List.{length-take-le, take-append-drop}
use Rattle.rr_model.specs.NodeState.{Watch}
use Rattle.rr_model.specs.NodeDetector.{new_watch}
use Rattle.rr_state.specs.declared.heartbeat.Heartbeat.TheInside.{Inside}

-- the array has seven watches, and those behind the nodes are fresh
pub record IsPadded (n : ℕ) (watches : List Watch) : Type 0 where
  pub few : n ≤ 7
  pub whole : length watches ≡ 7
  pub fresh : drop n watches ≡ replicate (7 - n) new_watch

-- the fields follow from the watches of the nodes alone
pub inverse_view : (h : Inside) → IsPadded h.nodes h.watches
    → (let make : ℕ → List Watch → Inside = (λ n ws. record { nodes = n; watches = ws })
    in make (length (take h.nodes h.watches))
    (take h.nodes h.watches ++ replicate (7 - length (take h.nodes h.watches)) new_watch)
    ≡ h)
inverse_view h i =
    let make : ℕ → List Watch → Inside = (λ n ws. record { nodes = n; watches = ws }) in
    let front : length (take h.nodes h.watches) ≡ h.nodes = length-take-le h.nodes h.watches (omega (arith, i.whole, i.few)) in
    ap (λ n. make n (take h.nodes h.watches ++ replicate (7 - n) new_watch)) front
    ∙ ap (λ z. make h.nodes (take h.nodes h.watches ++ z)) (sym i.fresh)
    ∙ ap (λ ws. make h.nodes ws) (take-append-drop h.nodes h.watches)
