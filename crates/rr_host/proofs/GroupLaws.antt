-- A group that is taken and put back leaves a node as it was.
use Rattle.std.proofs.Common.{◌≡◌, None, refl, sym}
use Rattle.std.proofs.lemmas.List.{take-append-drop}
use Rattle.rr_model.specs.NodeState.{NodeState}
use Rattle.rr_model.specs.NodeStep.{group_taken, group_put_back}

pub back_again : (s : NodeState) → s.running ≡ None → group_put_back (group_taken s) ≡ s
unfolding group_put_back group_taken
back_again s rests = rw (take-append-drop 64 s.staged, sym rests) refl
