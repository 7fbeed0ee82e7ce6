-- The calls of a board, one behind the other.
use Rattle.std.proofs.Common.{◌≡◌, ℕ, false, subst}
use Rattle.rr_run.specs.declared.asking.Question.{Question}
use Rattle.rr_run.specs.Boards.{Call, leaves, rings, misses, still, once_more, IsLeft}
use Rattle.rr_run.specs.Questions.{node_of}

-- a question is left, and its node's client is rung for
pub left : {B : Type 0} (gives : B → Call → B → Type 0) (question : Question) (node : ℕ) (from left_at rung_at : B) → gives from (leaves question) left_at
    → node ≡ node_of question → gives left_at (rings node) rung_at → IsLeft gives question from rung_at
left gives question node from left_at rung_at leaving same ringing =
    record {
      left_at = left_at;
      rung_at = rung_at;
      leaving = leaving;
      ringing = subst (λ (n : ℕ). gives left_at (rings n) rung_at) same ringing;
      waiting = still rung_at;
    }

-- nothing is told behind it
pub left_still : {B : Type 0} (gives : B → Call → B → Type 0) (question : Question) (from mid to : B) → IsLeft gives question from mid
    → gives mid (misses false) to → IsLeft gives question from to
left_still gives question from mid to asked missing =
    record {
      left_at = asked.left_at;
      rung_at = asked.rung_at;
      leaving = asked.leaving;
      ringing = asked.ringing;
      waiting = once_more asked.rung_at mid to asked.waiting missing;
    }
