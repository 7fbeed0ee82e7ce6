-- What is told of a node that has heard a decision against its own.
use Rattle.std.specs.Prelude.{◌≡◌, ℕ, List, [], ◌∷◌, ◌++◌, Option, None, Some, IsSome, Result, Ok, codes, decimal}
use Rattle.rr_types.specs.declared.command.Command.{Command}
use Rattle.rr_types.specs.declared.refusal.Refusal.{Refusal}
use Rattle.rr_text.specs.Words.{spaced, op_words}
use Rattle.rr_text.specs.ReportTexts.{request_text}
use Rattle.rr_threads.specs.declared.disputing.Dispute.{Dispute}
use Rattle.rr_shell.specs.declared.troubles.Trouble.{Trouble}
use Rattle.rr_shell.specs.declared.talking.Stop.{Stop}
use Rattle.rr_run.specs.declared.disputes.Disputed.{Disputed}
use Rattle.rr_run.specs.declared.disputes.Failure.{Failure}
use Rattle.rr_run.specs.declared.disputes.Failure.TheVariants.{Refused, Differing}
use Rattle.rr_run.specs.Fronts.{GrowsByFront}

-- a command behind a space: its request number, and what it asks for
unfoldable pub behind_space : Command → List ℕ
behind_space c = (32 ∷ request_text c.request) ++ 32 ∷ spaced (op_words c.op)

-- the instance, and both commands
abbrev pub dispute_text : Dispute → List ℕ
dispute_text d =
    codes "instance"
    ++ (32 ∷ decimal d.instance
    ++ (codes " is decided as" ++ (behind_space d.own ++ (codes " here and as" ++ (behind_space d.heard ++ codes " by another node")))))

-- why a node is down, by the dispute and the refusal by which it was found to be: a dispute with both commands; something of a refusal; and
-- nothing where it is down by neither
abbrev pub IsWhyBy : Option Dispute → Option Refusal → Option (List ℕ) → Type 0
IsWhyBy (Some d) refusal why = why ≡ Some (dispute_text d)
IsWhyBy None (Some refusal) why = IsSome why
IsWhyBy None None why = why ≡ None

-- the lines of it at the end of a shell: the refusal of a disk that may be damaged, and which node tells what
abbrev pub dispute_lines : Disputed → List ℕ
dispute_lines d = codes "rr: 3 Damaged 0 0\nnode" ++ (32 ∷ decimal d.node ++ (codes " failed: " ++ (dispute_text d.dispute ++ 10 ∷ [])))

-- by what a shell ends behind a talk that is over: by the dispute by which a node is down, if one is; else by the refusal, if there is one
abbrev pub failure_by : Option Disputed → Option Refusal → Option Failure
failure_by (Some d) refusal = Some (Differing d)
failure_by None (Some refusal) = Some (Refused refusal)
failure_by None None = None

-- where a shell ends by a dispute, standard error gets its lines and nothing else
abbrev pub TellsDispute : Result (Option Trouble) Stop → Option Failure → Option (List ℕ) → Option (List ℕ) → Type 0
TellsDispute (Ok trouble) (Some (Differing d)) old new = GrowsByFront old new (dispute_lines d)
TellsDispute talked failure old new = Unit {0}
