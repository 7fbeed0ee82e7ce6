-- A node is asked for what its clients want.
use Rattle.std.proofs.Common.{◌≡◌, ◌∷◌, [], ℕ, Ok, Err, Result, true, false, sym, subst, cond}
use Rattle.std.specs.Prelude.{is_some}
use Rattle.rr_types.specs.declared.command.Command.{Command}
use Rattle.rr_types.specs.declared.input.Input.TheVariants.{Submit}
use Rattle.rr_types.specs.declared.refusal.Refusal.{Refusal}
use Rattle.rr_types.specs.Registry.{reply_of}
use Rattle.rr_model.specs.NodeState.{NodeState, decided_prefix}
use Rattle.rr_model.specs.NodeStep.{node_step}
use Rattle.rr_turn.specs.Asked.{Call, Ran, still, more, tells, refuses, wakes_publisher}
use Rattle.rr_turn.specs.Wants.{asking}

module _ {L : Type 0} (gives : L → Call → L → Type 0) where
  -- the command is refused
  pub asked_vainly : (place : ℕ) (c : Command) (s : NodeState) (e : Refusal) (from mid to : L) → gives from (tells s (Submit c) (Err e)) mid → gives mid (refuses place e) to
      → (answer : Result (Unit {0}) Refusal) × Ran gives (asking place c s answer) from to
  asked_vainly place c s e from mid to told refused =
      (Err e, more (tells s (Submit c) (Err e)) (refuses place e ∷ []) from mid to told (more (refuses place e) [] mid to to refused (still to)))

  -- it is taken in, and its reply is there already
  pub asked_early : (place : ℕ) (c : Command) (s t : NodeState) (from mid to : L) → gives from (tells s (Submit c) (Ok tt)) mid → t ≡ node_step (Submit c) s
      → is_some (reply_of (decided_prefix t) c.request) ≡ true → gives mid wakes_publisher to → (answer : Result (Unit {0}) Refusal) × Ran gives (asking place c s answer) from to
  asked_early place c s t from mid to told step there woke = (
    Ok tt,
    more (tells s (Submit c) (Ok tt)) _ from mid to told
        (subst (λ b. Ran gives (cond b (wakes_publisher ∷ []) []) mid to) (sym (subst (λ u. is_some (reply_of (decided_prefix u) c.request) ≡ true) step there))
        (more wakes_publisher [] mid to to woke (still to))),
  )

  -- or isn't
  pub asked_late : (place : ℕ) (c : Command) (s t : NodeState) (from to : L) → gives from (tells s (Submit c) (Ok tt)) to → t ≡ node_step (Submit c) s
      → is_some (reply_of (decided_prefix t) c.request) ≡ false → (answer : Result (Unit {0}) Refusal) × Ran gives (asking place c s answer) from to
  asked_late place c s t from to told step there = (
    Ok tt,
    more (tells s (Submit c) (Ok tt)) _ from to to told
        (subst (λ b. Ran gives (cond b (wakes_publisher ∷ []) []) to to) (sym (subst (λ u. is_some (reply_of (decided_prefix u) c.request) ≡ false) step there)) (still to)),
  )
