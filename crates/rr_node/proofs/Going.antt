-- A run of steps of one node, and what comes of it for the others.
use Rattle.std.proofs.Common.{◌≡◌, ℕ, ◌<◌, List, [], ◌∷◌, ◌++◌, append-nil, Contains, Result, Ok, Err, IfErr, inl, inr, refl, sym, ap, subst, ◌∙◌, arith}
use Rattle.rr_types.specs.declared.message.Message.{Message}
use Rattle.rr_types.specs.declared.refusal.Refusal.{Refusal}
use Rattle.rr_model.specs.World.{World, Told, Step, GoDown, IsRunFrom}
use Rattle.rr_model.specs.Laws.{after_steps}
use Rattle.rr_model.specs.NodeReached.{NamesRounds}
use Rattle.rr_model.specs.NodeInWorld.{AreStepsAt}
use Rattle.rr_model.proofs.Frames.{steps_alone}
use Rattle.rr_node.specs.declared.event.Outcome.{Outcome}
use Rattle.rr_node.specs.Seats.{Seat, Answer}
use Rattle.rr_node.specs.Worlds.{InStep}
use Rattle.rr_node.specs.Runs.{sent_by, told_by, MayFall, GoesOn}
use Rattle.rr_node.proofs.Frames.{seat_stays}

-- an answer of which nothing is sent or told
pub record IsQuiet (p : ℕ) (answer : Result Outcome Refusal) : Type 0 where
  pub unsent : sent_by answer ≡ []
  pub untold : told_by p answer ≡ []

-- what holds anyway holds where it was refused
if_refused : (answer : Result Outcome Refusal) (P : Type 0) → P → IfErr answer (λ e. P)
if_refused (Ok outcome) P h = tt
if_refused (Err e) P h = h

pub no_member : {A : Type 0} → (x : A) → Contains [] x → ⊥
no_member x c = let l : c.0 < 0 = c.1 in omega arith

pub goes : (n p : ℕ) (May : List Step → Type 0) (w : World) (answer : Result Outcome Refusal) (next : Seat) (steps : List Step) → IfErr answer (λ e. MayFall p steps) → May steps → IsRunFrom n w steps → AreStepsAt p steps → InStep n p next (after_steps w steps)
    → (after_steps w steps).wire ≡ w.wire ++ sent_by answer → (after_steps w steps).trace ≡ w.trace ++ told_by p answer → ((m : Message) → Contains (sent_by answer) m → (m.from ≡ p) × NamesRounds m.body) → GoesOn n p May w answer next
goes n p May w answer next steps refused may run own in_step wire trace sent = record {
  steps = steps;
  may = may;
  refused = refused;
  run = run;
  in_step = in_step;
  wire = wire;
  trace = trace;
  sent = sent;
  beside = λ q other else h. seat_stays n q w (after_steps w steps) (steps_alone q p w steps else own) other h;
}

-- steps that say nothing, at an answer that says nothing
pub goes_quietly : (n p : ℕ) (May : List Step → Type 0) (w : World) (answer : Result Outcome Refusal) (next : Seat) (steps : List Step) → IfErr answer (λ e. MayFall p steps) → May steps → IsRunFrom n w steps → AreStepsAt p steps → InStep n p next (after_steps w steps)
    → (after_steps w steps).wire ≡ w.wire → (after_steps w steps).trace ≡ w.trace → IsQuiet p answer → GoesOn n p May w answer next
goes_quietly n p May w answer next steps refused may run own in_step wire trace quiet =
    goes n p May w answer next steps refused may run own in_step
    (wire ∙ sym (append-nil w.wire) ∙ ap (λ (ms : List Message). w.wire ++ ms) (sym quiet.unsent))
    (trace ∙ sym (append-nil w.trace) ∙ ap (λ (ts : List Told). w.trace ++ ts) (sym quiet.untold))
    (λ m held. absurd (no_member m (subst (λ (ms : List Message). Contains ms m) quiet.unsent held)))

-- no step
pub stays : (n p : ℕ) (May : List Step → Type 0) (w : World) (answer : Result Outcome Refusal) (next : Seat) → May [] → InStep n p next w → IsQuiet p answer → GoesOn n p May w answer next
stays n p May w answer next may in_step quiet = goes_quietly n p May w answer next [] (if_refused answer (MayFall p []) (inl refl)) may tt tt in_step refl refl quiet

-- the node goes down
pub falls : (n p : ℕ) (May : List Step → Type 0) (w : World) (answer : Result Outcome Refusal) (next : Seat) → May (GoDown p ∷ []) → IsRunFrom n w (GoDown p ∷ []) → InStep n p next (after_steps w (GoDown p ∷ [])) → IsQuiet p answer → GoesOn n p May w answer next
falls n p May w answer next may run in_step quiet = goes_quietly n p May w answer next (GoDown p ∷ []) (if_refused answer (MayFall p (GoDown p ∷ [])) (inr refl)) may run (refl, tt) in_step refl refl quiet

-- what was given
pub given : (n p : ℕ) (May : List Step → Type 0) (w : World) (answer : Result Outcome Refusal) (next : Seat) (x : Answer) → (let a : Answer = (answer, next) in a ≡ x) → GoesOn n p May w x.0 x.1 → GoesOn n p May w answer next
given n p May w answer next x is goes = subst (λ (a : Answer). GoesOn n p May w a.0 a.1) (sym is) goes
