-- Entering a later round, proposing and deciding stage lawful facts of open instances, and leave a node that knows what it should.
use Rattle.std.proofs.Common.{◌≡◌, ℕ, ◌<◌, suc, Bool, true, false, ◌==◌, ◌&&◌, not, nat_lt, if◌then◌else◌, List, [], ◌∷◌, find, Contains, Option, None, Some, IsTrue, refl, sym, ◌∙◌, subst, arith, ltb-true}
use Rattle.std.proofs.lemmas.Bool.{ltb-false}
use Rattle.std.specs.Option.{option_map_or}
use Rattle.std.proofs.lemmas.Option.{none-some, same_Some}
use Rattle.rr_types.specs.declared.command.Command.{Command}
use Rattle.rr_types.specs.declared.fact.Fact.{Fact}
use Rattle.rr_types.specs.declared.fact.Fact.TheVariants.{Enter, Propose, Decide}
use Rattle.rr_types.specs.declared.promise.Standing.{Standing}
use Rattle.rr_types.specs.declared.promise.Standing.TheVariants.{Decided, Open}
use Rattle.rr_types.specs.declared.message.Body.TheVariants as say
use Rattle.rr_types.specs.Rounds.{Estimated, coordinator_of, OpenAt}
use Rattle.rr_types.specs.Standings.{is_undecided, round_of, stamp_of, estimate_of}
use Rattle.rr_model.specs.Lawful.{Heard}
use Rattle.rr_model.proofs.Permitted.{IsNamed, EntersWith, IsPermittedAt}
use Rattle.rr_model.specs.NodeState.{NodeState, everyone, standing_at, ◌▷◌}
use Rattle.rr_model.specs.NodeParts.{owe, free_command, backing_at, leave_round, enter_with, entering_estimate, enter, restate, restate_all, conclude, propose}
use Rattle.rr_model.proofs.NodeBacks.{IsBackedOpen, up_to_last}
use Rattle.rr_model.proofs.NodeKnows.{Knows, Goes, Alike, alike_itself, alike_on, alike_if, alike_standing, knows_alike, goes_on, goes_nowhere, goes_alike, owe_alike, stage_owe_goes, low_here, backs, stood_backed}
use Rattle.rr_model.proofs.NodeLowest.{IsLow, IsLowIn}

pub found_in : {A : Type 0} → (f : A → Bool) (xs : List A) (x : A) → find f xs ≡ Some x → Contains xs x
found_in f [] x e = absurd (none-some x e)
found_in f (y ∷ ys) x e = at (found_in f ys x) (f y) e
  where
    at : (find f ys ≡ Some x → Contains ys x) → (b : Bool) → (if b then Some y else find f ys) ≡ Some x → Contains (y ∷ ys) x
    at ih true e = (0, omega arith, same_Some y x e)
    at ih false e = let c : Contains ys x = ih e in (suc c.0, omega arith, c.2)

-- a free command is in the pool
free_in_pool : (s : NodeState) (i : ℕ) (v : Command) → free_command s i ≡ Some v → Contains s.pool v
unfolding free_command
free_in_pool s i v e = found_in _ s.pool v e

-- an estimate for round r with which the node may enter, where its own is o
abbrev Enters : ℕ → Option Command → ℕ → Heard → Estimated → Type 0
Enters r o stamp h e = (e.round ≡ r) × EntersWith o stamp h e

entering : (i r : ℕ) (heard : Option Command) (s : NodeState) (h : Heard) (e : Estimated) → ((v : Command) → Contains s.pool v → IsNamed h v) → ((v : Command) → heard ≡ Some v → IsNamed h v) → (own pooled given : Option Command) → estimate_of (standing_at s i) ≡ own → free_command s i ≡ pooled → heard ≡ given → entering_estimate i r heard s ≡ Some e → Enters r own (stamp_of (standing_at s i)) h e
entering i r heard s h e P H (Some v) pooled given a b c x =
    let y : Some (record { round = r; stamp = stamp_of (standing_at s i); command = v }) ≡ Some e = rw a at x in
    subst (Enters r (Some v) (stamp_of (standing_at s i)) h) (same_Some _ e y) (refl, (refl, refl))
entering i r heard s h e P H None (Some v) given a b c x =
    let y : Some (record { round = r; stamp = 0; command = v }) ≡ Some e = rw (a, b) at x in
    subst (Enters r None (stamp_of (standing_at s i)) h) (same_Some _ e y) (refl, (refl, P v (free_in_pool s i v b)))
entering i r heard s h e P H None None None a b c x =
    let y : None ≡ Some e = rw (a, b, c) at x in absurd (none-some e y)
entering i r heard s h e P H None None (Some v) a b c x =
    let y : Some (record { round = r; stamp = 0; command = v }) ≡ Some e = rw (a, b, c) at x in
    subst (Enters r None (stamp_of (standing_at s i)) h) (same_Some _ e y) (refl, (refl, H v c))

pub leave_alike : (X : Type 0) (p : ℕ) (facts : List Fact) (h : Heard) (i : ℕ) (s : NodeState) → s.node ≡ p → Alike X p facts h s (leave_round i s)
leave_alike X p facts h i s e =
    let r : ℕ = round_of (standing_at s i) in
    alike_if X p facts h s (owe (say.Nack i r) None (coordinator_of r s.nodes ∷ []) s) s (nat_lt (stamp_of (standing_at s i)) r && not (coordinator_of r s.nodes == s.node))
    (λ b. owe_alike X p facts h (say.Nack i r) None (coordinator_of r s.nodes ∷ []) s e (λ x. tt) tt) (λ b. alike_itself X p facts h s)

-- an alike state stands as the first did
pub goes_from_alike : (X : Type 0) (n p : ℕ) (facts : List Fact) (h : Heard) (s t u : NodeState) → Alike X p facts h s t → Knows X n p facts h s → ((all : List Fact) → Knows X n p all h t → Goes X n p all h t u) → Goes X n p facts h s u
goes_from_alike X n p facts h s t u a K f = goes_on X n p facts h s t u (goes_alike X n p facts h s t a K) f

-- an undecided instance that is open enters a later round
pub enter_goes : (X : Type 0) (n p : ℕ) (facts : List Fact) (h : Heard) (s : NodeState) (i r : ℕ) (heard : Option Command) → Knows X n p facts h s → IsTrue (is_undecided (standing_at s i)) → round_of (standing_at s i) < r → ((v : Command) → heard ≡ Some v → IsNamed h v) → IsLow s i → Goes X n p facts h s (enter i r heard s)
unfolding enter
enter_goes X n p facts h s i r heard K u l H low = at (entering_estimate i r heard s) refl
  where
    lawful : (e : Estimated) → entering_estimate i r heard s ≡ Some e → IsPermittedAt n p (standing_at s i) h (Enter i e)
    lawful e x =
        let y : Enters r (estimate_of (standing_at s i)) (stamp_of (standing_at s i)) h e = entering i r heard s h e K.pooled H (estimate_of (standing_at s i)) (free_command s i) heard refl refl refl x in
        (u, subst (λ z. round_of (standing_at s i) < z) (sym y.0) l, y.1)

    at : (o : Option Estimated) → entering_estimate i r heard s ≡ o → Goes X n p facts h s (option_map_or (λ e. leave_round i s ▷ enter_with i e) o s)
    at None x = goes_nowhere X n p facts h s K
    at (Some e) x = goes_from_alike X n p facts h s (leave_round i s) (enter_with i e (leave_round i s)) (leave_alike X p facts h i s K.node) K
        (λ all A. stage_owe_goes X n p all h (leave_round i s) (Enter i e) (say.Estimate i e) _ A (subst (λ z. IsPermittedAt n p z h (Enter i e)) (sym (alike_standing X p facts h s (leave_round i s) (leave_alike X p facts h i s K.node) i)) (lawful e x)) (low_here X n p all h (leave_round i s) i A (subst (λ z. IsLowIn z i) (sym (leave_alike X p facts h i s K.node).rows) low)) (up_to_last all (Enter i e)) tt)

-- a lawful proposal
pub propose_goes : (X : Type 0) (n p : ℕ) (facts : List Fact) (h : Heard) (s : NodeState) (i r : ℕ) (v : Command) → Knows X n p facts h s → IsPermittedAt n p (standing_at s i) h (Propose i r v) → IsLow s i → Goes X n p facts h s (propose i r v s)
unfolding propose
propose_goes X n p facts h s i r v K l low = stage_owe_goes X n p facts h s (Propose i r v) (say.Proposal i r v) _ K l (low_here X n p facts h s i K low) (up_to_last facts (Propose i r v)) tt

-- a lawful decision
pub conclude_goes : (X : Type 0) (n p : ℕ) (facts : List Fact) (h : Heard) (s : NodeState) (i : ℕ) (v : Command) → Knows X n p facts h s → IsPermittedAt n p (standing_at s i) h (Decide i v) → Goes X n p facts h s (conclude i v s)
unfolding conclude
conclude_goes X n p facts h s i v K l = stage_owe_goes X n p facts h s (Decide i v) (say.Decision i v) _ K l tt (up_to_last facts (Decide i v)) tt

module _ (X : Type 0) (n p : ℕ) (facts : List Fact) (h : Heard) where
  restate_first : (i : ℕ) (s : NodeState) (o : OpenAt) → Knows X n p facts h s → standing_at s i ≡ Some (Open o) → Alike X p facts h s (if nat_lt o.stamp o.round
      then owe (say.Estimate i (record { round = o.round; stamp = o.stamp; command = o.estimate })) (Some (backing_at (λ b. b.entered) s i)) (coordinator_of o.round s.nodes ∷ []) s
      else owe (say.Ack i o.round) (Some (backing_at (λ b. b.adopted) s i)) (coordinator_of o.round s.nodes ∷ []) s)
  restate_first i s o K e = alike_if X p facts h s _ _ _
      (λ b. owe_alike X p facts h _ (Some (backing_at (λ b. b.entered) s i)) _ s K.node (λ x. let B : IsBackedOpen facts i (backs s i) o = stood_backed X n p facts h s K x i (Open o) e in B.entered (ltb-true _ _ b)) tt)
      (λ b. owe_alike X p facts h _ (Some (backing_at (λ b. b.adopted) s i)) _ s K.node (λ x. let B : IsBackedOpen facts i (backs s i) o = stood_backed X n p facts h s K x i (Open o) e in λ l. B.adopted (ltb-false _ _ b)) tt)

  restate_open : (i : ℕ) (s : NodeState) (o : OpenAt) (v : Option Command) → Knows X n p facts h s → standing_at s i ≡ Some (Open o) → o.proposal ≡ v → Alike X p facts h s (restate i s)
  unfolding restate
  restate_open i s o None K e a = rw (e, a) (restate_first i s o K e)
  restate_open i s o (Some v) K e a =
      let first : Alike X p facts h s (if nat_lt o.stamp o.round
      then owe (say.Estimate i (record { round = o.round; stamp = o.stamp; command = o.estimate })) (Some (backing_at (λ b. b.entered) s i)) (coordinator_of o.round s.nodes ∷ []) s
      else owe (say.Ack i o.round) (Some (backing_at (λ b. b.adopted) s i)) (coordinator_of o.round s.nodes ∷ []) s) = restate_first i s o K e in
      rw (e, a) (alike_on X p facts h s _ _ first (owe_alike X p facts h (say.Proposal i o.round v) (Some (backing_at (λ b. b.proposed) s i)) (everyone s) _ (first.node ∙ K.node) (λ x. let B : IsBackedOpen facts i (backs s i) o = stood_backed X n p facts h s K x i (Open o) e in B.proposed v a) tt))

  restate_cases : (i : ℕ) (s : NodeState) (o : Option Standing) → Knows X n p facts h s → standing_at s i ≡ o → Alike X p facts h s (restate i s)
  unfolding restate
  restate_cases i s None K e = rw e (alike_itself X p facts h s)
  restate_cases i s (Some (Decided v)) K e = rw e (alike_itself X p facts h s)
  restate_cases i s (Some (Open o)) K e = restate_open i s o o.proposal K e refl

  -- a restatement only owes
  pub restate_alike : (i : ℕ) (s : NodeState) → Knows X n p facts h s → Alike X p facts h s (restate i s)
  restate_alike i s K = restate_cases i s (standing_at s i) K refl

  pub restate_all_alike : (is : List ℕ) (s : NodeState) → Knows X n p facts h s → Alike X p facts h s (restate_all is s)
  restate_all_alike [] s K = alike_itself X p facts h s
  restate_all_alike (i ∷ is) s K = alike_on X p facts h s (restate i s) (restate_all is (restate i s)) (restate_alike i s K) (restate_all_alike is (restate i s) (knows_alike X n p facts h s (restate i s) (restate_alike i s K) K))
