-- What lawful facts keep of an open instance: its round and stamp don't fall, its proposal stands, and its commands were heard.
use Rattle.std.proofs.Common.{◌≡◌, ℕ, ◌<◌, ◌≤◌, ◌⊎◌, inl, inr, if◌then◌else◌, List, [], ◌∷◌, ◌++◌, Contains, None, Some, refl, ap, sym, ◌∙◌, subst, arith, append_assoc, eq-eqb}
use Rattle.std.proofs.lemmas.Option.{none-some, same_Some}
use Rattle.rr_types.specs.declared.command.Command.{Command}
use Rattle.rr_types.specs.declared.fact.Fact.{Fact}
use Rattle.rr_types.specs.declared.message.Body.TheVariants.{Proposal}
use Rattle.rr_types.specs.declared.message.Message.{Message}
use Rattle.rr_types.specs.Rounds.{Estimated, OpenAt, coordinator_of}
use Rattle.rr_types.specs.Facts.{instance_of, standing_of, after_fact}
use Rattle.rr_model.specs.Lawful.{Heard, Says}
use Rattle.rr_model.proofs.Permitted.{IsNamed, command_in}
use Rattle.rr_model.proofs.Histories.{History, Keeps, OnOpen, entered, kept_by_facts, from_then_on, always, standing_push}

-- rounds do not fall
pub rounds_rise : (n p : ℕ) (h : Heard) (i r : ℕ) → Keeps n p h i (λ o. r ≤ o.round) ⊥
rounds_rise n p h i r = record {
  first = λ e x l z c. absurd x;
  next = λ o e q l c z. omega arith;
  propose = λ o v q c z k. q;
  adopt = λ o v q l z. q;
}

-- stamps do not fall
pub stamps_rise : (n p : ℕ) (h : Heard) (i r : ℕ) → Keeps n p h i (λ o. r ≤ o.stamp) ⊥
stamps_rise n p h i r = record {
  first = λ e x l z c. absurd x;
  next = λ o e q l c z. omega arith;
  propose = λ o v q c z k. q;
  adopt = λ o v q l z. omega arith;
}

-- a stamp is at most the round
pub stamps_below : (n p : ℕ) (h : Heard) (i : ℕ) → Keeps n p h i (λ o. o.stamp ≤ o.round) (Unit {0})
stamps_below n p h i = record {
  first = λ e x l z c. omega arith;
  next = λ o e q l c z. omega arith;
  propose = λ o v q c z k. q;
  adopt = λ o v q l z. omega arith;
}

-- a stamped estimate was proposed in the round of its stamp
pub stamps_proposed : (n p : ℕ) (h : Heard) (i : ℕ) → Keeps n p h i (λ o. 0 < o.stamp → Says h.messages (coordinator_of o.stamp n) (Proposal i o.stamp o.estimate)) (Unit {0})
stamps_proposed n p h i = record {
  first = λ e x l z c s. absurd (omega arith);
  next = λ o e q l c z s. subst (λ t. Says h.messages (coordinator_of t n) (Proposal i t e.command)) (sym z) (subst (λ v. Says h.messages (coordinator_of o.stamp n) (Proposal i o.stamp v)) (sym c) (q (omega arith)));
  propose = λ o v q c z k. q;
  adopt = λ o v q l z s. z;
}

-- a proposal is the one of its round, or the round is over
abbrev pub IsProposedOrOver : ℕ → Command → OpenAt → Type 0
IsProposedOrOver r v o = ((o.round ≡ r) × (o.proposal ≡ Some v)) ⊎ (r < o.round)

over_next : (r : ℕ) (v : Command) (o : OpenAt) (e : Estimated) → IsProposedOrOver r v o → o.round < e.round → IsProposedOrOver r v (entered e)
over_next r v o e (inl s) l = inr (let h : o.round ≡ r = s.0 in omega arith)
over_next r v o e (inr s) l = inr (omega arith)

over_propose : (r : ℕ) (v w : Command) (o : OpenAt) → IsProposedOrOver r v o → o.proposal ≡ None → IsProposedOrOver r v (record o { proposal = Some w })
over_propose r v w o (inl s) z = absurd (none-some v (sym z ∙ s.1))
over_propose r v w o (inr s) z = inr s

pub proposals_stand : (n p : ℕ) (h : Heard) (i r : ℕ) (v : Command) → Keeps n p h i (IsProposedOrOver r v) ⊥
proposals_stand n p h i r v = record {
  first = λ e x l z c. absurd x;
  next = λ o e q l c z. over_next r v o e q l;
  propose = λ o w q c z k. over_propose r v w o q z;
  adopt = λ o w q l z. q;
}

-- only the coordinator proposes
pub proposers_coordinate : (n p : ℕ) (h : Heard) (i : ℕ) → Keeps n p h i (λ o. (v : Command) → o.proposal ≡ Some v → p ≡ coordinator_of o.round n) (Unit {0})
proposers_coordinate n p h i = record {
  first = λ e x l z c v s. absurd (none-some v s);
  next = λ o e q l c z v s. absurd (none-some v s);
  propose = λ o w q c z k v s. c;
  adopt = λ o w q l z. q;
}

-- what was heard names commands with this property alone
pub record Names (Ok : Command → Type 0) (h : Heard) : Type 0 where
  pub messages : (m : Message) (v : Command) → Contains h.messages m → command_in m.body ≡ Some v → Ok v
  pub commands : (v : Command) → Contains h.commands v → Ok v

-- estimate and proposal have the property
pub record AreOk (Ok : Command → Type 0) (o : OpenAt) : Type 0 where
  pub estimate : Ok o.estimate
  pub proposal : (v : Command) → o.proposal ≡ Some v → Ok v

pub occurs_ok : (Ok : Command → Type 0) (h : Heard) (v : Command) → Names Ok h → IsNamed h v → Ok v
occurs_ok Ok h v N (inl m) = N.messages m.0 v m.1 m.2
occurs_ok Ok h v N (inr c) = N.commands v c

-- commands have the property where each command heard has it
pub commands_ok : (Ok : Command → Type 0) (n p : ℕ) (h : Heard) (i : ℕ) → Names Ok h → Keeps n p h i (AreOk Ok) (Unit {0})
commands_ok Ok n p h i N = record {
  first = λ e x l z c. record { estimate = occurs_ok Ok h e.command N c; proposal = λ v s. absurd (none-some v s) };
  next = λ o e q l c z. record { estimate = subst Ok (sym c) q.estimate; proposal = λ v s. absurd (none-some v s) };
  propose = λ o w q c z k. record { estimate = q.estimate; proposal = λ v s. subst Ok (same_Some w v s) (N.messages _ w k.said.1 refl) };
  adopt = λ o w q l z. record { estimate = N.messages _ w z.1 refl; proposal = q.proposal };
}

-- where the instance stands behind a fact about it
pub standing_after : (i : ℕ) (a : List Fact) (f : Fact) → instance_of f ≡ i → standing_of i (a ++ f ∷ []) ≡ after_fact (standing_of i a) f
standing_after i a f e = standing_push i a f ∙ ap (λ b. if b then after_fact (standing_of i a) f else standing_of i a) (eq-eqb _ _ e)

-- what a fact brings about, and lawful facts keep, holds at each later place
pub later : (n p : ℕ) (h : Heard) (i : ℕ) (P : OpenAt → Type 0) → Keeps n p h i P ⊥ → (a : List Fact) (f : Fact) (mid c : List Fact) → History n p h c → c ≡ a ++ f ∷ mid → instance_of f ≡ i → OnOpen P ⊥ (after_fact (standing_of i a) f) → OnOpen P ⊥ (standing_of i c)
later n p h i P K a f mid c H e is q =
    let split : c ≡ (a ++ f ∷ []) ++ mid = e ∙ sym (append_assoc a (f ∷ []) mid) in
    subst (λ z. OnOpen P ⊥ (standing_of i z)) (sym split) (from_then_on n p h i (OnOpen P ⊥) (kept_by_facts n p h i P ⊥ K) (a ++ f ∷ []) mid (subst (History n p h) split H) (subst (OnOpen P ⊥) (sym (standing_after i a f is)) q))

-- what lawful facts keep holds behind each history
pub behind : (n p : ℕ) (h : Heard) (i : ℕ) (P : OpenAt → Type 0) → Keeps n p h i P (Unit {0}) → (c : List Fact) → History n p h c → OnOpen P (Unit {0}) (standing_of i c)
behind n p h i P K c H = always n p h i (OnOpen P (Unit {0})) (kept_by_facts n p h i P (Unit {0}) K) c H tt
