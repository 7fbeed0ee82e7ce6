-- What one node can do alone, whatever the others do.
use Rattle.std.proofs.Common.{◌≡◌, ℕ, ◌<◌, ◌≤◌, inl, inr, zero, suc, Bool, true, false, if◌then◌else◌, [], ◌∷◌, ◌++◌, length, take, drop, Contains, Option, refl, ap, sym, ◌∙◌, subst, arith, append-nil, eq-eqb}
use Rattle.std.proofs.lemmas.Bool.{false≢true, cases_lt}
use Rattle.std.proofs.lemmas.List.Elements.{Contains-append_left, Contains-push}
use Rattle.rr_types.specs.declared.command.Command.{Command}
use Rattle.rr_types.specs.declared.fact.Fact.{Fact}
use Rattle.rr_types.specs.declared.promise.Standing.{Standing}
use Rattle.rr_types.specs.declared.message.Body.{Body}
use Rattle.rr_types.specs.declared.message.Body.TheVariants.{Request}
use Rattle.rr_types.specs.declared.message.Message.{Message}
use Rattle.rr_types.specs.Facts.{instance_of, standing_of, after_fact}
use Rattle.rr_model.specs.Lawful.{Heard, IsLawfulAt, IsBacked}
use Rattle.rr_model.specs.World.{World, Submit, Hear, Stage, Settle, Send, GoDown, Restart, after_step, with_at}
use Rattle.rr_model.specs.NodeInWorld.{LeavesAlone}
use Rattle.rr_model.proofs.Kept.{standing_after}
use Rattle.rr_model.proofs.Reaches.{Reaches, by_none, by_step, further, weaker, In, AtNode}

-- at p the function has its new value
pub at_itself : {A : Type 0} → (f : ℕ → A) (p : ℕ) (x : A) → with_at f p x p ≡ x
at_itself f p x = ap (λ b. if b then x else f p) (eq-eqb p p refl)

-- the node is up with nothing staged, and its kept facts leave the instance standing so
pub record Sits (w : World) (i q : ℕ) (s : Option Standing) : Type 0 where
  pub up : w.is_up q ≡ true
  pub empty : w.staged q ≡ []
  pub stands : standing_of i (w.kept q) ≡ s

pub sits_still : (i : ℕ) (s : Option Standing) (q : ℕ) (w v : World) → LeavesAlone q w v → Sits w i q s → Sits v i q s
sits_still i s q w v a S = record { up = a.up ∙ S.up; empty = a.staged ∙ S.empty; stands = ap (standing_of i) a.kept ∙ S.stands }

-- only what the node heard and what is on the wire have changed, and both have grown
pub record Talked (p : ℕ) (w v : World) : Type 0 where
  pub up : v.is_up p ≡ w.is_up p
  pub kept : v.kept p ≡ w.kept p
  pub staged : v.staged p ≡ w.staged p
  pub messages : (m : Message) → Contains (w.heard p).messages m → Contains (v.heard p).messages m
  pub wire : (m : Message) → Contains w.wire m → Contains v.wire m

pub talked_not : (p : ℕ) (w : World) → Talked p w w
talked_not p w = record { up = refl; kept = refl; staged = refl; messages = λ m x. x; wire = λ m x. x }

pub talked_more : (p : ℕ) (u v w : World) → Talked p u v → Talked p v w → Talked p u w
talked_more p u v w a b = record { up = b.up ∙ a.up; kept = b.kept ∙ a.kept; staged = b.staged ∙ a.staged; messages = λ m x. b.messages m (a.messages m x); wire = λ m x. b.wire m (a.wire m x) }

pub sits_talked : (i : ℕ) (s : Option Standing) (p : ℕ) (w v : World) → Talked p w v → Sits w i p s → Sits v i p s
sits_talked i s p w v a S = record { up = a.up ∙ S.up; empty = a.staged ∙ S.empty; stands = ap (standing_of i) a.kept ∙ S.stands }

-- a message
abbrev pub message : ℕ → ℕ → Body → Message
message p q b = record { from = p; to = q; body = b }

-- it says what its kept facts back
pub sends : {c : Command} → (n p q : ℕ) (w : World) (b : Body) → p < n → w.is_up p ≡ true → IsBacked b (w.kept p) → ((c : Command) → b ≡ Request c → ⊥) → Reaches n (AtNode c p) w (λ v. Talked p w v × Contains v.wire (message p q b))
sends {c} n p q w b l up back free = by_step n (AtNode c p) w (λ v. Talked p w v × Contains v.wire (message p q b)) (Send p (message p q b)) (refl, tt) ((l, up), refl, back, λ d e. absurd (free d e))
    (record { up = refl; kept = refl; staged = refl; messages = λ m x. x; wire = λ m x. Contains-append_left w.wire (message p q b ∷ []) m x }, Contains-push w.wire (message p q b))

-- it hears what is on the wire for it
pub hears : {c : Command} → (n p q : ℕ) (w : World) (b : Body) → p < n → w.is_up p ≡ true → Contains w.wire (message q p b) → Reaches n (AtNode c p) w (λ v. Talked p w v × Contains (v.heard p).messages (message q p b))
hears {c} n p q w b l up said =
    let h : Heard = record (w.heard p) { messages = (w.heard p).messages ++ message q p b ∷ [] } in
    let is : with_at w.heard p h p ≡ h = at_itself w.heard p h in
    by_step n (AtNode c p) w (λ v. Talked p w v × Contains (v.heard p).messages (message q p b)) (Hear p (message q p b)) (refl, tt) ((l, up), said, refl) (
      record { up = refl; kept = refl; staged = refl; messages = λ m x. subst (λ (z : Heard). Contains z.messages m) (sym is) (Contains-append_left (w.heard p).messages (message q p b ∷ []) m x); wire = λ m x. x },
      subst (λ (z : Heard). Contains z.messages (message q p b)) (sym is) (Contains-push (w.heard p).messages (message q p b)),
    )

-- the node has kept one more fact
pub record HasKept (w v : World) (i q : ℕ) (s : Option Standing) (f : Fact) : Type 0 where
  pub sits : Sits v i q (after_fact s f)
  pub fact : Contains (v.kept q) f
  pub wire : (m : Message) → Contains w.wire m → Contains v.wire m

-- it stages a lawful fact, and keeps it
pub keeps : {c : Command} → (n q i : ℕ) (w : World) (s : Option Standing) (f : Fact) → q < n → instance_of f ≡ i → Sits w i q s → IsLawfulAt n q s (w.heard q) f → Reaches n (AtNode c q) w (λ v. HasKept w v i q s f)
keeps {c} n q i w s f l is S law =
    let w1 : World = after_step w (Stage q f) in
    let facts : w.kept q ++ w.staged q ≡ w.kept q = ap (λ z. w.kept q ++ z) S.empty ∙ append-nil (w.kept q) in
    let stands : standing_of (instance_of f) (w.kept q ++ w.staged q) ≡ s = ap (standing_of (instance_of f)) facts ∙ ap (λ z. standing_of z (w.kept q)) is ∙ S.stands in
    let staged : w1.staged q ≡ f ∷ [] = at_itself w.staged q (w.staged q ++ f ∷ []) ∙ ap (λ z. z ++ f ∷ []) S.empty in
    let kept : (after_step w1 (Settle q 1)).kept q ≡ w.kept q ++ f ∷ [] = at_itself w.kept q (w.kept q ++ take 1 (w1.staged q)) ∙ ap (λ z. w.kept q ++ take 1 z) staged in
    let left : (after_step w1 (Settle q 1)).staged q ≡ [] = at_itself w1.staged q (drop 1 (w1.staged q)) ∙ ap (drop 1) staged in
    record {
      steps = Stage q f ∷ Settle q 1 ∷ [];
      where_they_are = ((refl, tt), ((refl, tt), tt));
      runs = (((l, S.up), subst (λ z. IsLawfulAt n q z (w.heard q) f) (sym stands) law), (((l, S.up), subst (λ z. 1 ≤ length z) (sym staged) (omega arith)), tt));
      goal = record {
        sits = record { up = S.up; empty = left; stands = ap (standing_of i) kept ∙ standing_after i (w.kept q) f is ∙ ap (λ z. after_fact z f) S.stands };
        fact = subst (λ z. Contains z f) (sym kept) (Contains-push (w.kept q) f);
        wire = λ m x. x;
      };
    }

-- the node is up with nothing staged and just what it kept before, and has heard a command
pub record IsFresh (w v : World) (q : ℕ) (c : Command) : Type 0 where
  pub up : v.is_up q ≡ true
  pub empty : v.staged q ≡ []
  pub kept : v.kept q ≡ w.kept q
  pub command : Contains (v.heard q).commands c

submits : (n q : ℕ) (w : World) (c : Command) → q < n → w.is_up q ≡ true → w.staged q ≡ [] → Reaches n (AtNode c q) w (λ v. IsFresh w v q c)
submits n q w c l up empty =
    let h : Heard = record (w.heard q) { commands = (w.heard q).commands ++ c ∷ [] } in
    by_step n (AtNode c q) w (λ v. IsFresh w v q c) (Submit q c) (refl, refl) (l, up)
    (record { up = up; empty = empty; kept = refl; command = subst (λ (z : Heard). Contains z.commands c) (sym (at_itself w.heard q h)) (Contains-push (w.heard q).commands c) })

-- a node that is down restarts, where the crash lost what was staged, and a client submits a command to it
starts : (n q : ℕ) (w : World) (c : Command) → q < n → w.is_up q ≡ false → Reaches n (AtNode c q) w (λ v. IsFresh w v q c)
starts n q w c l down =
    let v : World = after_step w (Restart q 0) in
    let kept : v.kept q ≡ w.kept q = at_itself w.kept q (w.kept q ++ take 0 (w.staged q)) ∙ append-nil (w.kept q) in
    further n (AtNode c q) w (λ u. (u.is_up q ≡ true) × (u.staged q ≡ []) × (u.kept q ≡ w.kept q)) (λ u. IsFresh w u q c)
    (by_step n (AtNode c q) w (λ u. (u.is_up q ≡ true) × (u.staged q ≡ []) × (u.kept q ≡ w.kept q)) (Restart q 0) (refl, tt) (l, down, omega arith) (at_itself w.is_up q true, at_itself w.staged q [], kept))
    (λ u g. weaker n (AtNode c q) u (λ z. IsFresh u z q c) (λ z. IsFresh w z q c) (submits n q u c l g.0 g.1) (λ z F. record { up = F.up; empty = F.empty; kept = F.kept ∙ g.2; command = F.command }))

restarts_if : (n q : ℕ) (w : World) (c : Command) → q < n → (b : Bool) → w.is_up q ≡ b → Reaches n (AtNode c q) w (λ v. IsFresh w v q c)
restarts_if n q w c l false e = starts n q w c l e
restarts_if n q w c l true e =
    further n (AtNode c q) w (λ u. (u.is_up q ≡ false) × (u.kept q ≡ w.kept q)) (λ u. IsFresh w u q c)
    (by_step n (AtNode c q) w (λ u. (u.is_up q ≡ false) × (u.kept q ≡ w.kept q)) (GoDown q) (refl, tt) (l, e) (at_itself w.is_up q false, refl))
    (λ u g. weaker n (AtNode c q) u (λ z. IsFresh u z q c) (λ z. IsFresh w z q c) (starts n q u c l g.0) (λ z F. record { up = F.up; empty = F.empty; kept = F.kept ∙ g.1; command = F.command }))

-- each node can restart with what it kept alone, and hear a command
pub restarts : (n q : ℕ) (w : World) (c : Command) → q < n → Reaches n (AtNode c q) w (λ v. IsFresh w v q c)
restarts n q w c l = restarts_if n q w c l (w.is_up q) refl

-- it tells each of the nodes below k
pub tells_all : {c : Command} → (n p : ℕ) (w : World) (b : Body) → p < n → w.is_up p ≡ true → IsBacked b (w.kept p) → ((c : Command) → b ≡ Request c → ⊥) → (k : ℕ) → Reaches n (AtNode c p) w (λ v. Talked p w v × ((q : ℕ) → q < k → Contains v.wire (message p q b)))
tells_all {c} n p w b l up back free zero = by_none n (AtNode c p) w (λ v. Talked p w v × ((q : ℕ) → q < 0 → Contains v.wire (message p q b))) (talked_not p w, λ q x. absurd (omega arith))
tells_all {c} n p w b l up back free (suc k) =
    further n (AtNode c p) w (λ v. Talked p w v × ((q : ℕ) → q < k → Contains v.wire (message p q b))) (λ v. Talked p w v × ((q : ℕ) → q < suc k → Contains v.wire (message p q b)))
    (tells_all n p w b l up back free k)
    (λ u g. weaker n (AtNode c p) u (λ v. Talked p u v × Contains v.wire (message p k b)) (λ v. Talked p w v × ((q : ℕ) → q < suc k → Contains v.wire (message p q b)))
    (sends n p k u b l (g.0.up ∙ up) (subst (IsBacked b) (sym g.0.kept) back) free)
    (λ v t. (
      talked_more p w u v g.0 t.0,
      λ q x. elim (cases_lt q k) [
        | inl y ↦ t.0.wire (message p q b) (g.1 q y)
        | inr y ↦ subst (λ z. Contains v.wire (message p z b)) (let z : k ≡ q = omega arith in z) t.1
      ],
    )))

-- it hears what each node of the set below k has told it
hears_one : {c : Command} → (n p k : ℕ) (w : World) (set : ℕ → Bool) (body : ℕ → Body) → p < n → w.is_up p ≡ true → (In n set k → Contains w.wire (message k p (body k))) → k < n → (b : Bool) → set k ≡ b → Reaches n (AtNode c p) w (λ v. Talked p w v × (set k ≡ true → Contains (v.heard p).messages (message k p (body k))))
hears_one {c} n p k w set body l up said x false e = by_none n (AtNode c p) w (λ v. Talked p w v × (set k ≡ true → Contains (v.heard p).messages (message k p (body k)))) (talked_not p w, λ t. absurd (false≢true (sym e ∙ t)))
hears_one {c} n p k w set body l up said x true e = weaker n (AtNode c p) w (λ v. Talked p w v × Contains (v.heard p).messages (message k p (body k))) (λ v. Talked p w v × (set k ≡ true → Contains (v.heard p).messages (message k p (body k)))) (hears n p k w (body k) l up (said (x, e))) (λ v g. (g.0, λ t. g.1))

pub hears_all : {c : Command} → (n p : ℕ) (w : World) (set : ℕ → Bool) (body : ℕ → Body) → p < n → w.is_up p ≡ true → ((q : ℕ) → In n set q → Contains w.wire (message q p (body q))) → (k : ℕ) → k ≤ n → Reaches n (AtNode c p) w (λ v. Talked p w v × ((q : ℕ) → q < k → set q ≡ true → Contains (v.heard p).messages (message q p (body q))))
hears_all {c} n p w set body l up said zero x = by_none n (AtNode c p) w (λ v. Talked p w v × ((q : ℕ) → q < 0 → set q ≡ true → Contains (v.heard p).messages (message q p (body q)))) (talked_not p w, λ q x. absurd (omega arith))
hears_all {c} n p w set body l up said (suc k) x =
    further n (AtNode c p) w (λ v. Talked p w v × ((q : ℕ) → q < k → set q ≡ true → Contains (v.heard p).messages (message q p (body q)))) (λ v. Talked p w v × ((q : ℕ) → q < suc k → set q ≡ true → Contains (v.heard p).messages (message q p (body q))))
    (hears_all n p w set body l up said k (omega arith))
    (λ u g. weaker n (AtNode c p) u (λ v. Talked p u v × (set k ≡ true → Contains (v.heard p).messages (message k p (body k)))) (λ v. Talked p w v × ((q : ℕ) → q < suc k → set q ≡ true → Contains (v.heard p).messages (message q p (body q))))
    (hears_one n p k u set body l (g.0.up ∙ up) (λ m. g.0.wire _ (said k m)) (omega arith) (set k) refl)
    (λ v t. (
      talked_more p w u v g.0 t.0,
      λ q y m. elim (cases_lt q k) [
        | inl z ↦ t.0.messages _ (g.1 q z m)
        | inr z ↦ (let same : k ≡ q = omega arith in subst (λ a. Contains (v.heard p).messages (message a p (body a))) same (t.1 (subst (λ a. set a ≡ true) (sym same) m)))
      ],
    )))
