-- What a node knows of its facts and of what it heard, and that it still knows it once nothing or lawful facts were staged.
use Rattle.std.proofs.Common.{◌≡◌, ℕ, ◌+◌, ◌<◌, ◌⊎◌, inl, inr, Bool, true, false, ◌==◌, if◌then◌else◌, List, [], ◌∷◌, ◌++◌, length, length-append, filter, Contains, Option, None, Some, refl, ap, sym, ◌∙◌, subst, arith, append_assoc, append-nil, eqb-true}
use Rattle.std.specs.Option.{option_map_or}
use Rattle.std.proofs.lemmas.Option.{none-some, same_Some}
use Rattle.std.proofs.lemmas.List.Elements.{All-contains_itself, All-filter, All-contains, All-map, All-weaker, Contains-append_cases, Contains-push_cases}
use Rattle.rr_types.specs.declared.command.Command.{Command}
use Rattle.rr_types.specs.declared.fact.Fact.{Fact}
use Rattle.rr_types.specs.declared.fact.Fact.TheVariants.{Enter, Propose, Adopt, Decide}
use Rattle.rr_types.specs.declared.promise.Standing.{Standing}
use Rattle.rr_types.specs.declared.promise.Standing.TheVariants.{Decided, Open}
use Rattle.rr_types.specs.declared.message.Body.{Body}
use Rattle.rr_types.specs.declared.message.Message.{Message}
use Rattle.rr_types.specs.Facts.{instance_of, standing_of, after_fact}
use Rattle.rr_types.specs.Standings.{round_of, fits}
use Rattle.rr_types.specs.Promises.{promise_of}
use Rattle.rr_model.specs.Lawful.{Heard}
use Rattle.rr_model.proofs.Permitted.{IsNamed, IsPermittedAt, permitted_lawful}
use Rattle.rr_model.specs.NodeState.{NodeState, Row, Owed, Backing, Vote, Tally, no_votes, next_number, row_of, put_row, standing_at}
use Rattle.rr_model.specs.NodeParts.{messages_to, backing_after, backing_at, tally_after, pool_after, owe, pool_add, stage}
use Rattle.rr_model.specs.NodeStep.{change_tally}
use Rattle.rr_model.specs.NodeLaws.{IsOfSubmitted, AreLawful}
use Rattle.rr_model.specs.NodeOpens.{undecided_below, IsOfOpen, AreOfOpen}
use Rattle.rr_model.proofs.Histories.{standing_push}
use Rattle.rr_model.proofs.Growth.{Within}
use Rattle.rr_model.proofs.NodeLowest.{IsLow, low_both, low_by_facts}
use Rattle.rr_model.proofs.NodeRows.{stands, row_then, row_of-put_row, row_of_instance, row_of-rows_after, stands-row_then}
use Rattle.rr_model.proofs.NodeTallies.{AreHeardVotes, IsHeardTally, nothing_tallied}
use Rattle.rr_model.proofs.NodeBits.{no_member_of_none}
use Rattle.rr_model.proofs.Promised.{lawful_fits}
use Rattle.rr_model.proofs.NodeBacks.{IsBackedRow, row_more, step_backed, IsBackedUpTo, IsBackedAt, IsTrulyOwed, truly_more, truly_heard}

-- the facts of the running group, if one runs
abbrev pub in_flight : Option (List Fact) → List Fact
in_flight running = option_map_or (λ fs. fs) running []

-- what a node knows. X stands for what was known of the facts of its opening: where instances stand by its facts, and commands, votes and acknowledgements that it heard
pub record Knows (X : Type 0) (n p : ℕ) (facts : List Fact) (h : Heard) (s : NodeState) : Type 0 where
  pub nodes : s.nodes ≡ n
  pub node : s.node ≡ p
  pub standings : (i : ℕ) → standing_at s i ≡ standing_of i facts
  pub pooled : (c : Command) → Contains s.pool c → IsNamed h c
  pub tallied : (i : ℕ) (row : Row) → row_of s.rows i ≡ Some row → IsHeardTally n h.messages i (round_of (Some row.standing)) row.tally
  pub kept : List Fact
  pub whole : facts ≡ kept ++ (in_flight s.running ++ s.staged)
  pub count : s.marked_end ≡ length kept
  pub promise : s.marked ≡ promise_of kept
  pub backed : X → (i : ℕ) (row : Row) → row_of s.rows i ≡ Some row → IsBackedRow facts i row.backing row.standing
  pub owed : X → (o : Owed) → Contains s.owed o → IsTrulyOwed p facts h o

-- from one state to another the node stages facts that are lawful and of open instances, and knows what it should
pub record Goes (X : Type 0) (n p : ℕ) (facts : List Fact) (h : Heard) (s t : NodeState) : Type 0 where
  pub more : List Fact
  pub staged : t.staged ≡ s.staged ++ more
  pub lawful : AreLawful n p facts h more
  pub low : AreOfOpen facts more
  pub knows : Knows X n p (facts ++ more) h t
  pub running : t.running ≡ s.running
  pub marked_end : t.marked_end ≡ s.marked_end

lawful_both : (n p : ℕ) (facts : List Fact) (h : Heard) (xs ys : List Fact) → AreLawful n p facts h xs → AreLawful n p (facts ++ xs) h ys → AreLawful n p facts h (xs ++ ys)
lawful_both n p facts h [] ys a b = subst (λ z. AreLawful n p z h ys) (append-nil facts) b
lawful_both n p facts h (x ∷ xs) ys a b = (a.0, lawful_both n p (facts ++ x ∷ []) h xs ys a.1 (subst (λ z. AreLawful n p z h ys) (sym (append_assoc facts (x ∷ []) xs)) b))

-- and then on to a third
pub goes_on : (X : Type 0) (n p : ℕ) (facts : List Fact) (h : Heard) (s t u : NodeState) → Goes X n p facts h s t → ((all : List Fact) → Knows X n p all h t → Goes X n p all h t u) → Goes X n p facts h s u
goes_on X n p facts h s t u a f =
    let b : Goes X n p (facts ++ a.more) h t u = f (facts ++ a.more) a.knows in
    record {
      more = a.more ++ b.more;
      staged = b.staged ∙ ap (λ z. z ++ b.more) a.staged ∙ append_assoc s.staged a.more b.more;
      lawful = lawful_both n p facts h a.more b.more a.lawful b.lawful;
      low = low_both facts a.more b.more a.low b.low;
      knows = subst (λ z. Knows X n p z h u) (append_assoc facts a.more b.more) b.knows;
      running = b.running ∙ a.running;
      marked_end = b.marked_end ∙ a.marked_end;
    }

-- the number of the next fact is how many there are
count_cases : (running : Option (List Fact)) → option_map_or length running 0 ≡ length (in_flight running)
count_cases None = refl
count_cases (Some fs) = refl

pub number : (X : Type 0) (n p : ℕ) (facts : List Fact) (h : Heard) (s : NodeState) → Knows X n p facts h s → next_number s ≡ length facts
number X n p facts h s K =
    let a : length facts ≡ length (K.kept ++ (in_flight s.running ++ s.staged)) = ap length K.whole in
    let b : length (K.kept ++ (in_flight s.running ++ s.staged)) ≡ length K.kept + length (in_flight s.running ++ s.staged) = length-append K.kept (in_flight s.running ++ s.staged) in
    let c : length (in_flight s.running ++ s.staged) ≡ length (in_flight s.running) + length s.staged = length-append (in_flight s.running) s.staged in
    let d : option_map_or length s.running 0 ≡ length (in_flight s.running) = count_cases s.running in
    let e : s.marked_end ≡ length K.kept = K.count in
    omega arith

-- two states with the same rows, pool and facts; what only the second owes is truly owed
pub record Alike (X : Type 0) (p : ℕ) (facts : List Fact) (h : Heard) (s t : NodeState) : Type 0 where
  pub nodes : t.nodes ≡ s.nodes
  pub node : t.node ≡ s.node
  pub rows : t.rows ≡ s.rows
  pub pool : t.pool ≡ s.pool
  pub staged : t.staged ≡ s.staged
  pub running : t.running ≡ s.running
  pub marked : t.marked ≡ s.marked
  pub marked_end : t.marked_end ≡ s.marked_end
  pub owed : X → (o : Owed) → Contains t.owed o → Contains s.owed o ⊎ IsTrulyOwed p facts h o

module _ (X : Type 0) (p : ℕ) (facts : List Fact) (h : Heard) where
  pub alike_itself : (s : NodeState) → Alike X p facts h s s
  alike_itself s = record { nodes = refl; node = refl; rows = refl; pool = refl; staged = refl; running = refl; marked = refl; marked_end = refl; owed = λ x o c. inl c }

  owed_on : (s t u : NodeState) → Alike X p facts h s t → (o : Owed) → X → Contains t.owed o ⊎ IsTrulyOwed p facts h o → Contains s.owed o ⊎ IsTrulyOwed p facts h o
  owed_on s t u a o x (inl c) = a.owed x o c
  owed_on s t u a o x (inr y) = inr y

  pub alike_on : (s t u : NodeState) → Alike X p facts h s t → Alike X p facts h t u → Alike X p facts h s u
  alike_on s t u a b = record { nodes = b.nodes ∙ a.nodes; node = b.node ∙ a.node; rows = b.rows ∙ a.rows; pool = b.pool ∙ a.pool; staged = b.staged ∙ a.staged; running = b.running ∙ a.running; marked = b.marked ∙ a.marked; marked_end = b.marked_end ∙ a.marked_end; owed = λ x o c. owed_on s t u a o x (b.owed x o c) }

  pub alike_standing : (s t : NodeState) → Alike X p facts h s t → (i : ℕ) → standing_at t i ≡ standing_at s i
  alike_standing s t a i = ap (λ z. stands (row_of z i)) a.rows

  -- either way
  pub alike_if : (s t u : NodeState) (b : Bool) → (b ≡ true → Alike X p facts h s t) → (b ≡ false → Alike X p facts h s u) → Alike X p facts h s (if b then t else u)
  alike_if s t u true x y = x refl
  alike_if s t u false x y = y refl

  truly_sent : (from : ℕ) (b : Body) (k : Option ℕ) (to : List ℕ) → from ≡ p → IsBackedAt facts k b → IsOfSubmitted b h.commands → (o : Owed) → Contains (messages_to from b k to) o → IsTrulyOwed p facts h o
  truly_sent from b k to e x y o c = All-contains (IsTrulyOwed p facts h) (messages_to from b k to) o
      (All-map (IsTrulyOwed p facts h) (λ q. record { message = record { from = from; to = q; body = b }; backing = k }) to
      (All-weaker (Contains to) (λ q. IsTrulyOwed p facts h (record { message = record { from = from; to = q; body = b }; backing = k })) (λ q z. record { from = e; backed = x; submitted = y }) to (All-contains_itself to))) c

  -- a message owed
  pub owe_alike : (b : Body) (k : Option ℕ) (to : List ℕ) (s : NodeState) → s.node ≡ p → (X → IsBackedAt facts k b) → IsOfSubmitted b h.commands → Alike X p facts h s (owe b k to s)
  unfolding owe
  owe_alike b k to s e v y = record {
    nodes = refl;
    node = refl;
    rows = refl;
    pool = refl;
    staged = refl;
    running = refl;
    marked = refl;
    marked_end = refl;
    owed = λ x o c. elim (Contains-append_cases s.owed (messages_to s.node b k to) o c) [
      | inl z ↦ inl z
      | inr z ↦ inr (truly_sent s.node b k to e (v x) y o z)
    ];
  }

owed_alike : (X : Type 0) (p : ℕ) (facts : List Fact) (h : Heard) (s : NodeState) (o : Owed) → (Contains s.owed o → IsTrulyOwed p facts h o) → Contains s.owed o ⊎ IsTrulyOwed p facts h o → IsTrulyOwed p facts h o
owed_alike X p facts h s o f (inl c) = f c
owed_alike X p facts h s o f (inr y) = y

pub knows_alike : (X : Type 0) (n p : ℕ) (facts : List Fact) (h : Heard) (s t : NodeState) → Alike X p facts h s t → Knows X n p facts h s → Knows X n p facts h t
knows_alike X n p facts h s t a K = record {
  nodes = a.nodes ∙ K.nodes;
  node = a.node ∙ K.node;
  standings = λ i. alike_standing X p facts h s t a i ∙ K.standings i;
  pooled = λ c x. K.pooled c (subst (λ z. Contains z c) a.pool x);
  tallied = λ i row e. K.tallied i row (ap (λ z. row_of z i) (sym a.rows) ∙ e);
  kept = K.kept;
  whole = K.whole ∙ ap (λ z. K.kept ++ (in_flight z ++ s.staged)) (sym a.running) ∙ ap (λ z. K.kept ++ (in_flight t.running ++ z)) (sym a.staged);
  count = a.marked_end ∙ K.count;
  promise = a.marked ∙ K.promise;
  backed = λ x i row e. K.backed x i row (ap (λ z. row_of z i) (sym a.rows) ∙ e);
  owed = λ x o c. owed_alike X p facts h s o (K.owed x o) (a.owed x o c);
}

-- nothing is staged on the way to a state that knows as much
pub goes_still : (X : Type 0) (n p : ℕ) (facts : List Fact) (h : Heard) (s t : NodeState) → t.staged ≡ s.staged → t.running ≡ s.running → t.marked_end ≡ s.marked_end → Knows X n p facts h t → Goes X n p facts h s t
goes_still X n p facts h s t e r m K = record {
  running = r;
  marked_end = m;
  more = [];
  staged = e ∙ sym (append-nil s.staged);
  lawful = tt;
  low = tt;
  knows = subst (λ z. Knows X n p z h t) (sym (append-nil facts)) K;
}

pub goes_nowhere : (X : Type 0) (n p : ℕ) (facts : List Fact) (h : Heard) (s : NodeState) → Knows X n p facts h s → Goes X n p facts h s s
goes_nowhere X n p facts h s K = goes_still X n p facts h s s refl refl refl K

pub goes_alike : (X : Type 0) (n p : ℕ) (facts : List Fact) (h : Heard) (s t : NodeState) → Alike X p facts h s t → Knows X n p facts h s → Goes X n p facts h s t
goes_alike X n p facts h s t a K = goes_still X n p facts h s t a.staged a.running a.marked_end (knows_alike X n p facts h s t a K)

-- either way
pub goes_if : (X : Type 0) (n p : ℕ) (facts : List Fact) (h : Heard) (s t u : NodeState) (b : Bool) → (b ≡ true → Goes X n p facts h s t) → (b ≡ false → Goes X n p facts h s u) → Goes X n p facts h s (if b then t else u)
goes_if X n p facts h s t u true x y = x refl
goes_if X n p facts h s t u false x y = y refl

of_filter : {A : Type 0} → (f : A → Bool) (xs : List A) (x : A) → Contains (filter f xs) x → Contains xs x
of_filter f xs x c = All-contains (Contains xs) (filter f xs) x (All-filter f (Contains xs) xs (All-contains_itself xs)) c

of_pool_after : (f : Fact) (pool : List Command) (c : Command) → Contains (pool_after f pool) c → Contains pool c
of_pool_after (Enter i e) pool c x = x
of_pool_after (Propose i r v) pool c x = x
of_pool_after (Adopt i r v) pool c x = x
of_pool_after (Decide i v) pool c x = of_filter _ pool c x

-- a fact that keeps the tally keeps the round
tally_of_row : (n : ℕ) (ms : List Message) (j : ℕ) (f : Fact) (was s : Standing) (t : Tally) → after_fact (Some was) f ≡ Some s → IsHeardTally n ms j (round_of (Some was)) t → IsHeardTally n ms j (round_of (Some s)) (tally_after f t)
tally_of_row n ms j (Enter i e) was s t x H = nothing_tallied n ms j (round_of (Some s)) no_member_of_none
tally_of_row n ms j (Propose i r v) (Decided w) s t x H = subst (λ z. IsHeardTally n ms j (round_of (Some z)) t) (same_Some _ s x) H
tally_of_row n ms j (Propose i r v) (Open o) s t x H = subst (λ z. IsHeardTally n ms j (round_of (Some z)) t) (same_Some _ s x) H
tally_of_row n ms j (Adopt i r v) (Decided w) s t x H = subst (λ z. IsHeardTally n ms j (round_of (Some z)) t) (same_Some _ s x) H
tally_of_row n ms j (Adopt i r v) (Open o) s t x H = subst (λ z. IsHeardTally n ms j (round_of (Some z)) t) (same_Some _ s x) H
tally_of_row n ms j (Decide i v) was s t x H = nothing_tallied n ms j (round_of (Some s)) no_member_of_none

fresh_tally : (n : ℕ) (ms : List Message) (j r : ℕ) (f : Fact) → IsHeardTally n ms j r (tally_after f no_votes)
fresh_tally n ms j r (Enter i e) = nothing_tallied n ms j r no_member_of_none
fresh_tally n ms j r (Propose i k v) = nothing_tallied n ms j r no_member_of_none
fresh_tally n ms j r (Adopt i k v) = nothing_tallied n ms j r no_member_of_none
fresh_tally n ms j r (Decide i v) = nothing_tallied n ms j r no_member_of_none

-- the tally of a row after a fact about it
tally_then : (n : ℕ) (ms : List Message) (j k : ℕ) (f : Fact) (o : Option Row) (s : Option Standing) (row : Row) → after_fact (stands o) f ≡ s → ((r : Row) → o ≡ Some r → IsHeardTally n ms j (round_of (Some r.standing)) r.tally) → row_then k f s o ≡ Some row → IsHeardTally n ms j (round_of (Some row.standing)) row.tally
tally_then n ms j k f o None row x H e = H row e
tally_then n ms j k f None (Some s) row x H e = subst (λ (z : Row). IsHeardTally n ms j (round_of (Some z.standing)) z.tally) (same_Some _ row e) (fresh_tally n ms j (round_of (Some s)) f)
tally_then n ms j k f (Some r) (Some s) row x H e = subst (λ (z : Row). IsHeardTally n ms j (round_of (Some z.standing)) z.tally) (same_Some _ row e) (tally_of_row n ms j f r.standing s r.tally x (H r refl))

stage_standing : (facts : List Fact) (k : ℕ) (f : Fact) (rows : List Row) (i : ℕ) → ((j : ℕ) → stands (row_of rows j) ≡ standing_of j facts) → (b : Bool) → (instance_of f == i) ≡ b → stands (if b then row_then k f (after_fact (stands (row_of rows (instance_of f))) f) (row_of rows (instance_of f)) else row_of rows i) ≡ (if b then after_fact (standing_of i facts) f else standing_of i facts)
stage_standing facts k f rows i at true e = stands-row_then k f (row_of rows (instance_of f)) ∙ ap (λ z. after_fact z f) (at (instance_of f)) ∙ ap (λ z. after_fact (standing_of z facts) f) (eqb-true _ _ e)
stage_standing facts k f rows i at false e = at i

stage_tally : (n : ℕ) (ms : List Message) (k : ℕ) (f : Fact) (rows : List Row) (i : ℕ) (row : Row) → ((j : ℕ) (r : Row) → row_of rows j ≡ Some r → IsHeardTally n ms j (round_of (Some r.standing)) r.tally) → (b : Bool) → (instance_of f == i) ≡ b → (if b then row_then k f (after_fact (stands (row_of rows (instance_of f))) f) (row_of rows (instance_of f)) else row_of rows i) ≡ Some row → IsHeardTally n ms i (round_of (Some row.standing)) row.tally
stage_tally n ms k f rows i row at true e x = subst (λ z. IsHeardTally n ms z (round_of (Some row.standing)) row.tally) (eqb-true _ _ e) (tally_then n ms (instance_of f) k f (row_of rows (instance_of f)) (after_fact (stands (row_of rows (instance_of f))) f) row refl (at (instance_of f)) x)
stage_tally n ms k f rows i row at false e x = at i row x

-- the row of an instance after a fact that fits
backed_then : (n p : ℕ) (facts : List Fact) (k : ℕ) (f : Fact) (o : Option Row) (s : Option Standing) (row : Row) → k ≡ length facts → after_fact (stands o) f ≡ s → fits n p (stands o) f ≡ true → ((r : Row) → o ≡ Some r → IsBackedRow facts (instance_of f) r.backing r.standing) → row_then k f s o ≡ Some row → IsBackedRow (facts ++ f ∷ []) (instance_of f) row.backing row.standing
backed_then n p facts k f o None row num x fit H e = row_more facts (f ∷ []) (instance_of f) row.backing row.standing (H row e)
backed_then n p facts k f None (Some s) row num x fit H e =
    let none : Backing = record { entered = 0; proposed = 0; adopted = 0; decided = 0 } in
    subst (λ (z : Row). IsBackedRow (facts ++ f ∷ []) (instance_of f) z.backing z.standing) (same_Some _ row e)
    (subst (λ z. IsBackedRow (facts ++ f ∷ []) (instance_of f) (backing_after z f none) s) (sym num) (step_backed n p facts f none None s tt fit x))
backed_then n p facts k f (Some r) (Some s) row num x fit H e =
    subst (λ (z : Row). IsBackedRow (facts ++ f ∷ []) (instance_of f) z.backing z.standing) (same_Some _ row e)
    (subst (λ z. IsBackedRow (facts ++ f ∷ []) (instance_of f) (backing_after z f r.backing) s) (sym num) (step_backed n p facts f r.backing (Some r.standing) s (H r refl) fit x))

stage_backed : (n p : ℕ) (facts : List Fact) (k : ℕ) (f : Fact) (rows : List Row) (i : ℕ) (row : Row) → k ≡ length facts → fits n p (stands (row_of rows (instance_of f))) f ≡ true → ((j : ℕ) (r : Row) → row_of rows j ≡ Some r → IsBackedRow facts j r.backing r.standing) → (b : Bool) → (instance_of f == i) ≡ b → (if b then row_then k f (after_fact (stands (row_of rows (instance_of f))) f) (row_of rows (instance_of f)) else row_of rows i) ≡ Some row → IsBackedRow (facts ++ f ∷ []) i row.backing row.standing
stage_backed n p facts k f rows i row num fit at true e x = subst (λ z. IsBackedRow (facts ++ f ∷ []) z row.backing row.standing) (eqb-true _ _ e) (backed_then n p facts k f (row_of rows (instance_of f)) (after_fact (stands (row_of rows (instance_of f))) f) row num refl fit (at (instance_of f)) x)
stage_backed n p facts k f rows i row num fit at false e x = row_more facts (f ∷ []) i row.backing row.standing (at i row x)

pub stage_knows : (X : Type 0) (n p : ℕ) (facts : List Fact) (h : Heard) (s : NodeState) (f : Fact) → IsPermittedAt n p (standing_at s (instance_of f)) h f → Knows X n p facts h s → Knows X n p (facts ++ f ∷ []) h (stage f s)
unfolding stage
stage_knows X n p facts h s f l K = record {
  nodes = K.nodes;
  node = K.node;
  standings = λ i. ap stands (row_of-rows_after (next_number s) f s.rows i) ∙ stage_standing facts (next_number s) f s.rows i K.standings (instance_of f == i) refl ∙ sym (standing_push i facts f);
  pooled = λ c x. K.pooled c (of_pool_after f s.pool c x);
  tallied = λ i row e. stage_tally n h.messages (next_number s) f s.rows i row K.tallied (instance_of f == i) refl (sym (row_of-rows_after (next_number s) f s.rows i) ∙ e);
  kept = K.kept;
  whole = ap (λ z. z ++ f ∷ []) K.whole ∙ append_assoc K.kept (in_flight s.running ++ s.staged) (f ∷ []) ∙ ap (λ z. K.kept ++ z) (append_assoc (in_flight s.running) s.staged (f ∷ []));
  count = K.count;
  promise = K.promise;
  backed = λ x i row e. stage_backed n p facts (next_number s) f s.rows i row (number X n p facts h s K) (lawful_fits n p (standing_at s (instance_of f)) h f l) (K.backed x) (instance_of f == i) refl (sym (row_of-rows_after (next_number s) f s.rows i) ∙ e);
  owed = λ x o c. truly_more p facts (f ∷ []) h h o (λ d y. y) (K.owed x o c);
}

-- where instances stand once a fact is staged
stands_cases : (f : Fact) (rows : List Row) (k j : ℕ) (b : Bool) → stands (if b then row_then k f (after_fact (stands (row_of rows (instance_of f))) f) (row_of rows (instance_of f)) else row_of rows j) ≡ (if b then after_fact (stands (row_of rows (instance_of f))) f else stands (row_of rows j))
stands_cases f rows k j true = stands-row_then k f (row_of rows (instance_of f))
stands_cases f rows k j false = refl

pub stage_stands : (f : Fact) (s : NodeState) (j : ℕ) → standing_at (stage f s) j ≡ (if instance_of f == j then after_fact (standing_at s (instance_of f)) f else standing_at s j)
unfolding stage
stage_stands f s j = ap stands (row_of-rows_after (next_number s) f s.rows j) ∙ stands_cases f s.rows (next_number s) j (instance_of f == j)

stage_staged : (f : Fact) (s : NodeState) → (stage f s).staged ≡ s.staged ++ f ∷ []
unfolding stage
stage_staged f s = refl

stage_running : (f : Fact) (s : NodeState) → (stage f s).running ≡ s.running
unfolding stage
stage_running f s = refl

stage_end : (f : Fact) (s : NodeState) → (stage f s).marked_end ≡ s.marked_end
unfolding stage
stage_end f s = refl

-- a lawful fact of an open instance staged
pub stage_goes : (X : Type 0) (n p : ℕ) (facts : List Fact) (h : Heard) (s : NodeState) (f : Fact) → Knows X n p facts h s → IsPermittedAt n p (standing_at s (instance_of f)) h f → IsOfOpen facts f → Goes X n p facts h s (stage f s)
stage_goes X n p facts h s f K l o = record {
  more = f ∷ [];
  staged = stage_staged f s;
  running = stage_running f s;
  marked_end = stage_end f s;
  lawful = (permitted_lawful n p (standing_of (instance_of f) facts) h f (subst (λ z. IsPermittedAt n p z h f) (K.standings (instance_of f)) l), tt);
  low = (o, tt);
  knows = stage_knows X n p facts h s f l K;
}

-- and a message owed for it
pub stage_owe_goes : (X : Type 0) (n p : ℕ) (facts : List Fact) (h : Heard) (s : NodeState) (f : Fact) (b : Body) (to : List ℕ) → Knows X n p facts h s → IsPermittedAt n p (standing_at s (instance_of f)) h f → IsOfOpen facts f → IsBackedUpTo (facts ++ f ∷ []) (length facts) b → IsOfSubmitted b h.commands → Goes X n p facts h s (owe b (Some (next_number s)) to (stage f s))
stage_owe_goes X n p facts h s f b to K l o x y =
    let A : Knows X n p (facts ++ f ∷ []) h (stage f s) = stage_knows X n p facts h s f l K in
    let own : Alike X p (facts ++ f ∷ []) h (stage f s) (owe b (Some (next_number s)) to (stage f s)) = owe_alike X p (facts ++ f ∷ []) h b (Some (next_number s)) to (stage f s) A.node (λ z. subst (λ k. IsBackedUpTo (facts ++ f ∷ []) k b) (sym (number X n p facts h s K)) x) y in
    record {
      more = f ∷ [];
      staged = own.staged ∙ stage_staged f s;
      running = own.running ∙ stage_running f s;
      marked_end = own.marked_end ∙ stage_end f s;
      lawful = (permitted_lawful n p (standing_of (instance_of f) facts) h f (subst (λ z. IsPermittedAt n p z h f) (K.standings (instance_of f)) l), tt);
      low = (o, tt);
      knows = knows_alike X n p (facts ++ f ∷ []) h (stage f s) (owe b (Some (next_number s)) to (stage f s)) own A;
    }

pooled_knows : (X : Type 0) (n p : ℕ) (facts : List Fact) (h : Heard) (s : NodeState) (c : Command) → IsNamed h c → Knows X n p facts h s → Knows X n p facts h (record s { pool = s.pool ++ c ∷ [] })
pooled_knows X n p facts h s c o K = record {
  nodes = K.nodes;
  node = K.node;
  standings = K.standings;
  pooled = λ d x. elim (Contains-push_cases s.pool c d x) [
    | inl y ↦ K.pooled d y
    | inr e ↦ subst (IsNamed h) e o
  ];
  tallied = K.tallied;
  kept = K.kept;
  whole = K.whole;
  count = K.count;
  promise = K.promise;
  backed = K.backed;
  owed = K.owed;
}

-- a command that was heard goes into the pool
pub pool_add_goes : (X : Type 0) (n p : ℕ) (facts : List Fact) (h : Heard) (s : NodeState) (c : Command) → IsNamed h c → Knows X n p facts h s → Goes X n p facts h s (pool_add c s)
unfolding pool_add
pool_add_goes X n p facts h s c o K = goes_if X n p facts h s s (record s { pool = s.pool ++ c ∷ [] }) _ (λ e. goes_nowhere X n p facts h s K) (λ e. goes_still X n p facts h s (record s { pool = s.pool ++ c ∷ [] }) refl refl refl (pooled_knows X n p facts h s c o K))

if_same : {A : Type 0} → (f : NodeState → A) (s t u : NodeState) (b : Bool) → f t ≡ f s → f u ≡ f s → f (if b then t else u) ≡ f s
if_same f s t u true x y = x
if_same f s t u false x y = y

pub pool_add_standing : (c : Command) (s : NodeState) (i : ℕ) → standing_at (pool_add c s) i ≡ standing_at s i
unfolding pool_add
pool_add_standing c s i = if_same (λ z. standing_at z i) s s (record s { pool = s.pool ++ c ∷ [] }) _ refl refl

-- a changed tally leaves where instances stand
pub change_standing : (i j : ℕ) (change : Tally → Tally) (row : Row) (rows : List Row) → row_of rows i ≡ Some row → (b : Bool) → (row.instance == j) ≡ b → stands (if b then Some (record row { tally = change row.tally }) else row_of rows j) ≡ stands (row_of rows j)
change_standing i j change row rows e true x = ap stands (sym e ∙ ap (row_of rows) (sym (row_of_instance rows i row e) ∙ eqb-true _ _ x))
change_standing i j change row rows e false x = refl

-- the tally of an instance changed to one that was heard
change_heard : (n : ℕ) (ms : List Message) (i j : ℕ) (change : Tally → Tally) (row other : Row) (rows : List Row) → row_of rows i ≡ Some row → ((k : ℕ) (r : Row) → row_of rows k ≡ Some r → IsHeardTally n ms k (round_of (Some r.standing)) r.tally) → IsHeardTally n ms i (round_of (Some row.standing)) (change row.tally) → (b : Bool) → (row.instance == j) ≡ b → (if b then Some (record row { tally = change row.tally }) else row_of rows j) ≡ Some other → IsHeardTally n ms j (round_of (Some other.standing)) other.tally
change_heard n ms i j change row other rows e at H true x y =
    subst (λ (z : Row). IsHeardTally n ms j (round_of (Some z.standing)) z.tally) (same_Some _ other y)
    (subst (λ z. IsHeardTally n ms z (round_of (Some row.standing)) (change row.tally)) (sym (row_of_instance rows i row e) ∙ eqb-true _ _ x) H)
change_heard n ms i j change row other rows e at H false x y = at j other y

change_backed : (facts : List Fact) (i j : ℕ) (change : Tally → Tally) (row other : Row) (rows : List Row) → row_of rows i ≡ Some row → ((k : ℕ) (r : Row) → row_of rows k ≡ Some r → IsBackedRow facts k r.backing r.standing) → (b : Bool) → (row.instance == j) ≡ b → (if b then Some (record row { tally = change row.tally }) else row_of rows j) ≡ Some other → IsBackedRow facts j other.backing other.standing
change_backed facts i j change row other rows e at true x y =
    subst (λ (z : Row). IsBackedRow facts j z.backing z.standing) (same_Some _ other y)
    (subst (λ z. IsBackedRow facts z row.backing row.standing) (sym (row_of_instance rows i row e) ∙ eqb-true _ _ x) (at i row e))
change_backed facts i j change row other rows e at false x y = at j other y

change_knows : (X : Type 0) (n p : ℕ) (facts : List Fact) (h : Heard) (s : NodeState) (i : ℕ) (change : Tally → Tally) (row : Row) → row_of s.rows i ≡ Some row → Knows X n p facts h s → IsHeardTally n h.messages i (round_of (Some row.standing)) (change row.tally) → Knows X n p facts h (record s { rows = put_row (record row { tally = change row.tally }) s.rows })
change_knows X n p facts h s i change row e K H = record {
  nodes = K.nodes;
  node = K.node;
  standings = λ j. ap stands (row_of-put_row (record row { tally = change row.tally }) s.rows j) ∙ change_standing i j change row s.rows e (row.instance == j) refl ∙ K.standings j;
  pooled = K.pooled;
  tallied = λ j other x. change_heard n h.messages i j change row other s.rows e K.tallied H (row.instance == j) refl (sym (row_of-put_row (record row { tally = change row.tally }) s.rows j) ∙ x);
  kept = K.kept;
  whole = K.whole;
  count = K.count;
  promise = K.promise;
  backed = λ y j other x. change_backed facts i j change row other s.rows e (K.backed y) (row.instance == j) refl (sym (row_of-put_row (record row { tally = change row.tally }) s.rows j) ∙ x);
  owed = K.owed;
}

pub change_goes : (X : Type 0) (n p : ℕ) (facts : List Fact) (h : Heard) (s : NodeState) (i : ℕ) (change : Tally → Tally) → Knows X n p facts h s → ((row : Row) → row_of s.rows i ≡ Some row → IsHeardTally n h.messages i (round_of (Some row.standing)) (change row.tally)) → Goes X n p facts h s (change_tally i change s)
change_goes X n p facts h s i change K H = at (row_of s.rows i) refl
  where
    at : (o : Option Row) → row_of s.rows i ≡ o → Goes X n p facts h s (option_map_or (λ (row : Row). record s { rows = put_row (record row { tally = change row.tally }) s.rows }) o s)
    at None e = goes_nowhere X n p facts h s K
    at (Some row) e = goes_still X n p facts h s (record s { rows = put_row (record row { tally = change row.tally }) s.rows }) refl refl refl (change_knows X n p facts h s i change row e K (H row e))

votes_grow : (n : ℕ) (ms ks : List Message) → ((m : Message) → Contains ms m → Contains ks m) → (i r low : ℕ) (vs : List Vote) → AreHeardVotes n ms i r low vs → AreHeardVotes n ks i r low vs
votes_grow n ms ks W i r low [] a = tt
votes_grow n ms ks W i r low (v ∷ vs) a = (a.0, a.1, (a.2.0, W _ a.2.1), votes_grow n ms ks W i r _ vs a.3)

occurs_more : (h g : Heard) → Within h g → (c : Command) → IsNamed h c → IsNamed g c
occurs_more h g W c (inl m) = inl (m.0, W.messages m.0 m.1, m.2)
occurs_more h g W c (inr x) = inr (W.commands c x)

-- what a node knows, it knows where more was heard
pub knows_grows : (X : Type 0) (n p : ℕ) (facts : List Fact) (h g : Heard) (s : NodeState) → Within h g → Knows X n p facts h s → Knows X n p facts g s
knows_grows X n p facts h g s W K = record {
  nodes = K.nodes;
  node = K.node;
  standings = K.standings;
  pooled = λ c x. occurs_more h g W c (K.pooled c x);
  tallied = λ i row e. let H : IsHeardTally n h.messages i (round_of (Some row.standing)) row.tally = K.tallied i row e in record {
    votes = votes_grow n h.messages g.messages W.messages i (round_of (Some row.standing)) 0 row.tally.estimates H.votes;
    acks = λ q m. ((H.acks q m).0, W.messages _ (H.acks q m).1);
  };
  kept = K.kept;
  whole = K.whole;
  count = K.count;
  promise = K.promise;
  backed = K.backed;
  owed = λ x o c. truly_heard p facts h g o W.commands (K.owed x o c);
}

-- the numbers that back the messages of an instance
abbrev pub backs : NodeState → ℕ → Backing
backs s i = record { entered = backing_at (λ b. b.entered) s i; proposed = backing_at (λ b. b.proposed) s i; adopted = backing_at (λ b. b.adopted) s i; decided = backing_at (λ b. b.decided) s i }

-- back what they should
pub stood_backed : (X : Type 0) (n p : ℕ) (facts : List Fact) (h : Heard) (s : NodeState) → Knows X n p facts h s → X → (i : ℕ) (t : Standing) → standing_at s i ≡ Some t → IsBackedRow facts i (backs s i) t
stood_backed X n p facts h s K x i t e = at (row_of s.rows i) refl e
  where
    at : (o : Option Row) → row_of s.rows i ≡ o → stands o ≡ Some t → IsBackedRow facts i (record { entered = option_map_or (λ (r : Row). r.backing.entered) o 0; proposed = option_map_or (λ (r : Row). r.backing.proposed) o 0; adopted = option_map_or (λ (r : Row). r.backing.adopted) o 0; decided = option_map_or (λ (r : Row). r.backing.decided) o 0 }) t
    at None a b = absurd (none-some t b)
    at (Some row) a b = subst (IsBackedRow facts i row.backing) (same_Some _ t b) (K.backed x i row a)

-- an open instance is one of the lowest by the facts, too
pub low_here : (X : Type 0) (n p : ℕ) (facts : List Fact) (h : Heard) (s : NodeState) (i : ℕ) → Knows X n p facts h s → IsLow s i → undecided_below i facts < 8
low_here X n p facts h s i K l = low_by_facts s facts i K.standings l
