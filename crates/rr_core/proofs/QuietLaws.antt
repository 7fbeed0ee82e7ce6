-- The parts of a step that stage nothing leave facts and promise as they are.
use Rattle.std.proofs.Common.{◌≡◌, ℕ, Bool, true, false, cond, ◌&&◌, ◌||◌, ltb, eqb, List, [], ◌∷◌, ◌++◌, ap, sym, ◌∙◌, refl, subst, append_assoc, Option, Some, None, option_map, if◌then◌else◌}
use Rattle.std.specs.Option.{option_map_or}
use Rattle.std.proofs.lemmas.Bool.{eqb-true, eqb-false, eq-eqb}
use Rattle.rr_types.specs.declared.command.Command.{Command}
use Rattle.rr_types.specs.declared.command.RequestNo.{RequestNo}
use Rattle.rr_types.specs.declared.message.Body.{Body}
use Rattle.rr_types.specs.declared.fact.Fact.{Fact}
use Rattle.rr_types.specs.declared.fact.Fact.TheVariants.{Enter, Propose, Adopt, Decide}
use Rattle.rr_types.specs.declared.promise.Standing.{Standing}
use Rattle.rr_types.specs.declared.promise.Standing.TheVariants.{Decided, Open}
use Rattle.rr_types.specs.declared.promise.Entry.{Entry}
use Rattle.rr_types.specs.Registry.{has_request}
use Rattle.rr_types.specs.Facts.{instance_of, after_fact}
use Rattle.rr_types.specs.Promises.{IsAscending, standing_in, set_entry, set_standing, take_on, take_on_all, all_fit}
use Rattle.rr_types.specs.Standings.{fits}
use Rattle.rr_model.specs.NodeState.{NodeState, Row, row_of, put_row, standing_at, is_decided_request, next_number}
use Rattle.rr_model.specs.NodeParts.{owe, pool_add, stage, rows_after, row_after, fresh_row}
use Rattle.rr_model.specs.NodeStep.{wait_for, is_waiting}
use Rattle.rr_core.specs.Lawful.{IsLawful, unmarked_facts}

-- a step that leaves facts and promise as they are
pub record IsQuiet (s t : NodeState) : Type 0 where
  pub nodes : t.nodes ≡ s.nodes
  pub node : t.node ≡ s.node
  pub stands : (i : ℕ) → standing_at t i ≡ standing_at s i
  pub marked : t.marked ≡ s.marked
  pub ends : t.marked_end ≡ s.marked_end
  pub running : t.running ≡ s.running
  pub staged : t.staged ≡ s.staged

-- a step that stages lawful facts alone, and leaves the promise as it is
pub record IsStep (s t : NodeState) : Type 0 where
  pub lawful : IsLawful s → IsLawful t
  pub marked : t.marked ≡ s.marked

pub step_none : (s : NodeState) → IsStep s s
step_none s = record { lawful = λ h. h; marked = refl }

pub step_then : (s t u : NodeState) → IsStep s t → IsStep t u → IsStep s u
step_then s t u a b = record { lawful = λ h. b.lawful (a.lawful h); marked = b.marked ∙ a.marked }

pub quiet_none : (s : NodeState) → IsQuiet s s
quiet_none s = record { nodes = refl; node = refl; stands = λ i. refl; marked = refl; ends = refl; running = refl; staged = refl }

pub quiet_then : (s t u : NodeState) → IsQuiet s t → IsQuiet t u → IsQuiet s u
quiet_then s t u a b = record {
  nodes = b.nodes ∙ a.nodes;
  node = b.node ∙ a.node;
  stands = λ i. b.stands i ∙ a.stands i;
  marked = b.marked ∙ a.marked;
  ends = b.ends ∙ a.ends;
  running = b.running ∙ a.running;
  staged = b.staged ∙ a.staged;
}

pub quiet_step : (s t : NodeState) → IsQuiet s t → IsStep s t
quiet_step s t q = record {
  lawful = λ h. record {
    ascends = subst (λ (es : List Entry). IsAscending es) (sym q.marked) h.ascends;
    fits = rw (q.nodes, q.node, q.marked, q.running, q.staged) h.fits;
    stands = λ i. q.stands i ∙ rw (q.marked, q.running, q.staged) (h.stands i);
    few = rw q.running h.few;
  };
  marked = q.marked;
}

-- owing, pooling and waiting are quiet
pub owe_quiet : (body : Body) (backing : Option ℕ) (to : List ℕ) (s : NodeState) → IsQuiet s (owe body backing to s)
unfolding owe
owe_quiet body backing to s = record { nodes = refl; node = refl; stands = λ i. refl; marked = refl; ends = refl; running = refl; staged = refl }

pub pool_quiet : (c : Command) (s : NodeState) → IsQuiet s (pool_add c s)
unfolding pool_add
pool_quiet c s = by (has_request s.pool c.request || is_decided_request s c.request)
  where
    by : (b : Bool) → IsQuiet s (if b then s else record s { pool = s.pool ++ c ∷ [] })
    by true = record { nodes = refl; node = refl; stands = λ i. refl; marked = refl; ends = refl; running = refl; staged = refl }
    by false = record { nodes = refl; node = refl; stands = λ i. refl; marked = refl; ends = refl; running = refl; staged = refl }

pub wait_quiet : (q : RequestNo) (s : NodeState) → IsQuiet s (wait_for q s)
unfolding wait_for
wait_quiet q s = by (is_waiting s q)
  where
    by : (b : Bool) → IsQuiet s (if b then s else record s { waiting = s.waiting ++ q ∷ [] })
    by true = record { nodes = refl; node = refl; stands = λ i. refl; marked = refl; ends = refl; running = refl; staged = refl }
    by false = record { nodes = refl; node = refl; stands = λ i. refl; marked = refl; ends = refl; running = refl; staged = refl }

-- the row of an instance once one is put
pub row-put : (row : Row) (rows : List Row) (i : ℕ) → row_of (put_row row rows) i ≡ cond (eqb row.instance i) (Some row) (row_of rows i)
row-put row [] i = refl
row-put row (r ∷ rs) i = by (row-put row rs i) (ltb row.instance r.instance) (eqb row.instance r.instance) (eqb row.instance i) (eqb r.instance i) refl refl refl refl
  where
    by : row_of (put_row row rs) i ≡ cond (eqb row.instance i) (Some row) (row_of rs i) → (a b c d : Bool) → ltb row.instance r.instance ≡ a → eqb row.instance r.instance ≡ b → eqb row.instance i ≡ c → eqb r.instance i ≡ d → row_of (put_row row (r ∷ rs)) i ≡ cond (eqb row.instance i) (Some row) (row_of (r ∷ rs) i)
    by more true b c d p q x y = rw p refl
    by more false true c true p q x y = let same : eqb row.instance i ≡ true = eq-eqb _ _ (eqb-true _ _ q ∙ eqb-true _ _ y) in rw (p, q, same) refl
    by more false true c false p q x y = rw (p, q, y) refl
    by more false false true true p q x y = absurd (eqb-false _ _ q (eqb-true _ _ x ∙ sym (eqb-true _ _ y)))
    by more false false false true p q x y = rw (p, q, x, y) refl
    by more false false c false p q x y = rw (p, q, y) more

-- where an instance stands once an entry is set
standing-set : (j : ℕ) (st : Standing) (es : List Entry) (i : ℕ) → standing_in (set_entry j st es) i ≡ cond (eqb j i) (Some st) (standing_in es i)
standing-set j st [] i = refl
standing-set j st (e ∷ es) i = by (standing-set j st es i) (ltb j e.instance) (eqb j e.instance) (eqb j i) (eqb e.instance i) refl refl refl refl
  where
    by : standing_in (set_entry j st es) i ≡ cond (eqb j i) (Some st) (standing_in es i) → (a b c d : Bool) → ltb j e.instance ≡ a → eqb j e.instance ≡ b → eqb j i ≡ c → eqb e.instance i ≡ d → standing_in (set_entry j st (e ∷ es)) i ≡ cond (eqb j i) (Some st) (standing_in (e ∷ es) i)
    by more true b c d p q x y = rw p refl
    by more false true c true p q x y = let same : eqb j i ≡ true = eq-eqb _ _ (eqb-true _ _ q ∙ eqb-true _ _ y) in rw (p, q, same) refl
    by more false true c false p q x y = rw (p, q, y) refl
    by more false false true true p q x y = absurd (eqb-false _ _ q (eqb-true _ _ x ∙ sym (eqb-true _ _ y)))
    by more false false false true p q x y = rw (p, q, x, y) refl
    by more false false c false p q x y = rw (p, q, y) more

-- where the rows have an instance
abbrev pub standing_of_rows : List Row → ℕ → Option Standing
standing_of_rows rows i = option_map (λ (r : Row). r.standing) (row_of rows i)

-- a fact moves its own instance alone, and to the same standing in the rows and in the promise
abbrev moved : Fact → Option Standing → ℕ → Option Standing → Option Standing
moved f own i other = cond (eqb (instance_of f) i) (after_fact own f) other

-- only a standing that isn't there stays away
after_none : (st : Option Standing) (f : Fact) → after_fact st f ≡ None → st ≡ None
after_none None f e = refl
after_none (Some (Decided v)) (Enter i e') e = absurd (cc)
after_none (Some (Decided v)) (Propose i r w) e = absurd (cc)
after_none (Some (Decided v)) (Adopt i r w) e = absurd (cc)
after_none (Some (Decided v)) (Decide i w) e = absurd (cc)
after_none (Some (Open o)) (Enter i e') e = absurd (cc)
after_none (Some (Open o)) (Propose i r w) e = absurd (cc)
after_none (Some (Open o)) (Adopt i r w) e = absurd (cc)
after_none (Some (Open o)) (Decide i w) e = absurd (cc)

taken-standing : (es : List Entry) (f : Fact) (i : ℕ) → standing_in (take_on es f) i ≡ moved f (standing_in es (instance_of f)) i (standing_in es i)
taken-standing es f i = by (after_fact (standing_in es (instance_of f)) f) refl (eqb (instance_of f) i) refl
  where
    by : (o : Option Standing) → after_fact (standing_in es (instance_of f)) f ≡ o → (b : Bool) → eqb (instance_of f) i ≡ b → standing_in (set_standing (instance_of f) o es) i ≡ cond (eqb (instance_of f) i) o (standing_in es i)
    by None e true b = rw b (ap (standing_in es) (sym (eqb-true _ _ b)) ∙ after_none (standing_in es (instance_of f)) f e)
    by None e false b = rw b refl
    by (Some st) e c b = standing-set (instance_of f) st es i

-- the row that is found is of its instance
pub row_of-instance : (rows : List Row) (i : ℕ) (row : Row) → row_of rows i ≡ Some row → row.instance ≡ i
row_of-instance [] i row e = absurd (cc)
row_of-instance (r ∷ rs) i row e = by (row_of-instance rs i row) (eqb r.instance i) refl e
  where
    by : (row_of rs i ≡ Some row → row.instance ≡ i) → (b : Bool) → eqb r.instance i ≡ b → cond b (Some r) (row_of rs i) ≡ Some row → row.instance ≡ i
    by more true h e = let same : r ≡ row = cc in ap (λ (x : Row). x.instance) (sym same) ∙ eqb-true _ _ h
    by more false h e = more e

-- the standing that a put row has
pub put-standing : (row : Row) (rows : List Row) (j i : ℕ) (st : Standing) → row.instance ≡ j → row.standing ≡ st → standing_of_rows (put_row row rows) i ≡ cond (eqb j i) (Some st) (standing_of_rows rows i)
put-standing row rows j i st e g = ap (option_map (λ (r : Row). r.standing)) (row-put row rows i) ∙ by (eqb row.instance i) ∙ ap (λ (n : ℕ). cond (eqb n i) (Some st) (standing_of_rows rows i)) e
  where
    by : (b : Bool) → option_map (λ (r : Row). r.standing) (cond b (Some row) (row_of rows i)) ≡ cond b (Some st) (standing_of_rows rows i)
    by true = ap (λ (x : Standing). Some x) g
    by false = refl

rows-standing : (k : ℕ) (f : Fact) (rows : List Row) (i : ℕ) → standing_of_rows (rows_after k f rows) i ≡ moved f (standing_of_rows rows (instance_of f)) i (standing_of_rows rows i)
rows-standing k f rows i = by (row_of rows (instance_of f)) refl (after_fact (standing_of_rows rows (instance_of f)) f) refl (eqb (instance_of f) i) refl
  where
    by : (o : Option Row) → row_of rows (instance_of f) ≡ o → (q : Option Standing) → after_fact (standing_of_rows rows (instance_of f)) f ≡ q → (b : Bool) → eqb (instance_of f) i ≡ b → standing_of_rows (rows_after k f rows) i ≡ moved f (standing_of_rows rows (instance_of f)) i (standing_of_rows rows i)
    by o h None g true b = rw (g, b) (ap (standing_of_rows rows) (sym (eqb-true _ _ b)) ∙ after_none (standing_of_rows rows (instance_of f)) f g)
    by o h None g false b = rw (g, b) refl
    by None h (Some st) g c b = rw (g, h) (put-standing (row_after k f st (fresh_row (instance_of f) st)) rows (instance_of f) i st refl refl)
    by (Some row) h (Some st) g c b = rw (g, h) (put-standing (row_after k f st row) rows (instance_of f) i st (row_of-instance rows (instance_of f) row h) refl)

-- facts that fit, with one more
fit-push : (n p : ℕ) (es : List Entry) (fs : List Fact) (f : Fact) → all_fit n p es fs ≡ true → fits n p (standing_in (take_on_all es fs) (instance_of f)) f ≡ true → all_fit n p es (fs ++ f ∷ []) ≡ true
fit-push n p es [] f h g = rw g refl
fit-push n p es (x ∷ fs) f h g = by (λ a. fit-push n p (take_on es x) fs f a g) (fits n p (standing_in es (instance_of x)) x) h
  where
    by : (all_fit n p (take_on es x) fs ≡ true → all_fit n p (take_on es x) (fs ++ f ∷ []) ≡ true) → (b : Bool) → (b && all_fit n p (take_on es x) fs) ≡ true → (b && all_fit n p (take_on es x) (fs ++ f ∷ [])) ≡ true
    by more true a = more a
    by more false a = a

take_on-push : (es : List Entry) (fs : List Fact) (f : Fact) → take_on_all es (fs ++ f ∷ []) ≡ take_on (take_on_all es fs) f
take_on-push es [] f = refl
take_on-push es (x ∷ fs) f = take_on-push (take_on es x) fs f

-- a fact that fits is staged
pub stage_step : (f : Fact) (s : NodeState) → fits s.nodes s.node (standing_at s (instance_of f)) f ≡ true → IsStep s (stage f s)
unfolding stage
stage_step f s fit = record {
  lawful = λ h. (
      let runs : List Fact = option_map_or (λ facts. facts) s.running [] in
      let all : runs ++ (s.staged ++ f ∷ []) ≡ unmarked_facts s ++ f ∷ [] = sym (append_assoc runs s.staged (f ∷ [])) in
      let there : fits s.nodes s.node (standing_in (take_on_all s.marked (unmarked_facts s)) (instance_of f)) f ≡ true = ap (λ (o : Option Standing). fits s.nodes s.node o f) (sym (h.stands (instance_of f))) ∙ fit in
      record {
        ascends = h.ascends;
        fits = ap (all_fit s.nodes s.node s.marked) all ∙ fit-push s.nodes s.node s.marked (unmarked_facts s) f h.fits there;
        stands = λ i.
            rows-standing (next_number s) f s.rows i
            ∙ ap (λ (o : Option Standing). moved f o i (standing_at s i)) (h.stands (instance_of f))
            ∙ ap (λ (o : Option Standing). moved f (standing_in (take_on_all s.marked (unmarked_facts s)) (instance_of f)) i o) (h.stands i)
            ∙ sym (ap (λ (fs : List Fact). standing_in (take_on_all s.marked fs) i) all ∙ ap (λ (es : List Entry). standing_in es i) (take_on-push s.marked (unmarked_facts s) f) ∙ taken-standing (take_on_all s.marked (unmarked_facts s)) f i);
        few = h.few;
      });
  marked = refl;
}
